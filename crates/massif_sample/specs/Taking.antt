-- What an event does to samples is said for all names and events that they and a ledger stand for:
-- an event more is taken, its fault is told, and where memory was wanting, a snapshot with a tree
-- is due.
use Rattle.std.specs.Prelude.{◌≡◌, ◌≢◌, ◌⊎◌, ℕ, ◌+◌, ◌^◌, ◌<◌, Bool, false, List, [], ◌∷◌, ◌++◌, length, None, Result}
use Rattle.std.specs.Prelude.{IfErr, OnErr, OnOk}
use Rattle.std.specs.Borrow.{Bor}
use Rattle.std.specs.Fn.{FnReturnsAt, Shared}
use Rattle.cost_tree.specs.FrameTexts.{StatesNames}
use Rattle.ht_trace.specs.TableState.{TableState}
use Rattle.live_ledger.specs.declared.event.Event.{Event}
use Rattle.live_ledger.specs.Faults.{fault_at}
use Rattle.live_ledger.specs.LedgerState.{IsHeld, LedgerState}
use Rattle.live_ledger.specs.StandsFor as ledger_spec
use Rattle.live_ledger.specs.Taken.{HasTaken}
use Rattle.massif_cull.specs.declared.snapshot.Offer.{Offer}
use Rattle.massif_cull.specs.declared.snapshot.Taken.TheVariants.{Detailed}
use Rattle.massif_sample.specs.declared.fault.SampleFault.{SampleFault}
use Rattle.massif_sample.specs.declared.fault.SampleFault.TheVariants.{NoMemory as OutOfMemory}
use Rattle.massif_sample.specs.declared.running.Running.{Running}
use Rattle.massif_sample.specs.declared.stacks.Stacks.{Stacks}
use Rattle.massif_sample.specs.Due.{IsDue, IsTakenAs}
use Rattle.massif_sample.specs.FunctionNames.{FunctionNames, ignores}
use Rattle.massif_sample.specs.Offering.{AreBeside, offer_behind}
use Rattle.massif_sample.specs.Options.{AreInRange}
use Rattle.massif_sample.specs.Running.{AreFigures, Follows}
use Rattle.massif_sample.specs.SampleFault.{Tells, sample_fault}
use Rattle.massif_sample.specs.SamplesState.{SamplesState}
use Rattle.massif_sample.specs.StandsFor.{AreJudged, IsIn, IsOfStack, IsSampling, StandsFor}

-- there are events that both stand for
abbrev pub StandTogether : List Bool → TableState → SamplesState → LedgerState → Type 0
StandTogether judged tables samples ledger =
    (names : FunctionNames) × (events : List Event) × StandsFor judged samples names tables events
    × ledger_spec.StandsFor ledger events

-- the event may follow those that both stand for: it is of an info that is held, all stacks of the
-- tables are held and were judged, and there is room for one more
pub record CanTakeEvent {A : Type 0} (stacks : Stacks A) (samples : SamplesState) (ledger : LedgerState) (event : Event)
    : Type 0 where
  pub range : AreInRange samples.options
  pub held : IsHeld ledger event
  pub count : ledger.totals.events < 2 ^ 32
  pub stacks_held : ledger.stacks ≡ length stacks.tables.now.nodes + 1
  pub judged : length stacks.judged.now ≡ length stacks.tables.now.nodes + 1
  pub stands : StandTogether stacks.judged.now stacks.tables.now samples ledger

-- the samples stand for one event more than they and the ledger did
abbrev pub TakesEvent : {A : Type 0} → Shared A (Bor (List ℕ) × Unit {0}) Bool → Stacks A → LedgerState → Event
    → SamplesState → SamplesState → Type 0
TakesEvent g stacks ledger event old new =
    (names : FunctionNames) (events : List Event)
    → StatesNames (FnReturnsAt g stacks.skipped.now.test) names.alloc_fns
    → StandsFor stacks.judged.now old names stacks.tables.now events
    → ledger_spec.StandsFor ledger events
    → StandsFor stacks.judged.now new names stacks.tables.now (events ++ event ∷ [])

-- the answer tells the fault of the event after those that both stand for
abbrev pub TellsFault : List Bool → TableState → LedgerState → Event → SamplesState
    → Result (Unit {0}) SampleFault → Type 0
TellsFault judged tables ledger event samples answer =
    (names : FunctionNames) (events : List Event)
    → StandsFor judged samples names tables events
    → ledger_spec.StandsFor ledger events
    → Tells answer (sample_fault samples.options (ignores tables names) events event)

-- after those events this one calls for a snapshot that has a tree
abbrev pub CallsForTreeAt : {A : Type 0} → Shared A (Bor (List ℕ) × Unit {0}) Bool → Stacks A → LedgerState → Event
    → SamplesState → Type 0
CallsForTreeAt g stacks ledger event samples =
    (names : FunctionNames) (events : List Event)
    → StatesNames (FnReturnsAt g stacks.skipped.now.test) names.alloc_fns
    → StandsFor stacks.judged.now samples names stacks.tables.now events
    → ledger_spec.StandsFor ledger events
    → IsDue samples.options (ignores stacks.tables.now names) events event

-- the ledger has taken the event where it has no fault, and where it has one, both are as before;
-- where memory was wanting, the ledger has taken it or not
pub record TakesOrLeaves (old new : SamplesState) (before after : LedgerState) (event : Event)
    (result : Result (Unit {0}) SampleFault) : Type 0 where
  pub options : new.options ≡ old.options
  pub applied : OnOk result (HasTaken before after event)
  pub applied_or_not : (after ≡ before) ⊎ HasTaken before after event
  pub unchanged : IfErr result (λ fault. fault ≢ OutOfMemory → (new ≡ old) × (after ≡ before))

-- the event of the stack has no fault and can be counted, and these are the figures behind it
pub record CanAdvance {A : Type 0} (stacks : Stacks A) (samples : SamplesState) (ledger : LedgerState) (event : Event)
    (stack : ℕ) (next : Running) : Type 0 where
  pub beside : AreBeside stacks samples ledger
  pub held : IsHeld ledger event
  pub count : ledger.totals.events < 2 ^ 32
  pub no_fault : fault_at ledger event ≡ None
  pub of_stack : IsIn stack event
  pub follows : Follows samples.options samples.running next

-- it is counted, and the snapshot behind it is offered
abbrev pub CountsEvent : {A : Type 0} → Shared A (Bor (List ℕ) × Unit {0}) Bool → Stacks A → LedgerState → Event
    → Running → SamplesState → SamplesState → Type 0
CountsEvent g stacks ledger event next old new =
    (names : FunctionNames) (events : List Event) (made : List Offer)
    → StatesNames (FnReturnsAt g stacks.skipped.now.test) names.alloc_fns
    → AreJudged names stacks.tables.now stacks.judged.now
    → ledger_spec.StandsFor ledger events
    → IsSampling old names stacks.tables.now events made
    → IsOfStack stacks.tables.now event
    → AreFigures old.options (ignores stacks.tables.now names) (events ++ event ∷ []) next
    → IsSampling new names stacks.tables.now (events ++ event ∷ [])
    (made ++ offer_behind old stacks.tables.now names (events ++ event ∷ []) false ∷ [])

-- the snapshot behind it is a detailed one
abbrev pub CallsForDetailed : TableState → Event → Running → SamplesState → Type 0
CallsForDetailed tables event next samples =
    (names : FunctionNames) (events : List Event) (made : List Offer)
    → IsSampling samples names tables events made
    → IsOfStack tables event
    → AreFigures samples.options (ignores tables names) (events ++ event ∷ []) next
    → IsTakenAs samples.options made (offer_behind samples tables names (events ++ event ∷ []) false) Detailed

-- the ledger has taken the event; where memory was wanting, a detailed snapshot is due
pub record HasAdvanced (tables : TableState) (old new : SamplesState) (event : Event) (next : Running)
    (result : Result (Unit {0}) SampleFault) : Type 0 where
  pub options : new.options ≡ old.options
  pub some : OnOk result (0 < length new.array.kept.entries)
  pub only : IfErr result (λ fault. fault ≡ OutOfMemory)
  pub due : OnErr result (CallsForDetailed tables event next old)
