-- What the calls of a sampler ask and do: a stack more is judged, an event more is sampled, and
-- where memory was wanting, a snapshot with a tree is due, and no later event is taken.
use Rattle.std.specs.Prelude.{◌≡◌, ◌≢◌, ◌⊎◌, ℕ, ◌+◌, ◌^◌, ◌<◌, Bool, true, false, List, [], ◌∷◌, ◌++◌, length, Result}
use Rattle.std.specs.Prelude.{Err, IfErr, OnErr, OnOk}
use Rattle.std.specs.Borrow.{Bor}
use Rattle.std.specs.Fn.{FnReturnsAt, Shared}
use Rattle.cost_tree.specs.declared.frame_test.FrameTest.{FrameTest}
use Rattle.ht_trace.specs.TableState.{TableState}
use Rattle.live_ledger.specs.declared.event.Event.{Event}
use Rattle.live_ledger.specs.LedgerState.{IsHeld, LedgerState}
use Rattle.live_ledger.specs.StandsFor as ledger_spec
use Rattle.live_ledger.specs.Taken.{HasTaken}
use Rattle.massif_file.specs.declared.profile.Profile.{Profile}
use Rattle.massif_sample.specs.declared.fault.SampleFault.{SampleFault}
use Rattle.massif_sample.specs.declared.fault.SampleFault.TheVariants.{NoMemory as OutOfMemory}
use Rattle.massif_sample.specs.declared.options.MassifOptions.{MassifOptions}
use Rattle.massif_sample.specs.declared.sampler.Sampler.{Sampler}
use Rattle.massif_sample.specs.Due.{IsDue}
use Rattle.massif_sample.specs.FunctionNames.{AreStated, FunctionNames, ignores}
use Rattle.massif_sample.specs.Sampled.{sampled}
use Rattle.massif_sample.specs.SamplesState.{SamplesState}
use Rattle.massif_sample.specs.StandsFor.{AreJudged, StandsFor}
use Rattle.massif_sample.specs.Taking.{StandTogether}

-- a sampler stands for these events
abbrev pub Samples : {A I : Type 0} → Sampler A I → FunctionNames → TableState → List Event → Type 0
Samples sampler names tables events = StandsFor sampler.judged.items sampler.samples names tables events

-- its tests mean these names
abbrev pub Means : {A I : Type 0} → Shared A (Bor (List ℕ) × Unit {0}) Bool → Shared I (Bor (List ℕ) × Unit {0}) Bool
    → FrameTest A → FrameTest I → FunctionNames → Type 0
Means g h alloc_fns ignore_fns names = AreStated (FnReturnsAt g alloc_fns.test) (FnReturnsAt h ignore_fns.test) names

-- the flags say of each stack of the tables whether it is ignored
pub record Judges {A I : Type 0} (g : Shared A (Bor (List ℕ) × Unit {0}) Bool)
    (h : Shared I (Bor (List ℕ) × Unit {0}) Bool) (alloc_fns : FrameTest A) (ignore_fns : FrameTest I)
    (tables : TableState) (flags : List Bool) : Type 0 where
  pub count : length flags ≡ length tables.nodes + 1
  pub judged : (names : FunctionNames) → Means g h alloc_fns ignore_fns names → AreJudged names tables flags

-- a sampler that was just made has these options and tests, has judged the stacks of the tables,
-- and stands for no event
pub record IsNew {A I : Type 0} (g : Shared A (Bor (List ℕ) × Unit {0}) Bool)
    (h : Shared I (Bor (List ℕ) × Unit {0}) Bool) (asked : MassifOptions) (tables : TableState)
    (alloc_test : FrameTest A) (ignore_test : FrameTest I) (sampler : Sampler A I) : Type 0 where
  pub stands : (names : FunctionNames) → Means g h alloc_test ignore_test names → Samples sampler names tables []
  pub judged : length sampler.judged.items ≡ length tables.nodes + 1
  pub options : sampler.samples.options ≡ asked
  pub alloc_fns : sampler.alloc_fns ≡ alloc_test
  pub ignore_fns : sampler.ignore_fns ≡ ignore_test

-- it stands for the same events
abbrev pub GoesOn : {A I : Type 0} → Shared A (Bor (List ℕ) × Unit {0}) Bool → Shared I (Bor (List ℕ) × Unit {0}) Bool
    → TableState → Sampler A I → Sampler A I → Type 0
GoesOn g h tables old new = (names : FunctionNames) (events : List Event)
    → Means g h old.alloc_fns old.ignore_fns names → Samples old names tables events → Samples new names tables events

-- one stack more is judged, and nothing else changes; on want of memory none is
pub record JudgesOne {A I E : Type 0} (old new : Sampler A I) (result : Result (Unit {0}) E) : Type 0 where
  pub judged : OnOk result (length new.judged.items ≡ length old.judged.items + 1)
  pub unchanged : OnErr result (new.judged.items ≡ old.judged.items)
  pub samples : new.samples ≡ old.samples
  pub alloc_fns : new.alloc_fns ≡ old.alloc_fns
  pub ignore_fns : new.ignore_fns ≡ old.ignore_fns

-- the event may follow those that the sampler and the ledger stand for, as long as no memory was
-- wanting: it is of an info that is held, all stacks of the tables are held and were judged, and
-- there is room for one more
pub record CanFollow {A I : Type 0} (sampler : Sampler A I) (tables : TableState) (ledger : LedgerState) (event : Event)
    : Type 0 where
  pub held : IsHeld ledger event
  pub count : ledger.totals.events < 2 ^ 32
  pub stacks : ledger.stacks ≡ length tables.nodes + 1
  pub judged : length sampler.judged.items ≡ length tables.nodes + 1
  pub stands : sampler.samples.failed ≡ false → StandTogether sampler.judged.items tables sampler.samples ledger

-- it stands for the events with this one at their end
abbrev pub Follows : {A I : Type 0} → Shared A (Bor (List ℕ) × Unit {0}) Bool → Shared I (Bor (List ℕ) × Unit {0}) Bool
    → TableState → LedgerState → Event → Sampler A I → Sampler A I → Type 0
Follows g h tables ledger event old new = (names : FunctionNames) (events : List Event)
    → Means g h old.alloc_fns old.ignore_fns names → Samples old names tables events
    → ledger_spec.StandsFor ledger events → Samples new names tables (events ++ event ∷ [])

-- a snapshot with a tree is due at the event
abbrev pub IsTreeDue : {A I : Type 0} → Shared A (Bor (List ℕ) × Unit {0}) Bool
    → Shared I (Bor (List ℕ) × Unit {0}) Bool
    → TableState → LedgerState → Event → Sampler A I → Type 0
IsTreeDue g h tables ledger event sampler = (names : FunctionNames) (events : List Event)
    → Means g h sampler.alloc_fns sampler.ignore_fns names → Samples sampler names tables events
    → ledger_spec.StandsFor ledger events → IsDue sampler.samples.options (ignores tables names) events event

-- what an event leaves of a sampler and of its ledger: where memory was wanting, it is so for every later event
pub record LeavesSampler {A I : Type 0} (old new : Sampler A I) (before after : LedgerState) (event : Event)
    (result : Result (Unit {0}) SampleFault) : Type 0 where
  pub options : new.samples.options ≡ old.samples.options
  pub judged : new.judged.items ≡ old.judged.items
  pub alloc_fns : new.alloc_fns ≡ old.alloc_fns
  pub ignore_fns : new.ignore_fns ≡ old.ignore_fns
  pub applied : OnOk result (HasTaken before after event)
  pub applied_or_not : (after ≡ before) ⊎ HasTaken before after event
  pub unchanged : IfErr result
      (λ fault. fault ≢ OutOfMemory → (new.samples ≡ old.samples) × (after ≡ before))
  pub failed : result ≡ Err OutOfMemory → new.samples.failed ≡ true
  pub failed_before : old.samples.failed ≡ true
      → (result ≡ Err OutOfMemory) × (new.samples ≡ old.samples) × (after ≡ before)

-- the profile is that of the events that the sampler stands for, with this command
abbrev pub IsProfileOf : {A I : Type 0} → Sampler A I → List ℕ → Profile → Type 0
IsProfileOf sampler cmd profile = (names : FunctionNames) (tables : TableState) (events : List Event)
    → Samples sampler names tables events → profile ≡ sampled sampler.samples.options names tables events cmd

-- what stands for events beside the one tables does so beside the others
abbrev pub StandsBeside : TableState → TableState → Type 0
StandsBeside before after = (flags : List Bool) (samples : SamplesState) (names : FunctionNames) (events : List Event)
    → StandsFor flags samples names before events → StandsFor flags samples names after events
