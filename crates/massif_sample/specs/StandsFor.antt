-- A sampler stands for names, tables and events where its figures and snapshots are those of the
-- events, its history says what each stack cost at each place that has a tree and of each unmarked
-- stack what it costs now, the texts are those of the first stacks, and it is known of each stack
-- so far whether it's ignored.
use Rattle.std.specs.Prelude.{◌≡◌, ℕ, ◌+◌, ◌<◌, ◌≤◌, Bool, false, List, length, Some, slice_get}
use Rattle.cost_history.specs.declared.change.Change.{Change}
use Rattle.cost_history.specs.Changes as history
use Rattle.cost_history.specs.HistoryState.{TellsNow}
use Rattle.ht_trace.specs.TableState.{TableState}
use Rattle.live_ledger.specs.declared.event.Event.{Event}
use Rattle.live_ledger.specs.declared.event.Event.TheVariants.{Alloc, Free, Tick}
use Rattle.live_ledger.specs.Events.{event_count}
use Rattle.massif_cull.specs.declared.snapshot.Kind.{Kind}
use Rattle.massif_cull.specs.declared.snapshot.Kind.TheVariants.{Normal, Detailed, Peak}
use Rattle.massif_cull.specs.declared.snapshot.Offer.{Offer}
use Rattle.massif_cull.specs.declared.snapshot.SnapEntry.{SnapEntry}
use Rattle.massif_cull.specs.StandsFor as array
use Rattle.massif_tree.specs.FirstLists.{first_lists}
use Rattle.massif_sample.specs.declared.load.Load.{Load}
use Rattle.massif_sample.specs.declared.options.MassifOptions.{MassifOptions}
use Rattle.massif_sample.specs.FunctionNames.{FunctionNames, ignores}
use Rattle.massif_sample.specs.Offers.{offers}
use Rattle.massif_sample.specs.Places.{gross_at, heap_at, time_at}
use Rattle.massif_sample.specs.Running.{AreFigures}
use Rattle.massif_sample.specs.SamplesState.{SamplesState}
use Rattle.massif_sample.specs.Snapshots.{cost_at}

-- what holds where a snapshot has a tree
abbrev pub WhereTree : Kind → Type 0 → Type 0
WhereTree Normal P = Unit {0}
WhereTree Detailed P = P
WhereTree Peak P = P

-- the changes say what each stack costs at the place
pub record AreCostsAt (names : FunctionNames) (tables : TableState) (events : List Event)
    (place : ℕ) (changes : List Change) : Type 0 where
  pub each : (stack : ℕ)
      → cost_at (ignores tables names) events place stack ≡ history.cost_at changes place stack

-- the lists are the first texts of as many stacks of the tables
pub record AreFronts (options : MassifOptions) (names : FunctionNames) (tables : TableState)
    (fronts : List (List (List ℕ))) : Type 0 where
  pub held : length fronts ≤ length tables.nodes + 1
  pub are : fronts ≡ first_lists tables names.alloc_fns (options.depth + 1) (length fronts)

-- the entry and its load have the figures of the entry's place, and where it has a tree, the
-- changes say what stacks cost there
pub record IsSnapshot (options : MassifOptions) (names : FunctionNames) (tables : TableState)
    (events : List Event) (changes : List Change) (entry : SnapEntry) (load : Load) : Type 0 where
  pub place : entry.place ≤ event_count events
  pub time : entry.time ≡ time_at options (ignores tables names) events entry.place
  pub total : entry.total ≡ gross_at options (ignores tables names) events entry.place
  pub heap : load.heap ≡ heap_at (ignores tables names) events entry.place
  pub extra : load.heap + load.extra ≡ entry.total
  pub tree : WhereTree entry.kind (AreCostsAt names tables events entry.place changes)

-- each entry and the load beside it
abbrev pub AreSnapshots : MassifOptions → FunctionNames → TableState → List Event → List Change
    → List SnapEntry → List Load → Type 0
AreSnapshots options names tables events changes entries loads =
    (k : ℕ) (entry : SnapEntry) (load : Load) → slice_get entries k ≡ Some entry
    → slice_get loads k ≡ Some load → IsSnapshot options names tables events changes entry load

-- the event's stack is one of the tables
abbrev pub IsOfStack : TableState → Event → Type 0
IsOfStack tables (Alloc info stack size) = stack ≤ length tables.nodes
IsOfStack tables (Free info stack size) = stack ≤ length tables.nodes
IsOfStack tables (Tick ms) = Unit {0}

-- the stack of each event
abbrev pub AreOfStacks : TableState → List Event → Type 0
AreOfStacks tables events = (k : ℕ) (event : Event) → slice_get events k ≡ Some event
    → IsOfStack tables event

-- the figures are those of the events, and the snapshots those that are kept of these offers; each
-- stack that isn't marked costs what the history says, and each stack that the history knows has
-- its texts
pub record IsSampling (samples : SamplesState) (names : FunctionNames) (tables : TableState)
    (events : List Event) (made : List Offer) : Type 0 where
  pub stacks : AreOfStacks tables events
  pub figures : AreFigures samples.options (ignores tables names) events samples.running
  pub array : array.StandsFor samples.array made
  pub snapshots : AreSnapshots samples.options names tables events samples.history.changes
      samples.array.kept.entries samples.array.loads
  pub going : samples.failed ≡ false
  pub fronts : AreFronts samples.options names tables samples.fronts
  pub told : TellsNow samples.history (cost_at (ignores tables names) events (event_count events))
  pub told_within : samples.history.stacks ≤ length samples.fronts

-- of each stack that was taken account of it is known whether it is ignored
abbrev pub AreJudged : FunctionNames → TableState → List Bool → Type 0
AreJudged names tables judged = (stack : ℕ) → stack < length judged
    → slice_get judged stack ≡ Some (ignores tables names stack)

-- the offers are those of the events
pub record StandsFor (flags : List Bool) (samples : SamplesState) (names : FunctionNames)
    (tables : TableState) (events : List Event) : Type 0 where
  pub judged : AreJudged names tables flags
  pub held : length flags ≤ length tables.nodes + 1
  pub sampling : IsSampling samples names tables events
      (offers samples.options (ignores tables names) events)
  pub some : 0 < length samples.array.kept.entries

-- the event is one of a block of the stack
abbrev pub IsIn : ℕ → Event → Type 0
IsIn n (Alloc info stack size) = stack ≡ n
IsIn n (Free info stack size) = stack ≡ n
IsIn n (Tick ms) = ⊥
