-- What the calls of samples make of all names, tables, events and offers that these stand for, for private clauses.
use Rattle.std.specs.Prelude.{◌≡◌, ◌⊎◌, ℕ, ◌+◌, ◌^◌, ◌<◌, ◌≤◌, Bool, true, false, List, [], ◌∷◌, ◌++◌, length}
use Rattle.std.specs.Borrow.{Bor}
use Rattle.std.specs.Fn.{FnReturnsAt, Shared}
use Rattle.cost_history.specs.declared.change.Change.{Change}
use Rattle.cost_history.specs.Changes.{cost_at as cost_told}
use Rattle.cost_history.specs.Marks.{candidates}
use Rattle.cost_history.specs.HistoryState.{AreSaid, HistoryState}
use Rattle.cost_tree.specs.declared.frame_test.FrameTest.{FrameTest}
use Rattle.cost_tree.specs.FrameTexts.{StatesNames}
use Rattle.ht_trace.specs.TableState.{TableState}
use Rattle.live_ledger.specs.declared.event.Event.{Event}
use Rattle.live_ledger.specs.Events.{event_count}
use Rattle.massif_cull.specs.declared.snapshot.Offer.{Offer}
use Rattle.massif_cull.specs.declared.snapshot.Taken.{Taken}
use Rattle.massif_cull.specs.declared.snapshot.Taken.TheVariants.{No, Normal}
use Rattle.massif_cull.specs.KeptOf.{kept_of}
use Rattle.massif_cull.specs.TakenAs.{taken_as}
use Rattle.massif_sample.specs.declared.options.MassifOptions.{MassifOptions}
use Rattle.massif_sample.specs.declared.running.Running.{Running}
use Rattle.massif_sample.specs.FunctionNames.{FunctionNames, ignores}
use Rattle.massif_sample.specs.Options.{settings_of}
use Rattle.massif_sample.specs.Running.{AreFigures, Follows, no_figures, passes_most, past_event, with_event}
use Rattle.massif_sample.specs.SamplesState.{SamplesState}
use Rattle.massif_sample.specs.Snapshots.{cost_at}
use Rattle.massif_sample.specs.StandsFor.{AreCostsAt, IsIn, IsOfStack, IsSampling}
use Rattle.massif_sample.specs.View.{offer_of}

-- no snapshot was offered to the samples, which stand for no event
pub record AreNew (asked : MassifOptions) (samples : SamplesState) : Type 0 where
  pub options : samples.options ≡ asked
  pub running : samples.running ≡ no_figures
  pub fronts : samples.fronts ≡ []
  pub sampling : (names : FunctionNames) (tables : TableState) → IsSampling samples names tables [] []

-- whatever they stood for, they still stand for
abbrev pub StandStill : SamplesState → SamplesState → Type 0
StandStill old new = (names : FunctionNames) (tables : TableState) (events : List Event) (made : List Offer)
    → IsSampling old names tables events made → IsSampling new names tables events made

-- beside these tables, whatever names of functions the test means
abbrev pub StandStillFor : {A : Type 0} → Shared A (Bor (List ℕ) × Unit {0}) Bool → FrameTest A → TableState
    → SamplesState → SamplesState → Type 0
StandStillFor g alloc_fns tables old new = (names : FunctionNames) (events : List Event) (made : List Offer)
    → StatesNames (FnReturnsAt g alloc_fns.test) names.alloc_fns
    → IsSampling old names tables events made → IsSampling new names tables events made

-- texts are known of no more stacks than the tables have
abbrev pub HasFrontsWithin : TableState → SamplesState → Type 0
HasFrontsWithin tables samples = length samples.fronts ≤ length tables.nodes + 1

-- a snapshot of the present place may be offered, as a peak or not: the first one is none
pub record CanOffer (as_peak : Bool) (samples : SamplesState) : Type 0 where
  pub within : samples.running.time ≤ 2 ^ 62
  pub first : as_peak ≡ true → 0 < length samples.array.kept.entries

-- as what a snapshot of the present place is taken
abbrev pub judged_as : SamplesState → Bool → Taken
judged_as samples as_peak = taken_as (settings_of samples.options) samples.array.kept (offer_of samples.running as_peak)

-- the snapshot of the present place is judged as it is behind all offers so far; where it is refused, it is one of them
pub record IsJudged (samples : SamplesState) (as_peak : Bool) (taken : Taken) : Type 0 where
  pub is : taken ≡ judged_as samples as_peak
  pub of_sampling : (names : FunctionNames) (tables : TableState) (events : List Event) (made : List Offer)
      → IsSampling samples names tables events made → taken
      ≡ taken_as (settings_of samples.options) (kept_of (settings_of samples.options) made)
      (offer_of samples.running as_peak)
  pub passed : taken ≡ No → (names : FunctionNames) (tables : TableState) (events : List Event) (made : List Offer)
      → IsSampling samples names tables events made
      → IsSampling samples names tables events (made ++ offer_of samples.running as_peak ∷ [])
  pub some : taken ≡ No → 0 < length samples.array.kept.entries

-- the offer of the present place is made, as what it is judged to be; a snapshot with a tree needs
-- the costs of the place
abbrev pub TakesSnapshot : Taken → Bool → SamplesState → SamplesState → Type 0
TakesSnapshot taken as_peak old new =
    (names : FunctionNames) (tables : TableState) (events : List Event) (made : List Offer)
    → (taken ≡ Normal) ⊎ AreCostsAt names tables events (event_count events) old.history.changes
    → IsSampling old names tables events made
    → IsSampling new names tables events (made ++ offer_of old.running as_peak ∷ [])

-- they stand for what they stood for, and the changes say what stacks cost at the present place
pub record HasKept (names : FunctionNames) (tables : TableState) (events : List Event) (made : List Offer)
    (samples : SamplesState) : Type 0 where
  pub sampling : IsSampling samples names tables events made
  pub costs : AreCostsAt names tables events (event_count events) samples.history.changes

-- the costs of the present place are kept, where these are the answers for so many stacks
abbrev pub KeepsCosts : (ℕ → ℕ → Type 0) → ℕ → SamplesState → SamplesState → Type 0
KeepsCosts answers stacks old new =
    (names : FunctionNames) (tables : TableState) (events : List Event) (made : List Offer)
    → AreSaid answers stacks (cost_at (ignores tables names) events (event_count events))
    → IsSampling old names tables events made → HasKept names tables events made new

-- at most twice the changes that were left, one for each stack, and one for each mark of so many stacks
abbrev pub HasFewChanges : HistoryState → HistoryState → ℕ → Type 0
HasFewChanges old new stacks = length new.changes ≤ new.left + new.left + old.stacks
    + length (candidates old.marks stacks)

-- stacks that came behind the last place that was kept cost nothing
abbrev pub EndsAtStacks : HistoryState → Type 0
EndsAtStacks history = (place stack : ℕ) → history.stacks ≤ stack → cost_told history.changes place stack ≡ 0

-- the samples with these changes, of which so many are left
abbrev pub with_changes : SamplesState → List Change → ℕ → SamplesState
with_changes samples changes left = record samples
    { history = record samples.history { changes = changes; left = left } }

-- the figures behind a counted event, which pass no bound
pub record AreBehind (samples : SamplesState) (event : Event) (next : Running) : Type 0 where
  pub are : next ≡ with_event samples.options samples.running event
  pub fit : passes_most next ≡ false
  pub follow : Follows samples.options samples.running next

-- behind a counted event of the stack, the figures behind which are these
abbrev pub MovesTo : Running → ℕ → SamplesState → SamplesState → Type 0
MovesTo next stack old new =
    (names : FunctionNames) (tables : TableState) (events : List Event) (made : List Offer) (event : Event)
    → IsSampling old names tables events made → IsOfStack tables event → IsIn stack event
    → AreFigures old.options (ignores tables names) (events ++ event ∷ []) next
    → IsSampling new names tables (events ++ event ∷ []) made

-- behind an event that isn't counted
abbrev pub passed_by : SamplesState → Event → SamplesState
passed_by samples event = record samples { running = past_event samples.options samples.running event }
