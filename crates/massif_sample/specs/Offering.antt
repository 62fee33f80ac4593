-- What the offer of a snapshot of the present place asks of samples and of what stands beside them,
-- and what it makes of all names, events and offers that they stand for, for private clauses.
use Rattle.std.specs.Prelude.{◌≡◌, ◌≢◌, ℕ, ◌+◌, ◌<◌, Bool, List, [], ◌∷◌, ◌++◌, length, Result, OnErr, OnOk}
use Rattle.std.specs.Borrow.{Bor}
use Rattle.std.specs.Fn.{FnReturnsAt, Shared}
use Rattle.cost_history.specs.HistoryState.{AreSaid}
use Rattle.cost_tree.specs.FrameTexts.{StatesNames}
use Rattle.ht_trace.specs.TableState.{TableState}
use Rattle.live_ledger.specs.declared.event.Event.{Event}
use Rattle.live_ledger.specs.Events.{event_count}
use Rattle.live_ledger.specs.LedgerState.{LedgerState}
use Rattle.live_ledger.specs.StandsFor as ledger_spec
use Rattle.massif_cull.specs.declared.snapshot.Offer.{Offer}
use Rattle.massif_cull.specs.declared.snapshot.Taken.{Taken}
use Rattle.massif_cull.specs.declared.snapshot.Taken.TheVariants.{No}
use Rattle.massif_sample.specs.declared.stacks.Stacks.{Stacks}
use Rattle.massif_sample.specs.Due.{IsTakenAs, with_tree}
use Rattle.massif_sample.specs.FunctionNames.{FunctionNames, ignores}
use Rattle.massif_sample.specs.Offers.{offer_at, peak_before}
use Rattle.massif_sample.specs.SamplesCalls.{CanOffer, HasFrontsWithin, IsJudged}
use Rattle.massif_sample.specs.SamplesState.{SamplesState}
use Rattle.massif_sample.specs.Snapshots.{cost_at}
use Rattle.massif_sample.specs.StandsFor.{AreJudged, IsSampling}

-- a fact of each stack of the tables
abbrev pub EachStack : {A : Type 0} → Stacks A → (ℕ → Type 0) → Type 0
EachStack stacks P = (stack : ℕ) → stack < length stacks.tables.now.nodes + 1 → P stack

-- a snapshot of the present place may be offered beside these tables
pub record CanSample {A : Type 0} (stacks : Stacks A) (as_peak : Bool) (samples : SamplesState) : Type 0 where
  pub offer : CanOffer as_peak samples
  pub fronts : HasFrontsWithin stacks.tables.now samples

-- it is taken as what it is judged to be
pub record IsDueAs (samples : SamplesState) (as_peak : Bool) (taken : Taken) : Type 0 where
  pub judged : IsJudged samples as_peak taken
  pub some : taken ≢ No

-- the ledger holds the stacks of the tables, each of them was judged, and texts are known of no more
pub record AreBeside {A : Type 0} (stacks : Stacks A) (samples : SamplesState) (ledger : LedgerState) : Type 0 where
  pub held : ledger.stacks ≡ length stacks.tables.now.nodes + 1
  pub judged : length stacks.judged.now ≡ length stacks.tables.now.nodes + 1
  pub fronts : HasFrontsWithin stacks.tables.now samples

-- the offer of the place behind the events, as a peak or not
abbrev pub offer_behind : SamplesState → TableState → FunctionNames → List Event → Bool → Offer
offer_behind samples tables names events as_peak =
    offer_at samples.options (ignores tables names) events as_peak (event_count events)

-- the offer of the present place is made, where stacks cost what these answers say
abbrev pub MakesOffer : {A : Type 0} → Shared A (Bor (List ℕ) × Unit {0}) Bool → Stacks A → (ℕ → ℕ → Type 0) → Bool
    → SamplesState → SamplesState → Type 0
MakesOffer g stacks answers as_peak old new =
    (names : FunctionNames) (events : List Event) (made : List Offer)
    → StatesNames (FnReturnsAt g stacks.skipped.now.test) names.alloc_fns
    → AreSaid answers (length stacks.tables.now.nodes + 1) (cost_at (ignores stacks.tables.now names) events
    (event_count events))
    → IsSampling old names stacks.tables.now events made
    → IsSampling new names stacks.tables.now events
    (made ++ offer_behind old stacks.tables.now names events as_peak ∷ [])

-- these offers are made beside those so far, where stacks cost what the ledger has live
abbrev pub OffersLive : {A : Type 0} → Shared A (Bor (List ℕ) × Unit {0}) Bool → Stacks A → LedgerState
    → (FunctionNames → List Event → List Offer) → SamplesState → SamplesState → Type 0
OffersLive g stacks ledger more old new =
    (names : FunctionNames) (events : List Event) (made : List Offer)
    → StatesNames (FnReturnsAt g stacks.skipped.now.test) names.alloc_fns
    → AreJudged names stacks.tables.now stacks.judged.now
    → ledger_spec.StandsFor ledger events
    → IsSampling old names stacks.tables.now events made
    → IsSampling new names stacks.tables.now events (made ++ more names events)

-- that of the present place is
abbrev pub OffersPlace : {A : Type 0} → Shared A (Bor (List ℕ) × Unit {0}) Bool → Stacks A → LedgerState → Bool
    → SamplesState → SamplesState → Type 0
OffersPlace g stacks ledger as_peak old new = OffersLive g stacks ledger
    (λ names events. offer_behind old stacks.tables.now names events as_peak ∷ []) old new

-- that of the peak before a free is
abbrev pub OffersPeak : {A : Type 0} → Shared A (Bor (List ℕ) × Unit {0}) Bool → Stacks A → LedgerState → Event
    → SamplesState → SamplesState → Type 0
OffersPeak g stacks ledger event old new = OffersLive g stacks ledger
    (λ names events. peak_before old.options (ignores stacks.tables.now names) events event (event_count events)) old
    new

-- the offer of the present place is taken as a snapshot that has a tree
abbrev pub CallsForTree : TableState → Bool → SamplesState → Type 0
CallsForTree tables as_peak samples =
    (names : FunctionNames) (events : List Event) (made : List Offer)
    → IsSampling samples names tables events made
    → IsTakenAs samples.options made (offer_behind samples tables names events as_peak)
    (with_tree as_peak)

-- what an offer of the present place leaves: the figures are as before, and a snapshot is held;
-- where memory was wanting, one with a tree is due
pub record HasOffered {A E : Type 0} (stacks : Stacks A) (as_peak : Bool) (old new : SamplesState)
    (result : Result (Unit {0}) E) : Type 0 where
  pub options : new.options ≡ old.options
  pub running : new.running ≡ old.running
  pub failed : new.failed ≡ old.failed
  pub fronts : OnOk result (HasFrontsWithin stacks.tables.now new)
  pub some : OnOk result (0 < length new.array.kept.entries)
  pub due : OnErr result (CallsForTree stacks.tables.now as_peak old)
