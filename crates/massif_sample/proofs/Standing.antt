-- What a sampler stands for behind one more event, and the event's fault.
use Rattle.std.proofs.Common.{◌≡◌, ℕ, suc, ◌+◌, ◌-◌, ◌<◌, ◌≤◌, ◌^◌, List, [], ◌∷◌, ◌++◌, length, Bool, true, false}
use Rattle.std.proofs.Common.{cond, Option, None, Some, Result, Ok, Err, refl, ap, sym, subst, ◌∙◌, arith, append-nil}
use Rattle.std.proofs.Common.{append_assoc, inl, inr}
use Rattle.std.specs.Prelude.{nat_lt, ◌||◌, ◌&&◌, not, sum_by, IfErr}
use Rattle.std.proofs.lemmas.Option.{get_or_from_slice_get}
use Rattle.std.proofs.lemmas.List.Sums.{sum_by-cons, sum_by_push}
use Rattle.std.proofs.lemmas.Bool.Decides.{leb_tells}
use Rattle.ht_trace.specs.TableState.{TableState}
use Rattle.live_ledger.specs.declared.event.Event.{Event}
use Rattle.live_ledger.specs.declared.event.Event.TheVariants.{Alloc, Free, Tick}
use Rattle.live_ledger.specs.declared.event.EventFault.{EventFault}
use Rattle.live_ledger.specs.declared.event.EventFault.TheVariants as ledger_fault
use Rattle.std.specs.Option.{option_or}
use Rattle.live_ledger.specs.ByInfo.{alloc_weight, free_weight}
use Rattle.live_ledger.specs.Events.{event_count, is_counted, is_free}
use Rattle.live_ledger.specs.Faults.{fault_at, fault_of}
use Rattle.live_ledger.specs.LedgerState.{HeldInfo, IsHeld, LedgerState}
use Rattle.live_ledger.specs.Sound.{IsSound}
use Rattle.massif_cull.specs.declared.snapshot.Offer.{Offer}
use Rattle.massif_cull.specs.declared.snapshot.Taken.TheVariants.{Detailed}
use Rattle.massif_sample.specs.declared.fault.SampleFault.{SampleFault}
use Rattle.massif_sample.specs.declared.fault.SampleFault.TheVariants as sample
use Rattle.massif_sample.specs.declared.options.MassifOptions.{MassifOptions}
use Rattle.massif_sample.specs.declared.running.Running.{Running}
use Rattle.massif_sample.specs.declared.stacks.Stacks.{Stacks}
use Rattle.massif_sample.specs.Counted.{counts}
use Rattle.massif_sample.specs.Due.{IsDue, IsTakenAs}
use Rattle.massif_sample.specs.FunctionNames.{FunctionNames, ignores}
use Rattle.massif_sample.specs.Gross.{gross}
use Rattle.massif_sample.specs.HeapTotals.{gross_total, gross_weight, heap_weight}
use Rattle.massif_sample.specs.Offers.{offer_at, offers, offers_of_event, peak_before}
use Rattle.massif_sample.specs.Options.{AreInRange}
use Rattle.massif_sample.specs.Running.{AreFigures, CanCount, HasBlock, passes_most, past_event, with_event}
use Rattle.massif_sample.specs.SampleFault.{Tells, is_too_large, sample_fault, size_fault}
use Rattle.massif_sample.specs.SamplesCalls.{AreBehind}
use Rattle.massif_sample.specs.SamplesState.{SamplesState}
use Rattle.massif_sample.specs.Taking.{CanTakeEvent}
use Rattle.massif_sample.specs.LiveCosts.{is_judged}
use Rattle.massif_sample.specs.StandsFor.{AreJudged, IsOfStack, IsSampling, StandsFor}
use Rattle.massif_sample.specs.Times.{time_of}
use Rattle.massif_sample.proofs.Figures.{figures-counted, figures-passed, weight-counted}
use Rattle.massif_sample.proofs.GrossSizes.{gross-least, some-alignment}
use Rattle.massif_sample.proofs.Offers.{offer-front, offers-event, offers-tick}
use Rattle.massif_sample.proofs.Sampling.{sampling-passed}
use Rattle.massif_sample.proofs.UpTo.{count-more, up_to-all}

-- the stack of an event that a ledger holds is one of the tables that it stands beside
pub of-held : (ledger : LedgerState) (tables : TableState) (event : Event) → IsSound ledger
    → ledger.stacks ≡ length tables.nodes + 1 → IsHeld ledger event → IsOfStack tables event
of-held ledger tables (Alloc info stack size) sound count held = let below = sound.stack_held info _ held in omega arith
of-held ledger tables (Free info stack size) sound count held = let below = sound.stack_held info _ held in omega arith
of-held ledger tables (Tick ms) sound count held = tt

-- and that of one that may be taken
pub of-taken : {A : Type 0} (stacks : Stacks A) (samples : SamplesState) (ledger : LedgerState) (event : Event)
    → CanTakeEvent stacks samples ledger event → IsSound ledger → IsOfStack stacks.tables.now event
of-taken stacks samples ledger event may sound =
    of-held ledger stacks.tables.now event sound may.stacks_held may.held

-- an event is counted where its stack was judged so
pub counted-is : (names : FunctionNames) (tables : TableState) (flags : List Bool) (event : Event)
    → length flags ≡ length tables.nodes + 1 → AreJudged names tables flags → IsOfStack tables event
    → counts (ignores tables names) event ≡ counts (is_judged flags) event
counted-is names tables flags (Alloc info stack size) count judged of_stack =
    ap not (sym (get_or_from_slice_get flags stack (ignores tables names stack) false (judged stack (omega arith))))
counted-is names tables flags (Free info stack size) count judged of_stack =
    ap not (sym (get_or_from_slice_get flags stack (ignores tables names stack) false (judged stack (omega arith))))
counted-is names tables flags (Tick ms) count judged of_stack = refl

-- the offers of an event that isn't counted, and of one that is
offers-of : (options : MassifOptions) (ignored : ℕ → Bool) (events : List Event) (event : Event) (k : ℕ)
    (counted : Bool)
    → counts ignored event ≡ counted
    → offers_of_event options ignored events event k
    ≡ cond counted (peak_before options ignored events event k ++ offer_at options ignored events false (k + 1) ∷ []) []
offers-of options ignored events event k counted is =
    ap (λ (b : Bool). cond b
    (peak_before options ignored events event k ++ offer_at options ignored events false (k + 1) ∷ []) []) is

no-offers : (options : MassifOptions) (ignored : ℕ → Bool) (events : List Event) (event : Event)
    → is_counted event ≡ true → counts ignored event ≡ false
    → offers options ignored (events ++ event ∷ []) ≡ offers options ignored events
no-offers options ignored events event is none =
    offers-event options ignored events event is
    ∙ ap (λ (os : List Offer). offers options ignored events ++ os)
    (offers-of options ignored (events ++ event ∷ []) event (event_count events) false none)
    ∙ append-nil (offers options ignored events)

-- an event that isn't counted brings none
offers-passed : (options : MassifOptions) (ignored : ℕ → Bool) (events : List Event) (event : Event)
    → counts ignored event ≡ false → offers options ignored (events ++ event ∷ []) ≡ offers options ignored events
offers-passed options ignored events (Alloc info stack size) none =
    no-offers options ignored events (Alloc info stack size) refl none
offers-passed options ignored events (Free info stack size) none =
    no-offers options ignored events (Free info stack size) refl none
offers-passed options ignored events (Tick ms) none = offers-tick options ignored events ms

-- behind an event that isn't counted
pub stands-passed :
    (flags : List Bool) (samples : SamplesState) (names : FunctionNames) (tables : TableState) (events : List Event)
    (event : Event)
    → counts (ignores tables names) event ≡ false
    → IsOfStack tables event
    → StandsFor flags samples names tables events
    → StandsFor flags (record samples { running = past_event samples.options samples.running event }) names tables
    (events ++ event ∷ [])
stands-passed flags samples names tables events event none of_stack stands =
    let next : SamplesState = record samples { running = past_event samples.options samples.running event } in
    let ignored : ℕ → Bool = ignores tables names in
    let figures = figures-passed samples.options ignored events samples.running event none stands.sampling.figures in
    record {
      judged = stands.judged;
      held = stands.held;
      sampling =
          subst (λ (os : List Offer). IsSampling next names tables (events ++ event ∷ []) os)
          (sym (offers-passed samples.options ignored events event none))
          (sampling-passed samples names tables events (offers samples.options ignored events) event
          (past_event samples.options samples.running event) stands.sampling of_stack none figures);
      some = stands.some;
    }

-- what is counted is no clock value
is-counted : (ignored : ℕ → Bool) (event : Event) → counts ignored event ≡ true → is_counted event ≡ true
is-counted ignored (Alloc info stack size) counted = refl
is-counted ignored (Free info stack size) counted = refl
is-counted ignored (Tick ms) counted = counted

-- the normal offer behind the last event
last-offer : (options : MassifOptions) (ignored : ℕ → Bool) (events : List Event) (event : Event)
    → is_counted event ≡ true
    → offer_at options ignored (events ++ event ∷ []) false (event_count events + 1)
    ≡ offer_at options ignored (events ++ event ∷ []) false (event_count (events ++ event ∷ []))
last-offer options ignored events event is =
    sym (ap (offer_at options ignored (events ++ event ∷ []) false) (count-more events event is))

-- the offers with those of an event that is counted
offers-counted : (options : MassifOptions) (ignored : ℕ → Bool) (events : List Event) (event : Event)
    → counts ignored event ≡ true
    → offers options ignored (events ++ event ∷ [])
    ≡ (offers options ignored events ++ peak_before options ignored events event (event_count events))
    ++ offer_at options ignored (events ++ event ∷ []) false (event_count (events ++ event ∷ [])) ∷ []
offers-counted options ignored events event counted =
    let after : List Event = events ++ event ∷ [] in
    let is = is-counted ignored event counted in
    let earlier : List Offer = offers options ignored events in
    let peak : List Offer = peak_before options ignored events event (event_count events) in
    offers-event options ignored events event is
    ∙ ap (λ (os : List Offer). earlier ++ os)
    (offers-of options ignored after event (event_count events) true counted
    ∙ ap (λ (o : Offer). cond (is_free event) (o ∷ []) []
    ++ offer_at options ignored after false (event_count events + 1) ∷ []) (offer-front
    options ignored events (event ∷ []) true (event_count events) (omega arith))
    ∙ ap (λ (o : Offer). peak ++ o ∷ []) (last-offer options ignored events event is))
    ∙ sym (append_assoc earlier peak (offer_at options ignored after false (event_count after) ∷ []))

-- behind an event that is counted, of which these offers were made
pub stands-counted :
    (flags : List Bool) (old new : SamplesState) (names : FunctionNames) (tables : TableState) (events : List Event)
    (event : Event)
    → counts (ignores tables names) event ≡ true
    → StandsFor flags old names tables events
    → new.options ≡ old.options
    → IsSampling new names tables (events ++ event ∷ [])
    ((offers old.options (ignores tables names) events
    ++ peak_before old.options (ignores tables names) events event (event_count events))
    ++ offer_at old.options (ignores tables names) (events ++ event ∷ []) false (event_count (events ++ event ∷ []))
    ∷ [])
    → 0 < length new.array.kept.entries
    → StandsFor flags new names tables (events ++ event ∷ [])
stands-counted flags old new names tables events event counted stands options_is sampling some =
    let ignored : ℕ → Bool = ignores tables names in
    let same =
    ap (λ (o : MassifOptions). offers o ignored (events ++ event ∷ [])) options_is
    ∙ offers-counted old.options ignored events event counted in
    record {
      judged = stands.judged;
      held = stands.held;
      sampling = subst (λ (os : List Offer). IsSampling new names tables (events ++ event ∷ []) os) (sym same) sampling;
      some = some;
    }

-- an event that the ledger takes
fault-taken : (options : MassifOptions) (ignored : ℕ → Bool) (events : List Event) (event : Event) (counted : Bool)
    → fault_of events event ≡ None → counts ignored event ≡ counted
    → sample_fault options ignored events event
    ≡ cond (counted && is_too_large options ignored (events ++ event ∷ [])) (Some ledger_fault.CostTooLarge) None
fault-taken options ignored events event counted none is =
    ap (λ (f : Option EventFault). option_or f (size_fault options ignored events event)) none
    ∙ ap (λ (b : Bool). cond {A = Option EventFault} (b && is_too_large options ignored (events ++ event ∷ []))
    (Some ledger_fault.CostTooLarge) None) is

-- one that isn't counted has no other fault
pub fault-passed : (options : MassifOptions) (ignored : ℕ → Bool) (events : List Event) (event : Event)
    → fault_of events event ≡ None → counts ignored event ≡ false → sample_fault options ignored events event ≡ None
fault-passed options ignored events event none uncounted = fault-taken options ignored events event false none uncounted

-- and one that is counted where the figures behind it pass their bound
pub fault-counted : (options : MassifOptions) (ignored : ℕ → Bool) (events : List Event) (event : Event)
    (next : Running) (large : Bool)
    → fault_of events event ≡ None → counts ignored event ≡ true
    → AreFigures options ignored (events ++ event ∷ []) next → passes_most next ≡ large
    → sample_fault options ignored events event ≡ cond large (Some ledger_fault.CostTooLarge) None
fault-counted options ignored events event next large none counted figures passes =
    let after : List Event = events ++ event ∷ [] in
    let gross_is : gross_total options ignored after ≡ next.gross = let was = figures.gross in omega arith in
    let time_is : time_of options ignored after ≡ next.time =
    sym (figures.time ∙ ap (time_of options ignored) (up_to-all events event (is-counted ignored event counted))) in
    let same : is_too_large options ignored after ≡ large =
    ap (λ (g : ℕ). nat_lt (2 ^ 62) g || nat_lt (2 ^ 62) (time_of options ignored after)) gross_is
    ∙ ap (λ (t : ℕ). nat_lt (2 ^ 62) next.gross || nat_lt (2 ^ 62) t) time_is
    ∙ passes in
    fault-taken options ignored events event true none counted
    ∙ ap (λ (b : Bool). cond {A = Option EventFault} b (Some ledger_fault.CostTooLarge) None) same

-- answers without a fault
pub tells-none : (r : Result (Unit {0}) SampleFault) (found : Option EventFault)
    → IfErr r (λ fault. fault ≡ sample.NoMemory) → found ≡ None → Tells r found
tells-none (Ok answer) found only none = none
tells-none (Err sample.FreeOfNothing) found only none =
    absurd (let same : sample.FreeOfNothing ≡ sample.NoMemory = only in cc)
tells-none (Err sample.CostTooLarge) found only none =
    absurd (let same : sample.CostTooLarge ≡ sample.NoMemory = only in cc)
tells-none (Err sample.NoMemory) found only none = none

-- an event that is counted calls for a detailed snapshot
pub due-detailed : (options : MassifOptions) (ignored : ℕ → Bool) (events : List Event) (event : Event)
    → counts ignored event ≡ true
    → IsTakenAs options (offers options ignored events ++ peak_before options ignored events event (event_count events))
    (offer_at options ignored (events ++ event ∷ []) false (event_count (events ++ event ∷ []))) Detailed
    → IsDue options ignored events event
due-detailed options ignored events event counted taken =
    inr (record {
      counted = counted;
      taken =
          subst
          (λ (o : Offer). IsTakenAs options
          (offers options ignored events ++ peak_before options ignored events event (event_count events)) o
          Detailed)
          (sym (last-offer options ignored events event (is-counted ignored event counted))) taken;
    })

-- sums of numbers that are sums
sum-split : (f g h : Event → ℕ) (events : List Event) → ((e : Event) → f e ≡ g e + h e)
    → sum_by f events ≡ sum_by g events + sum_by h events
sum-split f g h [] each = refl
sum-split f g h (e ∷ es) each =
    let here = each e in
    let rest = sum-split f g h es each in
    let whole = sum_by-cons f e es in
    let one = sum_by-cons g e es in
    let other = sum_by-cons h e es in
    omega arith

-- what the heap adds to a block of an info
abbrev extra_weight : MassifOptions → (ℕ → Bool) → HeldInfo → ℕ
extra_weight options ignored held = cond {A = ℕ} (ignored held.stack) 0 (gross options held.size - held.size)

weight-split : (options : MassifOptions) (flag : Bool) (size : ℕ) → AreInRange options
    → cond {A = ℕ} flag 0 (gross options size)
    ≡ cond {A = ℕ} flag 0 size + cond {A = ℕ} flag 0 (gross options size - size)
weight-split options true size range = refl
weight-split options false size range =
    let least = gross-least options size (some-alignment options range) in omega arith

alloc-split : (options : MassifOptions) (ignored : ℕ → Bool) (range : AreInRange options) (e : Event)
    → alloc_weight (gross_weight options ignored) e
    ≡ alloc_weight (heap_weight ignored) e + alloc_weight (extra_weight options ignored) e
alloc-split options ignored range (Alloc i s z) = weight-split options (ignored s) z range
alloc-split options ignored range (Free i s z) = refl
alloc-split options ignored range (Tick ms) = refl

free-split : (options : MassifOptions) (ignored : ℕ → Bool) (range : AreInRange options) (e : Event)
    → free_weight (gross_weight options ignored) e
    ≡ free_weight (heap_weight ignored) e + free_weight (extra_weight options ignored) e
free-split options ignored range (Alloc i s z) = refl
free-split options ignored range (Free i s z) = weight-split options (ignored s) z range
free-split options ignored range (Tick ms) = refl

-- a free that a trace can have is of a live block
has-block :
    (options : MassifOptions) (ignored : ℕ → Bool) (events : List Event) (running : Running) (info stack size : ℕ)
    → AreInRange options
    → not (ignored stack) ≡ true
    → AreFigures options ignored events running
    → ((weight : HeldInfo → ℕ)
    → sum_by (free_weight weight) (events ++ Free info stack size ∷ [])
    ≤ sum_by (alloc_weight weight) (events ++ Free info stack size ∷ []))
    → HasBlock options running size
has-block options ignored events running info stack size range counted figures within =
    let event : Event = Free info stack size in
    let allocs = λ (weight : HeldInfo → ℕ). sum_by_push (alloc_weight weight) events event in
    let frees = λ (weight : HeldInfo → ℕ). sum_by_push (free_weight weight) events event in
    let of_heap = weight-counted ignored stack size counted in
    let of_gross = weight-counted ignored stack (gross options size) counted in
    let of_extra = weight-counted ignored stack (gross options size - size) counted in
    let heap_was = figures.heap in
    let gross_was = figures.gross in
    record {
      heap = omega (arith, within (heap_weight ignored), allocs (heap_weight ignored), frees (heap_weight ignored));
      gross_within =
          omega (
            arith,
            within (gross_weight options ignored),
            allocs (gross_weight options ignored),
            frees (gross_weight options ignored),
          );
      extra =
          let least = gross-least options size (some-alignment options range) in
          let alloc_split =
          sum-split (alloc_weight (gross_weight options ignored)) (alloc_weight (heap_weight ignored))
          (alloc_weight (extra_weight options ignored)) events (alloc-split options ignored range) in
          let free_split =
          sum-split (free_weight (gross_weight options ignored)) (free_weight (heap_weight ignored))
          (free_weight (extra_weight options ignored)) events (free-split options ignored range) in
          omega (
            arith,
            within (extra_weight options ignored),
            allocs (extra_weight options ignored),
            frees (extra_weight options ignored),
          );
    }

-- an allocation that has no fault isn't larger than all may be together
size-fits : (ledger : LedgerState) (info stack size : ℕ) → fault_at ledger (Alloc info stack size) ≡ None
    → size ≤ 2 ^ 62
size-fits ledger info stack size none =
    elim (leb_tells (suc (2 ^ 62)) (ledger.totals.allocated + size)) [
      | inl large ↦ absurd
          (let is : cond (nat_lt (2 ^ 62) (ledger.totals.allocated + size)) (Some ledger_fault.CostTooLarge) None
          ≡ Some ledger_fault.CostTooLarge =
          ap (λ (b : Bool). cond {A = Option EventFault} b (Some ledger_fault.CostTooLarge) None) large.0 in cc)
      | inr fits ↦ (let below = fits.1 in omega arith)
    ]

-- an event that has no fault can be counted
can-count :
    (options : MassifOptions) (ignored : ℕ → Bool) (events : List Event) (running : Running) (ledger : LedgerState)
    (event : Event)
    → AreInRange options
    → counts ignored event ≡ true
    → AreFigures options ignored events running
    → fault_at ledger event ≡ None
    → ((weight : HeldInfo → ℕ)
    → sum_by (free_weight weight) (events ++ event ∷ []) ≤ sum_by (alloc_weight weight) (events ++ event ∷ []))
    → CanCount options running event
can-count options ignored events running ledger (Alloc info stack size) range counted figures none within =
    size-fits ledger info stack size none
can-count options ignored events running ledger (Free info stack size) range counted figures none within =
    has-block options ignored events running info stack size range counted figures within
can-count options ignored events running ledger (Tick ms) range counted figures none within = tt

-- what is known of an event that is counted: it can be, and the figures behind it
pub record IsCounted (options : MassifOptions) (ignored : ℕ → Bool) (events : List Event) (event : Event)
    (running : Running) : Type 0 where
  pub counted : counts ignored event ≡ true
  pub can : CanCount options running event
  pub figures : AreFigures options ignored (events ++ event ∷ []) (with_event options running event)

pub counted-event :
    {A : Type 0} (stacks : Stacks A) (samples : SamplesState) (ledger : LedgerState) (names : FunctionNames)
    (events : List Event) (event : Event)
    → CanTakeEvent stacks samples ledger event
    → IsSound ledger
    → counts (is_judged stacks.judged.now) event ≡ true
    → None ≡ fault_at ledger event
    → ((weight : HeldInfo → ℕ)
    → sum_by (free_weight weight) (events ++ event ∷ []) ≤ sum_by (alloc_weight weight) (events ++ event ∷ []))
    → StandsFor stacks.judged.now samples names stacks.tables.now events
    → IsCounted samples.options (ignores stacks.tables.now names) events event samples.running
counted-event stacks samples ledger names events event may sound judged none within stands =
    let ignored : ℕ → Bool = ignores stacks.tables.now names in
    let counted =
    counted-is names stacks.tables.now stacks.judged.now event may.judged stands.judged
    (of-taken stacks samples ledger event may sound)
    ∙ judged in
    let can =
    can-count samples.options ignored events samples.running ledger event may.range counted stands.sampling.figures
    (sym none) within in
    record {
      counted = counted;
      can = can;
      figures =
          figures-counted samples.options ignored events samples.running event counted can stands.sampling.figures;
    }

-- the figures behind it are those of the events with it
pub figures-behind : (samples : SamplesState) (ignored : ℕ → Bool) (events : List Event) (event : Event)
    (next : Running)
    → AreBehind samples event next → IsCounted samples.options ignored events event samples.running
    → AreFigures samples.options ignored (events ++ event ∷ []) next
figures-behind samples ignored events event next behind known =
    subst (λ (r : Running). AreFigures samples.options ignored (events ++ event ∷ []) r) (sym behind.are) known.figures

-- and it has no fault
pub tells-counted : (samples : SamplesState) (ignored : ℕ → Bool) (events : List Event) (event : Event) (next : Running)
    (r : Result (Unit {0}) SampleFault)
    → AreBehind samples event next → IsCounted samples.options ignored events event samples.running
    → None ≡ fault_of events event → IfErr r (λ fault. fault ≡ sample.NoMemory)
    → Tells r (sample_fault samples.options ignored events event)
tells-counted samples ignored events event next r behind known none only =
    tells-none r _ only
    (fault-counted samples.options ignored events event next false (sym none) known.counted
    (figures-behind samples ignored events event next behind known) behind.fit)
