-- The peak of a list of events with one more.
use Rattle.std.proofs.Common.{append-nil, add-zero, zero, suc, ◌≡◌, ℕ, ◌+◌, ◌<◌, ◌≤◌, List, [], ◌∷◌, ◌++◌, length, take}
use Rattle.std.proofs.Common.{Bool, true, cond, refl, inl, inr, sym, ap, subst, ◌∙◌, arith}
use Rattle.std.specs.Prelude.{slice_index, sum_by}
use Rattle.std.proofs.lemmas.Bool.{cases_lt}
use Rattle.std.proofs.lemmas.List.{take-append-le, take_all}
use Rattle.std.proofs.lemmas.List.Elements.{filter-append}
use Rattle.std.proofs.lemmas.List.Sums.{length-filter, sum_by-cons, sum_by_push}
use Rattle.live_ledger.specs.declared.event.Event.{Event}
use Rattle.live_ledger.specs.declared.event.Event.TheVariants.{Alloc, Free, Tick}
use Rattle.live_ledger.specs.declared.figures.Figures.{Figures}
use Rattle.live_ledger.specs.Changes.{Changes}
use Rattle.live_ledger.specs.Events.{counted, event_count, is_counted}
use Rattle.live_ledger.specs.InStack.{alloc_size_in, allocated_in, blocks_in, calls_in, free_size_in, freed_in}
use Rattle.live_ledger.specs.InStack.{frees_in, is_alloc_in, is_free_in, live_in}
use Rattle.live_ledger.specs.LedgerState.{IsHeld, LedgerState, figures_at, no_figures}
use Rattle.live_ledger.specs.LiveBytes.{alloc_size, allocated_bytes, free_size, freed_bytes, live_bytes}
use Rattle.live_ledger.specs.Sound as ledger_sound
use Rattle.live_ledger.specs.declared.totals.Totals.{Totals}
use Rattle.live_ledger.specs.StandsFor as ledger_spec
use Rattle.live_ledger.specs.StandsFor.{AreTotalsOf}
use Rattle.peak_costs.specs.declared.mark.Mark.{Mark}
use Rattle.peak_costs.specs.Kept.{AreKept, blocks_list, live_list, state_of}
use Rattle.peak_costs.specs.Mark.{first_mark, raised}
use Rattle.peak_costs.specs.Peak.{HasPeak, IsIn, IsPeak, StandsFor, first_events, total_after}
use Rattle.peak_costs.specs.PeakState.{PeakState, with_stack}
use Rattle.peak_costs.specs.Saved.{saved_after, shares_of, stamps_after}
use Rattle.peak_costs.proofs.Shares.{share-same, shares-same}
use Rattle.peak_costs.proofs.Keeping.{HasStack, Longer, Moved, figure-at, kept-saved, moved-by, raised-cases}
use Rattle.peak_costs.proofs.Keeping.{shares-infos, shares-stack, stack-in, shares-kept, shares-new, shares-new_peak}

-- clock values add nothing to a sum in which they have nothing
sum-counted : (f : Event → ℕ) (events : List Event) → ((ms : ℕ) → f (Tick ms) ≡ 0)
    → sum_by f (counted events) ≡ sum_by f events
sum-counted f [] none = refl
sum-counted f (Alloc i s z ∷ rest) none =
    sum_by-cons f (Alloc i s z) (counted rest) ∙ ap (λ (n : ℕ). f (Alloc i s z) + n) (sum-counted f rest none)
    ∙ sym (sum_by-cons f (Alloc i s z) rest)
sum-counted f (Free i s z ∷ rest) none =
    sum_by-cons f (Free i s z) (counted rest) ∙ ap (λ (n : ℕ). f (Free i s z) + n) (sum-counted f rest none)
    ∙ sym (sum_by-cons f (Free i s z) rest)
sum-counted f (Tick ms ∷ rest) none =
    let here = none ms in
    let tail = sum-counted f rest none in
    omega (arith, sum_by-cons f (Tick ms) rest, here, tail)

-- the live bytes of a list are those of its allocations and frees
pub live-counted : (events : List Event) → live_bytes (counted events) ≡ live_bytes events
live-counted events =
    let allocated : allocated_bytes (counted events) ≡ allocated_bytes events =
    sum-counted alloc_size events (λ ms. refl) in
    let freed : freed_bytes (counted events) ≡ freed_bytes events = sum-counted free_size events (λ ms. refl) in
    omega arith

-- and so are those of a stack
pub live_in-counted : (n : ℕ) (events : List Event) → live_in n (counted events) ≡ live_in n events
live_in-counted n events =
    let allocated : allocated_in n (counted events) ≡ allocated_in n events =
    sum-counted (alloc_size_in n) events (λ ms. refl) in
    let freed : freed_in n (counted events) ≡ freed_in n events = sum-counted (free_size_in n) events (λ ms. refl) in
    omega arith

pub blocks_in-counted : (n : ℕ) (events : List Event) → blocks_in n (counted events) ≡ blocks_in n events
blocks_in-counted n events =
    let calls : calls_in n (counted events) ≡ calls_in n events =
    sum-counted (λ (e : Event). cond (is_alloc_in n e) 1 0) events (λ ms. refl) in
    let frees : frees_in n (counted events) ≡ frees_in n events =
    sum-counted (λ (e : Event). cond (is_free_in n e) 1 0) events (λ ms. refl) in
    omega arith

-- a counted event stands at the end of the counted ones
counted-push : (events : List Event) (event : Event) → is_counted event ≡ true
    → counted (events ++ event ∷ []) ≡ counted events ++ event ∷ []
counted-push events (Alloc i s z) is = filter-append is_counted events (Alloc i s z ∷ [])
counted-push events (Free i s z) is = filter-append is_counted events (Free i s z ∷ [])
counted-push events (Tick ms) is = cc

-- the first events of a list stay when one more comes
pub first-before : (k : ℕ) (events : List Event) (event : Event) → is_counted event ≡ true → k ≤ event_count events
    → first_events k (events ++ event ∷ []) ≡ first_events k events
first-before k events event is within =
    ap (λ (xs : List Event). take k xs) (counted-push events event is)
    ∙ take-append-le k (counted events) (event ∷ []) (let count = length-filter is_counted events in omega arith)

-- the first events, as many as there are, are all
pub first-all : (k : ℕ) (events : List Event) → k ≡ event_count events → first_events k events ≡ counted events
first-all k events is = take_all k (counted events) (let count = length-filter is_counted events in omega arith)

-- and when a clock value comes
first-tick : (k : ℕ) (events : List Event) (ms : ℕ) → first_events k (events ++ Tick ms ∷ []) ≡ first_events k events
first-tick k events ms =
    ap (λ (xs : List Event). take k xs) (filter-append is_counted events (Tick ms ∷ []) ∙ append-nil (counted events))

-- there is one more event
pub count-more : (events : List Event) (event : Event) → is_counted event ≡ true
    → event_count (events ++ event ∷ []) ≡ event_count events + 1
count-more events event is =
    sum_by_push (λ (e : Event). cond (is_counted e) 1 0) events event
    ∙ ap (λ (b : Bool). event_count events + cond {A = ℕ} b 1 0) is

-- the total after all events is what is live
total-now : (totals : Totals) (events : List Event) (k : ℕ) → AreTotalsOf totals events → k ≡ event_count events
    → total_after k events ≡ totals.live
total-now totals events k are is = ap live_bytes (first-all k events is) ∙ live-counted events ∙ sym are.live_is

-- a peak stays where no more is live after one more event
peak-stays :
    (total moment : ℕ) (totals : Totals) (events : List Event) (event : Event)
    → is_counted event ≡ true
    → HasPeak total moment events
    → AreTotalsOf totals (events ++ event ∷ [])
    → totals.live ≤ total
    → HasPeak total moment (events ++ event ∷ [])
peak-stays total moment totals events event is has now below =
    let after : List Event = events ++ event ∷ [] in
    let count = count-more events event is in
    let peak_total : total_after moment after ≡ total_after moment events =
    ap live_bytes (first-before moment events event is has.peak.within) in
    record {
      peak = record {
        within = omega (arith, has.peak.within, count);
        greatest = λ k within. elim (cases_lt (event_count events) k) [
          | inl last ↦ (let all = total-now totals after k now (omega arith) in let was = has.total_is in omega arith)
          | inr before ↦
              (let here : total_after k after
              ≡ total_after k events =
              ap live_bytes (first-before k events event is before) in let least =
              has.peak.greatest k before in omega arith)
        ];
        least =
            λ k less. (let here : total_after k after
            ≡ total_after k events =
            ap live_bytes
            (first-before k events event is
            (let within = has.peak.within in omega arith)) in let fewer = has.peak.least
            k less in omega arith);
      };
      total_is = has.total_is ∙ sym peak_total;
    }

-- and is now where more is live
peak-rises :
    (total moment : ℕ) (totals : Totals) (events : List Event) (event : Event)
    → is_counted event ≡ true
    → HasPeak total moment events
    → AreTotalsOf totals (events ++ event ∷ [])
    → total < totals.live
    → HasPeak totals.live totals.events (events ++ event ∷ [])
peak-rises total moment totals events event is has now above =
    let after : List Event = events ++ event ∷ [] in
    let count = count-more events event is in
    let all : total_after totals.events after ≡ totals.live = total-now totals after totals.events now now.events_is in
    let before : (k : ℕ) → k ≤ event_count events → total_after k after ≤ total = λ k within.
    (let here : total_after k after
    ≡ total_after k events =
    ap live_bytes (first-before k events event is within) in let most =
    has.peak.greatest k within in let was = has.total_is in omega arith) in
    record {
      peak = record {
        within = omega (arith, now.events_is);
        greatest = λ k within. elim (cases_lt (event_count events) k) [
          | inl last ↦ (let here = total-now totals after k now (omega arith) in omega arith)
          | inr early ↦ (let most = before k early in omega arith)
        ];
        least = λ k less. (let most = before k (let number = now.events_is in omega arith) in omega arith);
      };
      total_is = sym all;
    }

-- a mark has the peak of the events with one more
pub peak-moved :
    (mark : Mark) (totals : Totals) (events : List Event) (event : Event)
    → is_counted event ≡ true
    → HasPeak mark.total mark.moment events
    → AreTotalsOf totals (events ++ event ∷ [])
    → HasPeak (raised mark totals.live totals.events).total (raised mark totals.live totals.events).moment
    (events ++ event ∷ [])
peak-moved mark totals events event is has now =
    elim (raised-cases mark totals.live totals.events) [
      | inl stays ↦ subst (λ (m : Mark). HasPeak m.total m.moment (events ++ event ∷ [])) (sym stays.0)
          (peak-stays mark.total mark.moment totals events event is has now stays.1)
      | inr rises ↦ subst (λ (m : Mark). HasPeak m.total m.moment (events ++ event ∷ [])) (sym rises.0)
          (peak-rises mark.total mark.moment totals events event is has now rises.1)
    ]

-- and with a clock value
pub peak-tick : (total moment : ℕ) (events : List Event) (ms : ℕ) → HasPeak total moment events
    → HasPeak total moment (events ++ Tick ms ∷ [])
peak-tick total moment events ms has =
    let count : event_count (events ++ Tick ms ∷ []) ≡ event_count events =
    sum_by_push (λ (e : Event). cond (is_counted e) 1 0) events (Tick ms) ∙ add-zero (event_count events) in
    let after : (k : ℕ) → total_after k (events ++ Tick ms ∷ []) ≡ total_after k events =
    λ k. ap live_bytes (first-tick k events ms) in
    record {
      peak = record {
        within = omega (arith, has.peak.within);
        greatest =
            λ k within. (let here = after k in let there = after moment in let below = has.peak.greatest k
            (omega arith) in omega arith);
        least =
            λ k less. (let here = after k in let there = after moment in let below = has.peak.least k less in omega
            arith);
      };
      total_is = has.total_is ∙ sym (after moment);
    }

-- of no events it is nothing, after none
pub peak-none : HasPeak 0 0 []
peak-none = record {
  peak = record {
    within = omega arith;
    greatest =
        λ k within. (let all : first_events k [] ≡ [] = take_all k [] (omega arith) in let none : total_after k []
        ≡ 0 = ap live_bytes all in omega arith);
    least = λ k less. absurd (omega arith);
  };
  total_is = refl;
}

-- the peak stays where the total with one more event is no greater
pub record Stays (old new : PeakState) : Type 0 where
  pub total : new.total ≡ old.total
  pub moment : new.moment ≡ old.moment
  pub shares : new.shares ≡ old.shares
  pub block_shares : new.block_shares ≡ old.block_shares
  pub below : new.ledger.totals.live ≤ old.total

-- the peak is now where the total is greater
pub record Rises (old new : PeakState) : Type 0 where
  pub total : new.total ≡ new.ledger.totals.live
  pub moment : new.moment ≡ new.ledger.totals.events
  pub shares : new.shares ≡ live_list new.ledger
  pub block_shares : new.block_shares ≡ blocks_list new.ledger
  pub above : old.total < new.ledger.totals.live

-- peaks that stood for the events stand for them with one more that counts
abbrev StandsOn : PeakState → PeakState → List Event → Event → Type 0
StandsOn old new events event =
    is_counted event ≡ true → StandsFor old events → ledger_spec.StandsFor new.ledger (events ++ event ∷ [])
    → StandsFor new (events ++ event ∷ [])

-- peaks that stay stand for the events with one more
pub stands-stays : (old new : PeakState) (events : List Event) (event : Event) → Stays old new
    → StandsOn old new events event
stands-stays old new events event stays = λ is stands now.
    let after : List Event = events ++ event ∷ [] in
    let p : ℕ = old.moment in
    let same : first_events p after ≡ first_events p events = first-before p events event is stands.peak.within in
    let kept =
    peak-stays old.total p new.ledger.totals events event is (record { peak = stands.peak; total_is = stands.total })
    now.whole.figures stays.below in
    let has : HasPeak new.total new.moment after =
    subst (λ (m : ℕ). HasPeak new.total m after) (sym stays.moment)
    (subst (λ (t : ℕ). HasPeak t p after) (sym stays.total) kept) in
    record {
      ledger = now;
      peak = has.peak;
      total = has.total_is;
      shares =
          λ n. ap (λ (xs : List ℕ). slice_index xs n) stays.shares ∙ stands.shares n
          ∙ ap (λ (es : List Event). live_in n es) (sym same)
          ∙ ap (λ (m : ℕ). live_in n (first_events m after)) (sym stays.moment);
      block_shares =
          λ n. ap (λ (xs : List ℕ). slice_index xs n) stays.block_shares ∙ stands.block_shares n
          ∙ ap (λ (es : List Event). blocks_in n es) (sym same)
          ∙ ap (λ (m : ℕ). blocks_in n (first_events m after)) (sym stays.moment);
    }

-- peaks that rise stand for the events with one more
pub stands-rises : (old new : PeakState) (events : List Event) (event : Event) → Rises old new
    → StandsOn old new events event
stands-rises old new events event rises = λ is stands now.
    let after : List Event = events ++ event ∷ [] in
    let all : first_events new.moment after ≡ counted after =
    first-all new.moment after (rises.moment ∙ now.whole.figures.events_is) in
    let risen =
    peak-rises old.total old.moment new.ledger.totals events event is
    (record { peak = stands.peak; total_is = stands.total }) now.whole.figures rises.above in
    let has : HasPeak new.total new.moment after =
    subst (λ (m : ℕ). HasPeak new.total m after) (sym rises.moment)
    (subst (λ (t : ℕ). HasPeak t new.ledger.totals.events after) (sym rises.total) risen) in
    record {
      ledger = now;
      peak = has.peak;
      total = has.total_is;
      shares =
          λ n. ap (λ (xs : List ℕ). slice_index xs n) rises.shares ∙ figure-at
          (λ (f : Figures). f.live) new.ledger n refl
          ∙ (now.each_stack n).live_is ∙ sym (live_in-counted n after)
          ∙ ap (λ (es : List Event). live_in n es) (sym all);
      block_shares =
          λ n. ap (λ (xs : List ℕ). slice_index xs n) rises.block_shares
          ∙ figure-at (λ (f : Figures). f.blocks) new.ledger n refl ∙ (now.each_stack n).blocks_is
          ∙ sym (blocks_in-counted n after) ∙ ap (λ (es : List Event). blocks_in n es) (sym all);
    }

-- an event of a stack is counted
pub counted-in : (stack : ℕ) (event : Event) → IsIn stack event → is_counted event ≡ true
counted-in stack (Alloc i s z) own = refl
counted-in stack (Free i s z) own = refl
counted-in stack (Tick ms) own = absurd own

-- what contracts see of the fields after an event of a stack whose figures are saved before
abbrev pub moved_state : LedgerState → LedgerState → List ℕ → List ℕ → List ℕ → Mark → ℕ → PeakState
moved_state old new saved blocks stamps mark stack =
    state_of new (saved_after saved stamps mark.counter stack (figures_at old stack).live)
    (saved_after blocks stamps mark.counter stack (figures_at old stack).blocks)
    (stamps_after stamps mark.counter stack) (raised mark new.totals.live new.totals.events)

-- the fields stand for the events with one more, of a stack whose figures were saved before
pub stands-moved :
    (old new : LedgerState) (saved blocks stamps : List ℕ) (mark : Mark) (stack : ℕ) (events : List Event)
    (event : Event)
    → AreKept old saved blocks stamps mark
    → AreKept new (saved_after saved stamps mark.counter stack (figures_at old stack).live)
    (saved_after blocks stamps mark.counter stack (figures_at old stack).blocks)
    (stamps_after stamps mark.counter stack) mark
    → Moved old new stack
    → stack < old.stacks
    → is_counted event ≡ true
    → StandsFor (state_of old saved blocks stamps mark) events
    → ledger_spec.StandsFor new (events ++ event ∷ [])
    → StandsFor (moved_state old new saved blocks stamps mark stack) (events ++ event ∷ [])
stands-moved old new saved blocks stamps mark stack events event kept now moved held is stands stands_now =
    let in_saved : stack < length saved = omega (arith, kept.saved_long) in
    let in_blocks : stack < length blocks = omega (arith, kept.blocks_long) in
    let in_stamps : stack < length stamps = omega (arith, kept.stamps_long) in
    let saved_now : List ℕ = saved_after saved stamps mark.counter stack (figures_at old stack).live in
    let blocks_now : List ℕ = saved_after blocks stamps mark.counter stack (figures_at old stack).blocks in
    let stamps_now : List ℕ = stamps_after stamps mark.counter stack in
    elim (raised-cases mark new.totals.live new.totals.events) [
      | inl stays ↦
          subst (λ (m : Mark). StandsFor (state_of new saved_now blocks_now stamps_now m) (events ++ event ∷ []))
          (sym stays.0)
          (stands-stays (state_of old saved blocks stamps mark) (state_of new saved_now blocks_now stamps_now mark)
          events event
          (record {
            total = refl;
            moment = refl;
            shares =
                shares-kept (λ (f : Figures). f.live) old new saved stamps mark.counter stack refl moved in_saved
                in_stamps;
            block_shares =
                shares-kept (λ (f : Figures). f.blocks) old new blocks stamps mark.counter stack refl moved in_blocks
                in_stamps;
            below = stays.1;
          })
          is stands stands_now)
      | inr rises ↦
          subst (λ (m : Mark). StandsFor (state_of new saved_now blocks_now stamps_now m) (events ++ event ∷ []))
          (sym rises.0)
          (stands-rises (state_of old saved blocks stamps mark)
          (state_of new saved_now blocks_now stamps_now
          (record { total = new.totals.live; moment = new.totals.events; counter = mark.counter + 1 }))
          events event
          (record {
            total = refl;
            moment = refl;
            shares =
                shares-new_peak (λ (f : Figures). f.live) new saved_now stamps_now mark.counter now.sound.stacks
                now.stamps_within;
            block_shares =
                shares-new_peak (λ (f : Figures). f.blocks) new blocks_now stamps_now mark.counter now.sound.stacks
                now.stamps_within;
            above = rises.1;
          })
          is stands stands_now)
    ]

-- and over an event of the stack
pub stands-event :
    (old new : LedgerState) (saved blocks stamps : List ℕ) (mark : Mark) (stack : ℕ) (events : List Event)
    (event : Event)
    → AreKept old saved blocks stamps mark
    → ledger_sound.IsSound new
    → Changes old new event
    → IsIn stack event
    → IsHeld old event
    → StandsFor (state_of old saved blocks stamps mark) events
    → ledger_spec.StandsFor new (events ++ event ∷ [])
    → StandsFor (moved_state old new saved blocks stamps mark stack) (events ++ event ∷ [])
stands-event old new saved blocks stamps mark stack events event kept sound changes own held stands stands_now =
    let moved = moved-by old new event stack changes own in
    let inside = stack-in old event stack kept.sound held own in
    stands-moved old new saved blocks stamps mark stack events event kept
    (kept-saved old new saved blocks stamps mark stack kept sound moved inside) moved inside
    (counted-in stack event own) stands stands_now

-- a clock value changes nothing
pub stands-tick : (state : PeakState) (events : List Event) (ms : ℕ) → StandsFor state events
    → ledger_spec.StandsFor state.ledger (events ++ Tick ms ∷ []) → StandsFor state (events ++ Tick ms ∷ [])
stands-tick state events ms stands now =
    let has = peak-tick state.total state.moment events ms (record { peak = stands.peak; total_is = stands.total }) in
    let first = first-tick state.moment events ms in
    record {
      ledger = now;
      peak = has.peak;
      total = has.total_is;
      shares = λ n. stands.shares n ∙ ap (λ (es : List Event). live_in n es) (sym first);
      block_shares = λ n. stands.block_shares n ∙ ap (λ (es : List Event). blocks_in n es) (sym first);
    }

-- what peaks stand for is told by the ledger and by the peak's figures
pub stands-same :
    (old new : PeakState) (events : List Event)
    → ledger_spec.StandsFor new.ledger events
    → new.total ≡ old.total
    → new.moment ≡ old.moment
    → ((n : ℕ) → slice_index new.shares n ≡ slice_index old.shares n)
    → ((n : ℕ) → slice_index new.block_shares n ≡ slice_index old.block_shares n)
    → StandsFor old events
    → StandsFor new events
stands-same old new events ledger total moment shares block_shares stands = record {
  ledger = ledger;
  peak = subst (λ (m : ℕ). IsPeak m events) (sym moment) stands.peak;
  total = total ∙ stands.total ∙ ap (λ (m : ℕ). total_after m events) (sym moment);
  shares = λ n. shares n ∙ stands.shares n ∙ ap (λ (m : ℕ). live_in n (first_events m events)) (sym moment);
  block_shares =
      λ n. block_shares n ∙ stands.block_shares n ∙ ap (λ (m : ℕ). blocks_in n (first_events m events)) (sym moment);
}

-- a share of 0 at the end changes none
pub share-push : (xs : List ℕ) (n : ℕ) → slice_index (xs ++ 0 ∷ []) n ≡ slice_index xs n
share-push [] zero = refl
share-push [] (suc n) = refl
share-push (x ∷ xs) zero = refl
share-push (x ∷ xs) (suc n) = share-push xs n

-- new peaks stand for no events
pub stands-new :
    (ledger : LedgerState)
    → ledger_sound.IsSound ledger
    → ledger_spec.StandsFor ledger []
    → StandsFor (state_of ledger (0 ∷ []) (0 ∷ []) (0 ∷ []) first_mark) []
stands-new ledger sound stands = record {
  ledger = stands;
  peak = peak-none.peak;
  total = peak-none.total_is;
  shares =
      λ n. ap (λ (xs : List ℕ). slice_index xs n) (shares-new (λ (f : Figures). f.live) ledger sound)
      ∙ figure-at (λ (f : Figures). f.live) ledger n refl ∙ (stands.each_stack n).live_is;
  block_shares =
      λ n. ap (λ (xs : List ℕ). slice_index xs n) (shares-new (λ (f : Figures). f.blocks) ledger sound)
      ∙ figure-at (λ (f : Figures). f.blocks) ledger n refl ∙ (stands.each_stack n).blocks_is;
}

-- peaks stand for their events with other infos in the ledger
pub stands-infos :
    (old new : LedgerState) (saved blocks stamps : List ℕ) (mark : Mark) (events : List Event)
    → new.stacks ≡ old.stacks
    → new.figures ≡ old.figures
    → ledger_spec.StandsFor new events
    → StandsFor (state_of old saved blocks stamps mark) events
    → StandsFor (state_of new saved blocks stamps mark) events
stands-infos old new saved blocks stamps mark events stacks figures now stands =
    stands-same (state_of old saved blocks stamps mark) (state_of new saved blocks stamps mark) events now refl refl
    (λ n. ap (λ (xs : List ℕ). slice_index xs n)
    (shares-infos (λ (f : Figures). f.live) old new saved stamps mark.counter stacks figures))
    (λ n. ap (λ (xs : List ℕ). slice_index xs n)
    (shares-infos (λ (f : Figures). f.blocks) old new blocks stamps mark.counter stacks figures))
    stands

-- and with one more stack
pub stands-stack :
    (old new : LedgerState) (saved blocks stamps saved_now blocks_now stamps_now : List ℕ) (mark : Mark)
    (events : List Event)
    → AreKept old saved blocks stamps mark
    → HasStack old new
    → Longer old.stacks saved saved_now
    → Longer old.stacks blocks blocks_now
    → Longer old.stacks stamps stamps_now
    → ledger_spec.StandsFor new events
    → StandsFor (state_of old saved blocks stamps mark) events
    → StandsFor (state_of new saved_now blocks_now stamps_now mark) events
stands-stack old new saved blocks stamps saved_now blocks_now stamps_now mark events kept has saved_long blocks_long
    stamps_long now stands =
    stands-same (state_of old saved blocks stamps mark) (state_of new saved_now blocks_now stamps_now mark) events now
    refl refl
    (λ n. ap (λ (xs : List ℕ). slice_index xs n)
    (shares-stack (λ (f : Figures). f.live) old new saved saved_now blocks stamps stamps_now mark saved refl kept
    has saved_long stamps_long)
    ∙ share-push (shares_of old.stacks (live_list old) saved stamps mark.counter) n)
    (λ n. ap (λ (xs : List ℕ). slice_index xs n)
    (shares-stack (λ (f : Figures). f.blocks) old new blocks blocks_now blocks stamps stamps_now mark saved refl
    kept has blocks_long stamps_long)
    ∙ share-push (shares_of old.stacks (blocks_list old) blocks stamps mark.counter) n)
    stands

-- cells that are longer and hold the same stand for the same events
pub stands-cells :
    (ledger : LedgerState) (saved blocks stamps saved_now blocks_now stamps_now : List ℕ) (mark : Mark)
    (events : List Event)
    → ((n : ℕ) → slice_index saved_now n ≡ slice_index saved n)
    → ((n : ℕ) → slice_index blocks_now n ≡ slice_index blocks n)
    → ((n : ℕ) → slice_index stamps_now n ≡ slice_index stamps n)
    → StandsFor (state_of ledger saved blocks stamps mark) events
    → StandsFor (state_of ledger saved_now blocks_now stamps_now mark) events
stands-cells ledger saved blocks stamps saved_now blocks_now stamps_now mark events saved_same blocks_same stamps_same
    stands =
    stands-same (state_of ledger saved blocks stamps mark) (state_of ledger saved_now blocks_now stamps_now mark) events
    stands.ledger refl refl
    (λ n. ap (λ (xs : List ℕ). slice_index xs n)
    (shares-same ledger.stacks (live_list ledger) saved stamps mark.counter (live_list ledger) saved_now stamps_now
    mark.counter
    (λ k within. share-same (live_list ledger) (live_list ledger) saved saved_now stamps stamps_now mark.counter k
    refl (saved_same k) (stamps_same k))))
    (λ n. ap (λ (xs : List ℕ). slice_index xs n)
    (shares-same ledger.stacks (blocks_list ledger) blocks stamps mark.counter (blocks_list ledger) blocks_now
    stamps_now mark.counter
    (λ k within. share-same (blocks_list ledger) (blocks_list ledger) blocks blocks_now stamps stamps_now
    mark.counter k refl (blocks_same k) (stamps_same k))))
    stands

-- a state by its parts
abbrev state_with : LedgerState → List ℕ → List ℕ → ℕ → ℕ → PeakState
state_with ledger shares block_shares total moment =
    record { ledger = ledger; shares = shares; block_shares = block_shares; total = total; moment = moment }

-- what contracts see with one more stack
pub state-stack :
    (old new : LedgerState) (saved blocks stamps saved_now blocks_now stamps_now : List ℕ) (mark : Mark)
    → new ≡ record old { stacks = old.stacks + 1; figures = old.figures ++ no_figures ∷ [] }
    → AreKept old saved blocks stamps mark
    → HasStack old new
    → Longer old.stacks saved saved_now
    → Longer old.stacks blocks blocks_now
    → Longer old.stacks stamps stamps_now
    → state_of new saved_now blocks_now stamps_now mark ≡ with_stack (state_of old saved blocks stamps mark)
state-stack old new saved blocks stamps saved_now blocks_now stamps_now mark grown kept has saved_long blocks_long
    stamps_long =
    ap (λ (xs : List ℕ). state_with new xs (shares_of new.stacks (blocks_list new) blocks_now stamps_now mark.counter)
    mark.total mark.moment)
    (shares-stack (λ (f : Figures). f.live) old new saved saved_now blocks stamps stamps_now mark saved refl kept has
    saved_long stamps_long)
    ∙ ap (λ (xs : List ℕ). state_with new (shares_of old.stacks (live_list old) saved stamps mark.counter ++ 0 ∷ []) xs
    mark.total mark.moment)
    (shares-stack (λ (f : Figures). f.blocks) old new blocks blocks_now blocks stamps stamps_now mark saved refl kept
    has blocks_long stamps_long)
    ∙ ap (λ (l : LedgerState). state_with l (shares_of old.stacks (live_list old) saved stamps mark.counter ++ 0 ∷ [])
    (shares_of old.stacks (blocks_list old) blocks stamps mark.counter ++ 0 ∷ []) mark.total mark.moment) grown
