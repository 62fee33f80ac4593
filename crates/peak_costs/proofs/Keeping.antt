-- How the fields of peaks keep what they promise.
use Rattle.std.proofs.Common.{◌≡◌, ◌≢◌, ℕ, ◌+◌, ◌<◌, ◌≤◌, List, [], ◌∷◌, ◌++◌, length, map, ◌⊎◌, Bool, cond, refl, inl}
use Rattle.std.proofs.Common.{inr, sym, ap, subst, ◌∙◌, arith, add-zero, zero, suc}
use Rattle.std.specs.Prelude.{slice_index, slice_index_or, sum, IsTrue}
use Rattle.std.proofs.lemmas.Bool.{false≢true}
use Rattle.std.proofs.lemmas.Bool.Decides.{eqb_tells, leb_tells}
use Rattle.std.proofs.lemmas.List.{get_or_past, length-map}
use Rattle.std.proofs.lemmas.List.Sums.{get_or-le-sum_by, sum-map, sum_by_push}
use Rattle.std.proofs.Math.ListN as lists
use Rattle.live_ledger.specs.declared.event.Event.{Event}
use Rattle.live_ledger.specs.declared.event.Event.TheVariants.{Alloc, Free, Tick}
use Rattle.live_ledger.specs.declared.figures.Figures.{Figures}
use Rattle.live_ledger.specs.declared.totals.Totals.{Totals}
use Rattle.live_ledger.specs.Changes.{Changes}
use Rattle.live_ledger.specs.Events.{is_free}
use Rattle.live_ledger.specs.LedgerState.{IsHeld, LedgerState, figures_at, no_figures}
use Rattle.live_ledger.specs.Sound as ledger_sound
use Rattle.peak_costs.specs.declared.mark.Mark.{Mark}
use Rattle.peak_costs.specs.Kept.{AreKept, AreMarked, blocks_list, live_list, state_of}
use Rattle.peak_costs.specs.Mark.{first_mark, raised}
use Rattle.peak_costs.specs.Peak.{IsIn}
use Rattle.peak_costs.specs.PeakState.{IsSound, PeakState}
use Rattle.peak_costs.specs.Saved.{saved_after, shares_of, stamps_after}
use Rattle.peak_costs.proofs.Shares.{saved-length, share-saved, shares-kept_at, shares-length, shares-live_at}
use Rattle.peak_costs.proofs.Shares.{shares-more, shares-raised, shares-same, stamps-length, stamps-others, stamps-own}

-- what an event leaves of a ledger as it was, beside one stack
pub record Moved (old new : LedgerState) (stack : ℕ) : Type 0 where
  pub stacks : new.stacks ≡ old.stacks
  pub others : (other : ℕ) → other ≢ stack → figures_at new other ≡ figures_at old other
  pub events : new.totals.events ≡ old.totals.events + 1
  pub allocated : old.totals.allocated ≤ new.totals.allocated

-- an event of the stack moves it
pub moved-by : (old new : LedgerState) (event : Event) (stack : ℕ) → Changes old new event → IsIn stack event
    → Moved old new stack
moved-by old new (Alloc info s size) stack change own = record {
  stacks = change.whole.stacks;
  others = λ other apart. change.figures_of_others other (λ is. apart (is ∙ own));
  events = change.whole.events;
  allocated = omega (arith, change.whole.allocated);
}
moved-by old new (Free info s size) stack change own = record {
  stacks = change.whole.stacks;
  others = λ other apart. change.figures_of_others other (λ is. apart (is ∙ own));
  events = change.whole.events;
  allocated = omega (arith, change.whole.allocated);
}
moved-by old new (Tick ms) stack change own = absurd own

-- a figure of a stack, in the list of all
pub figure-at : (f : Figures → ℕ) (ledger : LedgerState) (n : ℕ) → f no_figures ≡ 0
    → slice_index (map f ledger.figures) n ≡ f (figures_at ledger n)
figure-at f ledger n none =
    ap (λ (d : ℕ). slice_index_or (map f ledger.figures) n d) (sym none)
    ∙ lists.get_or-map f ledger.figures n no_figures

-- saving the stack's figures before they change keeps all shares
pub shares-kept :
    (f : Figures → ℕ) (old new : LedgerState) (saved stamps : List ℕ) (counter stack : ℕ)
    → f no_figures ≡ 0
    → Moved old new stack
    → stack < length saved
    → stack < length stamps
    → shares_of new.stacks (map f new.figures) (saved_after saved stamps counter stack (f (figures_at old stack)))
    (stamps_after stamps counter stack) counter
    ≡ shares_of old.stacks (map f old.figures) saved stamps counter
shares-kept f old new saved stamps counter stack none moved in_saved in_stamps =
    let others : (other : ℕ) → other ≢ stack
    → slice_index (map f new.figures) other ≡ slice_index (map f old.figures) other =
    λ other apart. figure-at f new other none ∙ ap f (moved.others other apart) ∙ sym (figure-at f old other none) in
    ap (λ (figure : ℕ). shares_of new.stacks (map f new.figures) (saved_after saved stamps counter stack figure)
    (stamps_after stamps counter stack) counter) (sym
    (figure-at f old stack none))
    ∙ ap (λ (n : ℕ). shares_of n (map f new.figures)
    (saved_after saved stamps counter stack (slice_index (map f old.figures) stack)) (stamps_after stamps counter stack)
    counter) moved.stacks
    ∙ shares-same old.stacks (map f old.figures) saved stamps counter _ _ _ counter
    (λ n within. share-saved (map f old.figures) (map f new.figures) saved stamps counter stack in_saved in_stamps
    others n)

-- at a new peak the shares are the live figures
pub shares-new_peak :
    (f : Figures → ℕ) (ledger : LedgerState) (saved stamps : List ℕ) (counter : ℕ)
    → length ledger.figures ≡ ledger.stacks
    → ((stack : ℕ) → slice_index stamps stack ≤ counter)
    → shares_of ledger.stacks (map f ledger.figures) saved stamps (counter + 1) ≡ map f ledger.figures
shares-new_peak f ledger saved stamps counter held within =
    ap (λ (n : ℕ). shares_of n (map f ledger.figures) saved stamps (counter + 1))
    (sym held ∙ sym (length-map ledger.figures f))
    ∙ shares-raised (map f ledger.figures) saved stamps counter within

-- no stamp passes the counter after saving
stamps-within :
    (stamps : List ℕ) (counter stack : ℕ)
    → stack < length stamps
    → ((n : ℕ) → slice_index stamps n ≤ counter)
    → (n : ℕ)
    → slice_index (stamps_after stamps counter stack) n ≤ counter
stamps-within stamps counter stack inside within n =
    elim (eqb_tells n stack) [
      | inl own ↦
          (let is : slice_index (stamps_after stamps counter stack) n
          ≡ counter =
          ap (λ (m : ℕ). slice_index (stamps_after stamps counter stack) m) own.1
          ∙ stamps-own stamps counter stack inside in omega arith)
      | inr apart ↦ (let is = stamps-others stamps counter stack n apart.1 in let below = within n in omega arith)
    ]

-- the fields keep their promise when a stack's figures are saved and then change
pub kept-saved :
    (old new : LedgerState) (saved blocks stamps : List ℕ) (mark : Mark) (stack : ℕ)
    → AreKept old saved blocks stamps mark
    → ledger_sound.IsSound new
    → Moved old new stack
    → stack < old.stacks
    → AreKept new (saved_after saved stamps mark.counter stack (figures_at old stack).live)
    (saved_after blocks stamps mark.counter stack (figures_at old stack).blocks)
    (stamps_after stamps mark.counter stack) mark
kept-saved old new saved blocks stamps mark stack kept sound moved held =
    let stacks : new.stacks ≡ old.stacks = moved.stacks in
    let saved_same = saved-length saved stamps mark.counter stack (figures_at old stack).live in
    let blocks_same = saved-length blocks stamps mark.counter stack (figures_at old stack).blocks in
    record {
      sound = sound;
      saved_long = omega (arith, kept.saved_long, stacks, saved_same);
      blocks_long = omega (arith, kept.blocks_long, stacks, blocks_same);
      stamps_long = omega (arith, kept.stamps_long, stacks, stamps-length stamps mark.counter stack);
      stamps_past =
          λ n past. stamps-others stamps mark.counter stack n (λ is. omega arith) ∙ kept.stamps_past n (omega arith);
      stamps_within =
          λ n. stamps-within stamps mark.counter stack (omega (arith, kept.stamps_long)) kept.stamps_within n;
      counter_some = kept.counter_some;
      counter_within = omega (arith, kept.counter_within, moved.events);
      shares_sum =
          ap (λ (xs : List ℕ). sum xs)
          (shares-kept (λ (f : Figures). f.live) old new saved stamps mark.counter stack refl moved
          (omega (arith, kept.saved_long)) (omega (arith, kept.stamps_long)))
          ∙ kept.shares_sum;
      total_within = omega (arith, kept.total_within, moved.allocated);
      moment_within = omega (arith, kept.moment_within, moved.events);
    }

-- a mark stays, or takes a greater total
pub raised-cases : (mark : Mark) (total events : ℕ)
    → ((raised mark total events ≡ mark) × (total ≤ mark.total))
    ⊎ ((raised mark total events ≡ record { total = total; moment = events; counter = mark.counter + 1 })
    × (mark.total < total))
raised-cases mark total events =
    elim (leb_tells (suc mark.total) total) [
      | inl is ↦ inr (
        ap (λ (b : Bool). cond {A = Mark} b (record { total = total; moment = events; counter = mark.counter + 1 })
            mark) is.0,
        is.1,
      )
      | inr isnt ↦ inl (
        ap (λ (b : Bool). cond {A = Mark} b (record { total = total; moment = events; counter = mark.counter + 1 })
            mark) isnt.0,
        omega (arith, isnt.1),
      )
    ]

-- a mark stays where the total is no greater
pub raised-stays : (mark : Mark) (total events : ℕ) → total ≤ mark.total → raised mark total events ≡ mark
raised-stays mark total events within =
    elim (raised-cases mark total events) [
      | inl stays ↦ stays.0
      | inr rises ↦ absurd (omega (arith, rises.1))
    ]

-- the total is no greater than the mark that it was raised to
pub raised-within : (mark : Mark) (total events : ℕ) → total ≤ (raised mark total events).total
raised-within mark total events =
    elim (raised-cases mark total events) [
      | inl stays ↦ subst (λ (m : Mark). total ≤ m.total) (sym stays.0) stays.1
      | inr rises ↦ subst (λ (m : Mark). total ≤ m.total) (sym rises.0) (omega arith)
    ]

-- a free leaves no more live than there was
pub freed-within : (old new : LedgerState) (event : Event) (total : ℕ) → Changes old new event → old.totals.live ≤ total
    → IsTrue (is_free event) → new.totals.live ≤ total
freed-within old new (Alloc info s size) total change within is = absurd (false≢true is)
freed-within old new (Free info s size) total change within is = omega (arith, change.whole.live)
freed-within old new (Tick ms) total change within is = absurd (false≢true is)

-- and when the mark is raised to the ledger's total
pub kept-raised :
    (ledger : LedgerState) (saved blocks stamps : List ℕ) (mark : Mark)
    → AreKept ledger saved blocks stamps mark
    → mark.counter ≤ ledger.totals.events
    → AreKept ledger saved blocks stamps (raised mark ledger.totals.live ledger.totals.events)
kept-raised ledger saved blocks stamps mark kept room =
    elim (raised-cases mark ledger.totals.live ledger.totals.events) [
      | inl stays ↦ subst (λ (m : Mark). AreKept ledger saved blocks stamps m) (sym stays.0) kept
      | inr rises ↦
          subst (λ (m : Mark). AreKept ledger saved blocks stamps m) (sym rises.0)
          (record {
            sound = kept.sound;
            saved_long = kept.saved_long;
            blocks_long = kept.blocks_long;
            stamps_long = kept.stamps_long;
            stamps_past = kept.stamps_past;
            stamps_within = λ n. (let below = kept.stamps_within n in omega arith);
            counter_some = omega arith;
            counter_within = omega (arith, room);
            shares_sum =
                ap (λ (xs : List ℕ). sum xs)
                (shares-new_peak (λ (f : Figures). f.live) ledger saved stamps mark.counter kept.sound.stacks
                kept.stamps_within)
                ∙ sum-map (λ (f : Figures). f.live) ledger.figures ∙ kept.sound.sums.live;
            total_within = kept.sound.live_within;
            moment_within = omega arith;
          })
    ]

-- the stack of an event whose info is held is held
pub stack-in : (ledger : LedgerState) (event : Event) (stack : ℕ) → ledger_sound.IsSound ledger → IsHeld ledger event
    → IsIn stack event → stack < ledger.stacks
stack-in ledger (Alloc info s size) stack sound held own =
    (let below = sound.stack_held info (record { stack = s; size = size }) held in omega (arith, own))
stack-in ledger (Free info s size) stack sound held own =
    (let below = sound.stack_held info (record { stack = s; size = size }) held in omega (arith, own))
stack-in ledger (Tick ms) stack sound held own = absurd own

-- the fields keep their promise over an event, and none is above the mark then
pub marked-moved :
    (old new : LedgerState) (saved blocks stamps : List ℕ) (mark : Mark) (event : Event) (stack : ℕ)
    → AreKept old saved blocks stamps mark
    → ledger_sound.IsSound new
    → Changes old new event
    → IsIn stack event
    → IsHeld old event
    → AreMarked new (saved_after saved stamps mark.counter stack (figures_at old stack).live)
    (saved_after blocks stamps mark.counter stack (figures_at old stack).blocks)
    (stamps_after stamps mark.counter stack) (raised mark new.totals.live new.totals.events)
marked-moved old new saved blocks stamps mark event stack kept sound changes own held =
    let moved = moved-by old new event stack changes own in
    record {
      kept =
          kept-raised new _ _ _ mark
          (kept-saved old new saved blocks stamps mark stack kept sound moved
          (stack-in old event stack kept.sound held own))
          (omega (arith, kept.counter_within, moved.events));
      live_within = raised-within mark new.totals.live new.totals.events;
    }

-- what contracts see of kept fields is sound
pub sound-of : (ledger : LedgerState) (saved blocks stamps : List ℕ) (mark : Mark)
    → AreKept ledger saved blocks stamps mark → IsSound (state_of ledger saved blocks stamps mark)
sound-of ledger saved blocks stamps mark kept = record {
  ledger = kept.sound;
  shares_held = shares-length ledger.stacks (live_list ledger) saved stamps mark.counter;
  blocks_held = shares-length ledger.stacks (blocks_list ledger) blocks stamps mark.counter;
  shares_sum = kept.shares_sum;
  total_within = kept.total_within;
  moment_within = kept.moment_within;
}

-- shares are told by the stacks and their figures
pub shares-infos :
    (f : Figures → ℕ) (old new : LedgerState) (saved stamps : List ℕ) (counter : ℕ)
    → new.stacks ≡ old.stacks
    → new.figures ≡ old.figures
    → shares_of new.stacks (map f new.figures) saved stamps counter
    ≡ shares_of old.stacks (map f old.figures) saved stamps counter
shares-infos f old new saved stamps counter stacks figures =
    ap (λ (n : ℕ). shares_of n (map f new.figures) saved stamps counter) stacks
    ∙ ap (λ (xs : List Figures). shares_of old.stacks (map f xs) saved stamps counter) figures

-- a share is within the total
pub share-within : (state : PeakState) (stack share : ℕ) → IsSound state → stack < state.ledger.stacks
    → share ≡ slice_index state.shares stack → share ≤ state.total
share-within state stack share sound held is =
    omega (
      arith,
      get_or-le-sum_by (λ (n : ℕ). n) state.shares stack 0 (omega (arith, sound.shares_held)),
      sound.shares_sum,
    )

-- a ledger with other infos and the same figures keeps the fields
pub kept-infos :
    (old new : LedgerState) (saved blocks stamps : List ℕ) (mark : Mark)
    → AreKept old saved blocks stamps mark
    → ledger_sound.IsSound new
    → new.stacks ≡ old.stacks
    → new.figures ≡ old.figures
    → new.totals ≡ old.totals
    → AreKept new saved blocks stamps mark
kept-infos old new saved blocks stamps mark kept sound stacks figures totals =
    let events : new.totals.events ≡ old.totals.events = ap (λ (t : Totals). t.events) totals in
    let allocated : new.totals.allocated ≡ old.totals.allocated = ap (λ (t : Totals). t.allocated) totals in
    record {
      sound = sound;
      saved_long = omega (arith, kept.saved_long);
      blocks_long = omega (arith, kept.blocks_long);
      stamps_long = omega (arith, kept.stamps_long);
      stamps_past = λ n past. kept.stamps_past n (omega arith);
      stamps_within = kept.stamps_within;
      counter_some = kept.counter_some;
      counter_within = omega (arith, kept.counter_within);
      shares_sum =
          ap (λ (xs : List ℕ). sum xs)
          (shares-infos (λ (f : Figures). f.live) old new saved stamps mark.counter stacks figures)
          ∙ kept.shares_sum;
      total_within = omega (arith, kept.total_within);
      moment_within = omega (arith, kept.moment_within);
    }

-- cells with one more place, and the others as they were
pub record Longer (stacks : ℕ) (old new : List ℕ) : Type 0 where
  pub longer : stacks < length new
  pub values : (n : ℕ) → slice_index new n ≡ slice_index old n

-- a ledger with one more stack
pub record HasStack (old new : LedgerState) : Type 0 where
  pub sound : ledger_sound.IsSound new
  pub stacks : new.stacks ≡ old.stacks + 1
  pub figures : (n : ℕ) → figures_at new n ≡ figures_at old n
  pub totals : new.totals ≡ old.totals

-- the shares with one more stack
pub shares-stack :
    (f : Figures → ℕ) (old new : LedgerState) (saved saved_now blocks stamps stamps_now : List ℕ) (mark : Mark)
    (sums : List ℕ)
    → f no_figures ≡ 0
    → AreKept old sums blocks stamps mark
    → HasStack old new
    → Longer old.stacks saved saved_now
    → Longer old.stacks stamps stamps_now
    → shares_of new.stacks (map f new.figures) saved_now stamps_now mark.counter
    ≡ shares_of old.stacks (map f old.figures) saved stamps mark.counter ++ 0 ∷ []
shares-stack f old new saved saved_now blocks stamps stamps_now mark sums none kept has saved_long stamps_long =
    let same : (n : ℕ) → slice_index (map f new.figures) n ≡ slice_index (map f old.figures) n =
    λ n. figure-at f new n none ∙ ap f (has.figures n) ∙ sym (figure-at f old n none) in
    let past : figures_at old old.stacks ≡ no_figures =
    get_or_past old.figures old.stacks no_figures (let held = kept.sound.stacks in omega arith) in
    let nothing : slice_index (map f new.figures) old.stacks ≡ 0 =
    figure-at f new old.stacks none ∙ ap f (has.figures old.stacks ∙ past) ∙ none in
    ap (λ (n : ℕ). shares_of n (map f new.figures) saved_now stamps_now mark.counter) has.stacks
    ∙ shares-more old.stacks (map f old.figures) (map f new.figures) saved saved_now stamps stamps_now mark.counter
    kept.counter_some
    (stamps_long.values old.stacks ∙ kept.stamps_past old.stacks (omega arith)) nothing same saved_long.values
    stamps_long.values

-- the fields keep their promise with one more stack
pub kept-stack :
    (old new : LedgerState) (saved blocks stamps saved_now blocks_now stamps_now : List ℕ) (mark : Mark)
    → AreKept old saved blocks stamps mark
    → HasStack old new
    → Longer old.stacks saved saved_now
    → Longer old.stacks blocks blocks_now
    → Longer old.stacks stamps stamps_now
    → AreKept new saved_now blocks_now stamps_now mark
kept-stack old new saved blocks stamps saved_now blocks_now stamps_now mark kept has saved_long blocks_long
    stamps_long =
    let stacks = has.stacks in
    let events : new.totals.events ≡ old.totals.events = ap (λ (t : Totals). t.events) has.totals in
    let allocated : new.totals.allocated ≡ old.totals.allocated = ap (λ (t : Totals). t.allocated) has.totals in
    record {
      sound = has.sound;
      saved_long = omega (arith, saved_long.longer);
      blocks_long = omega (arith, blocks_long.longer);
      stamps_long = omega (arith, stamps_long.longer);
      stamps_past = λ n past. stamps_long.values n ∙ kept.stamps_past n (omega arith);
      stamps_within = λ n. (let below = kept.stamps_within n in let same = stamps_long.values n in omega arith);
      counter_some = kept.counter_some;
      counter_within = omega (arith, kept.counter_within);
      shares_sum =
          ap (λ (xs : List ℕ). sum xs)
          (shares-stack (λ (f : Figures). f.live) old new saved saved_now blocks stamps stamps_now mark saved refl kept
          has saved_long stamps_long)
          ∙ sum_by_push (λ (n : ℕ). n) (shares_of old.stacks (live_list old) saved stamps mark.counter) 0 ∙ add-zero _
          ∙ kept.shares_sum;
      total_within = omega (arith, kept.total_within);
      moment_within = omega (arith, kept.moment_within);
    }

-- a cell of 0 alone has nothing anywhere
pub zero-cell : (n : ℕ) → slice_index (0 ∷ []) n ≡ 0
zero-cell zero = refl
zero-cell (suc n) = refl

-- the shares before any event are the live figures
pub shares-new : (f : Figures → ℕ) (ledger : LedgerState) → ledger_sound.IsSound ledger
    → shares_of ledger.stacks (map f ledger.figures) (0 ∷ []) (0 ∷ []) 1 ≡ map f ledger.figures
shares-new f ledger sound =
    shares-new_peak f ledger (0 ∷ []) (0 ∷ []) 0 sound.stacks (λ n. (let nothing = zero-cell n in omega arith))

-- the fields of new peaks keep their promise
pub kept-new : (ledger : LedgerState) → ledger_sound.IsSound ledger → ledger.stacks ≡ 1 → ledger.totals.live ≡ 0
    → AreKept ledger (0 ∷ []) (0 ∷ []) (0 ∷ []) first_mark
kept-new ledger sound one nothing = record {
  sound = sound;
  saved_long = omega arith;
  blocks_long = omega arith;
  stamps_long = omega arith;
  stamps_past = λ n past. zero-cell n;
  stamps_within = λ n. (let none = zero-cell n in omega arith);
  counter_some = omega arith;
  counter_within = omega arith;
  shares_sum =
      ap (λ (xs : List ℕ). sum xs) (shares-new (λ (f : Figures). f.live) ledger sound)
      ∙ sum-map (λ (f : Figures). f.live) ledger.figures ∙ sound.sums.live ∙ nothing;
  total_within = omega arith;
  moment_within = omega arith;
}

-- the share of a held stack that was saved for this peak, and of one that wasn't
pub share-saved_at : (f : Figures → ℕ) (ledger : LedgerState) (saved stamps : List ℕ) (counter stack : ℕ)
    → stack < ledger.stacks → slice_index stamps stack ≡ counter
    → slice_index (shares_of ledger.stacks (map f ledger.figures) saved stamps counter) stack ≡ slice_index saved stack
share-saved_at f ledger saved stamps counter stack held is =
    shares-kept_at ledger.stacks (map f ledger.figures) saved stamps counter stack held is

pub share-live_at : (f : Figures → ℕ) (ledger : LedgerState) (saved stamps : List ℕ) (counter stack : ℕ)
    → f no_figures ≡ 0 → stack < ledger.stacks → slice_index stamps stack ≢ counter
    → slice_index (shares_of ledger.stacks (map f ledger.figures) saved stamps counter) stack
    ≡ f (figures_at ledger stack)
share-live_at f ledger saved stamps counter stack none held isnt =
    shares-live_at ledger.stacks (map f ledger.figures) saved stamps counter stack held isnt
    ∙ figure-at f ledger stack none
