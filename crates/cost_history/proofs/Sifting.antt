-- Reading changes from their end, and keeping those that a kept place sees.
use Rattle.std.proofs.Common.{◌≡◌, ℕ, ◌+◌, ◌-◌, ◌^◌, ◌<◌, ◌≤◌, List, [], ◌∷◌, ◌++◌, length, get_or, set, take, drop}
use Rattle.std.proofs.Common.{inl, inr, sym, ap, subst, ◌∙◌, arith, append_assoc}
use Rattle.std.specs.Prelude.{◌⊎◌, All, Contains, slice_index}
use Rattle.std.proofs.lemmas.List.Elements.{All-cons, All-nil}
use Rattle.std.proofs.lemmas.List.Kept.{AllPairs-cons}
use Rattle.std.proofs.lemmas.List.Sorted.{Contains-permutation, IsPermutation-sym}
use Rattle.std.specs.List.Sorted.{IsPermutation}
use Rattle.std.proofs.lemmas.Bool.{cases_eq}
use Rattle.std.proofs.lemmas.List.{append-nil, drop_all, drop-set, get_or-set_other, get_or-set_same, length-set}
use Rattle.std.proofs.lemmas.List.{take_all, take_more, take-set-le}
use Rattle.cost_history.specs.declared.change.Change.{Change}
use Rattle.cost_history.specs.Changes.{AreParted, IsAsked, IsBetween, IsParting, cost_at}
use Rattle.cost_history.specs.Seen.{AreFirst, AreSeen, Has}
use Rattle.cost_history.proofs.Costs.{between-at, between-before, between-each, between-front, between-raise}
use Rattle.cost_history.proofs.Costs.{between-without, has-later, says-own, without}

-- of the changes those from i on are read, and those from left on are kept of them
pub record Sifting (whole changes : List Change) (seen kept : List ℕ) (last left i : ℕ) : Type 0 where
  pub before : i ≤ left
  pub within : left ≤ length changes
  pub between : IsBetween (length seen) 0 (take i changes ++ drop left changes) last
  pub found : AreSeen seen (drop left changes)
  pub first : AreFirst seen (drop left changes)
  pub parted : AreParted kept (drop left changes)
  pub costs : (place : ℕ) → IsAsked kept last place → (stack : ℕ)
      → cost_at (take i changes ++ drop left changes) place stack ≡ cost_at whole place stack

-- before any is read
pub sifting-all :
    (changes : List Change) (seen kept : List ℕ) (last left : ℕ)
    → left ≡ length changes
    → IsBetween (length seen) 0 changes last
    → AreSeen seen []
    → Sifting changes changes seen kept last left left
sifting-all changes seen kept last left all between none =
    let same : take left changes ++ drop left changes ≡ changes =
    ap (λ (xs : List Change). xs ++ drop left changes) (take_all left changes (omega arith))
    ∙ ap (λ (xs : List Change). changes ++ xs) (drop_all left changes (omega arith))
    ∙ append-nil changes
    in
    record {
      before = omega arith;
      within = omega arith;
      between = subst (λ (xs : List Change). IsBetween (length seen) 0 xs last) (sym same) between;
      found = subst (λ (xs : List Change). AreSeen seen xs) (sym (drop_all left changes (omega arith))) none;
      first =
          subst (λ (xs : List Change). AreFirst seen xs) (sym (drop_all left changes (omega arith)))
          (All-nil (λ (change : Change). slice_index seen change.stack ≤ change.place));
      parted =
          subst (λ (xs : List Change). AreParted kept xs) (sym (drop_all left changes (omega arith)))
          (record { each = λ i j d early within. absurd (omega arith) });
      costs = λ place asked stack. ap (λ (xs : List Change). cost_at xs place stack) same;
    }

-- the change that is read next stands between those in front and those that are kept
pub next-is :
    (changes : List Change) (kept : List Change) (change : Change) (i j : ℕ)
    → j ≡ i + 1
    → i < length changes
    → change ≡ get_or changes i change
    → take j changes ++ kept ≡ take i changes ++ change ∷ kept
next-is changes kept change i j is within read =
    ap (λ (n : ℕ). take n changes ++ kept) is
    ∙ ap (λ (xs : List Change). xs ++ kept)
    (take_more changes i change within ∙ ap (λ (c : Change). take i changes ++ c ∷ []) (sym read))
    ∙ append_assoc (take i changes) (change ∷ []) kept

-- it is taken out where one that is kept makes it good before the next kept place
pub sifting-out :
    (whole changes : List Change) (seen kept : List ℕ) (last left i j : ℕ) (change : Change) (until : ℕ)
    → Sifting whole changes seen kept last left j
    → j ≡ i + 1
    → change ≡ get_or changes i change
    → ((place : ℕ) → IsAsked kept last place → change.place ≤ place → until ≤ place)
    → until < 2 ^ 64 - 1
    → slice_index seen change.stack ≤ until
    → Sifting whole changes seen kept last left i
sifting-out whole changes seen kept last left i j change until now is read asked small good =
    let before = now.before in
    let within = now.within in
    let rest : List Change = drop left changes in
    let same = next-is changes (drop left changes) change i j is (omega arith) read in
    let between : IsBetween (length seen) 0 (take i changes ++ change ∷ drop left changes) last =
    subst (λ (xs : List Change). IsBetween (length seen) 0 xs last) same now.between in
    let at = between-at (length seen) 0 (take i changes) change (drop left changes) last between in
    let has : Has (drop left changes) (slice_index seen change.stack) change.stack =
    now.found change.stack at.0 (omega arith) in
    record {
      before = omega arith;
      within = within;
      between = between-without (length seen) 0 (take i changes) change (drop left changes) last between;
      found = now.found;
      first = now.first;
      parted = now.parted;
      costs = λ place is_asked stack.
          sym (without (take i changes) change (drop left changes) 0 place stack
          (λ early. has-later (drop left changes) (slice_index seen change.stack) place change.stack
          (let soon = asked place is_asked early in omega arith) has))
          ∙ sym (ap (λ (xs : List Change). cost_at xs place stack) same)
          ∙ now.costs place is_asked stack;
    }

-- beside its stack stands its place, which is no later than those of the changes behind it
first-more : (seen : List ℕ) (change : Change) (rest : List Change)
    → change.stack < length seen
    → AreFirst seen rest
    → All (λ (later : Change). change.place ≤ later.place) rest
    → AreFirst (set seen change.stack change.place) (change ∷ rest)
first-more seen change rest held first late =
    All-cons (λ (later : Change). slice_index (set seen change.stack change.place) later.stack ≤ later.place) change
    rest (let value = get_or-set_same seen change.stack change.place 0 held in omega arith)
    (λ k d inside.
    (let later : Change = get_or rest k d in
    elim (cases_eq later.stack change.stack) [
      | inl own ↦
          (let value = ap (λ (n : ℕ). slice_index (set seen change.stack change.place) n) own
          ∙ get_or-set_same seen change.stack change.place 0 held in let above = late k d inside in omega arith)
      | inr other ↦
          (let value = get_or-set_other seen change.stack later.stack change.place 0 other in let was = first k d
          inside in omega arith)
    ]))

-- where its stack's next change is behind the next kept place, that place stands between
parted-more : (seen kept : List ℕ) (change : Change) (rest : List Change) (until last : ℕ)
    → AreFirst seen rest
    → AreParted kept rest
    → All (λ (later : Change). later.place ≤ last) rest
    → (until ≡ last) ⊎ (Contains kept until × (change.place ≤ until))
    → until < slice_index seen change.stack
    → AreParted kept (change ∷ rest)
parted-more seen kept change rest until last first parted within stops behind = record {
  each = AllPairs-cons (λ earlier later. earlier.stack ≡ later.stack → IsParting kept earlier later) change rest
      (λ k d inside own.
      (let later : Change = get_or rest k d in
      let same : slice_index seen change.stack ≡ slice_index seen later.stack =
      ap (λ (n : ℕ). slice_index seen n) own in
      let least = first k d inside in
      let most = within k d inside in
      by_stop later stops (omega arith) most))
      parted.each;
} where
  by_stop : (later : Change) → (until ≡ last) ⊎ (Contains kept until × (change.place ≤ until)) → until < later.place
      → later.place ≤ last → IsParting kept change later
  by_stop later (inl end) below most = absurd (omega arith)
  by_stop later (inr at) below most = record { place = until; is_kept = at.0; sees = at.1; before = below }

-- otherwise it is kept
pub sifting-kept :
    (whole changes : List Change) (seen kept : List ℕ) (last left i j : ℕ) (change : Change) (until : ℕ)
    → Sifting whole changes seen kept last left j
    → j ≡ i + 1
    → change ≡ get_or changes i change
    → (until ≡ last) ⊎ (Contains kept until × (change.place ≤ until))
    → until < slice_index seen change.stack
    → Sifting whole (set changes (left - 1) change) (set seen change.stack change.place) kept last (left - 1) i
sifting-kept whole changes seen kept last left i j change until now is read stops behind =
    let before = now.before in
    let within = now.within in
    let same = next-is changes (drop left changes) change i j is (omega arith) read in
    let suc_left : left - 1 + 1 ≡ left = omega arith in
    let rest_is : drop (left - 1) (set changes (left - 1) change) ≡ change ∷ drop left changes =
    drop-set changes (left - 1) change (omega arith) ∙ ap (λ (n : ℕ). change ∷ drop n changes) suc_left
    in
    let front_is : take i (set changes (left - 1) change) ≡ take i changes =
    take-set-le i changes (left - 1) change (omega arith) in
    let both : take i (set changes (left - 1) change) ++ drop (left - 1) (set changes (left - 1) change)
    ≡ take j changes ++ drop left changes =
    ap (λ (xs : List Change). xs ++ drop (left - 1) (set changes (left - 1) change)) front_is
    ∙ ap (λ (xs : List Change). take i changes ++ xs) rest_is
    ∙ sym same
    in
    let between : IsBetween (length seen) 0 (take i changes ++ change ∷ drop left changes) last =
    subst (λ (xs : List Change). IsBetween (length seen) 0 xs last) same now.between in
    let at = between-at (length seen) 0 (take i changes) change (drop left changes) last between in
    let held = at.0 in
    let long : length (set seen change.stack change.place) ≡ length seen = length-set seen change.stack change.place in
    let rest : List Change = drop left changes in
    let each = between-each (length seen) change.place (drop left changes) last at.2 in
    record {
      before = omega arith;
      within = (let kept_long = length-set changes (left - 1) change in omega arith);
      between =
          subst (λ (n : ℕ). IsBetween n 0
          (take i (set changes (left - 1) change) ++ drop (left - 1) (set changes (left - 1) change)) last) (sym
          long)
          (subst (λ (xs : List Change). IsBetween (length seen) 0 xs last) (sym both) now.between);
      found = subst (λ (xs : List Change). AreSeen (set seen change.stack change.place) xs) (sym rest_is)
          (λ stack within_seen small. elim (cases_eq stack change.stack) [
            | inl own ↦ inl (says-own change (slice_index (set seen change.stack change.place) stack) stack
                (let value = ap (λ (n : ℕ). slice_index (set seen change.stack change.place) n) own
                ∙ get_or-set_same seen change.stack change.place 0 held in omega arith)
                (sym own))
            | inr other ↦
                (let value : slice_index (set seen change.stack change.place) stack
                ≡ slice_index seen stack = get_or-set_other seen change.stack stack change.place 0 other in
                inr
                (subst (λ (n : ℕ). Has (drop left changes) n stack) (sym value)
                (now.found stack (omega arith) (omega arith))))
          ]);
      first = subst (λ (xs : List Change). AreFirst (set seen change.stack change.place) xs) (sym rest_is)
          (first-more seen change rest held now.first (λ k d inside. (each k d inside).0));
      parted = subst (λ (xs : List Change). AreParted kept xs) (sym rest_is)
          (parted-more seen kept change rest until last now.first now.parted (λ k d inside. (each k d inside).1) stops
          behind);
      costs =
          λ place is_asked stack. ap (λ (xs : List Change). cost_at xs place stack) both
          ∙ now.costs place is_asked stack;
    }

-- its stack has a cell
pub sifting-held :
    (whole changes : List Change) (seen kept : List ℕ) (last left i j : ℕ) (change : Change)
    → Sifting whole changes seen kept last left j
    → j ≡ i + 1
    → change ≡ get_or changes i change
    → change.stack < length seen
sifting-held whole changes seen kept last left i j change now is read =
    let before = now.before in
    let within = now.within in
    let same = next-is changes (drop left changes) change i j is (omega arith) read in
    (between-at (length seen) 0 (take i changes) change (drop left changes) last
    (subst (λ (xs : List Change). IsBetween (length seen) 0 xs last) same now.between)).0

-- where one change more is read
module _ (whole changes : List Change) (seen kept : List ℕ) (last left i j next : ℕ) (change : Change)
    (now : Sifting whole changes seen kept last left j) (is : j ≡ i + 1) (read : change ≡ get_or changes i change) where
  -- the kept place that comes next is behind all that is left to read
  pub ahead-next : IsBetween (length seen) 0 (take j changes) (slice_index kept next)
      → IsBetween (length seen) 0 (take i changes) change.place × (change.place ≤ slice_index kept next)
  ahead-next ahead =
      let before = now.before in
      let within = now.within in
      let same : take j changes ≡ take i changes ++ change ∷ [] =
      ap (λ (n : ℕ). take n changes) is ∙ take_more changes i change (omega arith)
      ∙ ap (λ (c : Change). take i changes ++ c ∷ []) (sym read)
      in
      between-front (length seen) 0 (take i changes) change (slice_index kept next)
      (subst (λ (xs : List Change). IsBetween (length seen) 0 xs (slice_index kept next)) same ahead)

  -- and so is the one that comes next then, where the change is taken out
  pub ahead-out : change.place ≤ slice_index kept next
      → IsBetween (length seen) 0 (take i changes) (slice_index kept next)
  ahead-out up =
      let before = now.before in
      let within = now.within in
      let same = next-is changes (drop left changes) change i j is (omega arith) read in
      between-raise (length seen) 0 (take i changes) change.place (slice_index kept next) up
      (between-before (length seen) 0 (take i changes) change (drop left changes) last
      (subst (λ (xs : List Change). IsBetween (length seen) 0 xs last) same now.between))

  -- and where it is kept
  pub ahead-kept : change.place ≤ slice_index kept next
      → IsBetween (length (set seen change.stack change.place)) 0 (take i (set changes (left - 1) change))
      (slice_index kept next)
  ahead-kept up =
      let before = now.before in
      let front_is : take i (set changes (left - 1) change) ≡ take i changes =
      take-set-le i changes (left - 1) change (omega arith) in
      let long : length (set seen change.stack change.place) ≡ length seen =
      length-set seen change.stack change.place in
      subst (λ (n : ℕ). IsBetween n 0 (take i (set changes (left - 1) change)) (slice_index kept next)) (sym long)
      (subst (λ (xs : List Change). IsBetween (length seen) 0 xs (slice_index kept next)) (sym front_is)
      (ahead-out up))

-- the kept places in another order
pub asked-moved : (kept sorted : List ℕ) (last place : ℕ) → IsPermutation kept sorted → IsAsked kept last place
    → IsAsked sorted last place
asked-moved kept sorted last place moved asked =
    elim asked [ inl held ↦ inl (Contains-permutation kept sorted place moved held) | inr late ↦ inr late ]

pub parted-moved : (kept sorted : List ℕ) (changes : List Change) → IsPermutation kept sorted → AreParted sorted changes
    → AreParted kept changes
parted-moved kept sorted changes moved parted = record {
  each = λ i j d early within own.
      (let at = parted.each i j d early within own in
      record {
        place = at.place;
        is_kept = Contains-permutation sorted kept at.place (IsPermutation-sym kept sorted moved) at.is_kept;
        sees = at.sees;
        before = at.before;
      });
}
