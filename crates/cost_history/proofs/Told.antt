-- A replay: the costs that the first so many changes say.
use Rattle.std.proofs.Common.{◌≡◌, ℕ, ◌+◌, ◌<◌, ◌≤◌, zero, suc, List, [], ◌∷◌, ◌++◌, length, get_or, set, take, drop}
use Rattle.std.proofs.Common.{inl, inr, sym, ap, subst, ◌∙◌, arith}
use Rattle.std.specs.Prelude.{slice_get, slice_index, Some, None}
use Rattle.std.proofs.lemmas.Option.{get_or_from_slice_get, slice_get_within}
use Rattle.std.proofs.lemmas.Bool.{cases_eq, cases_lt}
use Rattle.std.proofs.lemmas.List.{drop_more, get_or_past, get_or_default, get_or-set_other, get_or-set_same}
use Rattle.std.proofs.lemmas.List.{length-set, take_all, take_more, take-append-drop}
use Rattle.cost_history.specs.declared.change.Change.{Change}
use Rattle.cost_history.specs.Changes.{IsBetween, cost_at, cost_behind}
use Rattle.cost_history.specs.ReplayState.{AreOrdered, AreTold, IsDue, IsPast}
use Rattle.cost_history.proofs.Costs.{behind-append, behind-beyond, behind-late, behind-passed, behind-said, between-at}
use Rattle.cost_history.proofs.Costs.{says-other, says-own}

-- costs that are told at a place are told at a later one
pub told-later : (costs : List ℕ) (changes : List Change) (next place later : ℕ) → place ≤ later
    → AreTold costs changes next place → AreTold costs changes next later
told-later costs changes next place later up told =
    record { within = told.within; told = λ stack p held after. told.told stack p held (omega arith) }

-- none is told before the first
pub told-none : (costs : List ℕ) (changes : List Change) (place : ℕ)
    → ((stack : ℕ) → stack < length costs → slice_index costs stack ≡ 0) → AreTold costs changes 0 place
told-none costs changes place zeros = record { within = omega arith; told = λ stack later held after. zeros stack held }

-- the changes parted at one of them
pub parted : (changes : List Change) (next : ℕ) (change : Change) → next < length changes
    → change ≡ get_or changes next change → take next changes ++ change ∷ drop (next + 1) changes ≡ changes
parted changes next change within read =
    ap (λ (c : Change). take next changes ++ c ∷ drop (next + 1) changes) read
    ∙ ap (λ (xs : List Change). take next changes ++ xs) (sym (drop_more changes next change within))
    ∙ take-append-drop next changes

-- it is of a stack that has a cost, and those behind it are later
pub part-at :
    (stacks : ℕ) (changes : List Change) (next : ℕ) (change : Change) (last : ℕ)
    → next < length changes
    → change ≡ get_or changes next change
    → IsBetween stacks 0 changes last
    → (change.stack < stacks) × (change.place ≤ last) × IsBetween stacks change.place (drop (next + 1) changes) last
part-at stacks changes next change last within read between =
    between-at stacks 0 (take next changes) change (drop (next + 1) changes) last
    (subst (λ (xs : List Change). IsBetween stacks 0 xs last) (sym (parted changes next change within read)) between)

-- one more change is told
pub told-more :
    (costs : List ℕ) (changes : List Change) (next place : ℕ) (change : Change)
    → AreTold costs changes next place
    → next < length changes
    → change ≡ get_or changes next change
    → change.place ≤ place
    → change.stack < length costs
    → AreTold (set costs change.stack change.cost) changes (next + 1) place
told-more costs changes next place change told within read early held =
    let long = length-set costs change.stack change.cost in
    let front : take (next + 1) changes ≡ take next changes ++ change ∷ [] =
    take_more changes next change within ∙ ap (λ (c : Change). take next changes ++ c ∷ []) (sym read)
    in
    record {
      within = omega arith;
      told = λ stack later stack_held after.
          (let is : cost_behind 0 (take (next + 1) changes) later stack
          ≡ cost_behind (cost_behind 0 (take next changes) later stack) (change ∷ []) later stack =
          ap (λ (xs : List Change). cost_behind 0 xs later stack) front
          ∙ behind-append 0 (take next changes) (change ∷ []) later stack
          in
          elim (cases_eq change.stack stack) [
            | inl own ↦
                ap (λ (n : ℕ). slice_index (set costs change.stack change.cost) n) (sym own)
                ∙ get_or-set_same costs change.stack change.cost 0 held
                ∙ sym
                (is
                ∙ behind-said (cost_behind 0 (take next changes) later stack) change [] later stack
                (says-own change later stack (omega arith) own))
            | inr other ↦
                get_or-set_other costs change.stack stack change.cost 0 (λ e. other (sym e))
                ∙ told.told stack later (omega arith) after
                ∙ sym
                (is
                ∙ behind-passed (cost_behind 0 (take next changes) later stack) change [] later stack
                (says-other change later stack other))
          ]);
    }

-- where all are told, or the next one is behind the place, the costs are those of the place
pub told-all : (costs : List ℕ) (changes : List Change) (next place : ℕ) → AreTold costs changes next place
    → length changes ≤ next → (stack : ℕ) → stack < length costs → slice_index costs stack ≡ cost_at changes place stack
told-all costs changes next place told all stack held =
    told.told stack place held (omega arith)
    ∙ ap (λ (xs : List Change). cost_behind 0 xs place stack) (take_all next changes all)

pub told-whole :
    (costs : List ℕ) (changes : List Change) (next place : ℕ) (change : Change)
    → AreTold costs changes next place
    → AreOrdered (length costs) changes
    → next < length changes
    → change ≡ get_or changes next change
    → place < change.place
    → (stack : ℕ)
    → stack < length costs
    → slice_index costs stack ≡ cost_at changes place stack
told-whole costs changes next place change told ordered within read late stack held =
    let at = part-at (length costs) changes next change ordered.0 within read ordered.1 in
    told.told stack place held (omega arith)
    ∙ sym (behind-late (length costs) change.place (change ∷ drop (next + 1) changes) ordered.0
    (cost_behind 0 (take next changes) place stack) place stack late (at.0, omega arith, at.2))
    ∙ sym (behind-append 0 (take next changes) (change ∷ drop (next + 1) changes) place stack)
    ∙ ap (λ (xs : List Change). cost_behind 0 xs place stack) (parted changes next change within read)

-- a change that is due stands at the number
pub due-within : (changes : List Change) (next place : ℕ) → IsDue changes next place → next < length changes
due-within changes next place due = slice_get_within changes next due.0 due.1

pub due-early : (changes : List Change) (next place : ℕ) (default : Change) → IsDue changes next place
    → (get_or changes next default).place ≤ place
due-early changes next place default due =
    let same : get_or changes next default ≡ due.0 = get_or_from_slice_get changes next due.0 default due.1 in
    let early = due.2 in
    let place_is = ap (λ (c : Change). c.place) same in
    omega arith

pub read-again : (changes : List Change) (next : ℕ) (default : Change) → next < length changes
    → get_or changes next default ≡ get_or changes next (get_or changes next default)
read-again changes next default within = get_or_default changes next default (get_or changes next default) within

-- its stack has a cost
pub due-held : (costs : List ℕ) (changes : List Change) (next place : ℕ) (default : Change)
    → AreOrdered (length costs) changes → IsDue changes next place → (get_or changes next default).stack < length costs
due-held costs changes next place default ordered due =
    let within = due-within changes next place due in
    (part-at (length costs) changes next (get_or changes next default) ordered.0 within
    (read-again changes next default within) ordered.1).0

pub told-due :
    (costs : List ℕ) (changes : List Change) (next place : ℕ) (default : Change)
    → AreTold costs changes next place
    → AreOrdered (length costs) changes
    → IsDue changes next place
    → AreTold (set costs (get_or changes next default).stack (get_or changes next default).cost) changes (next + 1)
    place
told-due costs changes next place default told ordered due =
    let within = due-within changes next place due in
    told-more costs changes next place (get_or changes next default) told within
    (read-again changes next default within) (due-early changes next place default due)
    (due-held costs changes next place default ordered due)

some-none : (changes : List Change) (next : ℕ) → next < length changes → slice_get changes next ≡ None → ⊥
some-none [] next within none = omega arith
some-none (c ∷ cs) zero within none = (let e : Some c ≡ None = none in cc)
some-none (c ∷ cs) (suc next) within none = some-none cs next (omega arith) none

-- where none is due, the costs are those of the place
told-here : (costs : List ℕ) (changes : List Change) (next place : ℕ) → AreTold costs changes next place
    → AreOrdered (length costs) changes → IsPast changes next place → (stack : ℕ) → stack < length costs
    → slice_index costs stack ≡ cost_at changes place stack
told-here costs changes next place told ordered (inl none) stack held =
    elim (cases_lt next (length changes)) [
      | inl within ↦ absurd (some-none changes next within none)
      | inr past ↦ told-all costs changes next place told past stack held
    ]
told-here costs changes next place told ordered (inr behind) stack held =
    told-whole costs changes next place behind.0 told ordered (slice_get_within changes next behind.0 behind.1)
    (sym (get_or_from_slice_get changes next behind.0 behind.0 behind.1)) behind.2 stack held

-- and a stack without a cell costs nothing
pub told-past : (costs : List ℕ) (changes : List Change) (next place : ℕ) → AreTold costs changes next place
    → AreOrdered (length costs) changes → IsPast changes next place → (stack : ℕ)
    → slice_index costs stack ≡ cost_at changes place stack
told-past costs changes next place told ordered past stack =
    elim (cases_lt stack (length costs)) [
      | inl held ↦ told-here costs changes next place told ordered past stack held
      | inr beyond ↦ get_or_past costs stack 0 (omega arith)
          ∙ sym (behind-beyond (length costs) 0 changes ordered.0 0 place stack (omega arith) ordered.1)
    ]
