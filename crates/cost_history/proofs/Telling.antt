-- What a history tells after each of its calls.
use Rattle.std.proofs.Common.{◌≡◌, ◌≢◌, ℕ, ◌+◌, ◌<◌, ◌≤◌, List, [], ◌∷◌, ◌++◌, length, take, filter, map, append_assoc}
use Rattle.std.proofs.Common.{Bool, true, false, cond, refl, inl, inr, sym, ap, ◌∙◌, arith}
use Rattle.std.specs.Prelude.{nat_lt, slice_get, Some}
use Rattle.std.proofs.lemmas.List.{append-nil, take_more}
use Rattle.std.proofs.lemmas.Option.{get_or_from_slice_get, slice_get_within}
use Rattle.std.specs.List.{range_with_len}
use Rattle.std.proofs.lemmas.Bool.{both_ways, cases_Bool, cases_eq, cases_lt}
use Rattle.std.proofs.lemmas.List.FromFn.{get_or-range_with_len, length-range_with_len}
use Rattle.cost_history.specs.declared.change.Change.{Change}
use Rattle.cost_history.specs.Changes.{IsBetween, cost_at, cost_behind, says}
use Rattle.cost_history.specs.HistoryView.{IsKept}
use Rattle.cost_history.specs.HistoryState.{AreSaid, HistoryState, TellsNow, changes_to}
use Rattle.cost_history.specs.Marks.{candidates, has, is_marked}
use Rattle.cost_history.proofs.Costs.{between-stacks, behind-append, behind-beyond, behind-passed, behind-said}
use Rattle.cost_history.proofs.Costs.{says-late, says-other, says-own}
use Rattle.cost_history.proofs.Marking.{has-at, has-first, has-others, le-ltb, lt-ltb, unmarked-still}

-- the changes of stacks
abbrev changes_of : ℕ → (ℕ → ℕ) → List ℕ → List Change
changes_of place costs xs = map (λ (stack : ℕ). record { place = place; stack = stack; cost = costs stack }) xs

-- one stack more, by whether it is one that is there
changes-more : (stacks place : ℕ) (costs : ℕ → ℕ) (first : ℕ) (others : List ℕ) (held : Bool)
    → nat_lt first stacks ≡ held
    → changes_to stacks place costs (first ∷ others)
    ≡ changes_of place costs
    (cond {A = List ℕ} held (first ∷ filter (λ stack. nat_lt stack stacks) others)
    (filter (λ stack. nat_lt stack stacks) others))
changes-more stacks place costs first others held is =
    ap (λ (b : Bool). changes_of place costs
    (cond {A = List ℕ} b (first ∷ filter (λ stack. nat_lt stack stacks) others)
    (filter (λ stack. nat_lt stack stacks) others))) is

-- one more change, where it is
changes-first : (stacks place : ℕ) (costs : ℕ → ℕ) (first : ℕ) (others : List ℕ) → first < stacks
    → changes_to stacks place costs (first ∷ others)
    ≡ record { place = place; stack = first; cost = costs first } ∷ changes_to stacks place costs others
changes-first stacks place costs first others held =
    changes-more stacks place costs first others true (lt-ltb first stacks held)

-- and none where it isn't
changes-none : (stacks place : ℕ) (costs : ℕ → ℕ) (first : ℕ) (others : List ℕ) → stacks ≤ first
    → changes_to stacks place costs (first ∷ others) ≡ changes_to stacks place costs others
changes-none stacks place costs first others beyond =
    changes-more stacks place costs first others false (le-ltb first stacks beyond)

-- the change of a stack
abbrev pub change_of : ℕ → (ℕ → ℕ) → ℕ → Change
change_of place costs stack = record { place = place; stack = stack; cost = costs stack }

-- a first stack whose change says nothing may be left out
silent-first : (stacks place : ℕ) (costs : ℕ → ℕ) (first : ℕ) (others : List ℕ) (before seer stack : ℕ)
    → (first < stacks → says (change_of place costs first) seer stack ≡ false)
    → cost_behind before (changes_to stacks place costs (first ∷ others)) seer stack
    ≡ cost_behind before (changes_to stacks place costs others) seer stack
silent-first stacks place costs first others before seer stack silent =
    elim (cases_lt first stacks) [
      | inl held ↦
          ap (λ (xs : List Change). cost_behind before xs seer stack)
          (changes-first stacks place costs first others held)
          ∙ behind-passed before (change_of place costs first) (changes_to stacks place costs others) seer stack
          (silent held)
      | inr beyond ↦
          ap (λ (xs : List Change). cost_behind before xs seer stack)
          (changes-none stacks place costs first others (omega arith))
    ]

-- before their place the new changes say nothing
pub early-cost : (stacks place : ℕ) (costs : ℕ → ℕ) (list : List ℕ) (before seer stack : ℕ) → seer < place
    → cost_behind before (changes_to stacks place costs list) seer stack ≡ before
early-cost stacks place costs [] before seer stack early = refl
early-cost stacks place costs (first ∷ others) before seer stack early =
    silent-first stacks place costs first others before seer stack
    (λ held. says-late (change_of place costs first) seer stack early)
    ∙ early-cost stacks place costs others before seer stack early

-- nor of a stack that isn't listed
pub unlisted-cost : (stacks place : ℕ) (costs : ℕ → ℕ) (list : List ℕ) (before seer stack : ℕ) → has list stack ≡ false
    → cost_behind before (changes_to stacks place costs list) seer stack ≡ before
unlisted-cost stacks place costs [] before seer stack none = refl
unlisted-cost stacks place costs (first ∷ others) before seer stack none =
    elim (cases_eq first stack) [
      | inl own ↦ absurd (both_ways _ none (has-first first others stack own))
      | inr other ↦
          silent-first stacks place costs first others before seer stack
          (λ held. says-other (change_of place costs first) seer stack other)
          ∙ unlisted-cost stacks place costs others before seer stack
          (sym (has-others first others stack other) ∙ none)
    ]

-- from their place on they say what a listed stack costs, where it is there
pub listed-cost : (stacks place : ℕ) (costs : ℕ → ℕ) (list : List ℕ) (before seer stack : ℕ) → place ≤ seer
    → stack < stacks → has list stack ≡ true
    → cost_behind before (changes_to stacks place costs list) seer stack ≡ costs stack
listed-cost stacks place costs [] before seer stack late there is = absurd (both_ways _ refl is)
listed-cost stacks place costs (first ∷ others) before seer stack late there is =
    elim (cases_eq first stack) [
      | inl own ↦
          ap (λ (xs : List Change). cost_behind before xs seer stack)
          (changes-first stacks place costs first others (omega arith))
          ∙ behind-said before (change_of place costs first) (changes_to stacks place costs others) seer stack
          (says-own (change_of place costs first) seer stack late own)
          ∙ elim (cases_Bool (has others stack)) [
            | inl again ↦ listed-cost stacks place costs others (costs first) seer stack late there again
            | inr once ↦ unlisted-cost stacks place costs others (costs first) seer stack once ∙ ap costs own
          ]
      | inr other ↦
          silent-first stacks place costs first others before seer stack
          (λ held. says-other (change_of place costs first) seer stack other)
          ∙ listed-cost stacks place costs others before seer stack late there
          (sym (has-others first others stack other) ∙ is)
    ]

-- a stack that is there is a candidate where it is marked
has-all : (stacks stack : ℕ) → stack < stacks → has (range_with_len 0 stacks) stack ≡ true
has-all stacks stack there =
    has-at (range_with_len 0 stacks) stack stack (let long = length-range_with_len 0 stacks in omega arith)
    (let at = get_or-range_with_len 0 stacks stack 0 there in omega arith)

candidate-is : (all : Bool) (listed : List ℕ) (stacks stack : ℕ) → stack < stacks
    → is_marked (record { listed = listed; all = all }) stack ≡ true
    → has (candidates (record { listed = listed; all = all }) stacks) stack ≡ true
candidate-is false listed stacks stack there marked = marked
candidate-is true listed stacks stack there marked = has-all stacks stack there

-- one that isn't marked is none
unmarked-none : (all : Bool) (listed : List ℕ) (stacks stack : ℕ)
    → is_marked (record { listed = listed; all = all }) stack ≡ false
    → has (candidates (record { listed = listed; all = all }) stacks) stack ≡ false
unmarked-none false listed stacks stack unmarked = unmarked
unmarked-none true listed stacks stack unmarked = absurd (both_ways _ unmarked refl)

-- a place that is kept: what was said before it stays
pub kept-before : (changes : List Change) (stacks place : ℕ) (costs : ℕ → ℕ) (list : List ℕ) (seer stack : ℕ)
    → seer < place
    → cost_at (changes ++ changes_to stacks place costs list) seer stack ≡ cost_at changes seer stack
kept-before changes stacks place costs list seer stack early =
    behind-append 0 changes (changes_to stacks place costs list) seer stack
    ∙ early-cost stacks place costs list (cost_at changes seer stack) seer stack early

-- and from it on each stack costs what is said
pub kept-here : (state : HistoryState) (stacks place : ℕ) (costs : ℕ → ℕ) (answers : ℕ → ℕ → Type 0)
    (last seer stack : ℕ)
    → AreSaid answers stacks costs
    → state.stacks ≤ stacks
    → IsBetween state.stacks 0 state.changes last
    → state.last ≤ place
    → TellsNow state costs
    → place ≤ seer
    → cost_at (state.changes ++ changes_to stacks place costs (candidates state.marks stacks)) seer stack ≡ costs stack
kept-here state stacks place costs answers last seer stack said grown between ascends tells late =
    behind-append 0 state.changes (changes_to stacks place costs (candidates state.marks stacks)) seer stack
    ∙ elim (cases_lt stack stacks) [
      | inl there ↦ elim (cases_Bool (is_marked state.marks stack)) [
        | inl marked ↦ listed-cost stacks place costs (candidates state.marks stacks) (cost_at state.changes seer stack)
            seer stack late there (candidate-is state.marks.all state.marks.listed stacks stack there marked)
        | inr unmarked ↦
            unlisted-cost stacks place costs (candidates state.marks stacks) (cost_at state.changes seer stack) seer
            stack (unmarked-none state.marks.all state.marks.listed stacks stack unmarked)
            ∙ tells.unmarked stack seer unmarked (omega arith)
      ]
      | inr beyond ↦
          beyond-cost stacks place costs (candidates state.marks stacks) (cost_at state.changes seer stack) seer stack
          (omega arith)
          ∙ behind-beyond state.stacks 0 state.changes last 0 seer stack (omega arith) between
          ∙ sym (said.none stack (omega arith))
    ]
  where
    -- of a stack that isn't there the new changes say nothing
    beyond-cost : (stacks place : ℕ) (costs : ℕ → ℕ) (list : List ℕ) (before seer stack : ℕ) → stacks ≤ stack
        → cost_behind before (changes_to stacks place costs list) seer stack ≡ before
    beyond-cost stacks place costs [] before seer stack beyond = refl
    beyond-cost stacks place costs (first ∷ others) before seer stack beyond =
        silent-first stacks place costs first others before seer stack
        (λ held. says-other (change_of place costs first) seer stack (λ same. absurd (omega arith)))
        ∙ beyond-cost stacks place costs others before seer stack beyond

-- the changes of two lists, one after the other
changes-append : (stacks place : ℕ) (costs : ℕ → ℕ) (xs ys : List ℕ)
    → changes_to stacks place costs (xs ++ ys) ≡ changes_to stacks place costs xs ++ changes_to stacks place costs ys
changes-append stacks place costs [] ys = refl
changes-append stacks place costs (first ∷ others) ys =
    elim (cases_lt first stacks) [
      | inl held ↦
          changes-first stacks place costs first (others ++ ys) held
          ∙ ap (λ (cs : List Change). change_of place costs first ∷ cs) (changes-append stacks place costs others ys)
          ∙ sym
          (ap (λ (cs : List Change). cs ++ changes_to stacks place costs ys)
          (changes-first stacks place costs first others held))
      | inr beyond ↦
          changes-none stacks place costs first (others ++ ys) (omega arith)
          ∙ changes-append stacks place costs others ys
          ∙ sym
          (ap (λ (cs : List Change). cs ++ changes_to stacks place costs ys)
          (changes-none stacks place costs first others (omega arith)))
    ]

-- the next one of a list
front-more : (list : List ℕ) (i stack : ℕ) → slice_get list i ≡ Some stack
    → take (i + 1) list ≡ take i list ++ stack ∷ []
front-more list i stack at =
    take_more list i 0 (slice_get_within list i stack at)
    ∙ ap (λ (n : ℕ). take i list ++ n ∷ []) (get_or_from_slice_get list i stack 0 at)

-- where it is there, its change is one more
pub changes-held :
    (initial before : List Change) (stacks place : ℕ) (costs : ℕ → ℕ) (list : List ℕ) (i stack cost : ℕ)
    → slice_get list i ≡ Some stack
    → stack < stacks
    → cost ≡ costs stack
    → before ≡ initial ++ changes_to stacks place costs (take i list)
    → before ++ record { place = place; stack = stack; cost = cost } ∷ []
    ≡ initial ++ changes_to stacks place costs (take (i + 1) list)
changes-held initial before stacks place costs list i stack cost at there is was =
    ap (λ (xs : List Change). xs ++ record { place = place; stack = stack; cost = cost } ∷ []) was
    ∙ ap (λ (n : ℕ). (initial ++ changes_to stacks place costs (take i list))
    ++ record { place = place; stack = stack; cost = n } ∷ []) is
    ∙ append_assoc initial (changes_to stacks place costs (take i list)) (change_of place costs stack ∷ [])
    ∙ ap (λ (xs : List Change). initial ++ xs)
    (sym (ap (changes_to stacks place costs) (front-more list i stack at)
    ∙ changes-append stacks place costs (take i list) (stack ∷ [])
    ∙ ap (λ (xs : List Change). changes_to stacks place costs (take i list) ++ xs)
    (changes-first stacks place costs stack [] there)))

-- where it isn't, there is no change more
pub changes-passed :
    (stacks place : ℕ) (costs : ℕ → ℕ) (list : List ℕ) (i stack : ℕ)
    → slice_get list i ≡ Some stack
    → stacks ≤ stack
    → changes_to stacks place costs (take i list) ≡ changes_to stacks place costs (take (i + 1) list)
changes-passed stacks place costs list i stack at beyond =
    sym (ap (changes_to stacks place costs) (front-more list i stack at)
    ∙ changes-append stacks place costs (take i list) (stack ∷ [])
    ∙ ap (λ (xs : List Change). changes_to stacks place costs (take i list) ++ xs)
    (changes-none stacks place costs stack [] beyond)
    ∙ append-nil (changes_to stacks place costs (take i list)))

-- what a history tells where it is made
pub tells-none : (state : HistoryState) (costs : ℕ → ℕ) → state.changes ≡ [] → ((stack : ℕ) → costs stack ≡ 0)
    → TellsNow state costs
tells-none state costs none free =
    record {
      unmarked = λ stack place unmarked late. ap (λ (xs : List Change). cost_at xs place stack) none
          ∙ sym (free stack);
    }

-- where a stack is marked, the others cost what they did
pub tells-marked : (old new : HistoryState) (before after : ℕ → ℕ) (stack : ℕ)
    → new.changes ≡ old.changes
    → new.last ≡ old.last
    → is_marked new.marks stack ≡ true
    → ((other : ℕ) → is_marked old.marks other ≡ true → is_marked new.marks other ≡ true)
    → TellsNow old before
    → ((other : ℕ) → other ≢ stack → after other ≡ before other)
    → TellsNow new after
tells-marked old new before after stack changes last marked still tells others = record {
  unmarked = λ other place unmarked late.
      (let was = unmarked-still old.marks new.marks stack other marked still unmarked in
      ap (λ (xs : List Change). cost_at xs place other) changes
      ∙ tells.unmarked other place was.1 (omega arith)
      ∙ sym (others other was.0));
}

-- more cells
pub kept-grown : (changes : List Change) (cells more : List ℕ) (last : ℕ) → length cells ≤ length more
    → IsKept changes cells last → IsKept changes more last
kept-grown changes cells more last up kept =
    record {
      between = between-stacks (length cells) (length more) 0 changes last up kept.between;
      last_most = kept.last_most;
    }
