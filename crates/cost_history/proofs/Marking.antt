-- Marks: what is listed, and what is marked.
use Rattle.std.proofs.Common.{◌≡◌, ◌≢◌, ℕ, ◌<◌, ◌≤◌, zero, suc, List, [], ◌∷◌, ◌++◌, length, get_or, take, Bool, true}
use Rattle.std.proofs.Common.{false, cond, refl, inl, inr, sym, ap, ◌∙◌, arith}
use Rattle.std.specs.Prelude.{◌==◌, ◌||◌, nat_lt, slice_get, slice_index, Some}
use Rattle.std.specs.List.{range_with_len}
use Rattle.std.proofs.lemmas.List.FromFn.{get_or-range_with_len, length-range_with_len}
use Rattle.std.proofs.lemmas.Option.{slice_get-get_or}
use Rattle.std.proofs.lemmas.Bool.{both_ways, cases_Bool, cases_eq, eq-eqb, ne_eqb}
use Rattle.std.proofs.lemmas.Bool.Decides.{leb_tells}
use Rattle.std.proofs.lemmas.List.{get_or_read, get_or-take, length-take-le}
use Rattle.cost_history.specs.Marks.{MarksState, RoomyMarks, candidates, has, is_marked, marked_with, with_mark}
use Rattle.cost_history.specs.MarksView.{listed_of}

-- whether a number is below another
pub lt-ltb : (a b : ℕ) → a < b → nat_lt a b ≡ true
lt-ltb a b below = elim (leb_tells (suc a) b) [ inl is ↦ is.0 | inr above ↦ absurd (let high = above.1 in omega arith) ]

pub le-ltb : (a b : ℕ) → b ≤ a → nat_lt a b ≡ false
le-ltb a b above =
    elim (leb_tells (suc a) b) [ inl is ↦ absurd (let low = is.1 in omega arith) | inr no_less ↦ no_less.0 ]

pub has-first : (first : ℕ) (others : List ℕ) (stack : ℕ) → first ≡ stack → has (first ∷ others) stack ≡ true
has-first first others stack own = ap (λ (b : Bool). b || has others stack) (eq-eqb first stack own)

pub has-others : (first : ℕ) (others : List ℕ) (stack : ℕ) → first ≢ stack
    → has (first ∷ others) stack ≡ has others stack
has-others first others stack other = ap (λ (b : Bool). b || has others stack) (ne_eqb first stack other)

-- a stack that stands in the list is one of it
pub has-at : (xs : List ℕ) (stack i : ℕ) → i < length xs → slice_index xs i ≡ stack → has xs stack ≡ true
has-at [] stack i within is = absurd (omega arith)
has-at (x ∷ xs) stack zero within is = has-first x xs stack is
has-at (x ∷ xs) stack (suc i) within is =
    elim (cases_eq x stack) [
      | inl own ↦ has-first x xs stack own
      | inr other ↦ has-others x xs stack other ∙ has-at xs stack i (omega arith) is
    ]

-- and so it is among the first of a longer one
pub has-front : (order : List ℕ) (count place stack : ℕ) → count ≤ length order → place < count
    → slice_index order place ≡ stack → has (take count order) stack ≡ true
has-front order count place stack room among is =
    has-at (take count order) stack place (let long = length-take-le count order room in omega arith)
    (get_or-take count order place 0 among ∙ is)

-- a list with one more at its end has it, and what it had
pub has-push : (xs : List ℕ) (x : ℕ) → has (xs ++ x ∷ []) x ≡ true
has-push [] x = has-first x [] x refl
has-push (first ∷ xs) x =
    elim (cases_eq first x) [
      | inl own ↦ has-first first (xs ++ x ∷ []) x own
      | inr other ↦ has-others first (xs ++ x ∷ []) x other ∙ has-push xs x
    ]

pub has-still : (xs : List ℕ) (x stack : ℕ) → has xs stack ≡ true → has (xs ++ x ∷ []) stack ≡ true
has-still [] x stack is = absurd (both_ways _ refl is)
has-still (first ∷ xs) x stack is =
    elim (cases_eq first stack) [
      | inl own ↦ has-first first (xs ++ x ∷ []) stack own
      | inr other ↦ has-others first (xs ++ x ∷ []) stack other
          ∙ has-still xs x stack (sym (has-others first xs stack other) ∙ is)
    ]

-- and no other
has-other : (xs : List ℕ) (x other : ℕ) → other ≢ x → has (xs ++ x ∷ []) other ≡ has xs other
has-other [] x other apart = has-others x [] other (λ same. apart (sym same))
has-other (first ∷ xs) x other apart = ap (λ (b : Bool). (first == other) || b) (has-other xs x other apart)

-- of either it is enough
or-right : (a b : Bool) → b ≡ true → (a || b) ≡ true
or-right false b is = is
or-right true b is = refl

or-more : (a b c : Bool) → (b ≡ true → c ≡ true) → (a || b) ≡ true → (a || c) ≡ true
or-more false b c more is = more is
or-more true b c more is = refl

-- the stack is marked with its mark, and so is what was
with_mark-marked : (marks : MarksState) (stack : ℕ) → is_marked (with_mark marks stack) stack ≡ true
with_mark-marked marks stack =
    elim (cases_Bool (has marks.listed stack)) [
      | inl was ↦
          ap (λ (b : Bool). is_marked
          (cond {A = MarksState} b marks (record marks { listed = marks.listed ++ stack ∷ [] })) stack) was
          ∙ or-right marks.all (has marks.listed stack) was
      | inr none ↦
          ap (λ (b : Bool). is_marked
          (cond {A = MarksState} b marks (record marks { listed = marks.listed ++ stack ∷ [] })) stack) none
          ∙ or-right marks.all (has (marks.listed ++ stack ∷ []) stack) (has-push marks.listed stack)
    ]

with_mark-still : (marks : MarksState) (stack other : ℕ) → is_marked marks other ≡ true
    → is_marked (with_mark marks stack) other ≡ true
with_mark-still marks stack other is =
    elim (cases_Bool (has marks.listed stack)) [
      | inl was ↦ ap
          (λ (b : Bool). is_marked
          (cond {A = MarksState} b marks (record marks { listed = marks.listed ++ stack ∷ [] })) other)
          was
          ∙ is
      | inr none ↦
          ap (λ (b : Bool). is_marked
          (cond {A = MarksState} b marks (record marks { listed = marks.listed ++ stack ∷ [] })) other) none
          ∙ or-more marks.all (has marks.listed other) _ (has-still marks.listed stack other) is
    ]

with_mark-other : (marks : MarksState) (stack other : ℕ) → other ≢ stack
    → is_marked (with_mark marks stack) other ≡ is_marked marks other
with_mark-other marks stack other apart =
    elim (cases_Bool (has marks.listed stack)) [
      | inl was ↦ ap
          (λ (b : Bool). is_marked (cond {A = MarksState} b marks
          (record marks { listed = marks.listed ++ stack ∷ [] }))
          other)
          was
      | inr none ↦
          ap (λ (b : Bool). is_marked
          (cond {A = MarksState} b marks (record marks { listed = marks.listed ++ stack ∷ [] })) other) none
          ∙ ap (λ (b : Bool). marks.all || b) (has-other marks.listed stack other apart)
    ]

abbrev with_room : Bool → RoomyMarks → ℕ → RoomyMarks
with_room room state stack =
    cond room (record state { marks = with_mark state.marks stack })
    (record state { marks = record state.marks { all = true } })

pub marked_with-marked : (state : RoomyMarks) (stack : ℕ) → is_marked (marked_with state stack).marks stack ≡ true
marked_with-marked state stack =
    elim (cases_Bool (nat_lt stack state.room)) [
      | inl room ↦ ap (λ (b : Bool). is_marked (with_room b state stack).marks stack) room
          ∙ with_mark-marked state.marks stack
      | inr full ↦ ap (λ (b : Bool). is_marked (with_room b state stack).marks stack) full
    ]

pub marked_with-still : (state : RoomyMarks) (stack other : ℕ) → is_marked state.marks other ≡ true
    → is_marked (marked_with state stack).marks other ≡ true
marked_with-still state stack other is =
    elim (cases_Bool (nat_lt stack state.room)) [
      | inl room ↦ ap (λ (b : Bool). is_marked (with_room b state stack).marks other) room
          ∙ with_mark-still state.marks stack other is
      | inr full ↦ ap (λ (b : Bool). is_marked (with_room b state stack).marks other) full
    ]

-- with room it is listed, and no other stack's mark changes
pub marked_with-listed : (state : RoomyMarks) (stack : ℕ) → stack < state.room
    → (marked_with state stack).marks ≡ with_mark state.marks stack
marked_with-listed state stack room = ap (λ (b : Bool). (with_room b state stack).marks) (lt-ltb stack state.room room)

pub marked_with-other : (state : RoomyMarks) (stack other : ℕ) → stack < state.room → other ≢ stack
    → is_marked (marked_with state stack).marks other ≡ is_marked state.marks other
marked_with-other state stack other room apart =
    ap (λ (marks : MarksState). is_marked marks other) (marked_with-listed state stack room)
    ∙ with_mark-other state.marks stack other apart

-- without room all are marked
pub marked_with-full : (state : RoomyMarks) (stack : ℕ) → state.room ≤ stack
    → (marked_with state stack).marks ≡ record state.marks { all = true }
marked_with-full state stack full = ap (λ (b : Bool). (with_room b state stack).marks) (le-ltb stack state.room full)

-- what isn't marked after a mark is another stack, which wasn't marked before
pub unmarked-still : (before after : MarksState) (stack other : ℕ)
    → is_marked after stack ≡ true
    → ((s : ℕ) → is_marked before s ≡ true → is_marked after s ≡ true)
    → is_marked after other ≡ false
    → (other ≢ stack) × (is_marked before other ≡ false)
unmarked-still before after stack other marked still none = (
  λ same. both_ways _ none (ap (is_marked after) same ∙ marked),
  elim (cases_Bool (is_marked before other)) [
    | inl was ↦ absurd (both_ways _ none (still other was))
    | inr unmarked ↦ unmarked
  ],
)

-- the candidates are all stacks, or those that are listed
pub count-all : (order : List ℕ) (count stacks : ℕ) (all : Bool) → all ≡ true
    → stacks ≡ length (candidates (listed_of order count all) stacks)
count-all order count stacks all is =
    sym (ap (λ (b : Bool). length (candidates (listed_of order count b) stacks)) is ∙ length-range_with_len 0 stacks)

pub count-listed : (order : List ℕ) (count stacks : ℕ) (all : Bool) → count ≤ length order → all ≡ false
    → count ≡ length (candidates (listed_of order count all) stacks)
count-listed order count stacks all room is =
    sym (ap (λ (b : Bool). length (candidates (listed_of order count b) stacks)) is ∙ length-take-le count order room)

pub at-all : (order : List ℕ) (count stacks i : ℕ) (all : Bool) → all ≡ true
    → i < length (candidates (listed_of order count all) stacks)
    → slice_get (candidates (listed_of order count all) stacks) i ≡ Some i
at-all order count stacks i all is within =
    let long = count-all order count stacks all is in
    ap (λ (b : Bool). slice_get (candidates (listed_of order count b) stacks) i) is
    ∙ slice_get-get_or (range_with_len 0 stacks) i 0 (let count_is = length-range_with_len 0 stacks in omega arith)
    ∙ ap (λ (n : ℕ). Some n)
    (let at : get_or (range_with_len 0 stacks) i 0
    ≡ i = (let found = get_or-range_with_len 0 stacks i 0 (omega arith) in omega arith) in at)

pub listed-within : (order : List ℕ) (count stacks i : ℕ) (all : Bool) → count ≤ length order → all ≡ false
    → i < length (candidates (listed_of order count all) stacks) → i < count
listed-within order count stacks i all room is within =
    let long = count-listed order count stacks all room is in omega arith

pub at-listed : (order : List ℕ) (count stacks i result : ℕ) (all : Bool) → count ≤ length order → all ≡ false
    → i < length (candidates (listed_of order count all) stacks) → result ≡ get_or order i result
    → slice_get (candidates (listed_of order count all) stacks) i ≡ Some result
at-listed order count stacks i result all room is within read =
    let below = listed-within order count stacks i all room is within in
    ap (λ (b : Bool). slice_get (candidates (listed_of order count b) stacks) i) is
    ∙ slice_get-get_or (take count order) i 0 (let long = length-take-le count order room in omega arith)
    ∙ ap (λ (n : ℕ). Some n) (get_or-take count order i 0 below ∙ sym (get_or_read order i result (omega arith) read 0))
