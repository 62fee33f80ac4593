-- Marks: a stack is marked where it stands among the first of the order.
use Rattle.std.proofs.Common.{◌≡◌, ◌≢◌, ℕ, ◌+◌, ◌-◌, ◌^◌, ◌<◌, ◌≤◌, suc, List, [], ◌∷◌, ◌++◌, length, set, take, Bool}
use Rattle.std.proofs.Common.{true, false, cond, refl, inl, inr, sym, ap, ◌∙◌, arith}
use Rattle.std.specs.Prelude.{◌||◌, slice_index}
use Rattle.std.proofs.lemmas.Bool.{cases_eq, cases_lt, ne_eqb}
use Rattle.std.proofs.lemmas.List.{get_or-set_other, get_or-set_same, get_or-take, get_or_append_left, get_or_push}
use Rattle.std.proofs.lemmas.List.{length-set, length_push, length-take-le, take_more_set, take-append-le, take-set-le}
use Rattle.cost_history.specs.Marks.{MarksState, RoomyMarks, has, with_mark}
use Rattle.cost_history.specs.MarksView.{ArePlaced, listed_of, marks_of}
use Rattle.cost_history.proofs.Marking.{has-at}

-- one that doesn't is none
pub has-none : (xs : List ℕ) (stack : ℕ) → ((i : ℕ) → i < length xs → slice_index xs i ≢ stack) → has xs stack ≡ false
has-none [] stack none = refl
has-none (x ∷ xs) stack none =
    ap (λ (b : Bool). b || has xs stack) (ne_eqb x stack (none 0 (omega arith)))
    ∙ has-none xs stack (λ i within. none (suc i) (omega arith))

-- a list with two cells written
cell-end : (xs : List ℕ) (a x b y : ℕ) → b < length xs → slice_index (set (set xs a x) b y) b ≡ y
cell-end xs a x b y within = get_or-set_same (set xs a x) b y 0 (omega (arith, length-set xs a x))

cell-first : (xs : List ℕ) (a x b y : ℕ) → a < length xs → a ≢ b → slice_index (set (set xs a x) b y) a ≡ x
cell-first xs a x b y within apart = get_or-set_other (set xs a x) b a y 0 apart ∙ get_or-set_same xs a x 0 within

cell-other : (xs : List ℕ) (a x b y k : ℕ) → k ≢ a → k ≢ b → slice_index (set (set xs a x) b y) k ≡ slice_index xs k
cell-other xs a x b y k first last = get_or-set_other (set xs a x) b k y 0 last ∙ get_or-set_other xs a k x 0 first

-- a stack that stands among the first is listed already
pub listed-already :
    (order places : List ℕ) (count stack : ℕ) (all : Bool)
    → ArePlaced order places count
    → stack < length order
    → slice_index places stack < count
    → marks_of order count all ≡ record { marks = with_mark (listed_of order count all) stack; room = length order }
listed-already order places count stack all placed held among =
    let within = placed.within in
    let is : has (take count order) stack ≡ true =
    has-at (take count order) stack (slice_index places stack)
    (let long = length-take-le count order within in omega arith)
    (get_or-take count order (slice_index places stack) 0 among ∙ placed.stack_at stack held)
    in
    ap
    (λ (b : Bool).
    let state : RoomyMarks = record {
      marks =
          cond {A = MarksState} b (listed_of order count all)
          (record { listed = take count order ++ stack ∷ []; all = all });
      room = length order;
    }
    in state)
    (sym is)

-- the order and the places after the stack, which stands at place, and the other one, which stands
-- at count, are exchanged
abbrev pub order_after : List ℕ → ℕ → ℕ → ℕ → ℕ → List ℕ
order_after order place other count stack = set (set order place other) count stack

abbrev pub places_after : List ℕ → ℕ → ℕ → ℕ → ℕ → List ℕ
places_after places place other count stack = set (set places other place) stack count

-- no stack among the first is the one that stands behind them
pub not-among :
    (order places : List ℕ) (count stack : ℕ)
    → ArePlaced order places count
    → count ≤ slice_index places stack
    → has (take count order) stack ≡ false
not-among order places count stack placed behind =
    let within = placed.within in
    let long = length-take-le count order within in
    has-none (take count order) stack (λ i below is.
    (let among : i < count = omega arith in
    let value : slice_index order i ≡ stack = sym (get_or-take count order i 0 among) ∙ is in
    let back : slice_index places stack ≡ i =
    ap (λ (s : ℕ). slice_index places s) (sym value) ∙ placed.place_of i (omega arith) in
    omega arith))

pub marks-after :
    (order places : List ℕ) (count stack place other : ℕ) (all : Bool)
    → ArePlaced order places count
    → count < length order
    → place ≡ slice_index places stack
    → count ≤ place
    → marks_of (order_after order place other count stack) (count + 1) all
    ≡ record { marks = with_mark (listed_of order count all) stack; room = length order }
marks-after order places count stack place other all placed room at behind =
    let none : has (take count order) stack ≡ false = not-among order places count stack placed (omega arith) in
    let long : length (order_after order place other count stack) ≡ length order =
    length-set (set order place other) count stack ∙ length-set order place other in
    let first_long = length-set order place other in
    let listed : take (count + 1) (order_after order place other count stack) ≡ take count order ++ stack ∷ [] =
    take_more_set (set order place other) count stack (omega arith)
    ∙ ap (λ (xs : List ℕ). xs ++ stack ∷ []) (take-set-le count order place other behind)
    in
    let state =
    λ (xs : List ℕ)
    (n : ℕ). (let marks : RoomyMarks = record { marks = record { listed = xs; all = all }; room = n } in marks) in
    ap (λ (n : ℕ). state (take (count + 1) (order_after order place other count stack)) n) long
    ∙ ap (λ (xs : List ℕ). state xs (length order)) listed
    ∙ ap
    (λ (b : Bool).
    let marks : RoomyMarks = record {
      marks =
          cond {A = MarksState} b (listed_of order count all)
          (record { listed = take count order ++ stack ∷ []; all = all });
      room = length order;
    }
    in marks)
    (sym none)

pub placed-after :
    (order places : List ℕ) (count stack place other : ℕ)
    → ArePlaced order places count
    → stack < length order
    → count < length order
    → place ≡ slice_index places stack
    → other ≡ slice_index order count
    → count ≤ place
    → ArePlaced (order_after order place other count stack) (places_after places place other count stack) (count + 1)
placed-after order places count stack place other placed held room at is behind =
    let few = placed.few in
    let as_many = placed.as_many in
    let long : length (order_after order place other count stack) ≡ length order =
    length-set (set order place other) count stack ∙ length-set order place other in
    let places_long : length (places_after places place other count stack) ≡ length places =
    length-set (set places other place) stack count ∙ length-set places other place in
    let place_in : place < length order = (let p = placed.place_held stack held in omega arith) in
    let other_in : other < length order = (let p = placed.stack_held count room in omega arith) in
    let stands : slice_index order place ≡ stack =
    ap (λ (n : ℕ). slice_index order n) at ∙ placed.stack_at stack held in
    let other_at : slice_index places other ≡ count =
    ap (λ (n : ℕ). slice_index places n) is ∙ placed.place_of count room in
    let apart : place ≢ count → other ≢ stack =
    (λ differ
    same. (let here : slice_index places stack
    ≡ count = ap (λ (n : ℕ). slice_index places n) (sym same) ∙ other_at in differ (at ∙ here))) in
    record {
      few = omega arith;
      within = omega arith;
      as_many = omega arith;
      stack_held = λ i within. elim (cases_eq i count) [
        | inl last ↦
            (let value = ap (λ (n : ℕ). slice_index (order_after order place other count stack) n) last
            ∙ cell-end order place other count stack room in omega arith)
        | inr early ↦ elim (cases_eq i place) [
          | inl first ↦
              (let value = ap (λ (n : ℕ). slice_index (order_after order place other count stack) n) first
              ∙ cell-first order place other count stack place_in (λ e. early (first ∙ e)) in omega arith)
          | inr elsewhere ↦
              (let value = cell-other order place other count stack i elsewhere early in let p = placed.stack_held i
              (omega arith) in omega arith)
        ]
      ];
      place_held = λ s within. elim (cases_eq s stack) [
        | inl own ↦
            (let value = ap (λ (n : ℕ). slice_index (places_after places place other count stack) n) own
            ∙ cell-end places other place stack count (omega arith) in omega arith)
        | inr differ ↦ elim (cases_eq s other) [
          | inl first ↦
              (let value = ap (λ (n : ℕ). slice_index (places_after places place other count stack) n) first
              ∙ cell-first places other place stack count (omega arith) (λ e. differ (first ∙ e)) in omega arith)
          | inr elsewhere ↦
              (let value = cell-other places other place stack count s elsewhere differ in let p = placed.place_held s
              (omega arith) in omega arith)
        ]
      ];
      stack_at = λ s within. elim (cases_eq s stack) [
        | inl own ↦ ap
            (λ (n : ℕ). slice_index (order_after order place other count stack)
            (slice_index (places_after places place other count stack) n))
            own
            ∙ ap (λ (n : ℕ). slice_index (order_after order place other count stack) n)
            (cell-end places other place stack count (omega arith))
            ∙ cell-end order place other count stack room ∙ sym own
        | inr differ ↦ elim (cases_eq s other) [
          | inl first ↦
              (let moved : place
              ≢ count = λ e. differ (first ∙ is ∙ ap (λ (n : ℕ). slice_index order n) (sym e) ∙ stands) in
              ap
              (λ (n : ℕ). slice_index (order_after order place other count stack)
              (slice_index (places_after places place other count stack) n))
              first
              ∙ ap (λ (n : ℕ). slice_index (order_after order place other count stack) n)
              (cell-first places other place stack count (omega arith) (apart moved))
              ∙ cell-first order place other count stack place_in moved ∙ sym first)
          | inr elsewhere ↦
              ap (λ (n : ℕ). slice_index (order_after order place other count stack) n)
              (cell-other places other place stack count s elsewhere differ)
              ∙ cell-other order place other count stack (slice_index places s)
              (λ e. differ (sym (placed.stack_at s (omega arith)) ∙ ap (λ (n : ℕ). slice_index order n) e ∙ stands))
              (λ e. elsewhere (sym (placed.stack_at s (omega arith)) ∙ ap (λ (n : ℕ). slice_index order n) e ∙ sym is))
              ∙ placed.stack_at s (omega arith)
        ]
      ];
      place_of = λ i within. elim (cases_eq i count) [
        | inl last ↦ ap
            (λ (n : ℕ). slice_index (places_after places place other count stack)
            (slice_index (order_after order place other count stack) n))
            last
            ∙ ap (λ (n : ℕ). slice_index (places_after places place other count stack) n)
            (cell-end order place other count stack room)
            ∙ cell-end places other place stack count (omega arith) ∙ sym last
        | inr early ↦ elim (cases_eq i place) [
          | inl first ↦
              (let moved : place ≢ count = λ e. early (first ∙ e) in
              ap
              (λ (n : ℕ). slice_index (places_after places place other count stack)
              (slice_index (order_after order place other count stack) n))
              first
              ∙ ap (λ (n : ℕ). slice_index (places_after places place other count stack) n)
              (cell-first order place other count stack place_in moved)
              ∙ cell-first places other place stack count (omega arith) (apart moved) ∙ sym first)
          | inr elsewhere ↦
              ap (λ (n : ℕ). slice_index (places_after places place other count stack) n)
              (cell-other order place other count stack i elsewhere early)
              ∙ cell-other places other place stack count (slice_index order i)
              (λ e. early (sym (placed.place_of i (omega arith)) ∙ ap (λ (n : ℕ). slice_index places n) e ∙ other_at))
              (λ e. elsewhere (sym (placed.place_of i (omega arith)) ∙ ap (λ (n : ℕ). slice_index places n) e ∙ sym at))
              ∙ placed.place_of i (omega arith)
        ]
      ];
    }

-- one more stack, at the end of both
pub placed-grown :
    (order places : List ℕ) (count stack : ℕ)
    → ArePlaced order places count
    → stack ≡ length order
    → length order < 2 ^ 32 - 1
    → ArePlaced (order ++ stack ∷ []) (places ++ stack ∷ []) count
placed-grown order places count stack placed is few =
    let within = placed.within in
    let as_many = placed.as_many in
    let long = length_push order stack in
    let places_long = length_push places stack in
    let order_early : (i : ℕ) → i < length order → slice_index (order ++ stack ∷ []) i ≡ slice_index order i =
    (λ i w. get_or_append_left order (stack ∷ []) 0 i w) in
    let places_early : (i : ℕ) → i < length order → slice_index (places ++ stack ∷ []) i ≡ slice_index places i =
    (λ i w. get_or_append_left places (stack ∷ []) 0 i (omega arith)) in
    let order_last : (i : ℕ) → i ≡ length order → slice_index (order ++ stack ∷ []) i ≡ stack =
    (λ i e. get_or_push order stack 0 i (sym e)) in
    let places_last : (i : ℕ) → i ≡ length order → slice_index (places ++ stack ∷ []) i ≡ stack =
    (λ i e. get_or_push places stack 0 i (as_many ∙ sym e)) in
    record {
      few = omega arith;
      within = omega arith;
      as_many = omega arith;
      stack_held = λ i w. elim (cases_lt i (length order)) [
        | inl early ↦ (let value = order_early i early in let p = placed.stack_held i early in omega arith)
        | inr end ↦ (let value = order_last i (omega arith) in omega arith)
      ];
      place_held = λ i w. elim (cases_lt i (length order)) [
        | inl early ↦ (let value = places_early i early in let p = placed.place_held i early in omega arith)
        | inr end ↦ (let value = places_last i (omega arith) in omega arith)
      ];
      stack_at = λ s w. elim (cases_lt s (length order)) [
        | inl early ↦ ap (λ (n : ℕ). slice_index (order ++ stack ∷ []) n) (places_early s early)
            ∙ order_early (slice_index places s) (placed.place_held s early) ∙ placed.stack_at s early
        | inr end ↦ (let same : s ≡ length order = omega arith in
            ap (λ (n : ℕ). slice_index (order ++ stack ∷ []) n) (places_last s same) ∙ order_last stack is ∙ is
            ∙ sym same)
      ];
      place_of = λ i w. elim (cases_lt i (length order)) [
        | inl early ↦ ap (λ (n : ℕ). slice_index (places ++ stack ∷ []) n) (order_early i early)
            ∙ places_early (slice_index order i) (placed.stack_held i early) ∙ placed.place_of i early
        | inr end ↦ (let same : i ≡ length order = omega arith in
            ap (λ (n : ℕ). slice_index (places ++ stack ∷ []) n) (order_last i same) ∙ places_last stack is ∙ is
            ∙ sym same)
      ];
    }

pub marks-grown : (order : List ℕ) (count stack : ℕ) (all : Bool) → count ≤ length order
    → marks_of (order ++ stack ∷ []) count all ≡ record { marks = listed_of order count all; room = length order + 1 }
marks-grown order count stack all within =
    let state =
    λ (xs : List ℕ)
    (n : ℕ). (let marks : RoomyMarks = record { marks = record { listed = xs; all = all }; room = n } in marks) in
    ap (λ (n : ℕ). state (take count (order ++ stack ∷ [])) n) (length_push order stack)
    ∙ ap (λ (xs : List ℕ). state xs (length order + 1)) (take-append-le count order (stack ∷ []) within)
