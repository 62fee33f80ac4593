-- Lemmas on the stacks that have a figure: how they are gathered, and what holds of them in order.
use Rattle.std.proofs.Common.{◌≡◌, ℕ, ◌+◌, ◌<◌, ◌≤◌, Bool, true, false, cond, List, [], ◌∷◌, ◌++◌, length, map, refl}
use Rattle.std.proofs.Common.{sym, ap, subst, ◌∙◌, arith}
use Rattle.std.specs.Prelude.{All, filter, nat_lt, slice_index, sum, sum_by}
use Rattle.std.specs.List.{range_with_len}
use Rattle.std.proofs.lemmas.List.FromFn.{fill_by_all, get_or-map-range_with_len, length-map-range_with_len}
use Rattle.std.proofs.lemmas.List.FromFn.{map-range_with_len_more}
use Rattle.std.proofs.lemmas.List.Elements.{All-cons, All-filter, All-head, All-nil, All-tail, filter-append}
use Rattle.std.proofs.lemmas.List.Sums.{sum-map, sum_by-cons}
use Rattle.ht_print.specs.declared.entry.Entry.{Entry}
use Rattle.ht_print.specs.ReportOrder.{in_order, is_before, numbered, ordered_stacks, placed, some_stacks}
use Rattle.ht_print.proofs.EntryOrder.{in_order-sum, part-sum, sum-mapped}

-- a stack with its figure
abbrev pub entry_at : List ℕ → ℕ → Entry
entry_at figures stack = record { figure = slice_index figures stack; stack = stack }

-- those of the first stacks whose figure isn't 0
unfoldable pub first-stacks : List ℕ → ℕ → List Entry
first-stacks figures n = filter (λ (entry : Entry). nat_lt 0 entry.figure) (map (entry_at figures) (range_with_len 0 n))

pub first-stacks-none : (figures : List ℕ) → first-stacks figures 0 ≡ []
unfolding first-stacks
first-stacks-none figures = refl

pub first-stacks-more : (figures : List ℕ) (n : ℕ)
    → first-stacks figures (n + 1)
    ≡ first-stacks figures n ++ cond (nat_lt 0 (slice_index figures n)) (entry_at figures n ∷ []) []
unfolding first-stacks
first-stacks-more figures n =
    ap (filter (λ (entry : Entry). nat_lt 0 entry.figure))
    (map-range_with_len_more (entry_at figures) 0 n n (omega arith))
    ∙ filter-append (λ (entry : Entry). nat_lt 0 entry.figure) (map (entry_at figures) (range_with_len 0 n))
    (entry_at figures n ∷ [])

pub first-stacks-all : (figures : List ℕ) (n : ℕ) → n ≡ length figures → first-stacks figures n ≡ some_stacks figures
unfolding first-stacks some_stacks
first-stacks-all figures n is =
    ap (λ (k : ℕ). filter (λ (entry : Entry). nat_lt 0 entry.figure) (map (entry_at figures) (range_with_len 0 k))) is

-- what holds of an entry and of some others holds of all of them in order
place-all : (P : Entry → Type 0) (entry x : Entry) (xs : List Entry) (answer : Bool) → P entry → All P (x ∷ xs)
    → All P (placed entry xs) → All P (cond answer (x ∷ placed entry xs) (entry ∷ x ∷ xs))
place-all P entry x xs true here all rest = All-cons P x (placed entry xs) (All-head P x xs all) rest
place-all P entry x xs false here all rest = All-cons P entry (x ∷ xs) here all

placed-all : (P : Entry → Type 0) (entry : Entry) (xs : List Entry) → P entry → All P xs → All P (placed entry xs)
placed-all P entry [] here all = All-cons P entry [] here (All-nil P)
placed-all P entry (x ∷ xs) here all =
    place-all P entry x xs (is_before x entry) here all (placed-all P entry xs here (All-tail P x xs all))

pub in_order-all : (P : Entry → Type 0) (xs : List Entry) → All P xs → All P (in_order xs)
in_order-all P [] all = All-nil P
in_order-all P (x ∷ xs) all =
    placed-all P x (in_order xs) (All-head P x xs all) (in_order-all P xs (All-tail P x xs all))

-- the stacks in order are entries of a section
pub stacks-all : (P : Entry → Type 0) (figures : List ℕ) → ((n : ℕ) → n < length figures → P (entry_at figures n))
    → All P (ordered_stacks figures)
unfolding some_stacks
stacks-all P figures each =
    in_order-all P (some_stacks figures) (All-filter (λ (entry : Entry). nat_lt 0 entry.figure) P (numbered figures)
    (λ k d within.
    let count = length-map-range_with_len (entry_at figures) 0 (length figures) in
    subst P (sym (get_or-map-range_with_len (entry_at figures) 0 (length figures) k k d (omega arith) (omega arith)))
    (each k (omega arith))))

-- and have no greater sum than the figures
numbered-sum : (figures : List ℕ) → sum_by (λ (e : Entry). e.figure) (numbered figures) ≡ sum figures
numbered-sum figures =
    sum-mapped (λ (e : Entry). e.figure) (entry_at figures) (range_with_len 0 (length figures))
    ∙ sym (sum-map (λ (k : ℕ). slice_index figures k) (range_with_len 0 (length figures)))
    ∙ ap sum (sym (fill_by_all (λ (k : ℕ). slice_index figures k) figures (length figures) 0 refl (λ k within. refl)))

pub stacks-sum : (figures : List ℕ) → sum_by (λ (e : Entry). e.figure) (ordered_stacks figures) ≤ sum figures
unfolding some_stacks
stacks-sum figures =
    let ordered = in_order-sum (λ (e : Entry). e.figure) (some_stacks figures) in
    let part = part-sum (λ (entry : Entry). nat_lt 0 entry.figure) (numbered figures) in
    let whole = numbered-sum figures in
    omega (arith, ordered, part, whole)

-- there are no more of them than figures
ones : (xs : List Entry) → sum_by (λ (e : Entry). 1) xs ≡ length xs
ones [] = refl
ones (x ∷ xs) = sum_by-cons (λ (e : Entry). 1) x xs ∙ (let rest = ones xs in omega (arith, rest))

filter-few : (p : Entry → Bool) (xs : List Entry) → length (filter p xs) ≤ length xs
filter-few p [] = omega arith
filter-few p (x ∷ xs) = by (p x) (filter-few p xs)
  where
    by : (b : Bool) → length (filter p xs) ≤ length xs
        → length (cond b (x ∷ filter p xs) (filter p xs)) ≤ length (x ∷ xs)
    by true rest = omega (arith, rest)
    by false rest = omega (arith, rest)

pub stacks-few : (figures : List ℕ) → length (ordered_stacks figures) ≤ length figures
unfolding some_stacks
stacks-few figures =
    let ordered : length (ordered_stacks figures) ≡ length (some_stacks figures) =
    sym (ones (ordered_stacks figures)) ∙ in_order-sum (λ (e : Entry). 1) (some_stacks figures)
    ∙ ones (some_stacks figures) in
    let part = filter-few (λ (entry : Entry). nat_lt 0 entry.figure) (numbered figures) in
    let whole = length-map-range_with_len (entry_at figures) 0 (length figures) in
    omega (arith, ordered, part, whole)
