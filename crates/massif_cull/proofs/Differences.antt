-- The least difference of neighbours, number by number.
use Rattle.std.proofs.Common.{◌≡◌, ℕ, ◌+◌, ◌-◌, ◌<◌, ◌≤◌, zero, suc, min, List, [], ◌∷◌, ◌++◌, length, get_or, take}
use Rattle.std.proofs.Common.{refl, sym, ap, ◌∙◌, arith}
use Rattle.std.specs.Prelude.{fold, slice_index}
use Rattle.std.proofs.lemmas.List.{take_more, take_all, get_or-take, length-take-le, length-map}
use Rattle.massif_cull.specs.declared.snapshot.SnapEntry.{SnapEntry}
use Rattle.massif_cull.specs.Entries.{times}
use Rattle.massif_cull.specs.Interval.{differences, least, least_interval}

-- the last number of a list that is not empty
abbrev pub last_number : List ℕ → ℕ
last_number numbers = get_or numbers (length numbers - 1) 0

-- one more number makes one more difference
pub differences-push : (x : ℕ) (xs : List ℕ) (y : ℕ)
    → differences ((x ∷ xs) ++ y ∷ []) ≡ differences (x ∷ xs) ++ (y - get_or (x ∷ xs) (length xs) 0) ∷ []
unfolding differences
differences-push x [] y = refl
differences-push x (z ∷ zs) y = ap (λ (ds : List ℕ). (z - x) ∷ ds) (differences-push z zs y)

-- the least number, after one more
pub fold-push : (a : ℕ) (ns : List ℕ) (n : ℕ) → fold min a (ns ++ n ∷ []) ≡ min (fold min a ns) n
fold-push a [] n = refl
fold-push a (m ∷ ms) n = fold-push (min a m) ms n

-- the same, of a list that is not empty
pub least-push : (ns : List ℕ) (n : ℕ) → 0 < length ns → least (ns ++ n ∷ []) ≡ min (least ns) n
unfolding least
least-push [] n some = absurd (omega arith)
least-push (m ∷ ms) n some = fold-push m ms n

-- two numbers have a difference
pub differences-some : (x z : ℕ) (zs : List ℕ) → 0 < length (differences (x ∷ z ∷ zs))
unfolding differences
differences-some x z zs = omega arith

-- the least difference, after one more number
pub least-differences-push : (ns : List ℕ) (y : ℕ) → 2 ≤ length ns
    → least (differences (ns ++ y ∷ [])) ≡ min (least (differences ns)) (y - last_number ns)
least-differences-push [] y two = absurd (omega arith)
least-differences-push (x ∷ []) y two = absurd (omega arith)
least-differences-push (x ∷ z ∷ zs) y two =
    let last : length (z ∷ zs) ≡ length (x ∷ z ∷ zs) - 1 = omega arith in
    ap least (differences-push x (z ∷ zs) y)
    ∙ least-push _ _ (differences-some x z zs)
    ∙ ap (λ (k : ℕ). min (least (differences (x ∷ z ∷ zs))) (y - get_or (x ∷ z ∷ zs) k 0)) last

-- the first two numbers have one
pub least-first : (ns : List ℕ) → 2 ≤ length ns → least (differences (take 2 ns)) ≡ get_or ns 1 0 - get_or ns 0 0
unfolding least differences
least-first [] two = absurd (omega arith)
least-first (x ∷ []) two = absurd (omega arith)
least-first (x ∷ z ∷ zs) two = refl

-- the least difference of the first numbers, after one more
pub least-more : (ns : List ℕ) (p : ℕ) → 2 ≤ p → p < length ns
    → least (differences (take (p + 1) ns))
    ≡ min (least (differences (take p ns))) (get_or ns p 0 - get_or ns (p - 1) 0)
least-more ns p two inside =
    let long : length (take p ns) ≡ p = length-take-le p ns (omega arith) in
    let last : last_number (take p ns) ≡ get_or ns (p - 1) 0 =
    ap (λ (k : ℕ). get_or (take p ns) (k - 1) 0) long ∙ get_or-take p ns (p - 1) 0 (omega arith) in
    ap (λ (xs : List ℕ). least (differences xs)) (take_more ns p 0 inside)
    ∙ least-differences-push (take p ns) (get_or ns p 0) (omega arith)
    ∙ ap (λ (k : ℕ). min (least (differences (take p ns))) (get_or ns p 0 - k)) last

-- the least difference of the times of the first entries
abbrev pub least_of_first : List SnapEntry → ℕ → ℕ
least_of_first entries p = least (differences (take p (times entries)))

-- of two entries
pub interval-first : (entries : List SnapEntry) → 2 ≤ length entries
    → slice_index (times entries) 1 - slice_index (times entries) 0 ≡ least_of_first entries 2
interval-first entries two =
    let long : length (times entries) ≡ length entries = length-map entries (λ (entry : SnapEntry). entry.time) in
    sym (least-first (times entries) (omega arith))

-- after one more entry
pub interval-more : (entries : List SnapEntry) (p : ℕ) → 2 ≤ p → p < length entries
    → min (least_of_first entries p) (slice_index (times entries) p - slice_index (times entries) (p - 1))
    ≡ least_of_first entries (p + 1)
interval-more entries p two inside =
    let long : length (times entries) ≡ length entries = length-map entries (λ (entry : SnapEntry). entry.time) in
    sym (least-more (times entries) p two (omega arith))

-- of all entries
pub interval-all : (entries : List SnapEntry) (p : ℕ) → p ≡ length entries
    → least_of_first entries p ≡ least_interval entries
unfolding least_interval
interval-all entries p end =
    let long : length (times entries) ≡ length entries = length-map entries (λ (entry : SnapEntry). entry.time) in
    ap (λ (ts : List ℕ). least (differences ts)) (take_all p (times entries) (omega arith))

-- where two neighbours have one time, no more entries are needed
pub interval-none : (entries : List SnapEntry) (n p : ℕ) → 2 ≤ p → p + n ≡ length entries → least_of_first entries p ≡ 0
    → 0 ≡ least_interval entries
interval-none entries zero p two end none = sym none ∙ interval-all entries p (omega arith)
interval-none entries (suc n) p two end none =
    let more = interval-more entries p two (omega arith) in
    interval-none entries n (p + 1) (omega arith) (omega arith) (omega (arith, more, none))
