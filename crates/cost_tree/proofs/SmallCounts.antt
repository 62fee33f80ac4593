-- Counting the first texts that are too small, stack by stack: which stack is the first that begins with its text, and what one
-- stack more adds.
use Rattle.std.proofs.Common.{◌≡◌, ◌≢◌, ℕ, ◌+◌, ◌<◌, ◌&&◌, not, Bool, true, false, eqb, cond}
use Rattle.std.proofs.Common.{List, [], ◌∷◌, ◌++◌, length, map, filter, take, get_or, Some, refl, sym, ap, ◌∙◌, arith}
use Rattle.std.specs.Prelude.{nat_lt, slice_get, sum_by}
use Rattle.std.specs.List.{range_with_len}
use Rattle.std.specs.Option.{option_map_or}
use Rattle.std.proofs.Math.Path.{fun_ext}
use Rattle.std.proofs.lemmas.Bool.{and_from, and_parts, both_ways, cond-false, eq-eqb}
use Rattle.std.proofs.lemmas.Bool.{false_from_ne_true, lt-ltb, ltb-true}
use Rattle.std.proofs.lemmas.List.{length-take, map-id}
use Rattle.std.proofs.lemmas.List.Elements.{All-weaker, filter-append}
use Rattle.std.proofs.lemmas.List.Filters.{sum_by-filter_both}
use Rattle.std.proofs.lemmas.List.FromFn.{map-range_with_len_more}
use Rattle.std.proofs.lemmas.List.Sums.{fails_before_first, passes_at_first, position_or_len_is, sum_by-cons}
use Rattle.std.proofs.lemmas.Option.{get_or_from_slice_get, slice_get-get_or, slice_get_within}
use Rattle.cost_tree.specs.declared.scale.Scale.{Scale}
use Rattle.cost_tree.specs.Costed.{Costed}
use Rattle.cost_tree.specs.CostLines.{cost_of, is_small, small_fronts}
use Rattle.cost_tree.specs.Inclusive.{has_front, is_front, least, own}
use Rattle.cost_tree.specs.NextFronts.{longer_front, next_fronts, opens, texts_at}
use Rattle.cost_tree.specs.SmallTexts.{begins_small, unless_small, without_small}
use Rattle.cost_tree.proofs.ChildNodes.{sum-mapped, sum-same}
use Rattle.cost_tree.proofs.NextSums.{next-whole}
use Rattle.cost_tree.proofs.Prefixes.{has_front-Decides, is_front-Decides}
use Rattle.cost_tree.proofs.Siblings.{opens-is}
use Rattle.cost_tree.proofs.SmallTexts.{IsLeft, left, next-left}
use Rattle.cost_tree.proofs.Sums.{inclusive-all}

abbrev none : Costed
none = record { texts = []; cost = 0 }

-- the texts of a stack that is there
texts-are : (stacks : List Costed) (n : ℕ) (stack : Costed) → slice_get stacks n ≡ Some stack
    → texts_at stacks n ≡ stack.texts
texts-are stacks n stack at = ap (λ found. option_map_or (λ (s : Costed). s.texts) found []) at

-- what `least` looks for
abbrev begins : List (List ℕ) → Costed → Bool
begins front stack = nat_lt 0 stack.cost && has_front front stack.texts

-- a stack that costs nothing opens no first text
pub opened-nothing : (stacks : List Costed) (n : ℕ) (stack : Costed) → slice_get stacks n ≡ Some stack → stack.cost ≡ 0
    → opens [] stacks n ≡ false
unfolding least
opened-nothing stacks n stack at free =
    false_from_ne_true (opens [] stacks n) (λ is.
    let within = slice_get_within stacks n stack at in
    let longer : List (List ℕ) = longer_front [] stacks n in
    let first = (opens-is [] stacks n within is).least_is in
    let passes = passes_at_first (begins longer) stacks none (omega arith) in
    let costs : begins longer (get_or stacks n none) ≡ true =
    ap (λ (k : ℕ). begins longer (get_or stacks k none)) (sym first) ∙ passes in
    let some =
    ltb-true 0 (get_or stacks n none).cost
    (and_parts (nat_lt 0 (get_or stacks n none).cost) (has_front longer (get_or stacks n none).texts) costs).0 in
    let same = ap (λ (s : Costed). s.cost) (get_or_from_slice_get stacks n stack none at) in
    absurd (omega arith))

-- nor does one of which an earlier stack that costs something has the first text
pub opened-again : (stacks : List Costed) (m n : ℕ) (earlier stack : Costed) → m < n
    → slice_get stacks m ≡ Some earlier → slice_get stacks n ≡ Some stack → 0 < earlier.cost
    → take 1 earlier.texts ≡ take 1 stack.texts → opens [] stacks n ≡ false
unfolding least
opened-again stacks m n earlier stack before earlier_at at some same =
    false_from_ne_true (opens [] stacks n) (λ is.
    let within = slice_get_within stacks n stack at in
    let longer : List (List ℕ) = longer_front [] stacks n in
    let opened = opens-is [] stacks n within is in
    let first = opened.least_is in
    let fails = fails_before_first (begins longer) stacks m none (omega arith) in
    let is_first : longer ≡ take 1 earlier.texts =
    ap (λ (xs : List (List ℕ)). take 1 xs) (texts-are stacks n stack at) ∙ sym same in
    let one : length longer ≡ 1 = opened.count in
    both_ways (begins longer earlier)
    (ap (λ (s : Costed). begins longer s) (sym (get_or_from_slice_get stacks m earlier none earlier_at)) ∙ fails)
    (and_from (nat_lt 0 earlier.cost) (has_front longer earlier.texts) (lt-ltb 0 earlier.cost some)
    ((has_front-Decides longer earlier.texts).1
    (is_first ∙ ap (λ (k : ℕ). take k earlier.texts) (sym one)))))

-- each other one does
pub opened-first : (stacks : List Costed) (n : ℕ) (stack : Costed) → slice_get stacks n ≡ Some stack → 0 < stack.cost
    → 0 < length stack.texts
    → ((m : ℕ) (earlier : Costed) → m < n → slice_get stacks m ≡ Some earlier → 0 < earlier.cost
    → take 1 earlier.texts ≢ take 1 stack.texts)
    → opens [] stacks n ≡ true
unfolding least
opened-first stacks n stack at some goes_on new =
    ap
    (λ (xs : List (List ℕ)). has_front [] xs && nat_lt 0 (length xs) && eqb (least (take 1 xs) stacks) n)
    (texts-are stacks n stack at)
    ∙ and_from (has_front [] stack.texts && nat_lt 0 (length stack.texts)) (eqb (least text stacks) n)
    (and_from (has_front [] stack.texts) (nat_lt 0 (length stack.texts)) ((has_front-Decides [] stack.texts).1 refl)
    (lt-ltb 0 (length stack.texts) goes_on))
    (eq-eqb (least text stacks) n
    (position_or_len_is (begins text) stacks n none (let within = slice_get_within stacks n stack at in omega arith)
    earlier
    (λ within. ap (λ (s : Costed). begins text s) (get_or_from_slice_get stacks n stack none at)
    ∙ and_from (nat_lt 0 stack.cost) (has_front text stack.texts) (lt-ltb 0 stack.cost some)
    ((has_front-Decides text stack.texts).1 (ap (λ (k : ℕ). take k stack.texts) (sym one))))))
  where
    text : List (List ℕ)
    text = take 1 stack.texts

    one : length text ≡ 1
    one = let count = length-take 1 stack.texts in omega arith

    earlier : (k : ℕ) → k < n → begins text (get_or stacks k none) ≡ false
    earlier k before =
        let within = slice_get_within stacks n stack at in
        false_from_ne_true (begins text (get_or stacks k none)) (λ is.
        let found : Costed = get_or stacks k none in
        let both = and_parts (nat_lt 0 found.cost) (has_front text found.texts) is in
        new k found before (slice_get-get_or stacks k none (omega arith)) (ltb-true 0 found.cost both.0)
        (ap (λ (m : ℕ). take m found.texts) (sym one) ∙ sym ((has_front-Decides text found.texts).0 both.1)))

-- the first so many stacks that open a first text that is too small; up to all stacks they are `small_places`
abbrev pub opens_small : Scale → List Costed → ℕ → Bool
opens_small scale stacks n = opens [] stacks n && is_small scale (cost_of stacks (longer_front [] stacks n))

abbrev pub small_up_to : Scale → List Costed → ℕ → List ℕ
small_up_to scale stacks n = filter (opens_small scale stacks) (range_with_len 0 n)

-- one stack more
pub small-more : (scale : Scale) (stacks : List Costed) (n : ℕ)
    → small_up_to scale stacks (n + 1)
    ≡ small_up_to scale stacks n ++ cond {A = List ℕ} (opens_small scale stacks n) (n ∷ []) []
small-more scale stacks n =
    ap (λ (ns : List ℕ). filter (opens_small scale stacks) ns)
    (sym (map-id (range_with_len 0 (n + 1)))
    ∙ map-range_with_len_more (λ (k : ℕ). k) 0 n n (let e : 0 + n ≡ n = omega arith in e)
    ∙ ap (λ (ns : List ℕ). ns ++ n ∷ []) (map-id (range_with_len 0 n)))
    ∙ filter-append (opens_small scale stacks) (range_with_len 0 n) (n ∷ [])

-- what costs something and has no text is left
own-left : (scale : Scale) (stacks : List Costed) → own [] (without_small scale stacks) ≡ own [] stacks
unfolding own without_small
own-left scale stacks =
    sum-mapped (λ (s : Costed). cond {A = ℕ} (is_front [] s.texts) s.cost 0) (unless_small scale stacks) stacks
    ∙ ap (λ (f : Costed → ℕ). sum_by f stacks)
    (fun_ext (λ stack. counted (is_front [] stack.texts) (unless_small scale stacks stack).cost stack.cost
    (λ is.
    cond-false (begins_small scale stacks stack.texts) 0 stack.cost
    (ap (λ (xs : List (List ℕ)). begins_small scale stacks xs) (sym ((is_front-Decides [] stack.texts).0 is))))))
  where
    counted : (b : Bool) (m n : ℕ) → (b ≡ true → m ≡ n) → cond {A = ℕ} b m 0 ≡ cond {A = ℕ} b n 0
    counted true m n same = same refl
    counted false m n same = refl

-- what all stacks cost is what is left and what is too small
pub small-rest : (scale : Scale) (stacks : List Costed)
    → cost_of stacks [] ≡ cost_of (without_small scale stacks) [] + sum_by (cost_of stacks) (small_fronts scale stacks [])
unfolding small_fronts
small-rest scale stacks =
    let others : List Costed = without_small scale stacks in
    let small : List (List ℕ) → Bool = λ next. is_small scale (cost_of stacks next) in
    let nexts : List (List (List ℕ)) = next_fronts [] stacks in
    let one = next-whole [] stacks in
    let two = next-whole [] others in
    let owns = own-left scale stacks in
    let same : sum_by (cost_of others) (next_fronts [] others)
    ≡ sum_by (cost_of stacks) (filter (λ next. not (small next)) nexts) =
    sum-same (cost_of others) (cost_of stacks) (next_fronts [] others)
    (All-weaker (IsLeft scale stacks) (λ next. cost_of others next ≡ cost_of stacks next) (λ next is. is.cost)
    (next_fronts [] others) (left scale stacks))
    ∙ ap (λ (fronts : List (List (List ℕ))). sum_by (cost_of stacks) fronts) (next-left scale stacks) in
    let parts = sum_by-filter_both small (λ next. not (small next)) (λ next. refl) (cost_of stacks) nexts in
    omega arith

-- what a stack costs that begins with too small a text
abbrev pub small_part : Scale → List Costed → Costed → ℕ
small_part scale stacks stack = cond {A = ℕ} (begins_small scale stacks stack.texts) stack.cost 0

-- a stack's cost is left or is too small
parts-are : (scale : Scale) (all stacks : List Costed)
    → sum_by (λ (s : Costed). s.cost) stacks
    ≡ sum_by (λ (s : Costed). s.cost) (map (unless_small scale all) stacks) + sum_by (small_part scale all) stacks
parts-are scale all [] = refl
parts-are scale all (stack ∷ stacks) =
    let one = sum_by-cons (λ (s : Costed). s.cost) stack stacks in
    let two =
    sum_by-cons (λ (s : Costed). s.cost) (unless_small scale all stack) (map (unless_small scale all) stacks) in
    let three = sum_by-cons (small_part scale all) stack stacks in
    let here = halves (begins_small scale all stack.texts) stack.cost in
    let rest = parts-are scale all stacks in
    omega arith
  where
    halves : (b : Bool) (n : ℕ) → n ≡ cond {A = ℕ} b 0 n + cond {A = ℕ} b n 0
    halves true n = omega arith
    halves false n = omega arith

-- the first texts that are too small cost what the stacks cost that begin with one
pub small-sum : (scale : Scale) (stacks : List Costed)
    → sum_by (cost_of stacks) (small_fronts scale stacks []) ≡ sum_by (small_part scale stacks) stacks
unfolding without_small
small-sum scale stacks =
    let rest = small-rest scale stacks in
    let all = inclusive-all stacks in
    let others = inclusive-all (map (unless_small scale stacks) stacks) in
    let parts = parts-are scale stacks stacks in
    omega arith
