-- Lists without what those cost whose first number is too small are the stacks without what begins with too small a text.
use Rattle.std.proofs.Common.{◌≡◌, ℕ, zero, suc, ◌+◌, ◌<◌, ◌≤◌, inl, inr, ◌&&◌, Bool, true, false, eqb, cond, List, []}
use Rattle.std.proofs.Common.{◌∷◌, length, map, take, get_or, refl, sym, ap, ◌∙◌, sum, arith}
use Rattle.std.specs.Prelude.{All, nat_lt, sum_by}
use Rattle.std.proofs.Math.Bool.{and-false}
use Rattle.std.proofs.lemmas.Bool.{cases_Bool, cases_lt, eq-eqb, eqb-true, lt-ltb, ne_eqb}
use Rattle.std.proofs.lemmas.Bool.Decides.{nat_tests, same_from_decides}
use Rattle.std.proofs.lemmas.List.{get_or-map, length-append, length-map}
use Rattle.std.proofs.lemmas.List.Elements.{All-get_or, All-head, All-map, All-tail, All-take, All-weaker}
use Rattle.intern_tables.specs.Distinct.{AreDistinct}
use Rattle.cost_tree.specs.declared.children.Gathered.{Gathered}
use Rattle.cost_tree.specs.declared.scale.Scale.{Scale}
use Rattle.cost_tree.specs.Costed.{Costed, costed}
use Rattle.cost_tree.specs.CostLines.{FrontLine, a_front, cost_lines, front_lines, cost_of, gathered, gathered_lines, is_small, small_fronts}
use Rattle.cost_tree.specs.CutShapes.{ended_cost}
use Rattle.cost_tree.specs.Gathering.{GathersSmall, lines_of}
use Rattle.cost_tree.specs.Inclusive.{has_front, inclusive, least}
use Rattle.cost_tree.specs.NextFronts.{texts_at}
use Rattle.cost_tree.specs.SmallCosts.{TakesSmall, count_below, first_number, is_small_first, tells_small}
use Rattle.cost_tree.specs.SmallTexts.{begins_small, unless_small, with_gathered, without_small}
use Rattle.cost_tree.specs.Texts.{AreTexts, IsText, lists_of, text_of, texts_of}
use Rattle.cost_tree.proofs.Heads.{inclusive-cons, least-cons}
use Rattle.cost_tree.proofs.Laws.{costed-count, costed-sum}
use Rattle.cost_tree.proofs.Naming.{same_number}
use Rattle.cost_tree.proofs.Prefixes.{has_front-Decides}
use Rattle.cost_tree.proofs.SmallCounts.{opens_small, small-more, small-rest, small_up_to}
use Rattle.cost_tree.proofs.SmallTexts.{gathered-by, gathered_line, made-with-small, small-count}
use Rattle.cost_tree.proofs.Sums.{inclusive-all}

first-none : first_number [] ≡ 0
unfolding first_number
first-none = refl

first-head : (number : ℕ) (numbers : List ℕ) → first_number (number ∷ numbers) ≡ number
unfolding first_number
first-head number numbers = refl

-- a list of numbers begins with a text where that is its first number's
begins-first : (names : List (List ℕ)) (list : List ℕ) (f : ℕ) → AreDistinct names → All (IsText names) list
    → IsText names f → has_front (text_of names f ∷ []) (texts_of names list) ≡ eqb (first_number list) f
unfolding first_number
begins-first names [] f distinct texts is =
    let some = is.0 in
    same_from_decides (has_front (text_of names f ∷ []) []) (eqb 0 f) (has_front-Decides (text_of names f ∷ []) []) (
      (λ same. absurd (let e = eqb-true 0 f same in omega arith)),
      (λ same. absurd (let e = ap (λ (xs : List (List ℕ)). length xs) same in omega arith)),
    )
begins-first names (number ∷ list) f distinct texts is =
    same_from_decides (has_front (text_of names f ∷ []) (texts_of names (number ∷ list))) (eqb number f)
    (has_front-Decides (text_of names f ∷ []) (texts_of names (number ∷ list))) (
      (λ same. ap (λ (n : ℕ). text_of names n ∷ []) (sym (eqb-true number f same))),
      (λ same. eq-eqb number f
          (same_number names number f distinct (All-head (IsText names) number list texts) is
          (ap (λ (xs : List (List ℕ)). get_or xs 0 []) (sym same)))),
    )

-- a text costs what the lists cost that begin with its number
first-cost : (names : List (List ℕ)) (whole : List (List ℕ)) (costs : List ℕ) (f : ℕ) → AreDistinct names
    → AreTexts names whole → IsText names f
    → inclusive (text_of names f ∷ []) (costed (lists_of names whole) costs)
    ≡ ended_cost (map first_number whole) costs f
unfolding costed ended_cost inclusive
first-cost names [] costs f distinct texts is = refl
first-cost names (list ∷ whole) [] f distinct texts is = refl
first-cost names (list ∷ whole) (cost ∷ costs) f distinct texts is =
    let first : Costed = record { texts = texts_of names list; cost = cost } in
    inclusive-cons (text_of names f ∷ []) first (costed (lists_of names whole) costs)
    ∙ ap (λ (b : Bool). cond {A = ℕ} b cost 0
    + inclusive (text_of names f ∷ []) (costed (lists_of names whole) costs))
    (begins-first names list f distinct (All-head (All (IsText names)) list whole texts) is)
    ∙ ap (λ (n : ℕ). cond {A = ℕ} (eqb (first_number list) f) cost 0 + n)
    (first-cost names whole costs f distinct (All-tail (All (IsText names)) list whole texts) is)

-- the first stacks, and one of them
take-costed : (n : ℕ) (lists : List (List (List ℕ))) (costs : List ℕ)
    → take n (costed lists costs) ≡ costed (take n lists) (take n costs)
unfolding costed
take-costed zero lists costs = refl
take-costed (suc n) [] costs = refl
take-costed (suc n) (list ∷ lists) [] = refl
take-costed (suc n) (list ∷ lists) (cost ∷ costs) =
    ap (λ (ss : List Costed). record { texts = list; cost = cost } ∷ ss) (take-costed n lists costs)

take-mapped : {X Y : Type 0} (f : X → Y) (n : ℕ) (xs : List X) → take n (map f xs) ≡ map f (take n xs)
take-mapped f zero xs = refl
take-mapped f (suc n) [] = refl
take-mapped {X} {Y} f (suc n) (x ∷ xs) = ap (λ (ys : List Y). f x ∷ ys) (take-mapped f n xs)

texts-of : (lists : List (List (List ℕ))) (costs : List ℕ) (n : ℕ) → length costs ≡ length lists
    → texts_at (costed lists costs) n ≡ get_or lists n []
unfolding costed
texts-of [] costs n same = refl
texts-of (list ∷ lists) [] n same = absurd (omega arith)
texts-of (list ∷ lists) (cost ∷ costs) zero same = refl
texts-of (list ∷ lists) (cost ∷ costs) (suc n) same = texts-of lists costs n (omega arith)

cost-of : (lists : List (List (List ℕ))) (costs : List ℕ) (n : ℕ) → length costs ≡ length lists
    → (get_or (costed lists costs) n (record { texts = []; cost = 0 })).cost ≡ get_or costs n 0
unfolding costed
cost-of [] [] n same = refl
cost-of [] (cost ∷ costs) n same = absurd (omega arith)
cost-of (list ∷ lists) [] n same = absurd (omega arith)
cost-of (list ∷ lists) (cost ∷ costs) zero same = refl
cost-of (list ∷ lists) (cost ∷ costs) (suc n) same = cost-of lists costs n (omega arith)

-- behind a stack that costs something and begins with a front no stack is the least of it
later-first : (least n cost more : ℕ) (costs has : Bool) → eqb least n ≡ (costs && eqb more 0)
    → eqb (cond {A = ℕ} (nat_lt 0 cost && has) 0 (1 + least)) (suc n)
    ≡ (costs && eqb (cond {A = ℕ} has cost 0 + more) 0)
later-first least n cost more costs has is =
    elim (cases_Bool has) [
      | inr other ↦
          ap (λ (b : Bool). eqb (cond {A = ℕ} (nat_lt 0 cost && b) 0 (1 + least)) (suc n)) other
          ∙ ap (λ (b : Bool). eqb (cond {A = ℕ} b 0 (1 + least)) (suc n)) (and-false (nat_lt 0 cost))
          ∙ behind 0 refl
          ∙ ap (λ (b : Bool). costs && eqb (cond {A = ℕ} b cost 0 + more) 0) (sym other)
      | inl begins ↦ elim (cases_lt 0 cost) [
        | inr free ↦
            ap (λ (b : Bool). eqb (cond {A = ℕ} (b && has) 0 (1 + least)) (suc n))
            (let e : nat_lt 0 cost ≡ false = grind (arith, nat_tests) in e)
            ∙ behind cost (omega arith)
            ∙ ap (λ (b : Bool). costs && eqb (cond {A = ℕ} b cost 0 + more) 0) (sym begins)
        | inl some ↦
            ap (λ (b : Bool). eqb (cond {A = ℕ} (b && has) 0 (1 + least)) (suc n)) (lt-ltb 0 cost some)
            ∙ ap (λ (b : Bool). eqb (cond {A = ℕ} (true && b) 0 (1 + least)) (suc n)) begins
            ∙ ne_eqb 0 (suc n) (λ e. absurd (omega arith))
            ∙ sym
            (ap (λ (b : Bool). costs && eqb (cond {A = ℕ} b cost 0 + more) 0) begins
            ∙ ap (λ (t : Bool). costs && t) (ne_eqb (cost + more) 0 (λ e. absurd (omega arith)))
            ∙ and-false costs)
      ]
    ]
  where
    behind : (k : ℕ) → k ≡ 0 → eqb (1 + least) (suc n) ≡ (costs && eqb (k + more) 0)
    behind k none =
        (let e : eqb (1 + least) (suc n) ≡ eqb least n = grind (arith, nat_tests) in e)
        ∙ is
        ∙ ap (λ (m : ℕ). costs && eqb m 0) (let e : more ≡ k + more = omega arith in e)

-- a stack that begins with a front is the least of it where it costs something, and no stack before it does
least-first : (front : List (List ℕ)) (stacks : List Costed) (n : ℕ) → n < length stacks
    → has_front front (texts_at stacks n) ≡ true
    → eqb (least front stacks) n
    ≡ (nat_lt 0 (get_or stacks n (record { texts = []; cost = 0 })).cost && eqb (inclusive front (take n stacks)) 0)
unfolding inclusive
least-first front [] n within has = absurd (omega arith)
least-first front (stack ∷ stacks) zero within has =
    ap (λ (m : ℕ). eqb m 0) (least-cons front stack stacks)
    ∙ ap (λ (b : Bool). eqb (cond {A = ℕ} (nat_lt 0 stack.cost && b) 0 (1 + least front stacks)) 0) has
    ∙ by_flag (nat_lt 0 stack.cost)
  where
    by_flag : (b : Bool) → eqb (cond {A = ℕ} (b && true) 0 (1 + least front stacks)) 0 ≡ (b && true)
    by_flag true = refl
    by_flag false = ne_eqb (1 + least front stacks) 0 (λ e. absurd (omega arith))
least-first front (stack ∷ stacks) (suc n) within has =
    ap (λ (m : ℕ). eqb m (suc n)) (least-cons front stack stacks)
    ∙ later-first (least front stacks) n stack.cost (inclusive front (take n stacks))
    (nat_lt 0 (get_or stacks n (record { texts = []; cost = 0 })).cost) (has_front front stack.texts)
    (least-first front stacks n (omega arith) has)
    ∙ ap (λ (m : ℕ). nat_lt 0 (get_or stacks n (record { texts = []; cost = 0 })).cost && eqb m 0)
    (sym (inclusive-cons front stack (take n stacks)))

-- whether a stack opens a text that is too small, by numbers
pub tells-opens : (names : List (List ℕ)) (whole : List (List ℕ)) (costs : List ℕ) (scale : Scale) (n : ℕ)
    → AreDistinct names → AreTexts names whole → length costs ≡ length whole → n < length whole
    → opens_small scale (costed (lists_of names whole) costs) n
    ≡ tells_small scale (map first_number whole) costs n
tells-opens names whole costs scale n distinct texts same within =
    ap (λ (xs : List (List ℕ)). has_front [] xs && nat_lt 0 (length xs) && eqb (least (take 1 xs) stacks) n
    && is_small scale (cost_of stacks (take 1 xs))) (texts-of lists costs n as_many ∙ named)
    ∙ by_list list listed held at
  where
    lists : List (List (List ℕ))
    lists = lists_of names whole

    stacks : List Costed
    stacks = costed lists costs

    list : List ℕ
    list = get_or whole n []

    firsts : List ℕ
    firsts = map first_number whole

    as_many : length costs ≡ length lists
    as_many = same ∙ sym (length-map whole (texts_of names))

    named : get_or lists n [] ≡ texts_of names list
    named = get_or-map (texts_of names) whole n [] [] within

    listed : get_or firsts n 0 ≡ first_number list
    listed = get_or-map first_number whole n [] 0 within

    held : All (IsText names) list
    held = All-get_or (All (IsText names)) whole n [] within texts

    at : texts_at stacks n ≡ texts_of names list
    at = texts-of lists costs n as_many ∙ named

    by_list : (own : List ℕ) → get_or firsts n 0 ≡ first_number own → All (IsText names) own
        → texts_at stacks n ≡ texts_of names own
        → (has_front [] (texts_of names own) && nat_lt 0 (length (texts_of names own))
        && eqb (least (take 1 (texts_of names own)) stacks) n
        && is_small scale (cost_of stacks (take 1 (texts_of names own))))
        ≡ tells_small scale firsts costs n
    by_list [] first all here =
        ap (λ (b : Bool). b && eqb (least [] stacks) n && is_small scale (cost_of stacks []))
        (and-false (has_front [] []))
        ∙ sym
        (ap (λ (f : ℕ). is_small_first scale firsts costs f && nat_lt 0 (get_or costs n 0)
        && eqb (ended_cost (take n firsts) (take n costs) f) 0) (first ∙ first-none))
    by_list (f ∷ own) first all here =
        let is = All-head (IsText names) f own all in
        let some : nat_lt 0 f ≡ true = lt-ltb 0 f (omega (arith, is.0)) in
        let front : List (List ℕ) = text_of names f ∷ [] in
        let cost : cost_of stacks front ≡ ended_cost firsts costs f =
        first-cost names whole costs f distinct texts is in
        let begins : has_front front (texts_at stacks n) ≡ true =
        ap (λ (xs : List (List ℕ)). has_front front xs) here ∙ (has_front-Decides front (texts_of names (f ∷ own))).1 refl in
        let before : inclusive front (take n stacks) ≡ ended_cost (take n firsts) (take n costs) f =
        ap (λ (ss : List Costed). inclusive front ss)
        (take-costed n lists costs
        ∙ ap (λ (ls : List (List (List ℕ))). costed ls (take n costs)) (take-mapped (texts_of names) n whole))
        ∙ first-cost names (take n whole) (take n costs) f distinct (All-take (All (IsText names)) n whole texts) is
        ∙ ap (λ (fs : List ℕ). ended_cost fs (take n costs) f) (sym (take-mapped first_number n whole)) in
        let count = costed-count lists costs as_many in
        let lists_count = length-map whole (texts_of names) in
        let least_is : eqb (least front stacks) n
        ≡ (nat_lt 0 (get_or costs n 0) && eqb (ended_cost (take n firsts) (take n costs) f) 0) =
        least-first front stacks n (omega arith) begins
        ∙ ap (λ (k : ℕ). nat_lt 0 k && eqb (inclusive front (take n stacks)) 0) (cost-of lists costs n as_many)
        ∙ ap (λ (k : ℕ). nat_lt 0 (get_or costs n 0) && eqb k 0) before in
        let small : Bool = is_small scale (ended_cost firsts costs f) in
        let first_is : get_or firsts n 0 ≡ f = first ∙ first-head f own in
        ap (λ (b : Bool). b && nat_lt 0 (suc (length (texts_of names own))) && eqb (least front stacks) n
        && is_small scale (cost_of stacks front)) ((has_front-Decides [] (texts_of names (f ∷ own))).1 refl)
        ∙ ap (λ (b : Bool). true && b && eqb (least front stacks) n && is_small scale (cost_of stacks front))
        (lt-ltb 0 (suc (length (texts_of names own))) (omega arith))
        ∙ ap (λ (b : Bool). b && is_small scale (cost_of stacks front)) least_is
        ∙ ap (λ (k : ℕ). nat_lt 0 (get_or costs n 0) && eqb (ended_cost (take n firsts) (take n costs) f) 0
        && is_small scale k) cost
        ∙ turned (nat_lt 0 (get_or costs n 0)) (eqb (ended_cost (take n firsts) (take n costs) f) 0) small
        ∙ ap (λ (b : Bool). b && small && nat_lt 0 (get_or costs n 0)
        && eqb (ended_cost (take n firsts) (take n costs) f) 0) (sym some)
        ∙ ap (λ (k : ℕ). is_small_first scale firsts costs k && nat_lt 0 (get_or costs n 0)
        && eqb (ended_cost (take n firsts) (take n costs) k) 0) (sym first_is)
      where
        turned : (a b c : Bool) → (a && b && c) ≡ (true && c && a && b)
        turned true true true = refl
        turned true true false = refl
        turned true false true = refl
        turned true false false = refl
        turned false b true = refl
        turned false b false = refl

-- so many first texts are too small
small-told : (names : List (List ℕ)) (whole : List (List ℕ)) (costs : List ℕ) (scale : Scale) (n : ℕ)
    → AreDistinct names → AreTexts names whole → length costs ≡ length whole → n ≤ length whole
    → length (small_up_to scale (costed (lists_of names whole) costs) n)
    ≡ count_below (tells_small scale (map first_number whole) costs) n
unfolding count_below
small-told names whole costs scale zero distinct texts same within = refl
small-told names whole costs scale (suc n) distinct texts same within =
    let stacks : List Costed = costed (lists_of names whole) costs in
    let here : Bool = opens_small scale stacks n in
    ap (λ (k : ℕ). length (small_up_to scale stacks k)) (let e : suc n ≡ n + 1 = omega arith in e)
    ∙ ap (λ (ns : List ℕ). length ns) (small-more scale stacks n)
    ∙ length-append (small_up_to scale stacks n) (cond {A = List ℕ} here (n ∷ []) [])
    ∙ ap (λ (k : ℕ). k + length (cond {A = List ℕ} here (n ∷ []) []))
    (small-told names whole costs scale n distinct texts same (omega arith))
    ∙ ap (λ (k : ℕ). count_below (tells_small scale (map first_number whole) costs) n + k)
    (one here
    ∙ ap (λ (b : Bool). cond {A = ℕ} b 1 0) (tells-opens names whole costs scale n distinct texts same (omega arith)))
  where
    one : (b : Bool) → length (cond {A = List ℕ} b (n ∷ []) []) ≡ cond {A = ℕ} b 1 0
    one true = refl
    one false = refl

-- a list begins with too small a text as its first number says
begins-small : (names : List (List ℕ)) (whole : List (List ℕ)) (costs : List ℕ) (scale : Scale) (list : List ℕ)
    → AreDistinct names → AreTexts names whole → All (IsText names) list
    → begins_small scale (costed (lists_of names whole) costs) (texts_of names list)
    ≡ is_small_first scale (map first_number whole) costs (first_number list)
unfolding first_number
begins-small names whole costs scale [] distinct texts all = refl
begins-small names whole costs scale (f ∷ list) distinct texts all =
    let is = All-head (IsText names) f list all in
    ap (λ (b : Bool). b && is_small scale (cost_of (costed (lists_of names whole) costs) (text_of names f ∷ [])))
    (lt-ltb 0 (suc (length (texts_of names list))) (omega arith) ∙ sym (lt-ltb 0 f (omega (arith, is.0))))
    ∙ ap (λ (k : ℕ). nat_lt 0 f && is_small scale k) (first-cost names whole costs f distinct texts is)

-- what is left of stacks is what is left of their costs
left-costed : (names : List (List ℕ)) (whole some : List (List ℕ)) (costs old new : List ℕ) (scale : Scale)
    → AreDistinct names → AreTexts names whole → AreTexts names some → length old ≡ length some
    → length new ≡ length old
    → ((k : ℕ) → k < length old → get_or new k 0
    ≡ cond {A = ℕ} (is_small_first scale (map first_number whole) costs (get_or (map first_number some) k 0)) 0
    (get_or old k 0))
    → costed (lists_of names some) new
    ≡ map (unless_small scale (costed (lists_of names whole) costs)) (costed (lists_of names some) old)
unfolding costed
left-costed names whole [] costs old new scale distinct texts all same as_many left = refl
left-costed names whole (list ∷ some) costs [] new scale distinct texts all same as_many left = absurd (omega arith)
left-costed names whole (list ∷ some) costs (cost ∷ old) [] scale distinct texts all same as_many left =
    absurd (omega arith)
left-costed names whole (list ∷ some) costs (cost ∷ old) (is ∷ new) scale distinct texts all same as_many left =
    ap (λ (c : ℕ). record { texts = texts_of names list; cost = c } ∷ costed (lists_of names some) new)
    (left 0 (omega arith)
    ∙ ap (λ (b : Bool). cond {A = ℕ} b 0 cost)
    (sym (begins-small names whole costs scale list distinct texts (All-head (All (IsText names)) list some all))))
    ∙ ap (λ (ss : List Costed). unless_small scale (costed (lists_of names whole) costs)
    (record { texts = texts_of names list; cost = cost })
    ∷ ss)
    (left-costed names whole some costs old new scale distinct texts (All-tail (All (IsText names)) list some all)
    (omega arith) (omega arith) (λ k within. left (suc k) (omega arith)))

sum-costed : (lists : List (List (List ℕ))) (costs : List ℕ) → length costs ≡ length lists
    → cost_of (costed lists costs) [] ≡ sum costs
sum-costed lists costs same = inclusive-all (costed lists costs) ∙ costed-sum lists costs same

-- what is taken out of the costs is gathered
pub gathers : (names : List (List ℕ)) (whole : List (List ℕ)) (scale : Scale) (old new : List ℕ) (few : Gathered)
    (depth : ℕ) → AreDistinct names → AreTexts names whole → length old ≡ length whole → 0 < depth
    → TakesSmall scale (map first_number whole) old new few
    → GathersSmall depth scale (lists_of names whole) old new few
unfolding without_small
gathers names whole scale old new few zero distinct texts same deep takes = absurd (omega arith)
gathers names whole scale old new few (suc more) distinct texts same deep takes =
    let lists : List (List (List ℕ)) = lists_of names whole in
    let stacks : List Costed = costed lists old in
    let as_many : length old ≡ length lists = same ∙ sym (length-map whole (texts_of names)) in
    let new_many : length new ≡ length lists = takes.as_many ∙ as_many in
    let others : costed lists new ≡ without_small scale stacks =
    left-costed names whole whole old old new scale distinct texts texts same takes.as_many takes.left in
    let count = costed-count lists old as_many ∙ length-map whole (texts_of names) in
    let places : length (small_fronts scale stacks []) ≡ few.places =
    small-count scale stacks
    ∙ ap (λ (n : ℕ). length (small_up_to scale stacks n)) count
    ∙ small-told names whole old scale (length whole) distinct texts same (omega arith)
    ∙ ap (count_below (tells_small scale (map first_number whole) old)) (sym same)
    ∙ sym takes.places in
    let rest = small-rest scale stacks in
    let all = sum-costed lists old as_many in
    let less = ap (λ (ss : List Costed). cost_of ss []) (sym others) ∙ sum-costed lists new new_many in
    let parts = takes.parts in
    let cost : sum_by (cost_of stacks) (small_fronts scale stacks []) ≡ few.cost = omega arith in
    record {
      as_many = takes.as_many;
      parts = takes.parts;
      lines =
          made-with-small more scale stacks
          ∙ ap (λ (ss : List Costed). with_gathered (cost_lines (suc more) scale ss) (cost_of stacks [])
          (gathered_lines stacks 1 (small_fronts scale stacks []))) (sym others)
          ∙ ap (λ (n : ℕ). with_gathered (cost_lines (suc more) scale (costed lists new)) n
          (gathered_lines stacks 1 (small_fronts scale stacks []))) all
          ∙ ap (λ (ls : List FrontLine). with_gathered (cost_lines (suc more) scale (costed lists new)) (sum old) ls)
          (gathered-by stacks 1 (small_fronts scale stacks [])
          ∙ ap (λ (n : ℕ). gathered_line 1 n (sum_by (cost_of stacks) (small_fronts scale stacks []))) places
          ∙ ap (λ (n : ℕ). gathered_line 1 few.places n) cost
          ∙ one_line few.places few.cost);
    }
  where
    one_line : (places cost : ℕ) → gathered_line 1 places cost ≡ lines_of (record { places = places; cost = cost })
    one_line zero cost = refl
    one_line (suc places) cost =
        sym (ap (λ (b : Bool). cond {A = List FrontLine} b
        (record { level = 1; children = 0; cost = cost; shown = gathered (suc places) } ∷ []) [])
        (lt-ltb 0 (suc places) (omega arith)))

-- at depth 0 nothing is
pub gathers-none : (scale : Scale) (lists : List (List (List ℕ))) (costs : List ℕ) → length costs ≡ length lists
    → GathersSmall 0 scale lists costs costs (record { places = 0; cost = 0 })
unfolding cost_lines front_lines
gathers-none scale lists costs same = record {
  as_many = refl;
  parts = omega arith;
  lines = ap (λ (n : ℕ). record { level = 0; children = 0; cost = n; shown = a_front [] } ∷ [])
      (sum-costed lists costs same);
}

-- the first numbers are those of texts, or 0
pub firsts-held : (names : List (List ℕ)) (whole : List (List ℕ)) (n : ℕ) → length names < n → AreTexts names whole
    → All (λ (f : ℕ). f < n) (map first_number whole)
unfolding first_number
firsts-held names whole n fits texts =
    All-map (λ (f : ℕ). f < n) first_number whole
    (All-weaker (All (IsText names)) (λ list. first_number list < n) within whole texts)
  where
    within : (list : List ℕ) → All (IsText names) list → first_number list < n
    within [] all = omega arith
    within (f ∷ list) all = omega (arith, (All-head (IsText names) f list all).1)

pub lists-count : (names : List (List ℕ)) (whole : List (List ℕ)) → length (lists_of names whole) ≡ length whole
lists-count names whole = length-map whole (texts_of names)
