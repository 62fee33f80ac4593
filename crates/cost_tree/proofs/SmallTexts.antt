-- The lines of stacks are made of those of the same stacks where what begins with too small a text costs nothing.
use Rattle.std.proofs.Common.{◌≡◌, ℕ, zero, suc, ◌+◌, ◌<◌, inl, inr, ◌&&◌, not, Bool, true, false, eqb, cond, List}
use Rattle.std.proofs.Common.{[], ◌∷◌, ◌++◌, length, map, filter, take, append-nil, get_or, refl, sym, ap, ◌∙◌, subst, arith}
use Rattle.std.specs.Prelude.{All, nat_lt, sum_by}
use Rattle.std.specs.List.{flat_map, range_with_len}
use Rattle.std.proofs.Math.Bool.{and-false, and-true}
use Rattle.std.proofs.Math.Path.{fun_ext}
use Rattle.std.proofs.lemmas.Bool.{cases_Bool, cond-false, cond-true, false_from_ne_true, lt-ltb, ltb-true}
use Rattle.std.proofs.lemmas.List.{length-map, length-take, take-take}
use Rattle.std.proofs.lemmas.List.Elements.{All-filter, All-head, All-tail, All-weaker, filter_passes}
use Rattle.cost_tree.specs.declared.scale.Scale.{Scale}
use Rattle.cost_tree.specs.Costed.{Costed}
use Rattle.cost_tree.specs.CostLines.{FrontLine, a_front, cost_lines, cost_of, front_line, front_lines, gathered}
use Rattle.cost_tree.specs.CostLines.{gathered_lines, is_small, kept_fronts, small_fronts}
use Rattle.cost_tree.specs.Inclusive.{has_front, inclusive, least}
use Rattle.cost_tree.specs.NextFronts.{longer_front, next_fronts, opens, texts_at}
use Rattle.cost_tree.specs.Order.{by_cost}
use Rattle.cost_tree.specs.SmallTexts.{AreMadeWithSmall, begins_small, unless_small, with_gathered, without_small}
use Rattle.cost_tree.proofs.ChildNodes.{sum-mapped, sum-same}
use Rattle.cost_tree.proofs.Firsts.{IsCostly, has-begun, kept-costly, one-longer}
use Rattle.cost_tree.proofs.Heads.{inclusive-cons, least-cons}
use Rattle.cost_tree.proofs.Nexts.{IsLonger, next-longer}
use Rattle.cost_tree.proofs.Orders.{by_cost-same, filter-map, filter-same}
use Rattle.cost_tree.proofs.Prefixes.{has_front-Decides}
use Rattle.cost_tree.proofs.Siblings.{opens-is}

-- stacks are changed to others with the same texts, that cost the same where these begin with a front
record Keeps (front : List (List ℕ)) (change : Costed → Costed) : Type 0 where
  texts : (stack : Costed) → (change stack).texts ≡ stack.texts
  cost : (stack : Costed) → has_front front stack.texts ≡ true → (change stack).cost ≡ stack.cost

-- so the front costs the same
inclusive-kept : (front : List (List ℕ)) (change : Costed → Costed) (stacks : List Costed) → Keeps front change
    → inclusive front (map change stacks) ≡ inclusive front stacks
inclusive-kept front change [] keeps = refl
inclusive-kept front change (stack ∷ stacks) keeps =
    let new : Costed = change stack in
    let one = inclusive-cons front new (map change stacks) in
    let two = inclusive-cons front stack stacks in
    let rest = inclusive-kept front change stacks keeps in
    let here : cond {A = ℕ} (has_front front new.texts) new.cost 0
    ≡ cond {A = ℕ} (has_front front stack.texts) stack.cost 0 =
    ap (λ (xs : List (List ℕ)). cond {A = ℕ} (has_front front xs) new.cost 0) (keeps.texts stack)
    ∙ counted (has_front front stack.texts) new.cost stack.cost (keeps.cost stack) in
    omega arith
  where
    counted : (b : Bool) (m n : ℕ) → (b ≡ true → m ≡ n) → cond {A = ℕ} b m 0 ≡ cond {A = ℕ} b n 0
    counted true m n same = same refl
    counted false m n same = refl

-- and has the same first stack
least-kept : (front : List (List ℕ)) (change : Costed → Costed) (stacks : List Costed) → Keeps front change
    → least front (map change stacks) ≡ least front stacks
least-kept front change [] keeps = refl
least-kept front change (stack ∷ stacks) keeps =
    let new : Costed = change stack in
    let place : ℕ → Bool → ℕ = λ n b. cond {A = ℕ} b 0 (1 + n) in
    least-cons front new (map change stacks)
    ∙ ap (place (least front (map change stacks)))
    (ap (λ (xs : List (List ℕ)). nat_lt 0 new.cost && has_front front xs) (keeps.texts stack)
    ∙ costs (has_front front stack.texts) new.cost stack.cost (keeps.cost stack))
    ∙ ap (λ (n : ℕ). place n (nat_lt 0 stack.cost && has_front front stack.texts))
    (least-kept front change stacks keeps)
    ∙ sym (least-cons front stack stacks)
  where
    costs : (b : Bool) (m n : ℕ) → (b ≡ true → m ≡ n) → (nat_lt 0 m && b) ≡ (nat_lt 0 n && b)
    costs true m n same = ap (λ (k : ℕ). nat_lt 0 k && true) (same refl)
    costs false m n same = and-false (nat_lt 0 m) ∙ sym (and-false (nat_lt 0 n))

-- so do the fronts that begin with it
longer-kept : (front next : List (List ℕ)) (change : Costed → Costed) → front ≡ take (length front) next
    → Keeps front change → Keeps next change
longer-kept front next change begins keeps = record {
  texts = keeps.texts;
  cost = λ stack has. keeps.cost stack (has-begun front next stack.texts begins has);
}

-- the texts of a stack by its number
texts-kept : (change : Costed → Costed) (stacks : List Costed) (n : ℕ)
    → ((stack : Costed) → (change stack).texts ≡ stack.texts) → texts_at (map change stacks) n ≡ texts_at stacks n
texts-kept change [] n same = refl
texts-kept change (stack ∷ stacks) zero same = same stack
texts-kept change (stack ∷ stacks) (suc n) same = texts-kept change stacks n same

opens-kept : (front : List (List ℕ)) (change : Costed → Costed) (stacks : List Costed) (n : ℕ) → Keeps front change
    → opens front (map change stacks) n ≡ opens front stacks n
opens-kept front change stacks n keeps =
    ap
    (λ (xs : List (List ℕ)). has_front front xs && nat_lt (length front) (length xs)
    && eqb (least (take (length front + 1) xs) (map change stacks)) n)
    (texts-kept change stacks n keeps.texts)
    ∙ by_flag (has_front front texts) (nat_lt (length front) (length texts)) (least longer (map change stacks))
    (least longer stacks) first
  where
    texts : List (List ℕ)
    texts = texts_at stacks n

    longer : List (List ℕ)
    longer = longer_front front stacks n

    first : has_front front texts ≡ true → least longer (map change stacks) ≡ least longer stacks
    first has =
        least-kept longer change stacks
        (longer-kept front longer change
        ((has_front-Decides front texts).0 has
        ∙ sym (take-take (length front) (length front + 1) texts (omega arith))) keeps)

    by_flag : (b on : Bool) (i j : ℕ) → (b ≡ true → i ≡ j) → (b && on && eqb i n) ≡ (b && on && eqb j n)
    by_flag true on i j same = ap (λ (k : ℕ). on && eqb k n) (same refl)
    by_flag false on i j same = refl

-- the fronts that are one text longer, by a test of stacks
opened-by : (front : List (List ℕ)) (change : Costed → Costed) (stacks : List Costed) (test : ℕ → Bool)
    → ((stack : Costed) → (change stack).texts ≡ stack.texts)
    → ((n : ℕ) → opens front (map change stacks) n ≡ test n)
    → next_fronts front (map change stacks)
    ≡ map (longer_front front stacks) (filter test (range_with_len 0 (length stacks)))
unfolding next_fronts
opened-by front change stacks test same opened =
    ap
    (λ (k : ℕ). map (longer_front front (map change stacks))
    (filter (opens front (map change stacks)) (range_with_len 0 k))) (length-map stacks change)
    ∙ ap
    (λ (longer : ℕ → List (List ℕ)). map longer
    (filter (opens front (map change stacks)) (range_with_len 0 (length stacks))))
    (fun_ext (λ n. ap (λ (xs : List (List ℕ)). take (length front + 1) xs) (texts-kept change stacks n same)))
    ∙ ap (λ (p : ℕ → Bool). map (longer_front front stacks) (filter p (range_with_len 0 (length stacks))))
    (fun_ext opened)

-- stacks of which a front has the same cost and goes on alike
record AreAlike (front : List (List ℕ)) (stacks others : List Costed) : Type 0 where
  cost : cost_of others front ≡ cost_of stacks front
  next : next_fronts front others ≡ next_fronts front stacks
  costs : All (λ next. cost_of others next ≡ cost_of stacks next) (next_fronts front stacks)

alike-kept : (front : List (List ℕ)) (change : Costed → Costed) (stacks : List Costed) → Keeps front change
    → AreAlike front stacks (map change stacks)
unfolding next_fronts
alike-kept front change stacks keeps = record {
  cost = inclusive-kept front change stacks keeps;
  next =
      opened-by front change stacks (opens front stacks) keeps.texts (λ n. opens-kept front change stacks n keeps);
  costs =
      All-weaker (IsLonger front stacks) (λ next. cost_of (map change stacks) next ≡ cost_of stacks next)
      (λ next is. inclusive-kept next change stacks
      (longer-kept front next change (one-longer front next stacks is).begins keeps))
      (next_fronts front stacks) (next-longer front stacks);
}

-- so the same longer fronts have lines of their own, and the same are gathered
kept-alike : (scale : Scale) (front : List (List ℕ)) (stacks others : List Costed) → AreAlike front stacks others
    → kept_fronts scale others front ≡ kept_fronts scale stacks front
unfolding kept_fronts
kept-alike scale front stacks others alike =
    let kept : List Costed → List (List ℕ) → Bool = λ ss next. not (is_small scale (cost_of ss next)) in
    ap (λ (fronts : List (List (List ℕ))). by_cost (cost_of others) (filter (kept others) fronts)) alike.next
    ∙ ap (λ (fronts : List (List (List ℕ))). by_cost (cost_of others) fronts)
    (filter-same (kept others) (kept stacks) (next_fronts front stacks)
    (All-weaker (λ next. cost_of others next ≡ cost_of stacks next) (λ next. kept others next ≡ kept stacks next)
    (λ next equal. ap (λ (n : ℕ). not (is_small scale n)) equal) (next_fronts front stacks) alike.costs))
    ∙ by_cost-same (cost_of others) (cost_of stacks) (filter (kept stacks) (next_fronts front stacks))
    (All-filter (kept stacks) (λ next. cost_of others next ≡ cost_of stacks next) (next_fronts front stacks)
    alike.costs)

small-alike : (scale : Scale) (front : List (List ℕ)) (stacks others : List Costed) → AreAlike front stacks others
    → small_fronts scale others front ≡ small_fronts scale stacks front
unfolding small_fronts
small-alike scale front stacks others alike =
    let small : List Costed → List (List ℕ) → Bool = λ ss next. is_small scale (cost_of ss next) in
    ap (λ (fronts : List (List (List ℕ))). filter (small others) fronts) alike.next
    ∙ filter-same (small others) (small stacks) (next_fronts front stacks)
    (All-weaker (λ next. cost_of others next ≡ cost_of stacks next) (λ next. small others next ≡ small stacks next)
    (λ next equal. ap (λ (n : ℕ). is_small scale n) equal) (next_fronts front stacks) alike.costs)

small-costs : (scale : Scale) (front : List (List ℕ)) (stacks others : List Costed) → AreAlike front stacks others
    → All (λ next. cost_of others next ≡ cost_of stacks next) (small_fronts scale stacks front)
unfolding small_fronts
small-costs scale front stacks others alike =
    All-filter (λ next. is_small scale (cost_of stacks next)) (λ next. cost_of others next ≡ cost_of stacks next)
    (next_fronts front stacks) alike.costs

-- the line of so many fronts that are gathered, which cost so much together
abbrev pub gathered_line : ℕ → ℕ → ℕ → List FrontLine
gathered_line level zero cost = []
gathered_line level (suc places) cost =
    record { level = level; children = 0; cost = cost; shown = gathered (suc places) } ∷ []

pub gathered-by : (stacks : List Costed) (level : ℕ) (fronts : List (List (List ℕ)))
    → gathered_lines stacks level fronts ≡ gathered_line level (length fronts) (sum_by (cost_of stacks) fronts)
unfolding gathered_lines
gathered-by stacks level [] = refl
gathered-by stacks level (next ∷ more) = refl

gathered-alike : (scale : Scale) (front : List (List ℕ)) (stacks others : List Costed) (level : ℕ)
    → AreAlike front stacks others
    → gathered_lines others level (small_fronts scale others front)
    ≡ gathered_lines stacks level (small_fronts scale stacks front)
gathered-alike scale front stacks others level alike =
    let few : List (List (List ℕ)) = small_fronts scale stacks front in
    ap (λ (fronts : List (List (List ℕ))). gathered_lines others level fronts)
    (small-alike scale front stacks others alike)
    ∙ gathered-by others level few
    ∙ ap (λ (n : ℕ). gathered_line level (length few) n)
    (sum-same (cost_of others) (cost_of stacks) few (small-costs scale front stacks others alike))
    ∙ sym (gathered-by stacks level few)

flat-same : {X Y : Type 0} (f g : X → List Y) (xs : List X) → All (λ x. f x ≡ g x) xs → flat_map f xs ≡ flat_map g xs
flat-same f g [] all = refl
flat-same {X} {Y} f g (x ∷ xs) all =
    ap (λ (ys : List Y). ys ++ flat_map f xs) (All-head (λ z. f z ≡ g z) x xs all)
    ∙ ap (λ (ys : List Y). g x ++ ys) (flat-same f g xs (All-tail (λ z. f z ≡ g z) x xs all))

-- a front's lines are the same
lines-kept : (more : ℕ) (scale : Scale) (front : List (List ℕ)) (change : Costed → Costed) (stacks : List Costed)
    → Keeps front change → front_lines more scale (map change stacks) front ≡ front_lines more scale stacks front
unfolding front_lines
lines-kept zero scale front change stacks keeps =
    let line : ℕ → FrontLine =
    λ cost. record { level = length front; children = 0; cost = cost; shown = a_front front } in
    ap (λ (n : ℕ). line n ∷ []) (inclusive-kept front change stacks keeps)
lines-kept (suc more) scale front change stacks keeps =
    let others : List Costed = map change stacks in
    let level : ℕ = length front + 1 in
    let kept : List (List (List ℕ)) = kept_fronts scale stacks front in
    let few : List FrontLine = gathered_lines stacks level (small_fronts scale stacks front) in
    let alike = alike-kept front change stacks keeps in
    let line : ℕ → ℕ → FrontLine =
    λ children cost. record { level = length front; children = children; cost = cost; shown = a_front front } in
    let lines : List (List (List ℕ)) → List FrontLine → ℕ → List FrontLine =
    λ fronts last cost. line (length fronts + length last) cost
    ∷ (flat_map (front_lines more scale others) fronts ++ last) in
    ap
    (λ (fronts : List (List (List ℕ))). lines fronts (gathered_lines others level (small_fronts scale others front))
    (cost_of others front)) (kept-alike scale front stacks others alike)
    ∙ ap (λ (last : List FrontLine). lines kept last (cost_of others front))
    (gathered-alike scale front stacks others level alike)
    ∙ ap (λ (n : ℕ). lines kept few n) alike.cost
    ∙ ap (λ (below : List FrontLine). line (length kept + length few) (cost_of stacks front) ∷ (below ++ few))
    (flat-same (front_lines more scale others) (front_lines more scale stacks) kept
    (All-weaker (IsCostly scale front stacks)
    (λ next. front_lines more scale others next ≡ front_lines more scale stacks next)
    (λ next is. lines-kept more scale next change stacks
    (longer-kept front next change (one-longer front next stacks is.longer).begins keeps))
    kept (kept-costly scale front stacks)))

-- a stack that begins with a text begins with that as its first one
first-is : (next texts : List (List ℕ)) → length next ≡ 1 → has_front next texts ≡ true → take 1 texts ≡ next
first-is next texts one has =
    ap (λ (k : ℕ). take k texts) (sym one) ∙ sym ((has_front-Decides next texts).0 has)

-- where that is large enough, the stack costs what it cost
keeps-large : (scale : Scale) (stacks : List Costed) (next : List (List ℕ)) → length next ≡ 1
    → is_small scale (cost_of stacks next) ≡ false → Keeps next (unless_small scale stacks)
keeps-large scale stacks next one large = record {
  texts = λ stack. refl;
  cost = λ stack has.
      cond-false (begins_small scale stacks stack.texts) 0 stack.cost
      (ap (λ (xs : List (List ℕ)). nat_lt 0 (length stack.texts) && is_small scale (cost_of stacks xs))
      (first-is next stack.texts one has)
      ∙ ap (λ (b : Bool). nat_lt 0 (length stack.texts) && b) large
      ∙ and-false (nat_lt 0 (length stack.texts)));
}

-- where it is too small, nothing that begins with it costs something
none-left : (scale : Scale) (all stacks : List Costed) (next : List (List ℕ)) → length next ≡ 1
    → is_small scale (cost_of all next) ≡ true → inclusive next (map (unless_small scale all) stacks) ≡ 0
unfolding inclusive
none-left scale all [] next one small = refl
none-left scale all (stack ∷ stacks) next one small =
    let new : Costed = unless_small scale all stack in
    let sums = inclusive-cons next new (map (unless_small scale all) stacks) in
    let rest = none-left scale all stacks next one small in
    let here : cond {A = ℕ} (has_front next stack.texts) new.cost 0 ≡ 0 =
    nothing (has_front next stack.texts) new.cost
    (λ has.
    let first = first-is next stack.texts one has in
    let long = ap (λ (xs : List (List ℕ)). length xs) first in
    let count = length-take 1 stack.texts in
    cond-true (begins_small scale all stack.texts) 0 stack.cost
    (ap (λ (xs : List (List ℕ)). nat_lt 0 (length stack.texts) && is_small scale (cost_of all xs)) first
    ∙ ap (λ (b : Bool). nat_lt 0 (length stack.texts) && b) small
    ∙ ap (λ (b : Bool). b && true) (lt-ltb 0 (length stack.texts) (omega arith)))) in
    omega arith
  where
    nothing : (b : Bool) (n : ℕ) → (b ≡ true → n ≡ 0) → cond {A = ℕ} b n 0 ≡ 0
    nothing true n none = none refl
    nothing false n none = refl

-- a stack with texts is held
texts-within : (stacks : List Costed) (n : ℕ) → 0 < length (texts_at stacks n) → n < length stacks
texts-within [] n some = absurd (omega arith)
texts-within (stack ∷ stacks) zero some = omega arith
texts-within (stack ∷ stacks) (suc n) some = let rest = texts-within stacks n some in omega arith

-- a first text is opened as it was where it is large enough, and else not at all
opens-large : (scale : Scale) (stacks : List Costed) (n : ℕ)
    → opens [] (map (unless_small scale stacks) stacks) n
    ≡ (opens [] stacks n && not (is_small scale (cost_of stacks (longer_front [] stacks n))))
opens-large scale stacks n =
    elim (cases_Bool (nat_lt 0 (length texts))) [
      | inr none ↦
          shut others (texts_at others n) (texts-kept change stacks n (λ stack. refl)) none
          ∙ sym
          (ap (λ (b : Bool). b && not (is_small scale (cost_of stacks longer))) (shut stacks texts refl none))
      | inl some ↦
          let above = ltb-true 0 (length texts) some in
          let count = length-take 1 texts in
          let one : length longer ≡ 1 = omega arith in
          elim (cases_Bool (is_small scale (cost_of stacks longer))) [
            | inr large ↦
                opened others (texts_at others n) (texts-kept change stacks n (λ stack. refl))
                ∙ ap (λ (k : ℕ). has_front [] texts && nat_lt 0 (length texts) && eqb k n)
                (least-kept longer change stacks (keeps-large scale stacks longer one large))
                ∙ sym (stays (opens [] stacks n) large)
            | inl small ↦
                false_from_ne_true (opens [] others n) (λ is.
                let within = texts-within stacks n above in
                let as_many = length-map stacks change in
                let costs = (opens-is [] others n (omega arith) is).some in
                let nothing = none-left scale stacks stacks longer one small in
                let same = ap (λ (xs : List (List ℕ)). inclusive (take 1 xs) others)
                (texts-kept change stacks n (λ stack. refl)) in
                absurd (omega arith))
                ∙ sym (goes (opens [] stacks n) small)
          ]
    ]
  where
    change : Costed → Costed
    change = unless_small scale stacks

    others : List Costed
    others = map change stacks

    texts : List (List ℕ)
    texts = texts_at stacks n

    longer : List (List ℕ)
    longer = longer_front [] stacks n

    stays : (b : Bool) → is_small scale (cost_of stacks longer) ≡ false
        → (b && not (is_small scale (cost_of stacks longer))) ≡ b
    stays b large = ap (λ (s : Bool). b && not s) large ∙ and-true b

    goes : (b : Bool) → is_small scale (cost_of stacks longer) ≡ true
        → (b && not (is_small scale (cost_of stacks longer))) ≡ false
    goes b small = ap (λ (s : Bool). b && not s) small ∙ and-false b

    opened : (ss : List Costed) (xs : List (List ℕ)) → xs ≡ texts
        → (has_front [] xs && nat_lt 0 (length xs) && eqb (least (take 1 xs) ss) n)
        ≡ (has_front [] texts && nat_lt 0 (length texts) && eqb (least longer ss) n)
    opened ss xs same =
        ap (λ (ts : List (List ℕ)). has_front [] ts && nat_lt 0 (length ts) && eqb (least (take 1 ts) ss) n) same

    shut : (ss : List Costed) (xs : List (List ℕ)) → xs ≡ texts → nat_lt 0 (length texts) ≡ false
        → (has_front [] xs && nat_lt 0 (length xs) && eqb (least (take 1 xs) ss) n) ≡ false
    shut ss xs same none =
        opened ss xs same
        ∙ ap (λ (b : Bool). has_front [] texts && b && eqb (least longer ss) n) none
        ∙ ap (λ (b : Bool). b && eqb (least longer ss) n) (and-false (has_front [] texts))

-- what passes two tests
filter-both : {X : Type 0} (p q : X → Bool) (xs : List X) → filter q (filter p xs) ≡ filter (λ x. p x && q x) xs
filter-both p q [] = refl
filter-both {X} p q (x ∷ xs) =
    elim (p x) as
    (λ b. filter q (cond {A = List X} b (x ∷ filter p xs) (filter p xs))
    ≡ cond {A = List X} (b && q x) (x ∷ filter (λ y. p y && q y) xs) (filter (λ y. p y && q y) xs)) [
      | true ↦ ap (λ (ys : List X). cond {A = List X} (q x) (x ∷ ys) ys) (filter-both p q xs)
      | false ↦ filter-both p q xs
    ]

filter-nothing : {X : Type 0} (p : X → Bool) (xs : List X) → All (λ x. p x ≡ false) xs → filter p xs ≡ []
filter-nothing p [] none = refl
filter-nothing {X} p (x ∷ xs) none =
    ap (λ (b : Bool). cond {A = List X} b (x ∷ filter p xs) (filter p xs)) (All-head (λ y. p y ≡ false) x xs none)
    ∙ filter-nothing p xs (All-tail (λ y. p y ≡ false) x xs none)

-- the longer fronts that pass a test are those of the stacks that open one and pass it
passing : (front : List (List ℕ)) (stacks : List Costed) (test : List (List ℕ) → Bool)
    → filter test (next_fronts front stacks)
    ≡ map (longer_front front stacks)
    (filter (λ n. opens front stacks n && test (longer_front front stacks n)) (range_with_len 0 (length stacks)))
unfolding next_fronts
passing front stacks test =
    let longer : ℕ → List (List ℕ) = longer_front front stacks in
    let places : List ℕ = range_with_len 0 (length stacks) in
    filter-map test longer (filter (opens front stacks) places)
    ∙ ap (λ (ns : List ℕ). map longer ns) (filter-both (opens front stacks) (λ n. test (longer n)) places)

-- the first texts that are left are those that are large enough
pub next-left : (scale : Scale) (stacks : List Costed)
    → next_fronts [] (without_small scale stacks)
    ≡ filter (λ next. not (is_small scale (cost_of stacks next))) (next_fronts [] stacks)
unfolding without_small
next-left scale stacks =
    opened-by [] (unless_small scale stacks) stacks
    (λ n. opens [] stacks n && not (is_small scale (cost_of stacks (longer_front [] stacks n)))) (λ stack. refl)
    (opens-large scale stacks)
    ∙ sym (passing [] stacks (λ next. not (is_small scale (cost_of stacks next))))

-- a first text that is large enough
pub record IsLeft (scale : Scale) (stacks : List Costed) (next : List (List ℕ)) : Type 0 where
  pub count : length next ≡ 1
  pub large : is_small scale (cost_of stacks next) ≡ false
  pub cost : cost_of (without_small scale stacks) next ≡ cost_of stacks next

is-left : (scale : Scale) (stacks : List Costed) (next : List (List ℕ)) → length next ≡ 1
    → is_small scale (cost_of stacks next) ≡ false → IsLeft scale stacks next
unfolding without_small
is-left scale stacks next one large = record {
  count = one;
  large = large;
  cost = inclusive-kept next (unless_small scale stacks) stacks (keeps-large scale stacks next one large);
}

pub left : (scale : Scale) (stacks : List Costed) → All (IsLeft scale stacks) (next_fronts [] (without_small scale stacks))
left scale stacks =
    let nexts : List (List (List ℕ)) = next_fronts [] stacks in
    subst (All (IsLeft scale stacks)) (sym (next-left scale stacks))
    (λ k d within.
    let longer = All-filter large (IsLonger [] stacks) nexts (next-longer [] stacks) k d within in
    is-left scale stacks (get_or (filter large nexts) k d)
    (one-longer [] (get_or (filter large nexts) k d) stacks longer).count
    (flipped (is_small scale (cost_of stacks (get_or (filter large nexts) k d)))
    (filter_passes large nexts k d within)))
  where
    large : List (List ℕ) → Bool
    large next = not (is_small scale (cost_of stacks next))

    flipped : (b : Bool) → not b ≡ true → b ≡ false
    flipped true is = sym is
    flipped false is = refl

-- they have lines of their own
kept-left : (scale : Scale) (stacks : List Costed)
    → kept_fronts scale (without_small scale stacks) [] ≡ kept_fronts scale stacks []
unfolding kept_fronts
kept-left scale stacks =
    let others : List Costed = without_small scale stacks in
    let kept : List Costed → List (List ℕ) → Bool = λ ss next. not (is_small scale (cost_of ss next)) in
    let fronts : List (List (List ℕ)) = next_fronts [] others in
    ap (λ (nexts : List (List (List ℕ))). by_cost (cost_of others) nexts)
    (filter-every (kept others) fronts
    (All-weaker (IsLeft scale stacks) (λ next. kept others next ≡ true)
    (λ next is. ap (λ (n : ℕ). not (is_small scale n)) is.cost ∙ ap not is.large) fronts (left scale stacks)))
    ∙ by_cost-same (cost_of others) (cost_of stacks) fronts
    (All-weaker (IsLeft scale stacks) (λ next. cost_of others next ≡ cost_of stacks next) (λ next is. is.cost) fronts
    (left scale stacks))
    ∙ ap (λ (nexts : List (List (List ℕ))). by_cost (cost_of stacks) nexts) (next-left scale stacks)
  where
    filter-every : (p : List (List ℕ) → Bool) (xs : List (List (List ℕ))) → All (λ x. p x ≡ true) xs → filter p xs ≡ xs
    filter-every p [] every = refl
    filter-every p (x ∷ xs) every =
        ap (λ (b : Bool). cond {A = List (List (List ℕ))} b (x ∷ filter p xs) (filter p xs))
        (All-head (λ y. p y ≡ true) x xs every)
        ∙ ap (λ (ys : List (List (List ℕ))). x ∷ ys) (filter-every p xs (All-tail (λ y. p y ≡ true) x xs every))

-- and none is gathered
small-left : (scale : Scale) (stacks : List Costed) → small_fronts scale (without_small scale stacks) [] ≡ []
unfolding small_fronts
small-left scale stacks =
    let others : List Costed = without_small scale stacks in
    filter-nothing (λ next. is_small scale (cost_of others next)) (next_fronts [] others)
    (All-weaker (IsLeft scale stacks) (λ next. is_small scale (cost_of others next) ≡ false)
    (λ next is. ap (λ (n : ℕ). is_small scale n) is.cost ∙ is.large) (next_fronts [] others) (left scale stacks))

-- their lines are the same
below-left : (more : ℕ) (scale : Scale) (stacks : List Costed)
    → flat_map (front_lines more scale (without_small scale stacks)) (kept_fronts scale stacks [])
    ≡ flat_map (front_lines more scale stacks) (kept_fronts scale stacks [])
unfolding without_small
below-left more scale stacks =
    let others : List Costed = without_small scale stacks in
    let kept : List (List (List ℕ)) = kept_fronts scale stacks [] in
    flat-same (front_lines more scale others) (front_lines more scale stacks) kept
    (All-weaker (IsCostly scale [] stacks)
    (λ next. front_lines more scale others next ≡ front_lines more scale stacks next)
    (λ next is. lines-kept more scale next (unless_small scale stacks) stacks
    (keeps-large scale stacks next (one-longer [] next stacks is.longer).count is.large)) kept
    (kept-costly scale [] stacks))

-- lines to fronts of some texts are made of those without what is too small
pub made-with-small : (more : ℕ) (scale : Scale) (stacks : List Costed) → AreMadeWithSmall more scale stacks
unfolding cost_lines front_lines gathered_lines
made-with-small more scale stacks =
    sym
    (ap (λ (fronts : List (List (List ℕ))). made fronts (gathered_lines others 1 (small_fronts scale others [])))
    (kept-left scale stacks)
    ∙ ap (λ (fronts : List (List (List ℕ))). made kept (gathered_lines others 1 fronts)) (small-left scale stacks)
    ∙ ap (λ (lines : List FrontLine). line (length kept + 0 + length few) ∷ ((lines ++ []) ++ few))
    (below-left more scale stacks)
    ∙ ap (λ (lines : List FrontLine). line (length kept + 0 + length few) ∷ (lines ++ few)) (append-nil below)
    ∙ ap (λ (n : ℕ). line n ∷ (below ++ few))
    (let e : length kept + 0 + length few ≡ length kept + length few = omega arith in e))
  where
    others : List Costed
    others = without_small scale stacks

    kept : List (List (List ℕ))
    kept = kept_fronts scale stacks []

    few : List FrontLine
    few = gathered_lines stacks 1 (small_fronts scale stacks [])

    below : List FrontLine
    below = flat_map (front_lines more scale stacks) kept

    line : ℕ → FrontLine
    line children = record { level = 0; children = children; cost = cost_of stacks []; shown = a_front [] }

    made : List (List (List ℕ)) → List FrontLine → List FrontLine
    made fronts last =
        with_gathered
        (front_line (length fronts + length last) others [] ∷ (flat_map (front_lines more scale others) fronts ++ last))
        (cost_of stacks []) few

-- the stacks that open a first text that is too small
abbrev pub small_places : Scale → List Costed → List ℕ
small_places scale stacks =
    filter (λ n. opens [] stacks n && is_small scale (cost_of stacks (longer_front [] stacks n)))
    (range_with_len 0 (length stacks))

-- those first texts, how many they are, and what they cost together
pub small-places : (scale : Scale) (stacks : List Costed)
    → small_fronts scale stacks [] ≡ map (longer_front [] stacks) (small_places scale stacks)
unfolding small_fronts
small-places scale stacks = passing [] stacks (λ next. is_small scale (cost_of stacks next))

pub small-count : (scale : Scale) (stacks : List Costed)
    → length (small_fronts scale stacks []) ≡ length (small_places scale stacks)
small-count scale stacks =
    ap (λ (fronts : List (List (List ℕ))). length fronts) (small-places scale stacks)
    ∙ length-map (small_places scale stacks) (longer_front [] stacks)

pub small-cost : (scale : Scale) (stacks : List Costed)
    → sum_by (cost_of stacks) (small_fronts scale stacks [])
    ≡ sum_by (λ n. cost_of stacks (longer_front [] stacks n)) (small_places scale stacks)
small-cost scale stacks =
    ap (λ (fronts : List (List (List ℕ))). sum_by (cost_of stacks) fronts) (small-places scale stacks)
    ∙ sum-mapped (cost_of stacks) (longer_front [] stacks) (small_places scale stacks)
