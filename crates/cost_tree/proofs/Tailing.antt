-- The lines of lists that are cut where they go on alone, each with its tail, are those of the whole lists.
use Rattle.std.proofs.Common.{◌≡◌, ℕ, zero, suc, ◌+◌, ◌-◌, ◌<◌, ◌≤◌, ◌⊎◌, inl, inr, ◌&&◌, Bool, true, false, eqb, cond}
use Rattle.std.proofs.Common.{List, [], ◌∷◌, ◌++◌, length, map, take, get_or, Option, None, Some, refl, sym, ap, ◌∙◌}
use Rattle.std.proofs.Common.{subst, append-nil, arith}
use Rattle.std.specs.Prelude.{All, nat_lt, slice_get}
use Rattle.std.specs.List.{flat_map, range_with_len}
use Rattle.std.specs.Option.{option_map_or}
use Rattle.std.proofs.lemmas.Bool.{and_from, and_parts, both_ways, cases_Bool, cases_lt, eq-eqb, eqb-true, false≢true}
use Rattle.std.proofs.lemmas.Bool.{false_from_ne_true, lt-ltb, ltb-true}
use Rattle.std.proofs.lemmas.Grind.{flat_map-append}
use Rattle.std.proofs.lemmas.List.{length-map, length-take, take-take, take_all}
use Rattle.std.proofs.lemmas.List.Elements.{All-head, All-tail, All-weaker}
use Rattle.std.proofs.lemmas.Option.{same_Some, slice_get-get_or, slice_get_within}
use Rattle.cost_tree.specs.declared.line.CostLine.{CostLine}
use Rattle.cost_tree.specs.declared.line.Place.{Place}
use Rattle.cost_tree.specs.declared.line.Place.TheVariants.{Node, Gathered}
use Rattle.cost_tree.specs.declared.node.CostNode.{CostNode}
use Rattle.cost_tree.specs.declared.scale.Scale.{Scale}
use Rattle.cost_tree.specs.Alone.{AreAlone}
use Rattle.cost_tree.specs.AreLinesOf.{AreLinesOf}
use Rattle.cost_tree.specs.Costed.{Costed, costed}
use Rattle.cost_tree.specs.CostLines.{FrontLine, a_front, cost_lines, cost_of, front_line, front_lines, gathered_lines}
use Rattle.cost_tree.specs.CostLines.{is_small, kept_fronts, small_fronts}
use Rattle.cost_tree.specs.Cuts.{cut_lists}
use Rattle.cost_tree.specs.Inclusive.{has_front, inclusive, least}
use Rattle.cost_tree.specs.IsShownAs.{IsLevelled, IsLevelOf}
use Rattle.cost_tree.specs.NextFronts.{texts_at}
use Rattle.cost_tree.specs.Tails.{first_shown, goes_on, going_on, shown_list, tail_line, tail_lines, tailed, with_tail}
use Rattle.cost_tree.specs.Texts.{lists_of, text_of, texts_of}
use Rattle.cost_tree.specs.TreeLines.{HasLines, IsLineOf, IsPlace, front_at, line_at, shown_at}
use Rattle.cost_tree.specs.TreeState.{TreeState}
use Rattle.cost_tree.specs.TreeTails.{first_at, tailed_at}
use Rattle.cost_tree.proofs.Alone.{IsAlone, lines-none, lone-lines, next-none}
use Rattle.cost_tree.proofs.Siblings.{texts_at-held}
use Rattle.cost_tree.proofs.Firsts.{AreFirst, AreFirstTo, IsCostly, begins-at, inclusive-same, kept-costly, least-same}
use Rattle.cost_tree.proofs.Firsts.{line-same, lines-below, next-first, one-longer}
use Rattle.cost_tree.proofs.Laws.{costed-count}
use Rattle.cost_tree.proofs.Levels.{lines-levelled}
use Rattle.cost_tree.proofs.Prefixes.{has_front-Decides}
use Rattle.cost_tree.proofs.Sums.{least-within}
use Rattle.cost_tree.proofs.Trees.{least-has}
use Rattle.cost_tree.proofs.Walks.{lists-same}

-- lists with their costs, and as many of their first texts as stand beside them: some, and fewer
-- than all where a list goes on alone
pub record AreForked (lists : List (List (List ℕ))) (counts costs : List ℕ) : Type 0 where
  pub count : length counts ≡ length lists
  pub costs_count : length costs ≡ length lists
  pub some : (k count : ℕ) → slice_get counts k ≡ Some count → 0 < count
  pub alone : AreAlone lists counts

-- the texts of a stack are those of its list, and what is left of them
texts-costed : (lists : List (List (List ℕ))) (costs : List ℕ) (k : ℕ) → length costs ≡ length lists
    → texts_at (costed lists costs) k ≡ get_or lists k []
unfolding costed
texts-costed [] costs k same = refl
texts-costed (list ∷ lists) [] k same = absurd (omega arith)
texts-costed (list ∷ lists) (cost ∷ costs) zero same = refl
texts-costed (list ∷ lists) (cost ∷ costs) (suc k) same = texts-costed lists costs k (omega arith)

texts-cut : (lists : List (List (List ℕ))) (counts costs : List ℕ) (k : ℕ) → length counts ≡ length lists
    → length costs ≡ length lists
    → texts_at (costed (cut_lists counts lists) costs) k ≡ take (get_or counts k 0) (get_or lists k [])
unfolding costed cut_lists
texts-cut [] [] costs k same as_many = refl
texts-cut [] (count ∷ counts) costs k same as_many = absurd (omega arith)
texts-cut (list ∷ lists) [] costs k same as_many = absurd (omega arith)
texts-cut (list ∷ lists) (count ∷ counts) [] k same as_many = absurd (omega arith)
texts-cut (list ∷ lists) (count ∷ counts) (cost ∷ costs) zero same as_many = refl
texts-cut (list ∷ lists) (count ∷ counts) (cost ∷ costs) (suc k) same as_many =
    texts-cut lists counts costs k (omega arith) (omega arith)

are-first : (lists : List (List (List ℕ))) (counts costs : List ℕ) → length counts ≡ length lists
    → AreFirst (costed lists costs) (costed (cut_lists counts lists) costs)
unfolding costed cut_lists
are-first [] [] costs same = tt
are-first [] (count ∷ counts) costs same = absurd (omega arith)
are-first (list ∷ lists) [] costs same = absurd (omega arith)
are-first (list ∷ lists) (count ∷ counts) [] same = tt
are-first (list ∷ lists) (count ∷ counts) (cost ∷ costs) same =
    (record { count = count; texts = refl; cost = refl }, are-first lists counts costs (omega arith))

-- the list that is cut behind a front is the only one that begins with it
cut-alone : (lists : List (List (List ℕ))) (counts costs : List ℕ) (front : List (List ℕ)) (n : ℕ)
    → AreForked lists counts costs → n < length lists → get_or counts n 0 ≡ length front
    → length front < length (get_or lists n [])
    → front ≡ take (length front) (get_or lists n []) → IsAlone (costed lists costs) front n
cut-alone lists counts costs front n are within left more begins k has =
    let as_many = are.count in
    let count_at : slice_get counts n ≡ Some (length front) =
    slice_get-get_or counts n 0 (omega arith) ∙ ap (λ (c : ℕ). Some c) left in
    let above = are.some n (length front) count_at in
    let texts = texts-costed lists costs k are.costs_count in
    let has_list : has_front front (get_or lists k []) ≡ true =
    ap (λ (xs : List (List ℕ)). has_front front xs) (sym texts) ∙ has in
    elim (cases_lt k (length lists)) [
      | inl inside ↦
          are.alone n k (length front) (get_or lists n []) (get_or lists k []) (slice_get-get_or lists n [] within)
          count_at more (slice_get-get_or lists k [] inside)
          (ap (λ (xs : List (List ℕ)). has_front xs (get_or lists k [])) (sym begins) ∙ has_list)
      | inr past ↦
          let long =
          ap (λ (xs : List (List ℕ)). length xs) ((has_front-Decides front (get_or lists k [])).0 has_list) in
          let first = length-take (length front) (get_or lists k []) in
          let none = past-none lists k past in
          absurd (omega arith)
    ]
  where
    past-none : (xs : List (List (List ℕ))) (k : ℕ) → length xs ≤ k → length (get_or xs k []) ≡ 0
    past-none [] k past = refl
    past-none (x ∷ xs) zero past = absurd (omega arith)
    past-none (x ∷ xs) (suc k) past = past-none xs k (omega arith)

option-is : (found : Option ℕ) (count : ℕ) → option_map_or (λ (left : ℕ). eqb left count) found false ≡ true
    → found ≡ Some count
option-is None count is = absurd (false≢true is)
option-is (Some left) count is = ap (λ (c : ℕ). Some c) (eqb-true left count is)

-- a list goes on behind so many texts
record GoesOn (depth : ℕ) (lists : List (List (List ℕ))) (counts : List ℕ) (n count : ℕ) : Type 0 where
  shown : count < length (shown_list depth lists n)
  left : slice_get counts n ≡ Some count

goes-on : (depth : ℕ) (lists : List (List (List ℕ))) (counts : List ℕ) (n count : ℕ)
    → goes_on depth lists counts n count ≡ true → GoesOn depth lists counts n count
goes-on depth lists counts n count goes =
    let parts =
    and_parts (nat_lt count (length (shown_list depth lists n)))
    (option_map_or (λ (left : ℕ). eqb left count) (slice_get counts n) false) goes in
    record {
      shown = ltb-true count (length (shown_list depth lists n)) parts.0;
      left = option-is (slice_get counts n) count parts.1;
    }

-- or it doesn't, where fronts have no more texts
goes-deep : (depth : ℕ) (lists : List (List (List ℕ))) (counts : List ℕ) (n : ℕ)
    → goes_on depth lists counts n depth ≡ false
goes-deep depth lists counts n = false_from_ne_true (goes_on depth lists counts n depth) (λ goes.
    let shown = (goes-on depth lists counts n depth goes).shown in
    let long = length-take depth (get_or lists n []) in
    absurd (omega arith))

-- the line of a front is whole where the first list doesn't go on from there
stays : (depth : ℕ) (lists : List (List (List ℕ))) (counts : List ℕ) (n : ℕ) (line : FrontLine)
    → goes_on depth lists counts n line.level ≡ false → tailed depth lists counts (Some n) line ≡ line ∷ []
stays depth lists counts n line none =
    ap (λ (b : Bool). with_tail depth lists (cond {A = Option ℕ} b (Some n) None) line) none

leaves : (depth : ℕ) (lists : List (List (List ℕ))) (counts : List ℕ) (n : ℕ) (line : FrontLine)
    → goes_on depth lists counts n line.level ≡ true
    → tailed depth lists counts (Some n) line ≡ with_tail depth lists (Some n) line
leaves depth lists counts n line goes =
    ap (λ (b : Bool). with_tail depth lists (cond {A = Option ℕ} b (Some n) None) line) goes

-- lines that are gathered are whole
gathered-stay : (depth : ℕ) (lists : List (List (List ℕ))) (counts : List ℕ) (stacks cuts : List Costed) (level : ℕ)
    (fronts : List (List (List ℕ)))
    → flat_map (λ (line : FrontLine). tailed depth lists counts (first_shown cuts line.shown) line)
    (gathered_lines stacks level fronts)
    ≡ gathered_lines stacks level fronts
unfolding gathered_lines
gathered-stay depth lists counts stacks cuts level [] = refl
gathered-stay depth lists counts stacks cuts level (front ∷ fronts) = refl

-- parts of parts
flat-flat : {X Y Z : Type 0} (g : Y → List Z) (f : X → List Y) (xs : List X)
    → flat_map g (flat_map f xs) ≡ flat_map (λ x. flat_map g (f x)) xs
flat-flat g f [] = refl
flat-flat {X} {Y} {Z} g f (x ∷ xs) =
    flat_map-append g (f x) (flat_map f xs) ∙ ap (λ (zs : List Z). flat_map g (f x) ++ zs) (flat-flat g f xs)

-- a front costs something and enough for a line, or it's the empty one
abbrev IsShown : Scale → List Costed → List (List ℕ) → Type 0
IsShown scale stacks front =
    (length front ≡ 0) ⊎ ((0 < inclusive front stacks) × (is_small scale (cost_of stacks front) ≡ false))

-- the first list that begins with a front that costs something
record IsLeast (lists : List (List (List ℕ))) (costs : List ℕ) (front : List (List ℕ)) (n : ℕ) : Type 0 where
  within : n < length lists
  has : has_front front (texts_at (costed lists costs) n) ≡ true
  begins : front ≡ take (length front) (get_or lists n [])

least-is : (lists : List (List (List ℕ))) (costs : List ℕ) (front : List (List ℕ)) → length costs ≡ length lists
    → 0 < inclusive front (costed lists costs) → IsLeast lists costs front (least front (costed lists costs))
least-is lists costs front same some =
    let stacks : List Costed = costed lists costs in
    let n : ℕ = least front stacks in
    let inside = least-within front stacks some in
    let count = costed-count lists costs same in
    let nowhere : Costed = record { texts = []; cost = 0 } in
    let held = texts_at-held stacks n inside in
    let has : has_front front (texts_at stacks n) ≡ true =
    ap (λ (xs : List (List ℕ)). has_front front xs) held ∙ least-has front stacks nowhere some in
    record {
      within = omega arith;
      has = has;
      begins =
          (has_front-Decides front (texts_at stacks n)).0 has
          ∙ ap (λ (xs : List (List ℕ)). take (length front) xs) (texts-costed lists costs n same);
    }

-- where the first list doesn't go on, no list is cut there
go-on : (more depth : ℕ) (scale : Scale) (lists : List (List (List ℕ))) (counts costs : List ℕ) (front : List (List ℕ))
    → AreForked lists counts costs → length front + suc more ≡ depth
    → AreFirstTo (length front) front (costed lists costs) (costed (cut_lists counts lists) costs)
    → IsShown scale (costed lists costs) front
    → goes_on depth lists counts (least front (costed lists costs)) (length front) ≡ false
    → AreFirstTo (length front + 1) front (costed lists costs) (costed (cut_lists counts lists) costs)
go-on more depth scale lists counts costs front are deep same shown none k has =
    let texts : List (List ℕ) = get_or lists k [] in
    let count : ℕ = get_or counts k 0 in
    let whole_is = texts-costed lists costs k are.costs_count in
    let cut_is = texts-cut lists counts costs k are.count are.costs_count in
    ap (λ (xs : List (List ℕ)). take (length front + 1) xs) cut_is
    ∙ elim (cases_lt count (length texts)) [
      | inr all ↦ ap (λ (xs : List (List ℕ)). take (length front + 1) xs) (take_all count texts all)
      | inl cut ↦ elim (cases_lt (length front) count) [
        | inl further ↦ take-take (length front + 1) count texts (omega arith)
        | inr no_more ↦ absurd
            (ended texts count refl refl cut no_more
            (ap (λ (xs : List (List ℕ)). take (length front) xs) (sym cut_is) ∙ same k has
            ∙ ap (λ (xs : List (List ℕ)). take (length front) xs) whole_is)
            ((has_front-Decides front (texts_at (costed lists costs) k)).0 has
            ∙ ap (λ (xs : List (List ℕ)). take (length front) xs) whole_is))
      ]
    ]
    ∙ ap (λ (xs : List (List ℕ)). take (length front + 1) xs) (sym whole_is)
  where
    inside : (xs : List (List (List ℕ))) (k : ℕ) → 0 < length (get_or xs k []) → k < length xs
    inside [] k some = absurd (omega arith)
    inside (x ∷ xs) zero some = omega arith
    inside (x ∷ xs) (suc k) some = let rest = inside xs k some in omega arith

    ended : (texts : List (List ℕ)) (count : ℕ) → texts ≡ get_or lists k [] → count ≡ get_or counts k 0
        → count < length texts → count ≤ length front
        → take (length front) (take count texts) ≡ take (length front) texts → front ≡ take (length front) texts → ⊥
    ended texts count texts_are count_is cut no_more first begins =
        let one = ap (λ (xs : List (List ℕ)). length xs) first in
        let two = length-take (length front) (take count texts) in
        let three = length-take count texts in
        let four = length-take (length front) texts in
        let long = ap (λ (xs : List (List ℕ)). length xs) texts_are in
        let within = inside lists k (omega arith) in
        let as_many = are.count in
        let left : get_or counts k 0 ≡ length front = omega arith in
        let count_at : slice_get counts k ≡ Some (length front) =
        slice_get-get_or counts k 0 (omega arith) ∙ ap (λ (c : ℕ). Some c) left in
        let above = are.some k (length front) count_at in
        elim shown [
          | inl empty ↦ omega arith
          | inr costs_some ↦
              let first_is = least-is lists costs front are.costs_count costs_some.0 in
              let n : ℕ = least front (costed lists costs) in
              let k_is : n ≡ k =
              cut-alone lists counts costs front k are within left (omega arith)
              (begins ∙ ap (λ (xs : List (List ℕ)). take (length front) xs) texts_are) n first_is.has in
              let shown_long = length-take depth (get_or lists k []) in
              both_ways (goes_on depth lists counts n (length front)) none
              (ap (λ (j : ℕ). goes_on depth lists counts j (length front)) k_is
              ∙ and_from (nat_lt (length front) (length (shown_list depth lists k)))
              (option_map_or (λ (left : ℕ). eqb left (length front)) (slice_get counts k) false)
              (lt-ltb (length front) (length (shown_list depth lists k)) (omega arith))
              (ap (λ (found : Option ℕ). option_map_or (λ (left : ℕ). eqb left (length front)) found false) count_at
              ∙ eq-eqb (length front) (length front) refl))
        ]

-- where it goes on, the front's line and its tail are the lines of the whole list
tail-same : (more depth : ℕ) (scale : Scale) (lists : List (List (List ℕ))) (counts costs : List ℕ)
    (front : List (List ℕ))
    → AreForked lists counts costs → length front + suc more ≡ depth
    → AreFirstTo (length front) front (costed lists costs) (costed (cut_lists counts lists) costs)
    → IsShown scale (costed lists costs) front
    → goes_on depth lists counts (least front (costed lists costs)) (length front) ≡ true
    → flat_map
    (λ (line : FrontLine). tailed depth lists counts (first_shown (costed (cut_lists counts lists) costs) line.shown)
    line)
    (front_lines (suc more) scale (costed (cut_lists counts lists) costs) front)
    ≡ front_lines (suc more) scale (costed lists costs) front
tail-same more depth scale lists counts costs front are deep same shown goes =
    elim shown [
      | inl empty ↦ let above = are.some n (length front) on.left in absurd (omega arith)
      | inr some ↦ along some.0 some.1
    ]
  where
    stacks : List Costed
    stacks = costed lists costs

    cuts : List Costed
    cuts = costed (cut_lists counts lists) costs

    firsts : AreFirst stacks cuts
    firsts = are-first lists counts costs are.count

    n : ℕ
    n = least front stacks

    on : GoesOn depth lists counts n (length front)
    on = goes-on depth lists counts n (length front) goes

    G : FrontLine → List FrontLine
    G line = tailed depth lists counts (first_shown cuts line.shown) line

    line : ℕ → FrontLine
    line cost = record { level = length front; children = 0; cost = cost; shown = a_front front }

    along : 0 < inclusive front stacks → is_small scale (cost_of stacks front) ≡ false
        → flat_map G (front_lines (suc more) scale cuts front) ≡ front_lines (suc more) scale stacks front
    along some large =
        let texts : List (List ℕ) = get_or lists n [] in
        let first = least-is lists costs front are.costs_count some in
        let whole_is = texts-costed lists costs n are.costs_count in
        let cut_is = texts-cut lists counts costs n are.count are.costs_count in
        let left : get_or counts n 0 ≡ length front =
        same_Some (get_or counts n 0) (length front)
        (sym (slice_get-get_or counts n 0 (slice_get_within counts n (length front) on.left)) ∙ on.left) in
        let long = length-take depth texts in
        let longer = on.shown in
        let alone : IsAlone stacks front n =
        cut-alone lists counts costs front n are first.within left (omega arith) first.begins in
        let alone_cut : IsAlone cuts front n =
        λ k has. alone k (sym (begins-at front stacks cuts k firsts same) ∙ has) in
        let short = ap (λ (xs : List (List ℕ)). length xs) cut_is ∙ length-take (get_or counts n 0) texts in
        let cost : ℕ = cost_of stacks front in
        let first_same = least-same front stacks cuts firsts same in
        let front_is : take (length front) (texts_at stacks n) ≡ front =
        ap (λ (xs : List (List ℕ)). take (length front) xs) whole_is ∙ sym first.begins in
        let tail : List (List ℕ) = shown_list depth lists n in
        let f : ℕ → FrontLine = tail_line tail cost in
        let inside = ap (λ (xs : List (List ℕ)). length xs) whole_is in
        let lone =
        lone-lines (suc more) depth scale stacks n (length front) cost
        (subst (λ (xs : List (List ℕ)). IsAlone stacks xs n) (sym front_is) alone) (omega arith)
        (ap (λ (xs : List (List ℕ)). cost_of stacks xs) front_is) some large deep in
        ap (λ (ls : List FrontLine). flat_map G ls)
        (lines-none more scale front cuts (next-none front cuts n alone_cut (omega arith)))
        ∙ append-nil (G (front_line 0 cuts front))
        ∙ ap (λ (c : ℕ). tailed depth lists counts (Some (least front cuts)) (line c))
        (inclusive-same front stacks cuts firsts same)
        ∙ ap (λ (k : ℕ). tailed depth lists counts (Some k) (line cost)) first_same
        ∙ leaves depth lists counts n (line cost) goes
        ∙ ap (λ (xs : List (List ℕ)). first_line 1 xs ∷ tail_lines tail cost (length front))
        (first.begins ∙ sym (take-take (length front) depth texts (omega arith)))
        ∙ ap (λ (b : Bool). first_line (cond {A = ℕ} b 1 0) (take (length front) tail)
        ∷ tail_lines tail cost (length front)) (sym
        (lt-ltb (length front) (length tail) longer))
        ∙ sym (ap
        (λ (xs : List (List ℕ)). map (tail_line (take depth xs) cost)
        (range_with_len (length front) (suc (length (take depth xs) - length front))))
        whole_is)
        ∙ sym lone
        ∙ ap (λ (xs : List (List ℕ)). front_lines (suc more) scale stacks xs) front_is
      where
        first_line : ℕ → List (List ℕ) → FrontLine
        first_line children xs =
            record { level = length front; children = children; cost = cost_of stacks front; shown = a_front xs }

-- so the lines of a front with their tails are those of the whole lists
below-same : (more depth : ℕ) (scale : Scale) (lists : List (List (List ℕ))) (counts costs : List ℕ)
    (front : List (List ℕ))
    → AreForked lists counts costs → length front + more ≡ depth
    → AreFirstTo (length front) front (costed lists costs) (costed (cut_lists counts lists) costs)
    → IsShown scale (costed lists costs) front
    → flat_map
    (λ (line : FrontLine). tailed depth lists counts (first_shown (costed (cut_lists counts lists) costs) line.shown)
    line)
    (front_lines more scale (costed (cut_lists counts lists) costs) front)
    ≡ front_lines more scale (costed lists costs) front
unfolding front_lines
below-same zero depth scale lists counts costs front are deep same shown =
    let stacks : List Costed = costed lists costs in
    let cuts : List Costed = costed (cut_lists counts lists) costs in
    let here : length front ≡ depth = omega arith in
    let line : FrontLine = front_line 0 cuts front in
    append-nil (tailed depth lists counts (Some (least front cuts)) line)
    ∙ stays depth lists counts (least front cuts) line
    (ap (λ (k : ℕ). goes_on depth lists counts (least front cuts) k) here
    ∙ goes-deep depth lists counts (least front cuts))
    ∙ line-same scale front stacks cuts (are-first lists counts costs are.count) same
below-same (suc more) depth scale lists counts costs front are deep same shown =
    elim (cases_Bool (goes_on depth lists counts (least front (costed lists costs)) (length front))) [
      | inl goes ↦ tail-same more depth scale lists counts costs front are deep same shown goes
      | inr none ↦
          let stacks : List Costed = costed lists costs in
          let cuts : List Costed = costed (cut_lists counts lists) costs in
          let firsts = are-first lists counts costs are.count in
          let further = go-on more depth scale lists counts costs front are deep same shown none in
          let G : FrontLine → List FrontLine = λ line. tailed depth lists counts (first_shown cuts line.shown) line in
          let kept : List (List (List ℕ)) = kept_fronts scale stacks front in
          let few : List FrontLine = gathered_lines stacks (length front + 1) (small_fronts scale stacks front) in
          let line : FrontLine = front_line (length kept + length few) stacks front in
          let first : G line ≡ line ∷ [] =
          stays depth lists counts (least front cuts) line
          (ap (λ (k : ℕ). goes_on depth lists counts k (length front)) (least-same front stacks cuts firsts same)
          ∙ none) in
          ap (λ (ls : List FrontLine). flat_map G ls) (lines-below more scale front stacks cuts firsts further)
          ∙ ap (λ (ls : List FrontLine). ls ++ flat_map G (flat_map (front_lines more scale cuts) kept ++ few)) first
          ∙ ap (λ (ls : List FrontLine). line ∷ ls)
          (flat_map-append G (flat_map (front_lines more scale cuts) kept) few
          ∙ ap (λ (ls : List FrontLine). flat_map G (flat_map (front_lines more scale cuts) kept) ++ ls)
          (gathered-stay depth lists counts stacks cuts (length front + 1) (small_fronts scale stacks front))
          ∙ ap (λ (ls : List FrontLine). ls ++ few)
          (flat-flat G (front_lines more scale cuts) kept
          ∙ lists-same (λ (next : List (List ℕ)). flat_map G (front_lines more scale cuts next))
          (front_lines more scale stacks) kept
          (All-weaker (IsCostly scale front stacks)
          (λ next. flat_map G (front_lines more scale cuts next) ≡ front_lines more scale stacks next)
          (λ next is.
          let longer = one-longer front next stacks is.longer in
          let count = longer.count in
          below-same more depth scale lists counts costs next are (omega arith)
          (next-first front next stacks cuts longer further) (inr (is.longer.some, is.large)))
          kept (kept-costly scale front stacks))))
    ]

-- the lines of what is left, with their tails, are those of the whole lists
pub lines-tailed : (depth : ℕ) (scale : Scale) (lists : List (List (List ℕ))) (counts costs : List ℕ)
    → AreForked lists counts costs
    → flat_map
    (λ (line : FrontLine). tailed depth lists counts (first_shown (costed (cut_lists counts lists) costs) line.shown)
    line)
    (cost_lines depth scale (costed (cut_lists counts lists) costs))
    ≡ cost_lines depth scale (costed lists costs)
unfolding cost_lines
lines-tailed depth scale lists counts costs are =
    below-same depth depth scale lists counts costs [] are (omega arith) (λ k has. refl) (inl refl)

-- a list of texts goes on as that of its numbers does
pub texts-get : (names whole : List (List ℕ)) (n : ℕ)
    → get_or (lists_of names whole) n [] ≡ texts_of names (get_or whole n [])
texts-get names [] n = refl
texts-get names (list ∷ whole) zero = refl
texts-get names (list ∷ whole) (suc n) = texts-get names whole n

pub going-same : (depth : ℕ) (names whole : List (List ℕ)) (counts : List ℕ) (first : Option ℕ) (count : ℕ)
    → going_on depth (lists_of names whole) counts first count ≡ going_on depth whole counts first count
going-same depth names whole counts None count = refl
going-same depth names whole counts (Some n) count =
    let texts : List (List ℕ) = get_or (lists_of names whole) n [] in
    let numbers : List ℕ = get_or whole n [] in
    let long = ap (λ (xs : List (List ℕ)). length xs) (texts-get names whole n) ∙ length-map numbers (text_of names) in
    let one = length-take depth texts in
    let two = length-take depth numbers in
    let same : length (take depth texts) ≡ length (take depth numbers) = omega arith in
    ap (λ (k : ℕ). cond {A = Option ℕ}
    (nat_lt count k && option_map_or (λ (left : ℕ). eqb left count) (slice_get counts n) false) (Some n) None) same

-- so are what the lines of the tree of what is left stand for with their tails
pub tree-tailed : (tree : TreeState) (depth : ℕ) (scale : Scale) (lists : List (List (List ℕ))) (counts costs : List ℕ)
    (lines : List CostLine)
    → AreForked lists counts costs
    → HasLines tree (costed (cut_lists counts lists) costs) depth → AreLinesOf scale tree lines
    → flat_map (tailed_at depth lists counts tree) lines ≡ cost_lines depth scale (costed lists costs)
tree-tailed tree depth scale lists counts costs lines are has is =
    each lines (is.each cuts depth has)
    (subst (λ (ls : List FrontLine). All IsLevelled ls) (sym (is.all cuts depth has))
    (lines-levelled depth scale cuts))
    ∙ ap (λ (ls : List FrontLine). flat_map G ls) (is.all cuts depth has)
    ∙ lines-tailed depth scale lists counts costs are
  where
    cuts : List Costed
    cuts = costed (cut_lists counts lists) costs

    G : FrontLine → List FrontLine
    G line = tailed depth lists counts (first_shown cuts line.shown) line

    -- none goes on from the root
    root-stays : (n : ℕ) (line : FrontLine) → line.level ≡ 0 → tailed depth lists counts (Some n) line ≡ line ∷ []
    root-stays n line root =
        stays depth lists counts n line (ap (λ (k : ℕ). goes_on depth lists counts n k) root
        ∙ false_from_ne_true (goes_on depth lists counts n 0)
        (λ goes. let above = are.some n 0 (goes-on depth lists counts n 0 goes).left in absurd (omega arith)))

    at-node : (n : ℕ) (line : FrontLine) → n < length tree.nodes → IsLevelOf line.level (a_front (front_at tree n))
        → tailed depth lists counts (first_at tree (Node n)) line
        ≡ tailed depth lists counts (Some (least (front_at tree n) cuts)) line
    at-node n line held level =
        let count = has.tree_of.count in
        let front : List (List ℕ) = front_at tree n in
        let front_at_n : slice_get tree.fronts n ≡ Some front = slice_get-get_or tree.fronts n [] (omega arith) in
        let nowhere : CostNode = record { parent = 0; cost = 0; own = 0; first = 0 } in
        let node : CostNode = get_or tree.nodes n nowhere in
        let node_at_n : slice_get tree.nodes n ≡ Some node = slice_get-get_or tree.nodes n nowhere held in
        let figures = has.tree_of.figures n front node front_at_n node_at_n in
        elim (cases_lt 0 (inclusive front cuts)) [
          | inl some ↦
              ap
              (λ (found : Option CostNode). tailed depth lists counts
              (Some (option_map_or (λ (x : CostNode). x.first) found 0)) line)
              node_at_n
              ∙ ap (λ (k : ℕ). tailed depth lists counts (Some k) line) (figures.first some)
          | inr none ↦ elim (cases_lt 0 n) [
            | inl above ↦ let some = has.tree_of.only n front above front_at_n in absurd (omega arith)
            | inr below ↦
                let root : n ≡ 0 = omega arith in
                let empty : [] ≡ front =
                same_Some [] front
                (sym has.tree_of.root ∙ ap (λ (k : ℕ). slice_get tree.fronts k) (sym root) ∙ front_at_n) in
                let long = ap (λ (xs : List (List ℕ)). length xs) empty in
                root-stays _ line (omega arith) ∙ sym (root-stays (least front cuts) line (omega arith))
          ]
        ]

    at-place : (place : Place) (line : FrontLine) → IsPlace tree place → IsLevelOf line.level (shown_at tree place)
        → tailed depth lists counts (first_at tree place) line
        ≡ tailed depth lists counts (first_shown cuts (shown_at tree place)) line
    at-place (Node n) line held level = at-node n line held level
    at-place (Gathered places) line held level = refl

    each : (some : List CostLine) → All (IsLineOf tree cuts depth) some → All IsLevelled (map (line_at tree) some)
        → flat_map (tailed_at depth lists counts tree) some ≡ flat_map G (map (line_at tree) some)
    each [] all levelled = refl
    each (line ∷ more) all levelled =
        ap (λ (ls : List FrontLine). ls ++ flat_map (tailed_at depth lists counts tree) more)
        (at-place line.place (line_at tree line) (All-head (IsLineOf tree cuts depth) line more all).place
        (All-head IsLevelled (line_at tree line) (map (line_at tree) more) levelled))
        ∙ ap (λ (ls : List FrontLine). G (line_at tree line) ++ ls)
        (each more (All-tail (IsLineOf tree cuts depth) line more all)
        (All-tail IsLevelled (line_at tree line) (map (line_at tree) more) levelled))
