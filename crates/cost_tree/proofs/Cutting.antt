-- Lists that are cut behind a front without a line have the lines of the whole lists.
use Rattle.std.proofs.Common.{◌≡◌, ℕ, zero, suc, ◌+◌, ◌<◌, ◌≤◌, inl, inr, false, List, [], ◌∷◌, ◌++◌, length, map, take}
use Rattle.std.proofs.Common.{Some, refl, sym, ap, ◌∙◌, arith}
use Rattle.std.specs.Prelude.{All, slice_get}
use Rattle.std.proofs.lemmas.Bool.{both_ways, cases_lt}
use Rattle.std.proofs.lemmas.List.{length-map, take-take, take_all}
use Rattle.std.proofs.lemmas.List.Elements.{All-weaker}
use Rattle.std.proofs.lemmas.Option.{none-some, same_Some}
use Rattle.cost_tree.specs.declared.scale.Scale.{Scale}
use Rattle.cost_tree.specs.Costed.{Costed, costed}
use Rattle.cost_tree.specs.CostLines.{FrontLine, cost_lines, cost_of, front_line, front_lines, gathered_lines, is_small}
use Rattle.cost_tree.specs.CostLines.{kept_fronts, small_fronts}
use Rattle.cost_tree.specs.Cuts.{AreEnough, IsEnough, cut_lists}
use Rattle.cost_tree.specs.NextFronts.{texts_at}
use Rattle.cost_tree.proofs.Firsts.{AreFirst, AreFirstTo, IsCostly, fewer-first, kept-costly, line-same, lines-below}
use Rattle.cost_tree.proofs.Firsts.{one-longer}
use Rattle.cost_tree.proofs.Prefixes.{has_front-Decides}
use Rattle.cost_tree.proofs.Walks.{lists-same}

-- so many texts of a list are at most one more than a front may have, and the fronts that they go
-- on from cost enough for lines
record AreLarge (depth : ℕ) (scale : Scale) (all : List Costed) (texts : List (List ℕ)) (n : ℕ) : Type 0 where
  short : n ≤ depth + 1
  each : (j : ℕ) → 0 < j → j < n → is_small scale (cost_of all (take j texts)) ≡ false

-- fewer of them
fewer-large : (depth : ℕ) (scale : Scale) (all : List Costed) (texts : List (List ℕ)) (m n : ℕ) → m ≤ n
    → AreLarge depth scale all texts n → AreLarge depth scale all texts m
fewer-large depth scale all texts m n less large =
    record { short = let short = large.short in omega arith; each = λ j some before. large.each j some (omega arith) }

-- those of another list with the same first texts
large-in : (depth : ℕ) (scale : Scale) (all : List Costed) (front texts : List (List ℕ)) (m n : ℕ)
    → front ≡ take m texts → n ≤ m + 1 → AreLarge depth scale all front n → AreLarge depth scale all texts n
large-in depth scale all front texts m n begins within large = record {
  short = large.short;
  each = λ j some less.
      ap (λ (xs : List (List ℕ)). is_small scale (cost_of all xs))
      (sym (ap (λ (xs : List (List ℕ)). take j xs) begins ∙ take-take j m texts (omega arith)))
      ∙ large.each j some less;
}

-- a list isn't cut before its first texts that are too small
cut-first : (depth : ℕ) (scale : Scale) (all : List Costed) (texts : List (List ℕ)) (count n : ℕ)
    → IsEnough depth scale all texts count → AreLarge depth scale all texts n
    → take n (take count texts) ≡ take n texts
cut-first depth scale all texts count n enough large =
    elim (cases_lt count (length texts)) [
      | inl cut ↦ elim (cases_lt count n) [
        | inl less ↦ elim (enough.rest cut) [
          | inl deep ↦ absurd (omega (arith, large.short))
          | inr small ↦ absurd
              (both_ways (is_small scale (cost_of all (take count texts))) (large.each count (enough.some cut) less)
              small)
        ]
        | inr no_less ↦ take-take n count texts no_less
      ]
      | inr whole ↦ ap (λ (xs : List (List ℕ)). take n xs) (take_all count texts whole)
    ]

-- a stack whose list is cut
record IsCut (depth : ℕ) (scale : Scale) (all : List Costed) (whole cut : Costed) : Type 0 where
  count : ℕ
  texts : cut.texts ≡ take count whole.texts
  cost : cut.cost ≡ whole.cost
  enough : IsEnough depth scale all whole.texts count

abbrev AreCut : ℕ → Scale → List Costed → List Costed → List Costed → Type 0
AreCut depth scale all [] [] = Unit {0}
AreCut depth scale all [] (cut ∷ cuts) = ⊥
AreCut depth scale all (whole ∷ stacks) [] = ⊥
AreCut depth scale all (whole ∷ stacks) (cut ∷ cuts) =
    IsCut depth scale all whole cut × AreCut depth scale all stacks cuts

are-first : (depth : ℕ) (scale : Scale) (all stacks cuts : List Costed) → AreCut depth scale all stacks cuts
    → AreFirst stacks cuts
are-first depth scale all [] [] are = tt
are-first depth scale all [] (cut ∷ cuts) are = are
are-first depth scale all (whole ∷ stacks) [] are = are
are-first depth scale all (whole ∷ stacks) (cut ∷ cuts) are = (
  record { count = are.0.count; texts = are.0.texts; cost = are.0.cost },
  are-first depth scale all stacks cuts are.1,
)

-- the texts of one of them
record IsCutAt (depth : ℕ) (scale : Scale) (all stacks cuts : List Costed) (n : ℕ) : Type 0 where
  count : ℕ
  texts : texts_at cuts n ≡ take count (texts_at stacks n)
  enough : IsEnough depth scale all (texts_at stacks n) count

cut-at : (depth : ℕ) (scale : Scale) (all stacks cuts : List Costed) (n : ℕ) → AreCut depth scale all stacks cuts
    → IsCutAt depth scale all stacks cuts n
cut-at depth scale all [] [] n are =
    record {
      count = 0;
      texts = refl;
      enough = record { some = λ less. absurd (omega arith); rest = λ less. absurd (omega arith) };
    }
cut-at depth scale all [] (cut ∷ cuts) n are = absurd are
cut-at depth scale all (whole ∷ stacks) [] n are = absurd are
cut-at depth scale all (whole ∷ stacks) (cut ∷ cuts) zero are =
    record { count = are.0.count; texts = are.0.texts; enough = are.0.enough }
cut-at depth scale all (whole ∷ stacks) (cut ∷ cuts) (suc n) are =
    let rest = cut-at depth scale all stacks cuts n are.1 in
    record { count = rest.count; texts = rest.texts; enough = rest.enough }

-- as many as a large front goes on from
first-to : (depth : ℕ) (scale : Scale) (all stacks cuts : List Costed) (front : List (List ℕ))
    → AreCut depth scale all stacks cuts → AreLarge depth scale all front (length front + 1)
    → AreFirstTo (length front + 1) front stacks cuts
first-to depth scale all stacks cuts front are large k has =
    let texts : List (List ℕ) = texts_at stacks k in
    let at = cut-at depth scale all stacks cuts k are in
    let begins : front ≡ take (length front) texts = (has_front-Decides front texts).0 has in
    ap (λ (xs : List (List ℕ)). take (length front + 1) xs) at.texts
    ∙ cut-first depth scale all texts at.count (length front + 1) at.enough
    (large-in depth scale all front texts (length front) (length front + 1) begins (omega arith) large)

-- a front with a line is large itself
kept-large : (depth : ℕ) (scale : Scale) (stacks : List Costed) (front : List (List ℕ)) → length front < depth
    → AreLarge depth scale stacks front (length front + 1)
    → All (λ next. (length next ≡ length front + 1) × AreLarge depth scale stacks next (length next + 1))
    (kept_fronts scale stacks front)
kept-large depth scale stacks front short large =
    All-weaker (IsCostly scale front stacks)
    (λ next. (length next ≡ length front + 1) × AreLarge depth scale stacks next (length next + 1)) itself
    (kept_fronts scale stacks front) (kept-costly scale front stacks)
  where
    itself : (next : List (List ℕ)) → IsCostly scale front stacks next
        → (length next ≡ length front + 1) × AreLarge depth scale stacks next (length next + 1)
    itself next is =
        let longer = one-longer front next stacks is.longer in
        let count = longer.count in
        let reached =
        large-in depth scale stacks front next (length front) (length next) longer.begins (omega arith)
        (fewer-large depth scale stacks front (length next) (length front + 1) (omega arith) large) in (
          count,
          record {
            short = omega arith;
            each = λ j some less.
                elim (cases_lt j (length next)) [
                  | inl shorter ↦ reached.each j some shorter
                  | inr whole ↦ ap (λ (xs : List (List ℕ)). is_small scale (cost_of stacks xs)) (take_all j next whole)
                      ∙ is.large
                ];
          },
        )

-- and has the lines of the whole lists below it
lines-same : (more depth : ℕ) (scale : Scale) (stacks cuts : List Costed) (front : List (List ℕ))
    → AreCut depth scale stacks stacks cuts → length front + more ≤ depth
    → AreLarge depth scale stacks front (length front + 1)
    → front_lines more scale cuts front ≡ front_lines more scale stacks front
unfolding front_lines
lines-same zero depth scale stacks cuts front are within large =
    line-same scale front stacks cuts (are-first depth scale stacks stacks cuts are)
    (fewer-first (length front) (length front + 1) front stacks cuts (omega arith)
    (first-to depth scale stacks stacks cuts front are large))
lines-same (suc more) depth scale stacks cuts front are within large =
    let kept : List (List (List ℕ)) = kept_fronts scale stacks front in
    let last : List FrontLine = gathered_lines stacks (length front + 1) (small_fronts scale stacks front) in
    lines-below more scale front stacks cuts (are-first depth scale stacks stacks cuts are)
    (first-to depth scale stacks stacks cuts front are large)
    ∙ ap (λ (ls : List FrontLine). front_line (length kept + length last) stacks front ∷ (ls ++ last))
    (lists-same (front_lines more scale cuts) (front_lines more scale stacks) kept
    (All-weaker (λ next. (length next ≡ length front + 1) × AreLarge depth scale stacks next (length next + 1))
    (λ next. front_lines more scale cuts next ≡ front_lines more scale stacks next)
    (λ next found. let count = found.0 in lines-same more depth scale stacks cuts next are (omega arith) found.1) kept
    (kept-large depth scale stacks front (omega arith) large)))

are-cut : (depth : ℕ) (scale : Scale) (all : List Costed) (lists : List (List (List ℕ))) (counts costs : List ℕ)
    → length counts ≡ length lists
    → ((k count : ℕ) (texts : List (List ℕ)) → slice_get lists k ≡ Some texts → slice_get counts k ≡ Some count
    → IsEnough depth scale all texts count)
    → AreCut depth scale all (costed lists costs) (costed (cut_lists counts lists) costs)
unfolding costed cut_lists
are-cut depth scale all [] [] costs same each = tt
are-cut depth scale all [] (count ∷ counts) costs same each = absurd (omega arith)
are-cut depth scale all (list ∷ lists) [] costs same each = absurd (omega arith)
are-cut depth scale all (list ∷ lists) (count ∷ counts) [] same each = tt
are-cut depth scale all (list ∷ lists) (count ∷ counts) (cost ∷ costs) same each = (
  record { count = count; texts = refl; cost = refl; enough = each 0 count list refl refl },
  are-cut depth scale all lists counts costs (omega arith)
      (λ k n texts list_at count_at. each (suc k) n texts list_at count_at),
)

-- the lines of the cut lists are those of the whole ones
pub lines-cut : (depth : ℕ) (scale : Scale) (lists : List (List (List ℕ))) (counts costs : List ℕ)
    → AreEnough depth scale (costed lists costs) lists counts
    → cost_lines depth scale (costed (cut_lists counts lists) costs) ≡ cost_lines depth scale (costed lists costs)
unfolding cost_lines
lines-cut depth scale lists counts costs enough =
    lines-same depth depth scale (costed lists costs) (costed (cut_lists counts lists) costs) []
    (are-cut depth scale (costed lists costs) lists counts costs enough.count enough.each) (omega arith)
    (record { short = omega arith; each = λ j some less. absurd (omega arith) })

-- and those of lists of one text more than fronts may have
pub lines-first : {X : Type 0} (depth : ℕ) (scale : Scale) (texts : X → List (List ℕ)) (xs : List X) (costs : List ℕ)
    → cost_lines depth scale (costed (map (λ x. take (depth + 1) (texts x)) xs) costs)
    ≡ cost_lines depth scale (costed (map texts xs) costs)
unfolding cut_lists
lines-first {X} depth scale texts xs costs =
    ap (λ (lists : List (List (List ℕ))). cost_lines depth scale (costed lists costs)) (sym (all_cut xs))
    ∙ lines-cut depth scale (map texts xs) (map (λ (x : X). depth + 1) xs) costs
    (record {
      count = length-map xs (λ (x : X). depth + 1) ∙ sym (length-map xs texts);
      each =
          λ k count list at is. let same = always xs k count
          is in record { some = λ less. omega arith; rest = λ less. inl (omega arith) };
    })
  where
    all_cut : (ys : List X)
        → cut_lists (map (λ (x : X). depth + 1) ys) (map texts ys) ≡ map (λ x. take (depth + 1) (texts x)) ys
    all_cut [] = refl
    all_cut (y ∷ ys) = ap (λ (lists : List (List (List ℕ))). take (depth + 1) (texts y) ∷ lists) (all_cut ys)

    always : (ys : List X) (k count : ℕ) → slice_get (map (λ (x : X). depth + 1) ys) k ≡ Some count → count ≡ depth + 1
    always [] k count is = absurd (none-some count is)
    always (y ∷ ys) zero count is = sym (same_Some (depth + 1) count is)
    always (y ∷ ys) (suc k) count is = always ys k count is
