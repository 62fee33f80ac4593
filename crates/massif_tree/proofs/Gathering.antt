-- A tree of lists that are cut, and what is gathered beside it, have the lines of the whole lists.
use Rattle.std.proofs.Common.{◌≡◌, ℕ, ◌^◌, ◌<◌, ◌≤◌, List, [], length, sym, ap, ◌∙◌, sum, arith}
use Rattle.cost_tree.specs.declared.children.Gathered.{Gathered}
use Rattle.cost_tree.specs.declared.scale.Scale.{Scale}
use Rattle.cost_tree.specs.Costed.{costed}
use Rattle.cost_tree.specs.CostLines.{FrontLine, cost_lines, cost_of}
use Rattle.cost_tree.specs.CutState.{CutState, HasWholeLines}
use Rattle.cost_tree.specs.Gathering.{GathersSmall, HaveLines, lines_of}
use Rattle.cost_tree.specs.SmallTexts.{with_gathered}
use Rattle.cost_tree.specs.TreeLines.{HasLines}
use Rattle.cost_tree.specs.TreeState.{TreeState}
use Rattle.cost_tree.proofs.Laws.{costed-count, costed-sum, inclusive-all}

sum-is : (lists : List (List (List ℕ))) (costs : List ℕ) → length costs ≡ length lists
    → cost_of (costed lists costs) [] ≡ sum costs
sum-is lists costs same = inclusive-all (costed lists costs) ∙ costed-sum lists costs same

pub have-lines : (scale : Scale) (tree : TreeState) (few : Gathered) (lists : CutState) (old new : List ℕ) (depth : ℕ)
    → HasLines tree (costed lists.cut new) depth → HasWholeLines scale new lists
    → GathersSmall depth scale lists.whole old new few → length old ≡ length lists.whole
    → length lists.cut ≡ length lists.whole → length lists.whole < 2 ^ 32 → sum old ≤ 2 ^ 62
    → HaveLines scale tree few (costed lists.whole old) depth
have-lines scale tree few lists old new depth has same gathers as_many count short within =
    let all = sum-is lists.whole old as_many in
    let less = sum-is lists.cut new (gathers.as_many ∙ as_many ∙ sym count) in
    let parts = gathers.parts in
    let stacks = costed-count lists.whole old as_many in
    let sums = costed-sum lists.whole old as_many in
    record {
      others = costed lists.cut new;
      has = has;
      count = omega arith;
      within = omega arith;
      parts = omega arith;
      lines =
          gathers.lines
          ∙ ap (λ (ls : List FrontLine). with_gathered ls (sum old) (lines_of few)) (sym (same depth))
          ∙ ap (λ (n : ℕ). with_gathered (cost_lines depth scale (costed lists.cut new)) n (lines_of few)) (sym all);
    }
