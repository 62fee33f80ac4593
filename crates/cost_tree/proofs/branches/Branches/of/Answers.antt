use Rattle.std.proofs.Common.{◌∙◌}
use Rattle.cost_tree.proofs.Totals.{IsTree-summed, sums-lower}
use Rattle.cost_tree.proofs.branches.Branches.of.Goals as goal

pub returns-clause-tree : goal.returns-clause-tree
returns-clause-tree c = λ names distinct texts.
    IsTree-summed names c.in_ok-branches.branches.edges.items c.in_ok-branches.branches.nodes.items
    c.sum_up.new.nodes.items _ c.args.depth (c.in_ok-branches.ensures.grown names distinct texts)
    c.sum_up.ensures.sums

pub returns-clause-rooted : goal.returns-clause-rooted
returns-clause-rooted c =
    let rooted = c.in_ok-branches.ensures.rooted in
    let sums = c.sum_up.ensures.sums in
    record {
      count = sums.count ∙ rooted.count;
      lower = sums-lower c.in_ok-branches.branches.nodes.items c.sum_up.new.nodes.items sums rooted.lower;
    }
