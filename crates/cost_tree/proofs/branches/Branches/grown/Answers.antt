use Rattle.std.proofs.Common.{ℕ, ◌+◌, List, ap, arith}
use Rattle.std.specs.Prelude.{sum_by}
use Rattle.std.proofs.lemmas.List.Sums.{sum_by-take-le}
use Rattle.cost_tree.specs.declared.node.CostNode.{CostNode}
use Rattle.cost_tree.specs.Growth.{weight}
use Rattle.cost_tree.proofs.Adding.{AreGrown-free, AreGrown-more, HasGrown-all, taken-more}
use Rattle.cost_tree.proofs.ShapeLists.{AreNames-used}
use Rattle.cost_tree.proofs.Stages.{IsBuilt-started, IsGrowth-started}
use Rattle.cost_tree.proofs.branches.Branches.grown.Goals as goal

pub each_list-init : goal.each_list-init
each_list-init c =
    let keys = c.args.edges.now in
    let tree = c.in_ok-branches.branches in
    let started = c.in_ok-branches.ensures.started in
    let nodes = ap (λ (ns : List CostNode). sum_by weight ns) started.nodes_are in
    record {
      built = IsBuilt-started keys tree started;
      weight = omega arith;
      grown = λ names named. IsGrowth-started names keys tree c.args.depth c.requires.shape.steps named started;
    }

pub each_list-preserved-then-costs-list-eq0 : goal.each_list-preserved-then-costs-list-eq0
each_list-preserved-then-costs-list-eq0 c =
    let now = c.each_list.invariant in
    let more = taken-more c.args.costs.now c.each_list.list c.each_list-test.true in
    record {
      built = now.built;
      weight = let so_far = now.weight in omega arith;
      grown =
          AreGrown-free c.args.edges.now c.args.ends.now c.args.costs.now c.args.depth c.each_list.branches
          c.each_list.list (omega (arith, c.requires.as_many)) (omega (arith, c.requires.as_many))
          c.if-costs-list-eq0.true now.grown;
    }

pub add-requires-clause-room : goal.add-requires-clause-room
add-requires-clause-room c =
    let now = c.each_list.invariant in
    let costs = c.args.costs.now in
    let more = taken-more costs c.each_list.list c.each_list-test.true in
    let most = sum_by-take-le (λ (n : ℕ). n) costs (c.each_list.list + 1) in
    omega (arith, now.weight, c.requires.bound)

pub each_list-preserved : goal.each_list-preserved
each_list-preserved c =
    let now = c.each_list.invariant in
    let more = taken-more c.args.costs.now c.each_list.list c.each_list-test.true in
    record {
      built = c.in_ok-add.ensures.built;
      weight = omega (arith, now.weight, c.in_ok-add.ensures.weight);
      grown =
          AreGrown-more c.args.edges.now c.args.ends.now c.args.costs.now c.args.depth c.each_list.branches
          c.add.new.self c.each_list.list (omega (arith, c.requires.as_many)) (omega (arith, c.requires.as_many))
          c.in_ok-add.ensures.grown now.grown;
    }

pub returns-clause-grown : goal.returns-clause-grown
returns-clause-grown c = λ names distinct texts.
    let keys = c.args.edges.now in
    let ends = c.args.ends.now in
    let costs = c.args.costs.now in
    let tree = c.each_list.branches in
    HasGrown-all names keys ends costs c.args.depth tree c.each_list.list (omega arith)
    (AreNames-used names keys ends c.requires.shape distinct texts) c.each_list.invariant.grown

pub returns-clause-rooted : goal.returns-clause-rooted
returns-clause-rooted c =
    let built = c.each_list.invariant.built in
    record { count = built.nodes_count; lower = built.lower }
