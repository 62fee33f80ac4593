use Rattle.std.proofs.Common.{◌≡◌, ◌<◌, length}
use Rattle.std.specs.Prelude.{sum_by}
use Rattle.cost_tree.specs.Building.{IsBuilt}
use Rattle.cost_tree.specs.Growth.{weight}
use Rattle.cost_tree.specs.Shapes.{list_at}
use Rattle.cost_tree.proofs.Ascents.{IsLeft}
use Rattle.cost_tree.proofs.Stages.{AreStages}
use Rattle.cost_tree.proofs.branches.Branches.number.Given as goal

abbrev pub invariant-each_node : goal.invariant-each_node
invariant-each_node l = record {
  built : IsBuilt l.edges l.self;
  held : l.node < length l.self.nodes.items;
  weight : sum_by weight l.self.nodes.items ≡ sum_by weight l.fn.self.nodes.items;
  left : IsLeft l.edges l.self.numbered.items (list_at l.edges l.end) l.self.path.items;
  stages : AreStages l.edges (list_at l.edges l.end) l.list l.depth l.fn.self l.self l.self.path.items l.node;
}

abbrev pub decreases-each_node : goal.decreases-each_node
decreases-each_node l = length l.self.path.items
