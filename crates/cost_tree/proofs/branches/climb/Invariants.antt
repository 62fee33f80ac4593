use Rattle.cost_tree.specs.Shapes.{list_at}
use Rattle.cost_tree.specs.Paths.{IsPath}
use Rattle.cost_tree.proofs.branches.climb.Given as goal

abbrev pub invariant-each_node : goal.invariant-each_node
invariant-each_node l = IsPath l.edges l.numbered (list_at l.edges l.end) l.path.items l.place

abbrev pub decreases-each_node : goal.decreases-each_node
decreases-each_node l = l.place
