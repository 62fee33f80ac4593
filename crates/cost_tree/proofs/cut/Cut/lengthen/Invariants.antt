use Rattle.cost_tree.specs.CutShapes.{IsCutOf, left}
use Rattle.cost_tree.proofs.cut.Cut.lengthen.Given as goal

abbrev pub invariant-rounds : goal.invariant-rounds
invariant-rounds l = IsCutOf l.whole l.self

abbrev pub decreases-rounds : goal.decreases-rounds
decreases-rounds l = left l.self.counts.items l.self.lengths.items
