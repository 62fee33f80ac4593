use Rattle.cost_tree.proofs.cut.Cut.lengthen.Goals as goal

pub returns-clause-enough : goal.returns-clause-enough
returns-clause-enough c = c.in_ok-lengthen_some.ensures.enough c.if-branch.false
