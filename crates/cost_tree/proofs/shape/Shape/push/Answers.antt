use Rattle.std.proofs.Common.{◌-◌, set, ◌∙◌, arith}
use Rattle.cost_tree.proofs.ShapeLists.{HasPushed, HasPushed-read, as-many-ends}
use Rattle.cost_tree.proofs.shape.Shape.push.Goals as goal
use Rattle.cost_tree.proofs.shape.Shape.push.Goals.{In_ok-child}

-- the last list with the number
pushed : (c : In_ok-child)
    → HasPushed c.self.inside.edges.keys c.child_of.new.edges.keys c.self.inside.ends.items
    (set c.self.inside.ends.items (c.len-last.result - 1) c.in_ok-child.child) c.args.number
pushed c =
    let edges = c.self.inside.edges.keys in
    let ends = c.self.inside.ends.items in
    let count = as-many-ends edges ends c.args.self.now c.self.view_is in
    HasPushed-read edges c.child_of.new.edges.keys ends c.len-last.result c.index.result.now c.args.number
    c.in_ok-child.child c.self.invariant (omega (arith, c.requires.begun)) (omega arith) c.index.ensures
    c.in_ok-child.ensures.child

pub invariant_of-self-2 : goal.invariant_of-self-2
invariant_of-self-2 c = (pushed (goal.at.invariant_of-self-2 c).In_ok-child).shape

pub returns-clause-appended : goal.returns-clause-appended
returns-clause-appended c = λ earlier last is.
    (pushed (goal.at.returns-clause-appended c).In_ok-child).appended earlier last (c.self.view_is ∙ is)
