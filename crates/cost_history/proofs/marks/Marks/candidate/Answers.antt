use Rattle.std.proofs.Common.{◌≡◌, true, false, arith, rules}
use Rattle.cost_history.proofs.Marking.{at-all, at-listed, count-all}
use Rattle.cost_history.proofs.marks.Marks.candidate.Goals as goal

pub returns-then-self : goal.returns-then-self
returns-then-self c =
    let all : c.self.inside.all ≡ true = search rules in
    rw (← c.self.view_is)
    (at-all c.self.inside.order.items c.self.inside.count c.args.stacks c.args.i c.self.inside.all all
    (rw (← c.self.view_is) at c.requires))

pub returns : goal.returns
returns c =
    let listed : c.self.inside.all ≡ false = search rules in
    rw (← c.self.view_is)
    (at-listed c.self.inside.order.items c.self.inside.count c.args.stacks c.args.i c.index.result.now c.self.inside.all
    c.self.invariant.within listed (rw (← c.self.view_is) at c.requires) c.index.ensures)

pub overflow_cast-result : goal.overflow_cast-result
overflow_cast-result c =
    let all : c.self.inside.all ≡ true = search rules in
    let long = count-all c.self.inside.order.items c.self.inside.count c.args.stacks c.self.inside.all all in
    let within = rw (← c.self.view_is) at c.requires in
    let fits = c.ranges.stacks.fits in
    omega arith
