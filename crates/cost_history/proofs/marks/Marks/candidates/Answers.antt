use Rattle.std.proofs.Common.{◌≡◌, true, rules}
use Rattle.cost_history.proofs.Marking.{count-all}
use Rattle.cost_history.proofs.marks.Marks.candidates.Goals as goal

pub returns-then-self : goal.returns-then-self
returns-then-self c =
    let all : c.self.inside.all ≡ true = search rules in
    rw (← c.self.view_is) (count-all c.self.inside.order.items c.self.inside.count c.args.stacks c.self.inside.all all)
