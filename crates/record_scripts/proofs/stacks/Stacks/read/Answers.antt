use Rattle.std.proofs.Common.{List, subst}
use Rattle.stack_table.specs.Node.{Node}
use Rattle.record_scripts.specs.KnownText.{IsKnownText}
use Rattle.record_scripts.proofs.stacks.Stacks.read.Goals as goal

pub returns-in-Some-clause-read : goal.returns-in-Some-clause-read
returns-in-Some-clause-read c =
    let known = subst (λ (nodes : List Node). IsKnownText nodes c.args.text.now c.in-Some.node)
    c.self.view_is (c.in-Some.ensures c.self.inside.nodes c.self.invariant) in
    record { good = known.good; said = known }
