use Rattle.std.proofs.Common.{subst, sym}
use Rattle.record_book.specs.declared.turn_stack.TurnStack.{TurnStack}
use Rattle.record_book.specs.MappedNodes.{IsKnown, ips_of}
use Rattle.record_book.specs.NodeState.{ArePut}
use Rattle.record_book.proofs.NodeLemmas.{known-put}
use Rattle.record_book.proofs.node_lines.put_stack.Goals as goal

pub returns-in-Known-clause-put : goal.returns-in-Known-clause-put
returns-in-Known-clause-put c = λ known are.
    let nodes = c.args.nodes.now in
    let text = c.args.text.now.items in
    subst (λ (stack : TurnStack). ArePut known (ips_of nodes stack) nodes c.in-Known.node text text)
    (sym c.in-Known.is)
    (known-put nodes known c.in-Known.node text are
    (subst (λ (stack : TurnStack). IsKnown nodes stack) c.in-Known.is c.requires.room.known))
