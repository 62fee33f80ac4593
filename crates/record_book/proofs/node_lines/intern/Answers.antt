use Rattle.std.proofs.Common.{◌≡◌, ℕ, ◌∷◌, subst, arith}
use Rattle.stack_table.specs.Interned.{node_interned}
use Rattle.stack_table.specs.Stack.{stack}
use Rattle.record_book.proofs.NodeLemmas.{called, interned}
use Rattle.record_book.proofs.node_lines.intern.Goals as goal

pub returns-in-Ok-clause-interned : goal.returns-in-Ok-clause-interned
returns-in-Ok-clause-interned c = λ known are.
    let old = c.args.nodes.now in
    let new = c.intern.new.self in
    interned old new known c.in-Ok.node c.args.ip c.args.parent are c.in-Ok.ensures.nodes c.in-Ok.ensures.continues
    c.requires.held
    (subst (λ (parent : ℕ). node_interned old (called c.args.ip parent) ≡ record { nodes = new; number = c.in-Ok.node })
    c.from.ensures c.in-Ok.ensures.interned)
    (subst (λ (parent : ℕ). stack new c.in-Ok.node ≡ c.args.ip ∷ stack new parent) c.from.ensures c.in-Ok.ensures.stack)
    (omega (arith, c.in-Ok.ensures.within)) c.in-Ok.ensures.within.1
