use Rattle.std.proofs.Common.{refl}
use Rattle.std.specs.Prelude.{unwrap_or}
use Rattle.std.proofs.lemmas.Result.{err_from_is_err_and}
use Rattle.interpret.proofs.TakeLemmas.{new-ip, takes-held, takes-new, refuses-held, refuses-new}
use Rattle.interpret.proofs.interpreter.Interpreter.add_node.Goals as goal

pub returns-in_err-add_held_node-clause-answers : goal.returns-in_err-add_held_node-clause-answers
returns-in_err-add_held_node-clause-answers c =
    let p = err_from_is_err_and c.from_residual.result c.from_residual.ensures.1 in
    let adds = c.in_err-add_held_node.ensures.adds in
    rw (p.1, p.2, ← c.self.view_is) (λ line. record {
      takes = tt;
      refuses =
          refuses-held _ _ c.args.ip c.args.parent c.in-Some.instruction.number c.in-Some.instruction.frames
          c.in_err-add_held_node.field-0.0 c.self.invariant c.in-Some.ensures.some c.in-Some.ensures.number
          c.in-Some.ensures.frames
          adds.fault (λ other. rw adds.unchanged refl) refl refl;
    })

pub returns-in-Some-clause-answers : goal.returns-in-Some-clause-answers
returns-in-Some-clause-answers c =
    let adds = c.in_ok-add_held_node.ensures.adds in
    rw (← c.self.view_is) (λ line. record {
      takes =
          takes-held _ c.add_held_node.new.nodes c.args.ip c.args.parent c.in-Some.instruction.number
          c.in-Some.instruction.frames (unwrap_or c.self.inside.version 1) line _ _ c.self.invariant refl
          c.in-Some.ensures.some c.in-Some.ensures.number c.in-Some.ensures.frames adds.added
          (adds.lines (unwrap_or c.self.inside.version 1)) adds.no_fault;
      refuses = tt;
    })

pub add_new_node-requires : goal.add_new_node-requires
add_new_node-requires c = record {
  unnumbered = rw c.resolve-found.ensures.ip (new-ip c.self.inside.known c.args.ip c.in_default.ensures.none).1;
  few_names = c.self.invariant.names_few;
}

pub returns-clause-answers : goal.returns-clause-answers
returns-clause-answers c =
    let adds = c.in_ok-add_new_node.ensures.adds in
    rw (← c.self.view_is) (λ line. record {
      takes =
          takes-new _ c.add_new_node.new.names c.add_new_node.new.ips c.add_new_node.new.nodes _ c.args.ip c.args.parent
          c.unwrap_or-version.result line _ _ c.self.invariant c.unwrap_or-version.ensures
          c.resolve-found.ensures.found c.in_default.ensures.none adds.called adds.known adds.added
          c.in_ok-add_new_node.ensures.lines c.in_ok-add_new_node.ensures.no_fault;
      refuses = tt;
    })

pub returns-in_err-add_new_node-clause-answers : goal.returns-in_err-add_new_node-clause-answers
returns-in_err-add_new_node-clause-answers c =
    let p =
    err_from_is_err_and c.from_residual-in_err-add_new_node.result c.from_residual-in_err-add_new_node.ensures.1 in
    let adds = c.in_err-add_new_node.ensures.adds in
    rw (p.1, p.2, ← c.self.view_is) (λ line. record {
      takes = tt;
      refuses =
          refuses-new _ _ _ c.args.ip c.args.parent c.in_err-add_new_node.field-0.0 c.self.invariant
          c.resolve-found.ensures.found c.in_default.ensures.none
          c.in_err-add_new_node.ensures.fault
          (λ one two. let same = adds.unchanged one two in rw (same.0, same.1, same.2) refl) refl refl;
    })
