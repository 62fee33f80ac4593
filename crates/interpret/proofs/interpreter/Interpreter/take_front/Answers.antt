use Rattle.std.proofs.Common.{[], ap, sym, ◌∙◌}
use Rattle.std.specs.Prelude.{is_some}
use Rattle.interpret.specs.InterpreterState.{InterpreterState}
use Rattle.interpret.proofs.FrontLemmas.{front-taken}
use Rattle.interpret.proofs.interpreter.Interpreter.take_front.Goals as goal

pub returns-then-take_event-clause-taken : goal.returns-then-take_event-clause-taken
returns-then-take_event-clause-taken c =
    front-taken c.args.self.now c.take_event.new.self c.args.ready.now c.in_ok-line.line _ _ c.in_ok-line.ensures
    (ap (λ (s : InterpreterState). is_some s.version) (sym c.self.view_is) ∙ c.if-is_none.ensures)
    (c.take_event.ensures.taken c.if-take_event.true)

pub returns-then-take_event-clause-symbols : goal.returns-then-take_event-clause-symbols
returns-then-take_event-clause-symbols c = (c.take_event.ensures.taken c.if-take_event.true []).symbols
