use Rattle.std.proofs.Common.{ℕ, List, Option, Some, ap, ◌∙◌, cond}
use Rattle.std.specs.Prelude.{◌==◌}
use Rattle.interpret.specs.InterpreterState.{info_at}
use Rattle.interpret.proofs.pointers.Pointers.set.Goals as goal

pub returns-clause-set : goal.returns-clause-set
returns-clause-set c = λ other.
    c.in_ok-insert.ensures.updates.0 other
    ∙ ap (λ (pointers : List (ℕ × ℕ)). cond {A = Option ℕ} (c.args.ptr == other) (Some c.args.info)
    (info_at pointers other)) c.self.view_is
