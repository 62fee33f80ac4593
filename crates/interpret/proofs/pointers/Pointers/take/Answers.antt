use Rattle.std.proofs.Common.{ℕ, List, Option, None, ap, ◌∙◌, cond}
use Rattle.std.specs.Prelude.{◌==◌}
use Rattle.interpret.specs.InterpreterState.{info_at}
use Rattle.interpret.proofs.pointers.Pointers.take.Goals as goal

pub returns-clause-taken : goal.returns-clause-taken
returns-clause-taken c = λ other.
    c.remove.ensures.updates.0 other
    ∙ ap (λ (pointers : List (ℕ × ℕ)). cond {A = Option ℕ} (c.args.ptr == other) None (info_at pointers other))
    c.self.view_is
