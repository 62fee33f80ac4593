use Rattle.interpret.proofs.TakeLemmas.{takes-clear}
use Rattle.interpret.proofs.interpreter.Interpreter.clear_modules.Goals as goal

pub returns : goal.returns
returns c = rw (← c.self.view_is, c.clear.ensures) (λ line before. takes-clear _ line before)
