use Rattle.interpret.proofs.StandLemmas.{stands-new}
use Rattle.interpret.proofs.interpreter.Interpreter.new.Goals as goal

pub returns : goal.returns
returns c =
    rw (
      c.new.ensures.empty,
      c.new-2.ensures.empty,
      c.new-3.ensures.empty,
      c.new-4.ensures.empty,
      c.new-5.ensures.empty,
      c.new-6.ensures.empty,
    ) (stands-new c.args.symbols)
