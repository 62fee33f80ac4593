use Rattle.interpret.proofs.TakeLemmas.{takes-module}
use Rattle.interpret.proofs.interpreter.Interpreter.add_module.Goals as goal

pub returns : goal.returns
returns c =
    rw (← c.self.view_is)
    (λ out line. record {
      takes = takes-module _ c.args.name.now c.args.start _ line _ _ c.in_ok-add.ensures.added;
      refuses = tt;
    })
