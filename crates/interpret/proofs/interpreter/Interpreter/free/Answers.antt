use Rattle.std.proofs.Common.{refl}
use Rattle.interpret.proofs.TakeLemmas.{takes-free}
use Rattle.interpret.proofs.interpreter.Interpreter.free.Goals as goal

pub returns-clause-answers : goal.returns-clause-answers
returns-clause-answers c =
    rw (← c.self.view_is)
    (λ line. record {
      takes = takes-free _ c.put_free.new.pointers c.args.ptr _ _ line _ _ refl refl
          c.in_ok-put_free.ensures.taken (c.in_ok-put_free.ensures.lines _);
      refuses = tt;
    })
