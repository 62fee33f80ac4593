use Rattle.std.proofs.Common.{sym, ◌∙◌}
use Rattle.interpret.proofs.TakeLemmas.{takes-version, refuses-version}
use Rattle.interpret.proofs.interpreter.Interpreter.set_version.Goals as goal

pub returns-then-is_some-clause-answers : goal.returns-then-is_some-clause-answers
returns-then-is_some-clause-answers c =
    rw (← c.self.view_is)
    (λ line. record {
      takes = tt;
      refuses = refuses-version _ c.args.heaptrack c.args.file (sym c.is_some.ensures ∙ c.if-is_some.true);
    })

pub returns-clause-answers : goal.returns-clause-answers
returns-clause-answers c =
    rw (← c.self.view_is)
    (λ line. record {
      takes = takes-version _ c.args.heaptrack c.args.file line _ _
          (sym c.is_some.ensures ∙ c.if-is_some.false) c.in_ok-put_item.ensures.appended;
      refuses = tt;
    })
