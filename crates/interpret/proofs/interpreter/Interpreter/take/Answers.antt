use Rattle.std.proofs.Common.{refl}
use Rattle.std.proofs.lemmas.Result.{MatchResult-weaker}
use Rattle.interpret.proofs.TakeLemmas.{takes-passed}
use Rattle.interpret.proofs.interpreter.Interpreter.take.Goals as goal

pub returns-in-Version-clause-answers : goal.returns-in-Version-clause-answers
returns-in-Version-clause-answers c = rw c.in-Version.is (c.set_version.ensures.answers c.args.line.now)

pub returns-in-ModuleClear-clause-answers : goal.returns-in-ModuleClear-clause-answers
returns-in-ModuleClear-clause-answers c =
    rw c.in-ModuleClear.is
    (record { takes = c.clear_modules.ensures c.args.line.now c.args.out.now.items; refuses = tt })

pub returns-in-Module-clause-answers : goal.returns-in-Module-clause-answers
returns-in-Module-clause-answers c = rw c.in-Module.is (c.add_module.ensures c.args.out.now c.args.line.now)

pub returns-in-Node-clause-answers : goal.returns-in-Node-clause-answers
returns-in-Node-clause-answers c = rw c.in-Node.is (c.add_node.ensures.answers c.args.line.now)

pub returns-in-RawAlloc-clause-answers : goal.returns-in-RawAlloc-clause-answers
returns-in-RawAlloc-clause-answers c = rw c.in-RawAlloc.is (c.allocate.ensures.answers c.args.line.now)

pub returns-in-RawFree-clause-answers : goal.returns-in-RawFree-clause-answers
returns-in-RawFree-clause-answers c = rw c.in-RawFree.is (c.free.ensures.answers c.args.line.now)

pub returns-in-Executable-clause-answers : goal.returns-in-Executable-clause-answers
returns-in-Executable-clause-answers c = record {
  takes = MatchResult-weaker c.put_line.result c.put_line.ensures.appended
      (λ done wrote. takes-passed c.args.self.now c.args.item.now c.args.line.now _ _ c.in-Executable.is wrote)
      (λ error all. all);
  refuses = MatchResult-weaker c.put_line.result c.put_line.ensures.only (λ done all. all)
      (λ error
      is. record { fault = λ other. absurd (other is); unchanged = λ one two. refl; symbols = refl; failed = refl });
}
