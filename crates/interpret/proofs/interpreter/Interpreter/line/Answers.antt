use Rattle.std.proofs.lemmas.Result.{MatchResult-weaker}
use Rattle.interpret.proofs.StandLemmas.{adds-line, refuses-line}
use Rattle.interpret.proofs.interpreter.Interpreter.line.Goals as goal

pub returns-in-Err-clause-refuses : goal.returns-in-Err-clause-refuses
returns-in-Err-clause-refuses c =
    refuses-line c.args.self.now c.take_line-done.new.self c.keep_fault.new.self c.args.line.now c.in-Err.error
    c.in-Err.ensures.refused c.keep_fault.ensures.kept

pub returns-in_default-done-clause-adds : goal.returns-in_default-done-clause-adds
returns-in_default-done-clause-adds c =
    MatchResult-weaker c.take_line-done.result c.take_line-done.ensures.read
    (λ done read. adds-line c.args.self.now _ c.args.line.now _ _ read) (λ error all. all)
