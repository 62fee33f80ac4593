use Rattle.std.proofs.lemmas.Result.{IfErr-weaker, on_ok_weaker}
use Rattle.trace_reading.specs.TraceReport.{patterns_before}
use Rattle.trace_reading.proofs.trace_reader.TraceReaderLineTaker.end.Goals as goal

pub returns-clause-no_fault : goal.returns-clause-no_fault
returns-clause-no_fault g c =
    on_ok_weaker c.end.result (λ every. every (patterns_before c.args.self.now.given c.args.self.now.trace.tables))
    c.end.ensures.no_fault

pub returns-clause-fault : goal.returns-clause-fault
returns-clause-fault g c =
    IfErr-weaker c.end.result _ _
    (λ fault every. every (patterns_before c.args.self.now.given c.args.self.now.trace.tables)) c.end.ensures.fault
