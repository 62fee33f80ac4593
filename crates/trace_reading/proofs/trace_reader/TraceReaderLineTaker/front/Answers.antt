use Rattle.std.proofs.Common.{ℕ, List, subst, sym}
use Rattle.command_frame.specs.Batch.{TakesFirst}
use Rattle.ht_trace.specs.TableState.{TableState}
use Rattle.trace_reading.specs.Reading.{HasRead}
use Rattle.trace_reading.specs.TraceReport.{patterns_before, trace_report}
use Rattle.trace_reading.proofs.trace_reader.TraceReaderLineTaker.front.Goals as goal

pub returns-clause-taken : goal.returns-clause-taken
returns-clause-taken g c =
    let old = c.args.self.now in
    let new = g.F.Follower.view c.front.new.self.follower in
    let before : List (List ℕ) = patterns_before old.given old.trace.tables in
    let text = g.W.TraceWriter.text old.writer before in
    let output = c.args._output.now.items in
    subst (λ (tables : TableState). TakesFirst (trace_report g.F.Follower.faults before text)
    (HasRead old.trace.tables (g.F.Follower.view old.trace.follower) before)
    (HasRead tables new (patterns_before old.given tables)) c.args.ready.now
    output output c.front.result)
    (sym c.front.ensures.tables) (c.front.ensures.read.taken before text output)
