use Rattle.std.proofs.Common.{ℕ, List, [], ◌∷◌, subst}
use Rattle.command_frame.specs.Plan.{one_file}
use Rattle.command_frame.specs.RunsTo.{RunsReady, shown, taken}
use Rattle.trace_reading.specs.TraceReport.{patterns_before}
use Rattle.trace_reading.proofs.ReadingLemmas.{new_report}
use Rattle.trace_reading.proofs.trace_run.run_followed.Goals as goal

pub new-reader-requires-clause-new : goal.new-reader-requires-clause-new
new-reader-requires-clause-new g c = c.requires.new c.new.result c.new.ensures.stands

pub run_one_file-requires-clause-taker : goal.run_one_file-requires-clause-taker
run_one_file-requires-clause-taker g c = record {
  sound = c.new-reader.ensures.no_lines.sound;
  no_lines = c.new-reader.ensures.no_lines.read [] c.new.ensures.stands;
  no_measure = c.new-reader.ensures.no_lines.measure;
}

pub returns : goal.returns
returns g c =
    let text = g.W.TraceWriter.text in
    let reader = c.new-reader.result in
    let before : List (List ℕ) = patterns_before reader.given reader.trace.tables in
    subst (λ report. RunsReady g.W.Rest.ReadyText.bytes c.args.context.now (c.args.name.now ∷ [])
    (one_file c.args.name.now report)
    (shown g.S.Store c.args.store.now) (shown g.S.Store c.run_one_file.new.store) (taken g.O.Sink c.args.out.now)
    (taken g.O.Sink c.run_one_file.new.out) c.run_one_file.result)
    (new_report g.F.Follower.faults text before c.new.result reader.writer c.args.writer c.new.ensures.stands
    c.new-reader.ensures.no_lines.patterns c.new-reader.ensures.writer)
    c.run_one_file.ensures
