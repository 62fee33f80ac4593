use Rattle.std.proofs.Common.{List, ℕ, map, string_bytes, arith, subst}
use Rattle.command_frame.specs.FirstFault.{bounds_of}
use Rattle.command_frame.specs.Outside.{outside}
use Rattle.command_frame.specs.Texts.{Texts}
use Rattle.command_frame.proofs.Laws.{TaskEnded}
use Rattle.commands.specs.Commands.{task_of}
use Rattle.commands.proofs.EndedLemmas.{words_ended}
use Rattle.commands.proofs.HasRunLemmas.{has_run}
use Rattle.trace_reports.proofs.Laws.{AreLaws}
use Rattle.commands.proofs.run.heapsuite_run.Goals as goal

pub returns : goal.returns
returns g c =
    let bounds = bounds_of c.args.limits.now in
    let words : List (List ℕ) = map string_bytes c.args.words.now in
    let before = outside g.S.Store g.O.Sink g.E.Sink c.args.store.now c.args.out.now c.args.err.now in
    let now = outside g.S.Store g.O.Sink g.E.Sink c.run_words.new.store c.run_words.new.out c.run_words.new.err in
    let laws : AreLaws = record {
      reads_back = λ symbols lines are. (c.interpreted_traces.ensures symbols lines are).reads_back;
      events = λ symbols lines are. (c.interpreted_traces.ensures symbols lines are).events;
      ledger = λ symbols lines are. (c.interpreted_traces.ensures symbols lines are).ledger;
      one_line = λ symbols lines are. (c.interpreted_traces.ensures symbols lines are).one_line;
    } in
    let ended = words_ended _ words before now c.run_words.result c.run_words.ensures in
    has_run laws bounds words before now c.run_words.result ended.0.given
    (omega (arith, c.args.limits.now.line_in_range))
    (subst (λ (texts : Texts). TaskEnded texts bounds (task_of words) before now c.run_words.result ended.0.given)
    c.heapsuite_texts.ensures
    (record { ran = ended.0.ran; delivered = ended.0.delivered; files = ended.0.files })) ended.1
