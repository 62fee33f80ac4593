use Rattle.std.proofs.Common.{◌≡◌, [], Err, ap, refl, subst, ◌∙◌, arith}
use Rattle.std.specs.Result.{is_ok}
use Rattle.hp_outside.specs.Faults.{Faulted}
use Rattle.hp_outside.specs.LineReaderState.{LineReaderState}
use Rattle.command_frame.specs.FirstFault.{bounds_of}
use Rattle.command_frame.specs.LinesRun.{LinesRun, end_of}
use Rattle.command_frame.specs.Outcome.{moment}
use Rattle.command_frame.specs.FileRead.{Passed}
use Rattle.command_frame.specs.Texts.{texts_of}
use Rattle.command_frame.proofs.EndLemmas.{passed_end, stopped_end, unopened_end}
use Rattle.command_frame.proofs.LinesLoop.{same_bounds}
use Rattle.command_frame.proofs.files.read_named_file.Goals as goal

pub returns-in-Err-clause-read : goal.returns-in-Err-clause-read
returns-in-Err-clause-read g c =
    let store = g.S.Store in
    let opens = c.open.ensures in
    let ended =
    unopened_end (texts_of c.args.context.now.texts) (bounds_of c.args.context.now.limits)
    (store.files c.args.store.now)
    c.args.name.now (g.T.LineTaker.report c.args.taker.now) (g.T.LineTaker.has_taken c.args.taker.now)
    (moment (store.opens c.args.store.now) (store.current c.args.store.now) (store.left c.args.store.now)
    (store.faults c.args.store.now))
    (moment (store.opens c.open.new.self) (store.current c.open.new.self) (store.left c.open.new.self)
    (store.faults c.open.new.self))
    (g.O.Sink.written c.args.out.now)
    c.in-Err.fault c.open.result c.unopened.result c.in-Err.is opens.absent
    (record { opens = opens.opens; current_is = opens.current ∙ ap is_ok c.in-Err.is })
    (λ is untold. opens.absent_untold untold (c.in-Err.is ∙ ap Err is)) (λ is. opens.failed (c.in-Err.is ∙ ap Err is))
    c.unopened.ensures.answer c.unopened.ensures.memory in
    record {
      end = ended.0;
      read = ended.1.0;
      halts = ended.1.1;
      written = ended.1.2;
      files = opens.files;
      unwritten = λ four. absurd (c.unopened.ensures.write four);
      sound = λ _. refl;
    }

pub returns-in-Ok-read_current_file-clause-read : goal.returns-in-Ok-read_current_file-clause-read
returns-in-Ok-read_current_file-clause-read g c =
    let store = g.S.Store in
    let opens = c.open.ensures in
    let all = c.read_current_file.ensures in
    let run = c.in-Ok-read_current_file.ensures.run in
    let input : c.start.new.self.input ≡ c.args.context.now.limits.input =
    ap (λ (r : LineReaderState). r.input) c.start.ensures ∙ c.requires.limits.input in
    let line : c.start.new.self.line_limit ≡ c.args.context.now.limits.line =
    ap (λ (r : LineReaderState). r.line_limit) c.start.ensures ∙ c.requires.limits.line in
    let ended =
    passed_end (texts_of c.args.context.now.texts) (bounds_of c.args.context.now.limits) (store.files c.args.store.now)
    c.args.name.now (g.T.LineTaker.report c.args.taker.now) (g.T.LineTaker.has_taken c.read_current_file.new.taker)
    (moment (store.opens c.args.store.now) (store.current c.args.store.now) (store.left c.args.store.now)
    (store.faults c.args.store.now))
    (moment (store.opens c.read_current_file.new.store) (store.current c.read_current_file.new.store)
    (store.left c.read_current_file.new.store) (store.faults c.read_current_file.new.store))
    (store.left c.open.new.self) (g.O.Sink.written c.args.out.now) (g.O.Sink.written c.read_current_file.new.out)
    run.taken
    (subst (λ bounds. LinesRun bounds (g.T.LineTaker.report c.args.taker.now) (store.left c.open.new.self)
    (store.left c.read_current_file.new.store) (g.O.Sink.written c.args.out.now)
    (g.O.Sink.written c.read_current_file.new.out) [] (Passed run.taken))
    (same_bounds input line) run.run) run.has
    c.in-Ok.ensures.left c.in-Ok.ensures.found
    (record {
      opens = all.file.opens ∙ opens.opens;
      current_is = all.file.current ∙ (opens.current ∙ ap is_ok c.in-Ok.is);
    })
    (c.in-Ok-read_current_file.ensures.file.sound_reads (λ is. absurd (cc)) (λ is. absurd (cc)) ∙ c.in-Ok.ensures.sound)
    c.in-Ok-read_current_file.ensures.file.ended in
    record {
      end = ended.0;
      read = ended.1.0;
      halts = ended.1.1;
      written = ended.1.2;
      files = all.file.files ∙ opens.files;
      unwritten = λ four. absurd (omega (arith, four));
      sound = λ _. c.in-Ok-read_current_file.ensures.file.sound_writes (λ is. absurd (cc));
    }

pub returns-in-Err-read_current_file-clause-read : goal.returns-in-Err-read_current_file-clause-read
returns-in-Err-read_current_file-clause-read g c =
    let store = g.S.Store in
    let opens = c.open.ensures in
    let all = c.read_current_file.ensures in
    let told = g.T.Fault.Fault.told in
    let run = all.run in
    let input : c.start.new.self.input ≡ c.args.context.now.limits.input =
    ap (λ (r : LineReaderState). r.input) c.start.ensures ∙ c.requires.limits.input in
    let line : c.start.new.self.line_limit ≡ c.args.context.now.limits.line =
    ap (λ (r : LineReaderState). r.line_limit) c.start.ensures ∙ c.requires.limits.line in
    let ended =
    stopped_end told (texts_of c.args.context.now.texts) (bounds_of c.args.context.now.limits)
    (store.files c.args.store.now) c.args.name.now (g.T.LineTaker.report c.args.taker.now)
    (g.T.LineTaker.has_taken c.read_current_file.new.taker)
    (moment (store.opens c.args.store.now) (store.current c.args.store.now) (store.left c.args.store.now)
    (store.faults c.args.store.now))
    (moment (store.opens c.read_current_file.new.store) (store.current c.read_current_file.new.store)
    (store.left c.read_current_file.new.store) (store.faults c.read_current_file.new.store))
    (store.left c.open.new.self) (g.O.Sink.written c.args.out.now) (g.O.Sink.written c.read_current_file.new.out)
    c.in-Err-read_current_file.stop c.read_current_file.result run.taken run.count c.stopped.result
    c.in-Err-read_current_file.is
    (subst (λ bounds. LinesRun bounds (g.T.LineTaker.report c.args.taker.now) (store.left c.open.new.self)
    (store.left c.read_current_file.new.store) (g.O.Sink.written c.args.out.now)
    (g.O.Sink.written c.read_current_file.new.out) []
    (end_of told c.read_current_file.result run.taken run.count)) (same_bounds input line) run.run)
    c.in-Ok.ensures.left c.in-Ok.ensures.found
    (record {
      opens = all.file.opens ∙ opens.opens;
      current_is = all.file.current ∙ (opens.current ∙ ap is_ok c.in-Ok.is);
    })
    (λ is. subst (λ n. Faulted n (store.faults c.read_current_file.new.store)) c.in-Ok.ensures.sound
    (all.file.failed (c.in-Err-read_current_file.is ∙ ap Err is)))
    (λ read wrote. all.file.sound_reads (λ is. read (cc)) (λ is. wrote (cc)) ∙ c.in-Ok.ensures.sound)
    (λ other. c.stopped.ensures.answer other run.taken run.count) c.stopped.ensures.memory c.stopped.ensures.write in
    record {
      end = ended.0;
      read = ended.1.0;
      halts = ended.1.1;
      written = ended.1.2;
      files = all.file.files ∙ opens.files;
      unwritten =
          λ four. all.file.write_failed (c.in-Err-read_current_file.is ∙ ap Err (c.stopped.ensures.unwritten four));
      sound = λ other. all.file.sound_writes (λ is. other (c.stopped.ensures.write (cc)));
    }
