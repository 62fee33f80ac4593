use Rattle.std.proofs.Common.{rules, Ok, ap, ◌∙◌, refl, subst, arith}
use Rattle.hp_outside.specs.Faults.{Faulted}
use Rattle.command_frame.specs.FirstFault.{bounds_of}
use Rattle.command_frame.specs.declared.halt.Halt.{Halt}
use Rattle.command_frame.specs.Halts.{halt_answer, status_code}
use Rattle.command_frame.specs.Texts.{texts_of}
use Rattle.command_frame.proofs.RunsToLemmas.{not_four}
use Rattle.command_frame.proofs.TextLoop.{all_made, cut_off, kept_piece, no_more_made, nothing_made, piece_made}
use Rattle.command_frame.proofs.text.run_text.Goals as goal

pub pieces-init : goal.pieces-init
pieces-init g c = record {
  sound = search rules;
  making =
      nothing_made (g.O.Sink.written c.args.out.now) c.new-buffer.result.items (g.M.TextMaker.rest c.args.maker.now)
      (search rules);
  write_faults = search rules;
}

pub pieces-preserved : goal.pieces-preserved
pieces-preserved g c = record {
  sound = search rules;
  making =
      piece_made c.pieces.invariant.making c.in-Ok-true.ensures.made c.in-Ok.ensures.passed.0 c.in-Ok.ensures.passed.1.0
      c.in-Ok.ensures.passed.1.1;
  write_faults = search rules;
}

pub returns-in-Err-pass_on_piece : goal.returns-in-Err-pass_on_piece
returns-in-Err-pass_on_piece g c = λ store. record {
  ran = λ last.
      cut_off (texts_of c.args.context.now.texts) (bounds_of c.args.context.now.limits) store.files last store.moment
      (g.O.Sink.written c.args.out.now) (g.O.Sink.written c.pieces.out) (g.O.Sink.written c.pass_on_piece.new.out)
      c.piece.new.output.items
      (g.M.TextMaker.rest c.piece.new.self) (g.M.TextMaker.rest c.args.maker.now)
      (halt_answer (texts_of c.args.context.now.texts) c.write_failed.result)
      (kept_piece c.pieces.invariant.making c.in-Ok-true.ensures.made) c.in-Err-pass_on_piece.ensures.front
      (ap (halt_answer (texts_of c.args.context.now.texts)) c.write_failed.ensures);
  files = refl;
  unwritten =
      λ _. subst (λ n. Faulted n (g.O.Sink.faults c.pass_on_piece.new.out)) c.pieces.invariant.write_faults
      c.in-Err-pass_on_piece.ensures.failed;
  sound = λ other. absurd (other (ap (λ (h : Halt). status_code h.status) c.write_failed.ensures));
}

pub returns-in-Ok-false : goal.returns-in-Ok-false
returns-in-Ok-false g c = λ store. record {
  ran = λ last.
      all_made (texts_of c.args.context.now.texts) (bounds_of c.args.context.now.limits) store.files last store.moment
      (g.O.Sink.written c.args.out.now) (g.O.Sink.written c.pieces.out) c.piece.new.output.items
      (g.M.TextMaker.rest c.piece.new.self) (g.M.TextMaker.rest c.args.maker.now)
      (kept_piece c.pieces.invariant.making c.in-Ok-false.ensures.made)
      (c.piece.ensures.all (c.in-Ok-false.is ∙ ap Ok c.in-Ok-false.field-0-test));
  files = refl;
  unwritten = λ four. absurd (omega (arith, four));
  sound = λ _. c.pieces.invariant.write_faults;
}

pub returns-in-Err : goal.returns-in-Err
returns-in-Err g c = λ store. record {
  ran = λ last.
      no_more_made (texts_of c.args.context.now.texts)
      (bounds_of c.args.context.now.limits) store.files last store.moment
      (g.O.Sink.written c.args.out.now) (g.O.Sink.written c.pieces.out) c.pieces.buffer.items
      (g.M.TextMaker.rest c.pieces.maker) (g.M.TextMaker.rest c.args.maker.now)
      (halt_answer (texts_of c.args.context.now.texts) c.no_memory.result) c.pieces.invariant.making
      (ap (halt_answer (texts_of c.args.context.now.texts)) c.no_memory.ensures);
  files = refl;
  unwritten = λ four. absurd (not_four _ c.no_memory.ensures four);
  sound = λ _. c.pieces.invariant.write_faults;
}
