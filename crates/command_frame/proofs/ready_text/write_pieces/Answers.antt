use Rattle.std.proofs.Common.{rules, Ok, ap, ◌∙◌, arith}
use Rattle.std.proofs.lemmas.Result.{on_err_weaker, on_ok_weaker}
use Rattle.command_frame.proofs.PageLemmas.{cut_of_all, whole_of_all}
use Rattle.command_frame.proofs.TextLoop.{kept_piece, piece_made}
use Rattle.command_frame.proofs.ready_text.write_pieces.Goals as goal

pub pieces-preserved : goal.pieces-preserved
pieces-preserved g c =
    let room = c.pieces.invariant.room in
    let longest = c.piece.ensures.longest in
    let grown = c.piece.ensures.capacity in
    let kept = c.pass_on_full.ensures.page.capacity in
    record {
      making =
          piece_made c.pieces.invariant.making c.in-Ok-true.ensures.made c.in-Ok.ensures.passed.0
          c.in-Ok.ensures.passed.1.0 c.in-Ok.ensures.passed.1.1;
      write_faults = c.in-Ok.ensures.sound ∙ c.pieces.invariant.write_faults;
      short = c.pass_on_full.ensures.page.short;
      room = omega (arith, room, longest, grown, kept);
    }

pub returns-in-Err-pass_on_full-clause-cut : goal.returns-in-Err-pass_on_full-clause-cut
returns-in-Err-pass_on_full-clause-cut g c =
    cut_of_all (kept_piece c.pieces.invariant.making c.in-Ok-true.ensures.made) c.in-Err-pass_on_full.ensures.cut

pub returns-in-Ok-false-clause-written : goal.returns-in-Ok-false-clause-written
returns-in-Ok-false-clause-written g c =
    on_ok_weaker c.pass_on.result
    (λ passed. whole_of_all (kept_piece c.pieces.invariant.making c.in-Ok-false.ensures.made)
    (c.piece.ensures.all (c.in-Ok-false.is ∙ ap Ok c.in-Ok-false.field-0-test)) passed)
    c.pass_on.ensures.passed

pub returns-in-Ok-false-clause-cut : goal.returns-in-Ok-false-clause-cut
returns-in-Ok-false-clause-cut g c =
    on_err_weaker c.pass_on.result
    (λ cut. cut_of_all (kept_piece c.pieces.invariant.making c.in-Ok-false.ensures.made) cut) c.pass_on.ensures.cut
