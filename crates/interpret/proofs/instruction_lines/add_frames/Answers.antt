use Rattle.hp_num.proofs.Laws.{extends_trans}
use Rattle.std.proofs.lemmas.Result.{err_from_is_err_and}
use Rattle.interpret.specs.FrameKept.{frame_kept}
use Rattle.interpret.specs.Resolved.{frame_names}
use Rattle.interpret.proofs.AddingLemmas.{adding-fault, adding-more, adding-next}
use Rattle.interpret.proofs.instruction_lines.add_frames.Goals as goal

pub returns-in_err-add_frame-clause-adds : goal.returns-in_err-add_frame-clause-adds
returns-in_err-add_frame-clause-adds c =
    let p = err_from_is_err_and c.from_residual.result c.from_residual.ensures.1 in
    let left =
    adding-next c.args.version _ c.frames.rest c.in-Some.texts (frame_kept c.next_frame.result.0)
    c.next_frame.result.1 c.args.names.now c.frames.names c.args.out.now.items c.frames.out.items c.in-Some.is
    c.next_frame.ensures.frames c.frames.invariant.0 in
    rw (p.1, p.2) (record {
      added = tt;
      fault =
          adding-fault c.args.version _ (frame_names (frame_kept c.next_frame.result.0)) _ c.args.names.now _ _ _
          c.in_err-add_frame.field-0.0 left c.in_err-add_frame.ensures.adds.fault;
      few = λ few. c.add_frame.ensures.adds.few (c.frames.invariant.2 few);
    })

pub frames-preserved : goal.frames-preserved
frames-preserved c =
    let left =
    adding-next c.args.version _ c.frames.rest c.in-Some.texts (frame_kept c.next_frame.result.0)
    c.next_frame.result.1 c.args.names.now c.frames.names c.args.out.now.items c.frames.out.items c.in-Some.is
    c.next_frame.ensures.frames c.frames.invariant.0 in (
      adding-more c.args.version _ (frame_names (frame_kept c.next_frame.result.0)) _ c.args.names.now _ _
          c.args.out.now.items _ _ left c.in_ok-add_frame.ensures.adds.added,
      extends_trans c.args.out.now.items c.frames.out.items c.add_frame.new.out.items c.frames.invariant.1
          c.add_frame.ensures.kept,
      (λ few. c.add_frame.ensures.adds.few (c.frames.invariant.2 few)),
    )
