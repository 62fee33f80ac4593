use Rattle.std.proofs.Common.{List, subst, sym, ◌∙◌}
use Rattle.std.specs.Prelude.{All}
use Rattle.std.proofs.lemmas.List.Elements.{All-tail}
use Rattle.ht_trace.specs.declared.frame.FrameAt.{FrameAt}
use Rattle.ht_trace.specs.IsFrame.{IsFrame}
use Rattle.hp_num.proofs.Laws.{extends_more, extends_same, extends_trans}
use Rattle.ht_print.proofs.ReportLemmas.{four-kept, three-kept}
use Rattle.ht_print.proofs.report_lines.put_stack.Goals as goal

pub put_frames-requires : goal.put_frames-requires
put_frames-requires c = record {
  frames = All-tail (λ (at : FrameAt). IsFrame c.args.tables.now at) _ c.in-Some.others.now
      (subst (λ (fs : List FrameAt). All (λ (at : FrameAt). IsFrame c.args.tables.now at) fs)
      (sym c.deref.ensures.value ∙ c.in-Some.ensures.cases.0) c.in_ok-frames_into.ensures.places);
}

pub returns-clause-kept : goal.returns-clause-kept
returns-clause-kept c =
    three-kept _ _ _ _
    (three-kept _ _ _ _ c.put.ensures.kept (extends_more _ _ _ c.in_ok-put_bytes.ensures.appended)
    (extends_more _ _ _ c.in_ok-put_frame.ensures.appended))
    c.put_in_stack.ensures.kept c.put_frames.ensures.kept

pub returns-in_err-put_bytes-clause-kept : goal.returns-in_err-put_bytes-clause-kept
returns-in_err-put_bytes-clause-kept c =
    extends_trans _ _ _ c.put.ensures.kept (extends_same _ _ c.in_err-put_bytes.ensures.unchanged)

pub returns-in_err-put_frame-clause-kept : goal.returns-in_err-put_frame-clause-kept
returns-in_err-put_frame-clause-kept c =
    three-kept _ _ _ _ c.put.ensures.kept (extends_more _ _ _ c.in_ok-put_bytes.ensures.appended)
    (extends_same _ _ c.in_err-put_frame.ensures.unchanged)

pub returns-in_err-put_in_stack-clause-kept : goal.returns-in_err-put_in_stack-clause-kept
returns-in_err-put_in_stack-clause-kept c =
    four-kept _ _ _ _ _ c.put.ensures.kept (extends_more _ _ _ c.in_ok-put_bytes.ensures.appended)
    (extends_more _ _ _ c.in_ok-put_frame.ensures.appended) c.put_in_stack.ensures.kept
