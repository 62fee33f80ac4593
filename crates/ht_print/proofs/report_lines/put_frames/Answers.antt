use Rattle.std.proofs.Common.{◌++◌, List, [], ℕ, map, take, get_or, refl, arith}
use Rattle.std.specs.Prelude.{codes}
use Rattle.ht_trace.specs.FrameText.{frame_text}
use Rattle.ht_trace.specs.declared.frame.FrameAt.{FrameAt}
use Rattle.ht_trace.specs.declared.frame.Style.TheVariants.{Plain}
use Rattle.hp_num.proofs.Laws.{extends_more, extends_same, extends_trans}
use Rattle.ht_print.specs.ReportLines.{frame_lines}
use Rattle.ht_print.proofs.FlameLemmas.{appended-more, appended-none}
use Rattle.ht_print.proofs.ReportLemmas.{frame_lines-more, frame_lines-none, three-appended}
use Rattle.ht_print.proofs.report_lines.put_frames.Goals as goal

pub each_frame-init : goal.each_frame-init
each_frame-init c = record {
  written = appended-none c.args.out.now.items (frame_lines c.args.blanks.now []) (frame_lines-none c.args.blanks.now);
  kept = extends_same c.args.out.now.items c.args.out.now.items refl;
}

pub each_frame-preserved : goal.each_frame-preserved
each_frame-preserved c =
    let no_frame : FrameAt = record { instruction = 0; index = 0 } in
    let at : FrameAt = get_or c.args.frames.now c.each_frame.at-index no_frame in
    let text : List ℕ = frame_text Plain c.args.tables.now at in
    let written = appended-more c.args.out.now.items c.each_frame.out.items c.put_bytes-in-each_frame.new.out.items
    (frame_lines c.args.blanks.now
    (map (frame_text Plain c.args.tables.now) (take c.each_frame.at-index c.args.frames.now)))
    (c.args.blanks.now ++ (text ++ codes "\n")) _
    c.each_frame.invariant.written
    (three-appended c.each_frame.out.items c.put_bytes.new.out.items c.put_frame.new.out.items
    c.put_bytes-in-each_frame.new.out.items c.args.blanks.now text (codes "\n") c.in_ok-put_bytes.ensures.appended
    c.in_ok-put_frame.ensures.appended c.in_ok-put_bytes-2.ensures.appended)
    (frame_lines-more c.args.blanks.now (frame_text Plain c.args.tables.now) c.args.frames.now c.each_frame.at-index
    no_frame (omega arith)) in
    record {
      written = written;
      kept = extends_more c.args.out.now.items c.put_bytes-in-each_frame.new.out.items _ written;
    }

pub returns-in_err-put_bytes-2-clause-kept : goal.returns-in_err-put_bytes-2-clause-kept
returns-in_err-put_bytes-2-clause-kept c =
    let old : List ℕ = c.args.out.now.items in
    extends_trans old c.put_frame.new.out.items c.put_bytes-in-each_frame.new.out.items
    (extends_trans old c.put_bytes.new.out.items c.put_frame.new.out.items
    (extends_trans old c.each_frame.out.items c.put_bytes.new.out.items c.each_frame.invariant.kept
    (extends_more c.each_frame.out.items c.put_bytes.new.out.items c.args.blanks.now
    c.in_ok-put_bytes.ensures.appended))
    (extends_more c.put_bytes.new.out.items c.put_frame.new.out.items _ c.in_ok-put_frame.ensures.appended))
    (extends_same c.put_frame.new.out.items c.put_bytes-in-each_frame.new.out.items
    c.in_err-put_bytes-2.ensures.unchanged)

pub returns-clause-kept : goal.returns-clause-kept
returns-clause-kept c = c.each_frame.invariant.kept
