use Rattle.std.proofs.Common.{◌≡◌, ◌++◌, map, take}
use Rattle.hp_num.specs.Extends.{Extends}
use Rattle.ht_trace.specs.FrameText.{frame_text}
use Rattle.ht_trace.specs.declared.frame.Style.TheVariants.{Plain}
use Rattle.ht_print.specs.ReportLines.{frame_lines}
use Rattle.ht_print.proofs.report_lines.put_frames.Given as goal

abbrev pub invariant-each_frame : goal.invariant-each_frame
invariant-each_frame l = record {
  written : l.out.items
      ≡ l.initial.out.items ++ frame_lines l.blanks (map (frame_text Plain l.tables) (take l.at-index l.frames));
  kept : Extends l.initial.out.items l.out.items;
}
