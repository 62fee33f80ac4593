use Rattle.std.proofs.Common.{ℕ, ◌++◌, List, sym, ap, ◌∙◌}
use Rattle.std.specs.Prelude.{codes}
use Rattle.std.proofs.lemmas.Result.{on_ok_weaker}
use Rattle.ht_trace.specs.FrameText.{frame_text}
use Rattle.ht_trace.specs.declared.frame.Style.TheVariants.{Plain}
use Rattle.hp_num.proofs.Laws.{extends_more, extends_put, extends_same, extends_trans}
use Rattle.ht_print.specs.ReportLines.{figure_text, place_line}
use Rattle.ht_print.proofs.FlameLemmas.{four-appended}
use Rattle.ht_print.proofs.ReportLemmas.{place-first}
use Rattle.ht_print.proofs.report_lines.put_place.Goals as goal

pub returns-clause-appended : goal.returns-clause-appended
unfolding place_line
returns-clause-appended c =
    let text : List ℕ = frame_text Plain c.args.tables.now c.innermost_frame-innermost.result in
    let figure : List ℕ = figure_text c.args.scale c.args.group.figure in
    on_ok_weaker c.put_bytes-2.result
    (λ added. four-appended c.args.out.now.items c.put.new.out.items c.put_bytes.new.out.items c.put_frame.new.out.items
    c.put_bytes-2.new.out.items figure (codes " at ") text (codes "\n")
    c.in_ok-put.ensures.appended c.in_ok-put_bytes.ensures.appended c.in_ok-put_frame.ensures.appended added
    ∙ ap (λ (place : List ℕ). c.args.out.now.items ++ (figure ++ (codes " at " ++ (place ++ codes "\n"))))
    (sym (place-first c.args.tables.now c.args.group.stack c.innermost_frame-innermost.result
    c.innermost_frame-innermost.ensures.first)))
    c.put_bytes-2.ensures.appended

pub returns-in_err-put_bytes-clause-kept : goal.returns-in_err-put_bytes-clause-kept
returns-in_err-put_bytes-clause-kept c =
    extends_trans _ _ _ c.put.ensures.kept (extends_same _ _ c.in_err-put_bytes.ensures.unchanged)

pub returns-in_err-put_frame-clause-kept : goal.returns-in_err-put_frame-clause-kept
returns-in_err-put_frame-clause-kept c =
    extends_trans _ _ _ (extends_trans _ _ _ c.put.ensures.kept (extends_more _ _ _ c.in_ok-put_bytes.ensures.appended))
    (extends_same _ _ c.in_err-put_frame.ensures.unchanged)

pub returns-clause-kept : goal.returns-clause-kept
returns-clause-kept c =
    extends_trans _ _ _
    (extends_trans _ _ _
    (extends_trans _ _ _ c.put.ensures.kept (extends_more _ _ _ c.in_ok-put_bytes.ensures.appended))
    (extends_more _ _ _ c.in_ok-put_frame.ensures.appended))
    (extends_put c.put_bytes-2.result _ _ _ c.put_bytes-2.ensures.appended c.put_bytes-2.ensures.unchanged)
