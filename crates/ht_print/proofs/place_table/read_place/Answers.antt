use Rattle.std.proofs.Common.{ℕ, ◌++◌, List, sym, ap, ◌∙◌}
use Rattle.std.proofs.lemmas.Result.{on_ok_weaker}
use Rattle.ht_trace.specs.FrameText.{frame_text}
use Rattle.ht_trace.specs.declared.frame.Style.TheVariants.{Plain}
use Rattle.ht_print.proofs.ReportLemmas.{place-first}
use Rattle.ht_print.proofs.place_table.read_place.Goals as goal

pub returns : goal.returns
returns c = record {
  text = on_ok_weaker c.put_frame.result
      (λ added. added
      ∙ ap (λ (bytes : List ℕ). bytes ++ frame_text Plain c.args.tables.now c.innermost_frame.result)
      c.clear.ensures.items
      ∙ sym (place-first c.args.tables.now c.args.stack c.innermost_frame.result c.innermost_frame.ensures.first))
      c.put_frame.ensures.appended;
}
