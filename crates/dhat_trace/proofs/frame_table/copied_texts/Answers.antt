use Rattle.std.proofs.Common.{ℕ, List, [], ◌∷◌, ◌++◌, sym, ap, ◌∙◌}
use Rattle.dhat_trace.proofs.PlaceLemmas.{take-next}
use Rattle.dhat_trace.proofs.frame_table.copied_texts.Goals as goal

pub each_text-preserved : goal.each_text-preserved
each_text-preserved c =
    c.in_ok-push.ensures.appended
    ∙ ap (λ (texts : List (List ℕ)). texts ++ c.in_ok-text_at.field-0 ∷ []) c.each_text.invariant
    ∙ sym (take-next c.args.names.now c.each_text.place c.in_ok-text_at.field-0 c.in_ok-text_at.ensures.text)
