use Rattle.std.proofs.Common.{ap, ◌∙◌}
use Rattle.std.proofs.lemmas.Result.{IfOk-weaker}
use Rattle.dhat_trace.specs.ProfileTexts.{command_text, or_none}
use Rattle.dhat_trace.proofs.texts.command_text.Goals as goal

pub returns-in-Some : goal.returns-in-Some
unfolding command_text
returns-in-Some c = record {
  text =
      IfOk-weaker c.text_or_none.result _ _
      (λ text is. is ∙ (ap or_none c.without_blanks.ensures ∙ ap command_text c.in-Some.ensures.text))
      c.text_or_none.ensures.text;
}

pub returns-in-None : goal.returns-in-None
unfolding command_text
returns-in-None c = record {
  text = IfOk-weaker c.new.result _ _ (λ text is. is ∙ ap command_text c.in-None.ensures.text) c.new.ensures.copied;
}
