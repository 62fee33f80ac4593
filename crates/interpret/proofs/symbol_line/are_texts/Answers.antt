use Rattle.std.proofs.Common.{sym, ◌∙◌}
use Rattle.interpret.proofs.FieldLemmas.{texts-more}
use Rattle.interpret.proofs.symbol_line.are_texts.Goals as goal

pub returns-in-Some : goal.returns-in-Some
returns-in-Some c =
    c.are_frames.ensures ∙ sym (texts-more c.args.texts.now _ _ _ c.next_field.ensures.fields c.in-Some.is)
