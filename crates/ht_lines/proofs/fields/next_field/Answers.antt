-- The first field is what stands before a blank, once the blanks before it are skipped.
use Rattle.std.proofs.Common.{◌∙◌, sym}
use Rattle.ht_lines.proofs.FieldLemmas.{next-none, next-no_field, next-some, next-not_empty, next-shorter}
use Rattle.ht_lines.proofs.fields.next_field.Goals as goal

pub returns-then-is_empty-clause-none : goal.returns-then-is_empty-clause-none
returns-then-is_empty-clause-none c =
    next-none c.args.text.now c.skip_blanks-text.result.now c.skip_blanks-text.ensures.rest
    (sym c.is_empty.ensures ∙ c.if-is_empty.true)

pub returns-clause-some : goal.returns-clause-some
returns-clause-some c =
    next-some c.args.text.now c.skip_blanks-text.result.now _ _ c.skip_blanks-text.ensures.rest
    (sym c.is_empty.ensures ∙ c.if-is_empty.false) c.split_at_blank.ensures.before c.split_at_blank.ensures.from

pub returns-clause-shorter : goal.returns-clause-shorter
returns-clause-shorter c =
    next-shorter c.args.text.now c.skip_blanks-text.result.now _ _ c.skip_blanks-text.ensures.rest
    (sym c.is_empty.ensures ∙ c.if-is_empty.false) c.split_at_blank.ensures.before c.split_at_blank.ensures.from
    c.skip_blanks-text.ensures.shorter

pub returns-then-is_empty-clause-no_field : goal.returns-then-is_empty-clause-no_field
returns-then-is_empty-clause-no_field c =
    next-no_field c.args.text.now c.skip_blanks-text.result.now c.skip_blanks-text.ensures.rest
    (sym c.is_empty.ensures ∙ c.if-is_empty.true)

pub returns-clause-not_empty : goal.returns-clause-not_empty
returns-clause-not_empty c =
    next-not_empty c.args.text.now c.skip_blanks-text.result.now _ _ c.skip_blanks-text.ensures.rest
    (sym c.is_empty.ensures ∙ c.if-is_empty.false) c.split_at_blank.ensures.before c.split_at_blank.ensures.from
