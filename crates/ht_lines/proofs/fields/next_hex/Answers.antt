-- The first field is what stands before a blank, once the blanks before it are skipped, whether or not it's read as digits.
use Rattle.std.proofs.Common.{◌∙◌, sym, ap}
use Rattle.ht_lines.specs.Fields.{before_blank, first_field}
use Rattle.ht_lines.proofs.FieldLemmas.{next-none, next-some, next-shorter}
use Rattle.ht_lines.proofs.fields.next_hex.Goals as goal

pub returns-then-is_empty-clause-none : goal.returns-then-is_empty-clause-none
returns-then-is_empty-clause-none c =
    next-none c.args.text.now c.skip_blanks-text.result.now c.skip_blanks-text.ensures.rest
    (sym c.is_empty.ensures ∙ c.if-is_empty.true)

pub returns-in-Some-clause-some : goal.returns-in-Some-clause-some
returns-in-Some-clause-some c =
    next-some c.args.text.now c.skip_blanks-text.result.now (first_field c.args.text.now) _
    c.skip_blanks-text.ensures.rest (sym c.is_empty.ensures ∙ c.if-is_empty.false)
    (ap before_blank (sym c.skip_blanks-text.ensures.rest)) c.in-Some.ensures.after

pub returns-in-Some-clause-shorter : goal.returns-in-Some-clause-shorter
returns-in-Some-clause-shorter c =
    next-shorter c.args.text.now c.skip_blanks-text.result.now (first_field c.args.text.now) _
    c.skip_blanks-text.ensures.rest (sym c.is_empty.ensures ∙ c.if-is_empty.false)
    (ap before_blank (sym c.skip_blanks-text.ensures.rest)) c.in-Some.ensures.after
    c.skip_blanks-text.ensures.shorter

pub returns-clause-some : goal.returns-clause-some
returns-clause-some c =
    next-some c.args.text.now c.skip_blanks-text.result.now (first_field c.args.text.now) _
    c.skip_blanks-text.ensures.rest (sym c.is_empty.ensures ∙ c.if-is_empty.false)
    (ap before_blank (sym c.skip_blanks-text.ensures.rest)) c.split_at_blank.ensures.from

pub returns-clause-shorter : goal.returns-clause-shorter
returns-clause-shorter c =
    next-shorter c.args.text.now c.skip_blanks-text.result.now (first_field c.args.text.now) _
    c.skip_blanks-text.ensures.rest (sym c.is_empty.ensures ∙ c.if-is_empty.false)
    (ap before_blank (sym c.skip_blanks-text.ensures.rest)) c.split_at_blank.ensures.from
    c.skip_blanks-text.ensures.shorter
