use Rattle.std.proofs.Common.{map, ap, sym, ◌∙◌}
use Rattle.ht_lines.specs.Fields.{number}
use Rattle.record_scripts.proofs.NumberLemmas.{first-number, no-fields, one-field, shorter}
use Rattle.record_scripts.proofs.number.first_number.Goals as goal

pub returns-then-is_empty-clause-none : goal.returns-then-is_empty-clause-none
returns-then-is_empty-clause-none c = no-fields c.args.text.now (sym c.is_empty.ensures ∙ c.if-is_empty.true)

pub returns-then-is_empty-clause-no_number : goal.returns-then-is_empty-clause-no_number
returns-then-is_empty-clause-no_number c =
    ap (map number) (no-fields c.args.text.now (sym c.is_empty.ensures ∙ c.if-is_empty.true))

pub returns-in-Some-clause-some : goal.returns-in-Some-clause-some
returns-in-Some-clause-some c = first-number _ _ _ c.in-Some.ensures

pub returns-in-Some-clause-count : goal.returns-in-Some-clause-count
returns-in-Some-clause-count c = one-field _ _ _ c.in-Some.ensures

pub returns-in-Some-clause-shorter : goal.returns-in-Some-clause-shorter
returns-in-Some-clause-shorter c = shorter _ _ _ c.in-Some.ensures
