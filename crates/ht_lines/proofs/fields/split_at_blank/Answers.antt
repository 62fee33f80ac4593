-- The place of the first blank splits the text into the part before it and the part from it on.
use Rattle.std.proofs.Common.{◌∙◌, sym, subst, IsTrue}
use Rattle.ht_lines.specs.Fields.{field_ends}
use Rattle.ht_lines.proofs.FieldLemmas.{end-position, take-end, drop-end, from_blank-ends}
use Rattle.ht_lines.proofs.fields.split_at_blank.Goals as goal

pub returns-clause-before : goal.returns-clause-before
returns-clause-before c =
    c.split_at.ensures.front
    ∙ take-end c.args.text.now _
    (end-position c.args.text.now _ _ c.first_blank.ensures.place c.unwrap_or-end.ensures)

pub returns-clause-from : goal.returns-clause-from
returns-clause-from c =
    c.split_at.ensures.back
    ∙ drop-end c.args.text.now _
    (end-position c.args.text.now _ _ c.first_blank.ensures.place c.unwrap_or-end.ensures)

pub returns-clause-ends : goal.returns-clause-ends
returns-clause-ends c =
    let back =
    c.split_at.ensures.back
    ∙ drop-end c.args.text.now _
    (end-position c.args.text.now _ _ c.first_blank.ensures.place c.unwrap_or-end.ensures) in
    subst (λ l. IsTrue (field_ends l)) (sym back) (from_blank-ends c.args.text.now)
