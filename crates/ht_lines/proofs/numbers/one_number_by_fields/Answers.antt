use Rattle.std.proofs.Common.{◌≡◌, [], refl, rules}
use Rattle.ht_lines.specs.Fields.{fields}
use Rattle.ht_lines.proofs.FieldLemmas.{where_none}
use Rattle.ht_lines.proofs.numbers.one_number_by_fields.Goals as goal

pub returns-in_default : goal.returns-in_default
returns-in_default c = rw c.in_default.ensures.none refl

pub returns : goal.returns
returns c =
    let end : fields c.in-Some.after.now ≡ [] =
    where_none c.next_field-2.result _ c.if-is_some.ensures c.next_field-2.ensures.none in
    rw (c.in-Some.ensures.some, end) (search rules)
