use Rattle.ht_lines.proofs.numbers.info_number_by_fields.Goals as goal

pub returns : goal.returns
returns c =
    rw (c.in-Some.ensures.some, c.in-Some-next_field.ensures.some)
    (c.fault_of_more.ensures c.in-Some.info.now c.in-Some-next_field.field-0-0.now)
