-- A text has fewer than 2 ^ 32 fields, since it has fewer bytes.
use Rattle.std.proofs.Common.{arith, length, ap}
use Rattle.ht_lines.proofs.FieldLemmas.{length-fields}
use Rattle.ht_lines.proofs.fields.count_fields.Goals as goal

pub overflow_add-count : goal.overflow_add-count
overflow_add-count c =
    omega (arith, length-fields c.args.text.now, c.fields.invariant.0, ap length c.in-Some.ensures.some)
