use Rattle.std.proofs.Common.{◌≡◌, ◌+◌, ◌&&◌, length}
use Rattle.ht_lines.specs.Fields.{fields, all_numbers}
use Rattle.ht_lines.proofs.fields.count_fields.Given as goal

-- the fields so far and those of the rest are all
abbrev pub invariant-fields : goal.invariant-fields
invariant-fields l =
    (l.count + length (fields l.rest) ≡ length (fields l.text))
    × ((l.all_numbers && all_numbers (fields l.rest)) ≡ all_numbers (fields l.text))

abbrev pub decreases-fields : goal.decreases-fields
decreases-fields l = length l.rest
