use Rattle.std.proofs.Common.{◌≡◌, ◌-◌}
use Rattle.std.specs.Prelude.{slice_get}
use Rattle.ht_lines.specs.Fields.{fields}
use Rattle.ht_lines.proofs.fields.nth_field.Given as goal

-- the field that is sought is so much nearer
abbrev pub invariant-loop : goal.invariant-loop
invariant-loop l = slice_get (fields l.rest) (l.k - l.counter) ≡ slice_get (fields l.text) l.k
