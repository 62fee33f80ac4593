use Rattle.std.proofs.Common.{◌≡◌, ◌*◌, ◌^◌, ◌≤◌, take}
use Rattle.std.specs.Prelude.{sum}
use Rattle.convert.proofs.left_bytes.sum_is_too_large.Given as goal

abbrev pub invariant-each_number : goal.invariant-each_number
invariant-each_number l = record {
  total : l.total ≡ sum (take l.number-index l.numbers);
  few : l.total ≤ l.number-index * 2 ^ 64;
}
