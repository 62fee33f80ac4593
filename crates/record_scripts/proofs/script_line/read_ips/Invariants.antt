use Rattle.std.proofs.Common.{◌≡◌, ◌≤◌, true, ◌++◌, length}
use Rattle.std.specs.Prelude.{nat_lt}
use Rattle.std.specs.List.{list_all}
use Rattle.ht_lines.specs.Fields.{numbers}
use Rattle.record_scripts.proofs.script_line.read_ips.Given as goal

-- the ips so far and the numbers that are left are all numbers, and the ips so far are few and none is 0
abbrev pub invariant-ips : goal.invariant-ips
invariant-ips l = record {
  whole : l.ips.items ++ numbers l.rest ≡ numbers l.stack;
  few : length l.ips.items ≤ 256;
  some : list_all (λ ip. nat_lt 0 ip) l.ips.items ≡ true;
}

abbrev pub decreases-ips : goal.decreases-ips
decreases-ips l = length l.rest
