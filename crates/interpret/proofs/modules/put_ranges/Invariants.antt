use Rattle.std.proofs.Common.{◌≡◌, ℕ, Some, take}
use Rattle.std.specs.Prelude.{if◌then◌else◌}
use Rattle.std.specs.List.{list_any}
use Rattle.interpret.specs.Holders.{holder_at}
use Rattle.interpret.specs.Modules.{in_range}
use Rattle.interpret.proofs.modules.put_ranges.Given as goal

-- the module is put over the others in the ranges so far
abbrev pub invariant-each_range : goal.invariant-each_range
invariant-each_range l =
    (ip : ℕ)
    → holder_at l.index ip
    ≡ (if list_any (in_range ip) (take l.range-index l.ranges) then Some l.place else holder_at l.initial.index ip)
