use Rattle.std.specs.Prelude.{◌≡◌, ◌+◌, take}
use Rattle.ht_print.specs.ReportGroups.{joined}
use Rattle.ht_print.proofs.groups.joined.Given as goal

-- the stacks so far
abbrev pub invariant-each_other : goal.invariant-each_other
invariant-each_other l = l.entry ≡ joined (take (l.stack-index + 1) l.stacks)
