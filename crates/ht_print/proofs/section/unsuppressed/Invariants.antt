use Rattle.std.specs.Prelude.{◌≡◌, take}
use Rattle.ht_print.specs.ReportText.{unsuppressed}
use Rattle.ht_print.proofs.section.unsuppressed.Given as goal

-- the figures so far
abbrev pub invariant-each_stack : goal.invariant-each_stack
invariant-each_stack l = l.kept.items ≡ unsuppressed (take l.stack l.suppressed) (take l.stack l.figures)
