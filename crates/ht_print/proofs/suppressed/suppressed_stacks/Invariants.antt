use Rattle.std.specs.Prelude.{◌≡◌, map}
use Rattle.std.specs.List.{range_with_len}
use Rattle.ht_print.specs.Suppressed.{is_suppressed}
use Rattle.ht_print.proofs.suppressed.suppressed_stacks.Given as goal

-- the answers so far are those of the first stacks
abbrev pub invariant-each_stack : goal.invariant-each_stack
invariant-each_stack l = l.stacks.items ≡ map (is_suppressed l.tables) (range_with_len 0 l.stack)
