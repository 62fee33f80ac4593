use Rattle.std.specs.Prelude.{◌≡◌, map}
use Rattle.std.specs.List.{range_with_len}
use Rattle.ht_print.specs.MetFrames.{meets_instruction}
use Rattle.ht_print.proofs.met_frames.met_instructions.Given as goal

-- the answers so far are those of the first instructions
abbrev pub invariant-each_instruction : goal.invariant-each_instruction
invariant-each_instruction l = l.met.items ≡ map (meets_instruction l.tables) (range_with_len 0 l.n)
