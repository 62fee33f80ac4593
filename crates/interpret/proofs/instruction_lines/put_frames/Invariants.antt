use Rattle.std.proofs.Common.{◌≡◌, ◌++◌}
use Rattle.std.specs.Option.{option_copied}
use Rattle.hp_num.specs.Extends.{Extends}
use Rattle.ht_lines.specs.Written.{spelled}
use Rattle.interpret.specs.FrameKept.{numbers_in}
use Rattle.interpret.specs.SymbolEntries.{bytes_left}
use Rattle.interpret.proofs.instruction_lines.put_frames.Given as goal

-- what is written and what is left are all
abbrev pub invariant-frames : goal.invariant-frames
invariant-frames l =
    (l.out.items ++ spelled (numbers_in l.names l.rest) ≡ l.fn.out.items ++ spelled (numbers_in l.names l.texts))
    × Extends l.fn.out.items l.out.items

abbrev pub decreases-frames : goal.decreases-frames
decreases-frames l = bytes_left (option_copied l.rest)
