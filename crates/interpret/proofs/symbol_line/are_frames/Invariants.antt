use Rattle.std.proofs.Common.{◌≡◌}
use Rattle.std.specs.Option.{option_copied}
use Rattle.interpret.specs.SymbolLine.{are_frames, fields}
use Rattle.interpret.specs.SymbolEntries.{bytes_left, following}
use Rattle.interpret.proofs.symbol_line.are_frames.Given as goal

-- what is left are frames exactly where the texts are
abbrev pub invariant-frames : goal.invariant-frames
invariant-frames l = are_frames (following (option_copied l.rest)) ≡ are_frames (fields l.texts)

abbrev pub decreases-frames : goal.decreases-frames
decreases-frames l = bytes_left (option_copied l.rest)
