use Rattle.std.proofs.Common.{◌≤◌, length}
use Rattle.std.specs.Option.{option_copied}
use Rattle.hp_num.specs.Extends.{Extends}
use Rattle.ht_trace.specs.LineFault.{most_entries}
use Rattle.interpret.specs.FrameKept.{names_in}
use Rattle.interpret.specs.SymbolEntries.{bytes_left}
use Rattle.interpret.proofs.AddingLemmas.{IsAdding}
use Rattle.interpret.proofs.instruction_lines.add_frames.Given as goal

-- the names so far are added
abbrev pub invariant-frames : goal.invariant-frames
invariant-frames l =
    IsAdding l.version (names_in l.texts) (names_in l.rest) l.fn.names l.names l.fn.out.items l.out.items
    × Extends l.fn.out.items l.out.items × (length l.fn.names ≤ most_entries → length l.names ≤ most_entries)

abbrev pub decreases-frames : goal.decreases-frames
decreases-frames l = bytes_left (option_copied l.rest)
