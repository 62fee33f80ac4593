-- No line feed so far.
use Rattle.std.proofs.Common.{take}
use Rattle.hp_outside.specs.WholeLines.{IsLineText}
use Rattle.heaprec_commands.proofs.ready_lines.feed_in.Given as goal

abbrev pub invariant-loop-place : goal.invariant-loop-place
invariant-loop-place l = IsLineText (take l.place l.front)
