use Rattle.std.proofs.Common.{arith}
use Rattle.command_frame.proofs.BatchLemmas.{nothing_ready}
use Rattle.command_frame.proofs.lines.take_ready.Goals as goal

-- the reader lends nothing
pub returns-then-is_empty : goal.returns-then-is_empty
returns-then-is_empty g c =
    nothing_ready _ _ _ _ (omega (arith, c.ready_lines-ready.ensures.within)) c.requires.sound c.requires.measure
    c.requires.given

-- a line may have fewer bytes than one that is taken at once
pub returns-then-line_limit-lt-LONGEST_AT_ONCE : goal.returns-then-line_limit-lt-LONGEST_AT_ONCE
returns-then-line_limit-lt-LONGEST_AT_ONCE g c =
    nothing_ready _ _ _ _ (omega (arith, c.ready_lines-ready.ensures.within)) c.requires.sound c.requires.measure
    c.requires.given
