-- The lines so far were read without a fault.
use Rattle.std.proofs.Common.{length}
use Rattle.trace_gen.specs.GeneratorState.{lines_yet}
use Rattle.trace_reports.specs.GenTaken.{HasTaken}
use Rattle.trace_reports.proofs.gen_summary.read_lines.Given as goal

abbrev pub invariant-lines : goal.invariant-lines
invariant-lines l = HasTaken l.trace l.generator (lines_yet l.initial.generator)

abbrev pub decreases-lines : goal.decreases-lines
decreases-lines l = length (lines_yet l.generator)
