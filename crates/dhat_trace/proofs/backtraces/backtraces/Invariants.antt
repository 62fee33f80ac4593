-- The frames of the stacks so far are told.
use Rattle.std.proofs.Common.{map, take}
use Rattle.dhat_trace.specs.declared.points.CalledStack.{CalledStack}
use Rattle.dhat_trace.specs.Backtraces.{AreBacktraces}
use Rattle.dhat_trace.specs.KnownPlaces.{AreKnown}
use Rattle.dhat_trace.proofs.backtraces.backtraces.Given as goal

abbrev pub invariant-each_stack : goal.invariant-each_stack
invariant-each_stack l = record {
  known : AreKnown l.tables l.table.texts l.table.known;
  are : AreBacktraces l.tables (map (λ (c : CalledStack). c.stack) (take l.called-index l.stacks)) l.table.texts l.told;
}
