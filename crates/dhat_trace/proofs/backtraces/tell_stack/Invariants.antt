-- What is told on the way inwards.
use Rattle.std.proofs.Common.{length}
use Rattle.dhat_trace.proofs.SegmentLemmas.{IsInwards}
use Rattle.dhat_trace.proofs.backtraces.tell_stack.Given as goal

abbrev pub invariant-inwards : goal.invariant-inwards
invariant-inwards l =
    IsInwards l.tables l.stack l.initial.told l.table.texts l.told l.places.items l.end l.next l.segments.items

abbrev pub decreases-inwards : goal.decreases-inwards
decreases-inwards l = length l.segments.items
