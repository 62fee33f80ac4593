-- The lines so far were taken, and what they give stands behind what stood there.
use Rattle.std.proofs.Common.{◌≡◌, ◌+◌, ◌-◌, ◌≤◌, length}
use Rattle.command_frame.specs.Batch.{HasGivenFront}
use Rattle.command_frame.proofs.FrontLoop.{IsLeft}
use Rattle.command_frame.proofs.front.take_lines.Given as goal

abbrev pub invariant-lines : goal.invariant-lines
invariant-lines g l = record {
  left : IsLeft l.ready l.rest;
  few : l.lines ≤ length l.ready - length l.rest;
  sound : g.T.LineTaker.is_sound l.taker;
  measure : g.T.LineTaker.measure l.taker ≤ g.T.LineTaker.measure l.initial.taker + (length l.ready - length l.rest);
  report : g.T.LineTaker.report l.taker ≡ g.T.LineTaker.report l.initial.taker;
  front : HasGivenFront (g.T.LineTaker.report l.initial.taker) (g.T.LineTaker.has_taken l.initial.taker)
      (g.T.LineTaker.has_taken l.taker) l.ready (length l.ready - length l.rest) l.lines
      l.initial.output.items l.output.items;
}

abbrev pub decreases-lines : goal.decreases-lines
decreases-lines g l = length l.rest
