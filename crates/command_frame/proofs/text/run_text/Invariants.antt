-- What was written, what is kept back and what is yet to be made are the text.
use Rattle.std.proofs.Common.{◌≡◌}
use Rattle.command_frame.proofs.TextLoop.{Making}
use Rattle.command_frame.proofs.text.run_text.Given as goal

abbrev pub invariant-pieces : goal.invariant-pieces
invariant-pieces g l = record {
  sound : g.M.TextMaker.is_sound l.maker;
  making : Making (g.O.Sink.written l.initial.out) (g.O.Sink.written l.out) l.buffer.items (g.M.TextMaker.rest l.maker)
      (g.M.TextMaker.rest l.initial.maker);
  write_faults : g.O.Sink.faults l.out ≡ g.O.Sink.faults l.initial.out;
}

abbrev pub decreases-pieces : goal.decreases-pieces
decreases-pieces g l = g.M.TextMaker.pieces l.maker
