-- What was written, what stands in the page and what is yet to be made are the text.
use Rattle.std.proofs.Common.{◌≡◌, ◌+◌, ◌<◌, ◌≤◌}
use Rattle.std.specs.Prelude.{vec_capacity, vec_len}
use Rattle.command_frame.specs.PageRoom.{page_bytes}
use Rattle.command_frame.proofs.TextLoop.{Making}
use Rattle.command_frame.proofs.ready_text.write_pieces.Given as goal

abbrev pub invariant-pieces : goal.invariant-pieces
invariant-pieces g l = record {
  making : Making (g.O.Sink.written l.initial.out) (g.O.Sink.written l.out) l.page.items (g.M.PieceMaker.rest l.maker)
      (g.M.PieceMaker.rest l.initial.maker);
  write_faults : g.O.Sink.faults l.out ≡ g.O.Sink.faults l.initial.out;
  short : vec_len l.page < page_bytes;
  room : page_bytes + g.M.PieceMaker.longest l.maker ≤ vec_capacity l.page;
}

abbrev pub decreases-pieces : goal.decreases-pieces
decreases-pieces g l = g.M.PieceMaker.pieces l.maker
