-- The lines so far were taken whole and without a fault, the rest of the file is what the reader
-- keeps and the store has left, and what the lines gave was written but for what is kept back.
use Rattle.std.proofs.Common.{◌≡◌, ◌+◌, ◌-◌, ◌≤◌, [], None, true}
use Rattle.hp_outside.specs.Taken.{WhereTold}
use Rattle.command_frame.proofs.LinesLoop.{Reading, bounds_at}
use Rattle.command_frame.proofs.lines.read_through_buffer.Given as goal

abbrev pub invariant-lines : goal.invariant-lines
invariant-lines g l = record {
  input : l.lines.input ≡ l.initial.lines.input;
  line_limit : l.lines.line_limit ≡ l.initial.lines.line_limit;
  no_fault : l.lines.fault ≡ None;
  given : l.lines.given ≤ l.lines.input + 1;
  ended : l.lines.ended ≡ true → WhereTold (g.S.Store.left l.store) (λ bytes. bytes ≡ []);
  sound : g.T.LineTaker.is_sound l.taker;
  measure : g.T.LineTaker.measure l.taker ≤ l.lines.given;
  report : g.T.LineTaker.report l.taker ≡ g.T.LineTaker.report l.initial.taker;
  reading : Reading (bounds_at l.initial.lines) (g.T.LineTaker.report l.initial.taker) (g.T.LineTaker.has_taken l.taker)
      l.lines (g.S.Store.left l.initial.store) (g.S.Store.left l.store)
      (g.O.Sink.written l.initial.out) (g.O.Sink.written l.out) l.buffer.items;
  files : g.S.Store.files l.store ≡ g.S.Store.files l.initial.store;
  current : g.S.Store.current l.store ≡ g.S.Store.current l.initial.store;
  opens : g.S.Store.opens l.store ≡ g.S.Store.opens l.initial.store;
  faults : g.S.Store.faults l.store ≡ g.S.Store.faults l.initial.store;
  write_faults : g.O.Sink.faults l.out ≡ g.O.Sink.faults l.initial.out;
}

abbrev pub decreases-lines : goal.decreases-lines
decreases-lines g l = l.lines.input + 1 - l.lines.given
