use Rattle.std.proofs.Common.{◌≡◌, ℕ, ◌≤◌, length, map, take}
use Rattle.ht_trace.specs.FrameText.{frame_text}
use Rattle.intern_tables.specs.Numbers.{name_at}
use Rattle.stack_trees.proofs.Numbering.{AreNumbered}
use Rattle.stack_trees.proofs.call_chains.number_frames.Given as goal

abbrev pub invariant-each_frame : goal.invariant-each_frame
invariant-each_frame l = record {
  stay : (k : ℕ) → k ≤ length l.initial.names → name_at l.names k ≡ name_at l.initial.names k;
  longer : length l.initial.names ≤ length l.names;
  numbered : AreNumbered l.names l.numbers.items (map (frame_text l.style l.tables) (take l.at-index l.frames));
}
