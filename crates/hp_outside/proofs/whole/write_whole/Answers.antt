use Rattle.std.proofs.Common.{rules}
use Rattle.hp_outside.proofs.Known.{append_known-further}
use Rattle.hp_outside.proofs.whole.write_whole.Goals as goal

pub pieces-preserved : goal.pieces-preserved
pieces-preserved g c = record {
  within = search rules;
  written = append_known-further _ _ _ _ _ _ c.pieces.invariant.written c.in_ok-done.ensures.taken;
  faults = search rules;
}
