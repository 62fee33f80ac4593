use Rattle.std.proofs.Common.{◌≡◌, ◌-◌, length}
use Rattle.massif_cull.specs.Keyed.{AreGapsOf}
use Rattle.massif_cull.specs.Left.{AreLeft}
use Rattle.massif_cull.proofs.linked.LinkedSnaps.remove_by_gaps.Given as goal

abbrev pub invariant-each_removal : goal.invariant-each_removal
invariant-each_removal g l = record {
  left : AreLeft (l.left - l.counter) l.fn.self.entries l.fn.self.loads l.self.entries l.self.loads;
  max : l.self.max ≡ l.fn.self.max;
  keys : length l.gaps.keys ≡ l.fn.self.max;
  keyed : AreGapsOf l.self l.gaps;
}
