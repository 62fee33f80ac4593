use Rattle.std.proofs.Common.{◌≡◌, ℕ, ◌/◌, ◌<◌, ◌≤◌, drop, length}
use Rattle.massif_cull.specs.Keys.{AreFirsts}
use Rattle.massif_cull.proofs.gaps.climb.Given as goal

abbrev pub invariant-up : goal.invariant-up
invariant-up l = record {
  low : l.node ≤ l.fn.from / 2;
  size : length l.nodes.items ≡ length l.fn.nodes.items;
  firsts : AreFirsts l.nodes.items l.node;
  keys : (max : ℕ) → l.fn.from / 2 < max → drop max l.nodes.items ≡ drop max l.fn.nodes.items;
}

abbrev pub decreases-up : goal.decreases-up
decreases-up l = l.node
