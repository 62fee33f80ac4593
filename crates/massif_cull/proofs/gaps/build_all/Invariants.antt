use Rattle.std.proofs.Common.{◌≡◌, drop, length}
use Rattle.massif_cull.proofs.Tournament.{AreFound}
use Rattle.massif_cull.proofs.gaps.build_all.Given as goal

abbrev pub invariant-nodes : goal.invariant-nodes
invariant-nodes l = record {
  size : length l.nodes.items ≡ length l.fn.nodes.items;
  found : AreFound l.nodes.items l.node;
  keys : drop l.max l.nodes.items ≡ drop l.max l.fn.nodes.items;
}
