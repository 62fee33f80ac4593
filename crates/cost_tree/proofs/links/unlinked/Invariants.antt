use Rattle.std.proofs.Common.{◌≡◌, ◌+◌, ◌≤◌, ◌∷◌, length, map, replicate, take}
use Rattle.std.specs.Prelude.{vec_capacity}
use Rattle.cost_tree.specs.NodeLinks.{costs_in, firsts_in, texts_in}
use Rattle.cost_tree.proofs.links.unlinked.Given as goal

abbrev pub invariant-each_edge : goal.invariant-each_edge
invariant-each_edge l = record {
  room : length l.nodes ≤ vec_capacity l.links;
  count : length l.links.items ≡ l.place + 1;
  costs : costs_in l.links.items ≡ map (λ node. node.cost) (take (l.place + 1) l.nodes);
  texts : texts_in l.links.items ≡ 0 ∷ map (λ edge. edge.text) (take l.place l.edges);
  firsts : firsts_in l.links.items ≡ replicate (l.place + 1) 0;
}
