use Rattle.std.proofs.Common.{◌≡◌, ℕ, ◌+◌, length}
use Rattle.cost_tree.specs.Children.{AreLinksFrom}
use Rattle.cost_tree.specs.NodeLinks.{costs_in, firsts_in, nexts_in, texts_in}
use Rattle.cost_tree.proofs.links.link_up.Given as goal

abbrev pub invariant-each_node : goal.invariant-each_node
invariant-each_node l = record {
  costs : costs_in l.links.items ≡ costs_in l.initial.links.items;
  texts : texts_in l.links.items ≡ texts_in l.initial.links.items;
  children : (m : ℕ) → m + l.done ≡ length l.nodes + 1
      → AreLinksFrom l.nodes (firsts_in l.links.items) (nexts_in l.links.items) m;
}
