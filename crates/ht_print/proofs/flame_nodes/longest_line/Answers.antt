use Rattle.std.proofs.Common.{◌≡◌, ℕ, ◌<◌, ◌≤◌, List, [], ◌∷◌, ◌++◌, length, map, get_or, sym, ap, ◌∙◌, arith}
use Rattle.std.proofs.lemmas.List.Elements.{All-more, All-weaker}
use Rattle.ht_print.specs.FlameLines.{line_bytes}
use Rattle.ht_print.specs.FlameWalk.{last_text}
use Rattle.ht_print.proofs.FlameNodes.{bytes-longer, bytes-of-root, first-bounded, first-front, length-at, lengths-push}
use Rattle.ht_print.proofs.FlameTrees.{last_text-is}
use Rattle.ht_print.proofs.flame_nodes.longest_line.Goals as goal

pub each_node-init : goal.each_node-init
each_node-init c = record {
  some = omega arith;
  lengths = c.in_ok-push.ensures.items ∙ ap (λ (ls : List ℕ). ls ++ 22 ∷ []) c.in_ok-lengths.ensures.items
      ∙ sym (ap (λ fronts. map line_bytes fronts) (first-front c.args.tree.now c.requires.tree)
      ∙ ap (λ (bytes : ℕ). bytes ∷ []) bytes-of-root);
  bounded = first-bounded c.args.tree.now c.requires.tree;
}

pub each_node-preserved : goal.each_node-preserved
each_node-preserved c =
    let tree = c.args.tree.now in
    let fronts = tree.fronts in
    let n = c.each_node.n in
    let now = c.each_node.invariant in
    let some = now.some in
    let above : 0 < n = omega (arith, some) in
    let test = c.each_node-test.true in
    let count = c.len-n-end.ensures.fronts in
    let within : n < length fronts = omega (arith, test, count) in
    let last = c.text.ensures.last above in
    let named : last_text tree n ≡ c.text.result.now = last_text-is tree n last.0 c.text.result.now last.1 in
    let longer = bytes-longer tree n c.node.result c.text.result.now c.requires.tree above c.node.ensures.node named in
    let lower = c.node.ensures.lower above in
    let before =
    c.index-above.ensures
    ∙ length-at fronts c.each_node.lengths.items n c.node.result.parent _ lower within now.lengths in
    let own = c.in_ok-length.ensures in
    let is : c.in_ok-length.length ≡ line_bytes (get_or fronts n []) = omega (arith, longer, before, own) in
    let most = c.max-longest.ensures in
    record {
      some = omega arith;
      lengths =
          lengths-push fronts c.each_node.lengths.items c.push-in-each_node.new.self.items n c.in_ok-length.length
          within
          now.lengths c.in_ok-push-2.ensures.items is;
      bounded = All-more (λ texts. line_bytes texts ≤ c.max-longest.result) fronts n [] within
          (All-weaker (λ texts. line_bytes texts ≤ c.each_node.longest)
          (λ texts. line_bytes texts ≤ c.max-longest.result) (λ texts below. omega (arith, below, most)) _
          now.bounded)
          (omega (arith, is, most));
    }
