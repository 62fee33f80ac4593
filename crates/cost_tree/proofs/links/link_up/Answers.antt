use Rattle.std.proofs.Common.{ℕ, ◌+◌, ◌-◌, ◌<◌, List, length, set, get_or, refl, sym, ap, ◌∙◌, subst, arith}
use Rattle.std.proofs.lemmas.List.{length-map, length-replicate}
use Rattle.std.proofs.lemmas.Option.{slice_get-get_or}
use Rattle.cost_tree.specs.declared.links.Link.{Link}
use Rattle.cost_tree.specs.Children.{AreLinksFrom}
use Rattle.cost_tree.specs.NodeLinks.{firsts_in, nexts_in}
use Rattle.cost_tree.proofs.Beside.{first-read, linked, linked-is}
use Rattle.cost_tree.proofs.Linking.{AreLinksFrom-read, AreLinksFrom-start, no_node}
use Rattle.cost_tree.proofs.links.link_up.Goals as goal
use Rattle.cost_tree.proofs.links.link_up.Goals.{In-each_node}

pub each_node-init : goal.each_node-init
each_node-init c = record {
  costs = refl;
  texts = refl;
  children = λ m is.
      let links : List Link = c.args.links.now.items in
      let nodes = c.args.nodes.now in
      let zeros = ap (λ (ks : List ℕ). length ks) c.requires.none ∙ length-replicate (length nodes) 0 in
      let firsts = length-map links (λ (l : Link). l.first_child) in
      let nexts = length-map links (λ (l : Link). l.next_sibling) in
      AreLinksFrom-start nodes (firsts_in links) (nexts_in links) m is c.requires.some c.requires.none (omega arith);
}

-- the parent of a node stands before it, and so has a link
parent-linked : (c : In-each_node)
    → (get_or c.args.nodes.now (length c.args.nodes.now - c.each_node.done) no_node).parent < c.each_node.links.len
parent-linked c =
    let nodes = c.args.nodes.now in
    let n : ℕ = length nodes - c.each_node.done in
    let links : List Link = c.each_node.links.items in
    let inside = c.each_node-test.true in
    let count = (c.each_node.invariant.children (n + 1) (omega arith)).firsts_count in
    let firsts = length-map links (λ (l : Link). l.first_child) in
    let below =
    c.requires.lower n (get_or nodes n no_node) (omega arith) (slice_get-get_or nodes n no_node (omega arith)) in
    omega arith

pub index-requires : goal.index-requires
index-requires c = parent-linked (goal.at.index-requires c).In-each_node

pub index_mut-requires-in-each_node : goal.index_mut-requires-in-each_node
index_mut-requires-in-each_node c = parent-linked (goal.at.index_mut-requires-in-each_node c).In-each_node

pub each_node-preserved : goal.each_node-preserved
each_node-preserved c =
    let nodes = c.args.nodes.now in
    let n : ℕ = length nodes - c.each_node.done in
    let links : List Link = c.each_node.links.items in
    let parent : ℕ = (get_or nodes n no_node).parent in
    let child : ℕ = c.index.result.now.first_child in
    let inside = c.each_node-test.true in
    let now = c.each_node.invariant in
    let from = now.children (n + 1) (omega arith) in
    let count = from.firsts_count in
    let firsts = length-map links (λ (l : Link). l.first_child) in
    let below : parent < n =
    c.requires.lower n (get_or nodes n no_node) (omega arith) (slice_get-get_or nodes n no_node (omega arith)) in
    let is =
    linked-is links n parent child c.index_mut.result.now c.index_mut-in-each_node.result.now
    c.index_mut.ensures.value c.index_mut-in-each_node.ensures.value in
    let read = first-read links parent c.index.result.now (omega arith) c.index.ensures in
    record {
      costs = is.costs ∙ now.costs;
      texts = is.texts ∙ now.texts;
      children = λ m m_is.
          let next =
          AreLinksFrom-read nodes (firsts_in links) (nexts_in links) m n child no_node (omega arith)
          (now.children (m + 1) (omega arith)) (omega arith) (omega arith) c.requires.lower read in
          let P : List ℕ → Type 0 =
          λ fs. AreLinksFrom nodes fs
          (nexts_in (linked links n parent child c.index_mut.result.now c.index_mut-in-each_node.result.now)) m in
          let Q : List ℕ → Type 0 = λ ns. AreLinksFrom nodes (set (firsts_in links) parent n) ns m in
          subst P (sym is.firsts) (subst Q (sym is.nexts) next);
    }
