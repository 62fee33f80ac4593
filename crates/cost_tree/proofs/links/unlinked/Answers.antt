use Rattle.std.proofs.Common.{◌≡◌, ◌+◌, List, [], ◌∷◌, ◌++◌, length, refl, ap, ◌∙◌, arith}
use Rattle.std.proofs.lemmas.List.{length-append, map_push, replicate_more}
use Rattle.cost_tree.specs.declared.edge.Edge.{Edge}
use Rattle.cost_tree.specs.declared.links.Link.{Link}
use Rattle.cost_tree.specs.declared.node.CostNode.{CostNode}
use Rattle.cost_tree.specs.NodeLinks.{firsts_in}
use Rattle.cost_tree.proofs.Beside.{one-more}
use Rattle.cost_tree.proofs.links.unlinked.Goals as goal

pub each_edge-init : goal.each_edge-init
each_edge-init c =
    let pushed : c.push_reserved.new.self.items ≡ c.alone.result ∷ [] =
    c.push_reserved.ensures.items
    ∙ ap (λ (ls : List Link). ls ++ c.alone.result ∷ []) (c.reserve.ensures.items ∙ c.clear.ensures.items) in
    record {
      room = let room = c.in_ok-reserve.ensures.ok in let same = c.push_reserved.ensures.capacity in omega arith;
      count = ap (λ (ls : List Link). length ls) pushed;
      costs =
          one-more (λ (node : CostNode). node.cost) (λ (link : Link). link.cost) [] c.args.nodes.now []
          c.push_reserved.new.self.items 0 _ c.alone.result refl (omega arith) pushed
          (ap (λ (link : Link). link.cost) c.alone.ensures);
      texts =
          ap (λ (ls : List Link). Rattle.cost_tree.specs.NodeLinks.texts_in ls) pushed
          ∙ ap (λ (link : Link). link.text ∷ []) c.alone.ensures;
      firsts = ap firsts_in pushed ∙ ap (λ (link : Link). link.first_child ∷ []) c.alone.ensures;
    }

pub each_edge-preserved : goal.each_edge-preserved
each_edge-preserved c =
    let now = c.each_edge.invariant in
    let links : List Link = c.each_edge.links.items in
    let new : List Link = c.push_reserved-in-each_edge.new.self.items in
    let link = c.alone-in-each_edge.result in
    let pushed = c.push_reserved-in-each_edge.ensures.items in
    let is = c.alone-in-each_edge.ensures in
    record {
      room = let room = now.room in let same = c.push_reserved-in-each_edge.ensures.capacity in omega arith;
      count =
          let so_far =
          now.count in let more =
          ap (λ (ls : List Link). length ls) pushed in let long = length-append links (link ∷ []) in omega arith;
      costs =
          one-more (λ (node : CostNode). node.cost) (λ (l : Link). l.cost) [] c.args.nodes.now links new
          (c.each_edge.place + 1) _ link now.costs (omega arith) pushed (ap (λ (l : Link). l.cost) is);
      texts =
          one-more (λ (edge : Edge). edge.text) (λ (l : Link). l.text) (0 ∷ []) c.args.edges.now links new
          c.each_edge.place _ link now.texts (omega arith) pushed (ap (λ (l : Link). l.text) is);
      firsts = ap firsts_in pushed
          ∙ map_push (λ (l : Link). l.first_child) links link
          ∙ ap (λ (l : Link). firsts_in links ++ l.first_child ∷ []) is
          ∙ ap (λ ks. ks ++ 0 ∷ []) now.firsts
          ∙ replicate_more (c.each_edge.place + 1) 0;
    }
