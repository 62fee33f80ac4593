use Rattle.std.proofs.Common.{List, sym, subst, ap}
use Rattle.std.specs.Global.{Vec}
use Rattle.cost_tree.specs.declared.edge.Edge.{Edge}
use Rattle.cost_tree.specs.declared.node.CostNode.{CostNode}
use Rattle.cost_tree.specs.NodeLinks.{AreNodeLinks, edges_in}
use Rattle.cost_tree.specs.TreeParts.{IsTree}
use Rattle.cost_tree.proofs.Beside.{edges-beside}
use Rattle.cost_tree.proofs.linked.Linked.of.Goals as goal

pub returns : goal.returns
returns c = record {
  tree = λ names stacks depth is.
      let edges = c.args.branches.edges.items in
      let nodes = c.args.branches.nodes.items in
      let links = c.in_ok-links.links.links.items in
      let linked = subst (λ (es : List Edge). AreNodeLinks es nodes links) c.deref.ensures.value
      (subst (λ (ns : List CostNode). AreNodeLinks c.deref.result.now ns links) c.deref-2.ensures.value
      c.in_ok-links.ensures.links) in
      let same = sym (edges-beside names edges nodes _ links is.branches linked.beside) in
      let taken = sym (ap (λ (v : Vec CostNode). v.items) c.replace-nodes.ensures.value) in
      record {
        nodes = subst (λ (ns : List CostNode). IsTree names (edges_in ns links) ns stacks depth) taken
            (subst (λ (es : List Edge). IsTree names es nodes stacks depth) same is);
        links = subst (λ (ns : List CostNode). AreNodeLinks (edges_in ns links) ns links) taken
            (subst (λ (es : List Edge). AreNodeLinks es nodes links) same linked);
      };
}
