use Rattle.std.proofs.Common.{◌≡◌, ℕ, List, ◌∷◌, length, sym, ap, ◌∙◌, subst, arith}
use Rattle.cost_tree.specs.Children.{chain, children_of}
use Rattle.cost_tree.specs.NodeLinks.{firsts_in, nexts_in}
use Rattle.cost_tree.specs.TreeState.{TreeState}
use Rattle.cost_tree.proofs.Linking.{IsWalk, IsWalk-first, chain-none, chain-read}
use Rattle.cost_tree.proofs.tree.CostTree.child_nodes.Goals as goal

-- the first child has no next one
pub returns-then-next_sibling-eq0 : goal.returns-then-next_sibling-eq0
returns-then-next_sibling-eq0 c =
    let nodes = c.self.inside.nodes.items in
    let links = c.self.inside.links.links.items in
    let child : ℕ = c.first_child-child.result in
    let held = ap (λ (t : TreeState). length t.nodes) c.self.view_is in
    let walk =
    IsWalk-first nodes (firsts_in links) (nexts_in links) c.args.n c.self.invariant.links.children
    (omega (arith, c.requires.held)) in
    let first =
    subst
    (λ (k : ℕ). IsWalk nodes (firsts_in links) (nexts_in links) c.args.n k
    × (children_of nodes c.args.n ≡ chain nodes c.args.n k))
    (sym c.first_child-child.ensures) walk in
    ap (λ (t : TreeState). children_of t.nodes c.args.n) (sym c.self.view_is)
    ∙ first.1
    ∙ chain-read first.0 c.if-child-eq0.false c.next_sibling.ensures
    ∙ ap (λ (xs : List ℕ). child ∷ xs) (chain-none nodes c.args.n c.next_sibling.result c.if-next_sibling-eq0.true)
