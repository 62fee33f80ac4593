use Rattle.std.proofs.Common.{◌≡◌, ℕ, ◌+◌, ◌-◌, List, Some, sym, ap, ◌∙◌, subst, arith}
use Rattle.std.specs.Prelude.{slice_index}
use Rattle.std.proofs.lemmas.Option.{slice_get-get_or}
use Rattle.cost_tree.specs.Shapes.{list_at, numbers_of}
use Rattle.cost_tree.specs.Paths.{IsPath}
use Rattle.cost_tree.proofs.Ascents.{IsPath-step, above-root, node-within, parent-before}
use Rattle.cost_tree.proofs.branches.climb.Goals as goal

pub each_node-smaller : goal.each_node-smaller
each_node-smaller c =
    let numbered = c.args.numbered.now in
    let above = above-root numbered c.each_node.place c.requires.root c.each_node-test.true in
    parent-before c.args.edges.now (numbers_of c.args.edges.now) c.each_node.place c.edge_of-place.result
    c.requires.steps above c.edge_of-place.ensures.edge

pub each_node-preserved : goal.each_node-preserved
each_node-preserved c =
    let edges = c.args.edges.now in
    let numbered = c.args.numbered.now in
    let list : List ℕ = list_at edges c.args.end in
    let above = above-root numbered c.each_node.place c.requires.root c.each_node-test.true in
    let within =
    node-within edges numbered list c.each_node.path.items c.each_node.place c.requires.steps c.each_node.invariant in
    let free =
    slice_get-get_or numbered c.each_node.place 0 (omega (arith, c.requires.count))
    ∙ ap (λ (k : ℕ). Some k) c.each_node-test.true in
    subst (λ (path : List ℕ). IsPath edges numbered list path c.edge_of-place.result.parent)
    (sym c.in_ok-push.ensures.items)
    (IsPath-step edges numbered list c.each_node.path.items c.each_node.place c.edge_of-place.result c.requires.steps
    c.each_node.invariant free above c.edge_of-place.ensures.edge)

pub returns : goal.returns
returns c =
    let edges = c.args.edges.now in
    let numbered = c.args.numbered.now in
    let list : List ℕ = list_at edges c.args.end in
    let within =
    node-within edges numbered list c.each_node.path.items c.each_node.place c.requires.steps c.each_node.invariant in
    let some = c.each_node-test.false in
    let back : slice_index numbered c.each_node.place ≡ slice_index numbered c.each_node.place - 1 + 1 = omega arith in
    record {
      way = record {
        node = c.each_node.place;
        way = c.each_node.invariant;
        number =
            slice_get-get_or numbered c.each_node.place 0 (omega (arith, c.requires.count)) ∙ ap
            (λ (k : ℕ). Some k) back;
      };
    }
