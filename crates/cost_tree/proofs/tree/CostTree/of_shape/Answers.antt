use Rattle.std.proofs.Common.{◌≡◌, ℕ, ◌^◌, ◌<◌, List, length, refl, sym, ap, ◌∙◌, subst, arith}
use Rattle.std.proofs.lemmas.List.{length-map}
use Rattle.cost_tree.specs.declared.edge.Edge.{Edge}
use Rattle.cost_tree.specs.Costed.{costed}
use Rattle.cost_tree.specs.Shapes.{IsShape, list_at, lists_in}
use Rattle.cost_tree.specs.Texts.{AreTexts, lists_of, texts_of}
use Rattle.cost_tree.specs.TreeParts.{IsLinkedTree}
use Rattle.cost_tree.proofs.Laws.{costed-count, costed-sum}
use Rattle.cost_tree.proofs.Totals.{IsTreeOf-lists}
use Rattle.cost_tree.proofs.tree.CostTree.of_shape.Goals as goal
use Rattle.cost_tree.proofs.tree.CostTree.of_shape.Goals.{In_ok-linked}

pub of-requires-clause-shape : goal.of-requires-clause-shape
of-requires-clause-shape c =
    subst (λ (edges : List Edge). IsShape edges c.deref.result.now) (sym c.list-edges.ensures.edges)
    (subst (λ (ends : List ℕ). IsShape c.shape.inside.edges.keys ends) (sym c.deref.ensures.value) c.shape.invariant)

pub of-requires-clause-as_many : goal.of-requires-clause-as_many
of-requires-clause-as_many c =
    let ends = ap (λ (es : List ℕ). length es) c.deref.ensures.value in
    let held = length-map c.shape.inside.ends.items (list_at c.shape.inside.edges.keys) in
    let listed = ap (λ (ls : List (List ℕ)). length ls) c.shape.view_is in
    omega (arith, c.requires.as_many)

-- the lists that the shape's numbers are those of
listed : (c : In_ok-linked) → lists_in c.list-edges.result.now c.deref.result.now ≡ c.args.shape.now
listed c =
    ap (λ (edges : List Edge). lists_in edges c.deref.result.now) c.list-edges.ensures.edges
    ∙ ap (λ (ends : List ℕ). lists_in c.shape.inside.edges.keys ends) c.deref.ensures.value
    ∙ c.shape.view_is

-- the tree of their texts
made : (c : In_ok-linked)
    → IsLinkedTree c.args.names.now c.in_ok-linked.linked
    (costed (lists_of c.args.names.now (lists_in c.list-edges.result.now c.deref.result.now)) c.args.costs.now)
    c.args.depth
made c =
    let names = c.args.names.now in
    let texts = subst (λ (ls : List (List ℕ)). AreTexts names ls) (sym (listed c)) c.requires.texts in
    c.in_ok-linked.ensures.tree names _ c.args.depth
    (c.in_ok-branches.ensures.tree names c.len-count.ensures.distinct texts)

pub invariant_of-result : goal.invariant_of-result
invariant_of-result c =
    let is = made (goal.at.invariant_of-result c).In_ok-linked in
    record { branches = is.nodes.branches; links = is.links }

pub returns : goal.returns
returns c =
    let shared = (goal.at.returns c).In_ok-linked in
    let costs = c.args.costs.now in
    let lists : List (List (List ℕ)) = lists_of c.args.names.now c.args.shape.now in
    let kept = length-map c.args.shape.now (texts_of c.args.names.now) in
    let few : length lists < 2 ^ 32 = omega arith in
    let as_many = c.requires.as_many in
    let count = costed-count lists costs (omega arith) in
    let whole = costed-sum lists costs (omega arith) in
    let bound = c.requires.bound in
    record {
      lines =
          record {
            tree_of =
                IsTreeOf-lists _ _ costs (ap (λ (ls : List (List ℕ)). lists_of c.args.names.now ls) (listed shared))
                (made shared).nodes.tree_of;
            few = omega arith;
            within = omega arith;
            shallow = omega arith;
          };
      names = refl;
    }
