use Rattle.std.proofs.Common.{◌≡◌, ℕ, ◌^◌, ◌<◌, List, length, sym, ap, ◌∙◌, subst, arith}
use Rattle.std.proofs.lemmas.List.{length-map}
use Rattle.cost_tree.specs.declared.edge.Edge.{Edge}
use Rattle.cost_tree.specs.Costed.{costed}
use Rattle.cost_tree.specs.Shapes.{IsShape, list_at, lists_in}
use Rattle.cost_tree.specs.Texts.{AreTexts, lists_of, texts_of}
use Rattle.cost_tree.specs.TreeParts.{IsLinkedTree}
use Rattle.cost_tree.proofs.Laws.{costed-count, costed-sum}
use Rattle.cost_tree.proofs.Totals.{IsTree-same, IsTreeOf-lists}
use Rattle.cost_tree.proofs.tree.CostTree.of_own.Goals as goal
use Rattle.cost_tree.proofs.tree.CostTree.of_own.Goals.{In_ok-nodes}

pub of-requires-clause-shape : goal.of-requires-clause-shape
of-requires-clause-shape c =
    let keys = c.deref.ensures.value ∙ c.into_list-edges.ensures.edges in
    subst (λ (edges : List Edge). IsShape edges c.deref-2.result.now) (sym keys)
    (subst (λ (ends : List ℕ). IsShape c.shape.inside.edges.keys ends) (sym c.deref-2.ensures.value) c.shape.invariant)

pub of-requires-clause-as_many : goal.of-requires-clause-as_many
of-requires-clause-as_many c =
    let ends = ap (λ (es : List ℕ). length es) c.deref-2.ensures.value in
    let held = length-map c.shape.inside.ends.items (list_at c.shape.inside.edges.keys) in
    let listed = ap (λ (ls : List (List ℕ)). length ls) c.shape.view_is in
    let kept = length-map c.lists.inside.shape (texts_of c.lists.inside.names) in
    let seen = ap (λ (ls : List (List (List ℕ))). length ls) c.lists.view_is in
    omega (arith, c.requires.as_many)

-- the lists that the shape's numbers are those of
listed : (c : In_ok-nodes) → lists_in c.deref.result.now c.deref-2.result.now ≡ c.lists.inside.shape
listed c =
    ap (λ (edges : List Edge). lists_in edges c.deref-2.result.now)
    (c.deref.ensures.value ∙ c.into_list-edges.ensures.edges)
    ∙ ap (λ (ends : List ℕ). lists_in c.shape.inside.edges.keys ends) c.deref-2.ensures.value
    ∙ c.shape.view_is

-- the tree of their texts
made : (c : In_ok-nodes)
    → IsLinkedTree c.lists.inside.names c.in_ok-nodes.field-0
    (costed (lists_of c.lists.inside.names (lists_in c.deref.result.now c.deref-2.result.now)) c.args.costs.now)
    c.args.depth
made c =
    let names = c.lists.inside.names in
    let texts = subst (λ (ls : List (List ℕ)). AreTexts names ls) (sym (listed c)) c.lists.invariant in
    let grown = c.in_ok-grown.ensures.tree names c.len-count.ensures.distinct texts in
    c.in_ok-nodes.ensures.tree names _ c.args.depth
    (IsTree-same names _ _ _ _ _ c.args.depth c.settled-branches.ensures.edges c.settled-branches.ensures.nodes
    grown)

pub invariant_of-result : goal.invariant_of-result
invariant_of-result c =
    let is = made (goal.at.invariant_of-result c).In_ok-nodes in
    record { branches = is.nodes.branches; links = is.links }

pub returns : goal.returns
returns c =
    let shared = (goal.at.returns c).In_ok-nodes in
    let costs = c.args.costs.now in
    let lists : List (List (List ℕ)) = c.args.lists in
    let all : lists_of c.lists.inside.names (lists_in c.deref.result.now c.deref-2.result.now) ≡ lists =
    ap (λ (ls : List (List ℕ)). lists_of c.lists.inside.names ls) (listed shared) ∙ c.lists.view_is in
    let kept = length-map c.lists.inside.shape (texts_of c.lists.inside.names) in
    let seen = ap (λ (ls : List (List (List ℕ))). length ls) c.lists.view_is in
    let counted = c.len-lists.ensures.count in
    let few : length lists < 2 ^ 32 = omega arith in
    let as_many = c.requires.as_many in
    let count = costed-count lists costs as_many in
    let whole = costed-sum lists costs as_many in
    let bound = c.requires.bound in
    record {
      lines = record {
        tree_of = IsTreeOf-lists _ _ costs all (made shared).nodes.tree_of;
        few = omega arith;
        within = omega arith;
        shallow = omega arith;
      };
    }
