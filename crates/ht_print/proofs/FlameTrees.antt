-- Lemmas on the fronts of a tree's nodes.
use Rattle.std.proofs.Common.{◌≡◌, ℕ, ◌-◌, ◌<◌, List, [], ◌∷◌, ◌++◌, length, map, get_or, reverse, Some, refl, sym, ap}
use Rattle.std.proofs.Common.{◌∙◌, arith, append_assoc}
use Rattle.std.specs.Prelude.{slice_get}
use Rattle.std.proofs.lemmas.List.{length_push, reverse-append}
use Rattle.std.proofs.lemmas.Option.{get_or_from_slice_get, slice_get-get_or, slice_get_within}
use Rattle.cost_tree.specs.declared.node.CostNode.{CostNode}
use Rattle.cost_tree.specs.Costed.{Costed}
use Rattle.cost_tree.specs.IsTreeOf.{IsTreeOf}
use Rattle.cost_tree.specs.TreeState.{TreeState}
use Rattle.ht_print.specs.FlameWalk.{IsRooted, front_at, last_text}

-- the last text of a list
last-of : (front longer : List (List ℕ)) (text : List ℕ) → longer ≡ front ++ text ∷ []
    → get_or longer (length longer - 1) [] ≡ text
last-of front longer text is =
    let count = ap (λ (xs : List (List ℕ)). length xs) is ∙ length_push front text in
    let place : length longer - 1 ≡ length front = omega arith in
    ap (λ (k : ℕ). get_or longer k []) place ∙ ap (λ (xs : List (List ℕ)). get_or xs (length front) []) is
    ∙ at_end front
  where
    at_end : (xs : List (List ℕ)) → get_or (xs ++ text ∷ []) (length xs) [] ≡ text
    at_end [] = refl
    at_end (x ∷ xs) = at_end xs

pub last_text-is : (tree : TreeState) (n : ℕ) (front : List (List ℕ)) (text : List ℕ)
    → slice_get tree.fronts n ≡ Some (front ++ text ∷ []) → last_text tree n ≡ text
last_text-is tree n front text held =
    last-of front (front_at tree n) text (get_or_from_slice_get tree.fronts n (front ++ text ∷ []) [] held)

pub IsRooted-of : (tree : TreeState) (stacks : List Costed) (depth : ℕ) → IsTreeOf tree stacks depth → IsRooted tree
IsRooted-of tree stacks depth is = record {
  count = sym is.count;
  some = let within = slice_get_within tree.fronts 0 [] is.root in let count = is.count in omega arith;
  root = get_or_from_slice_get tree.fronts 0 [] [] is.root;
  longer = λ n node above held.
      let within = slice_get_within tree.nodes n node held in
      let count = is.count in
      let below = is.below n (front_at tree n) node above (slice_get-get_or tree.fronts n [] (omega arith)) held in
      let last : last_text tree n ≡ below.text = last-of below.parent_front (front_at tree n) below.text below.longer in
      below.longer
      ∙ ap (λ (xs : List (List ℕ)). xs ++ below.text ∷ [])
      (sym (get_or_from_slice_get tree.fronts node.parent below.parent_front [] below.parent))
      ∙ ap (λ (xs : List ℕ). front_at tree node.parent ++ xs ∷ []) (sym last);
}

-- one node further up
pub path-step : (tree : TreeState) (path grown : List ℕ) (at : ℕ) (node : CostNode) (whole : List (List ℕ))
    → IsRooted tree → 0 < at → slice_get tree.nodes at ≡ Some node → grown ≡ path ++ at ∷ []
    → front_at tree at ++ map (last_text tree) (reverse path) ≡ whole
    → front_at tree node.parent ++ map (last_text tree) (reverse grown) ≡ whole
path-step tree path grown at node whole rooted above held is before =
    let rest : List (List ℕ) = map (last_text tree) (reverse path) in
    ap (λ (ns : List ℕ). front_at tree node.parent ++ map (last_text tree) ns)
    (ap (λ (ns : List ℕ). reverse ns) is ∙ reverse-append path (at ∷ []))
    ∙ sym (append_assoc (front_at tree node.parent) (last_text tree at ∷ []) rest)
    ∙ ap (λ (xs : List (List ℕ)). xs ++ rest) (sym (rooted.longer at node above held))
    ∙ before
