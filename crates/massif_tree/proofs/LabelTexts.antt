-- What the labels of lines are.
use Rattle.std.proofs.Common.{◌≡◌, ◌≢◌, ℕ, ◌==◌, List, [], ◌∷◌, ◌++◌, Some, refl, sym, ap, ◌∙◌}
use Rattle.std.specs.Prelude.{codes, decimal, slice_get}
use Rattle.std.proofs.lemmas.Bool.{cond-false, cond-true, eq-eqb, ne_eqb}
use Rattle.std.proofs.lemmas.Option.{get_or_from_slice_get}
use Rattle.cost_tree.specs.CostLines.{last_of}
use Rattle.cost_tree.specs.TreeLines.{front_at}
use Rattle.cost_tree.specs.TreeState.{TreeState}
use Rattle.cost_tree.proofs.Laws.{last-text}
use Rattle.massif_tree.specs.Labels.{places_label}
use Rattle.massif_tree.specs.MassifTree.{label_of}

pub places-one : (places : ℕ) → places ≡ 1 → places_label places ≡ codes "in 1 place, below massif's threshold ("
unfolding places_label
places-one places one =
    cond-true (places == 1) (codes "in 1 place, below massif's threshold (")
    (codes "in " ++ (decimal places ++ codes " places, all below massif's threshold (")) (eq-eqb places 1 one)

pub places-more : (places : ℕ) → places ≢ 1
    → places_label places ≡ codes "in " ++ (decimal places ++ codes " places, all below massif's threshold (")
unfolding places_label
places-more places other =
    cond-false (places == 1) (codes "in 1 place, below massif's threshold (")
    (codes "in " ++ (decimal places ++ codes " places, all below massif's threshold (")) (ne_eqb places 1 other)

-- the label of a node whose front ends with a text
pub label-text : (tree : TreeState) (n : ℕ) (front : List (List ℕ)) (text : List ℕ)
    → slice_get tree.fronts n ≡ Some (front ++ text ∷ []) → label_of (front_at tree n) ≡ text
label-text tree n front text held =
    let is = get_or_from_slice_get tree.fronts n (front ++ text ∷ []) [] held in
    ap label_of is ∙ same front ∙ ap last_of (sym is) ∙ last-text tree n front text held
  where
    same : (xs : List (List ℕ)) → label_of (xs ++ text ∷ []) ≡ last_of (xs ++ text ∷ [])
    same [] = refl
    same (x ∷ xs) = refl
