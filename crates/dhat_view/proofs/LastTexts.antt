-- What a tree says that a node's front ends with.
use Rattle.std.proofs.Common.{◌≡◌, ℕ, zero, suc, ◌<◌, List, [], ◌∷◌, ◌++◌, Some, refl, sym, ap, ◌∙◌, arith}
use Rattle.std.specs.Prelude.{slice_get}
use Rattle.cost_tree.specs.CostLines.{last_of}
use Rattle.cost_tree.specs.TreeLines.{front_at}
use Rattle.cost_tree.specs.TreeState.{TreeState}
use Rattle.cost_tree.proofs.Laws.{last-text}

pub text-shown : (tree : TreeState) (n : ℕ) (text : List ℕ) → front_at tree 0 ≡ [] → (n ≡ 0 → text ≡ [])
    → (0 < n → (front : List (List ℕ)) × (slice_get tree.fronts n ≡ Some (front ++ text ∷ [])))
    → last_of (front_at tree n) ≡ text
text-shown tree zero text root none last = ap last_of root ∙ sym (none refl)
text-shown tree (suc n) text root none last =
    let found = last (omega arith) in last-text tree (suc n) found.0 text found.1
