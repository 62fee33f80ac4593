-- Lemmas on what stacks cost, by the first one and the others.
use Rattle.std.proofs.Common.{◌≡◌, ℕ, ◌+◌, ◌&&◌, Bool, cond, List, [], ◌∷◌, refl, sym, ap, ◌∙◌}
use Rattle.std.specs.Prelude.{nat_lt}
use Rattle.std.specs.List.{position_or_len}
use Rattle.std.proofs.lemmas.List.Recursion.{is_position_or_len}
use Rattle.std.proofs.lemmas.List.Sums.{sum_by-cons}
use Rattle.cost_tree.specs.Costed.{Costed}
use Rattle.cost_tree.specs.Inclusive.{has_front, inclusive, least}

pub inclusive-cons : (front : List (List ℕ)) (stack : Costed) (stacks : List Costed)
    → inclusive front (stack ∷ stacks) ≡ cond (has_front front stack.texts) stack.cost 0 + inclusive front stacks
unfolding inclusive
inclusive-cons front stack stacks = sum_by-cons (λ (s : Costed). cond (has_front front s.texts) s.cost 0) stack stacks

-- the first place by recursion
first_place : {X : Type 0} → (X → Bool) → List X → ℕ
first_place p [] = 0
first_place p (x ∷ xs) = cond (p x) 0 (1 + first_place p xs)

first_place-is : {X : Type 0} (p : X → Bool) (xs : List X) → first_place p xs ≡ position_or_len p xs
unfolding first_place
first_place-is p xs = is_position_or_len (first_place p) p refl (λ x ys. refl) xs

pub least-cons : (front : List (List ℕ)) (stack : Costed) (stacks : List Costed)
    → least front (stack ∷ stacks)
    ≡ cond (nat_lt 0 stack.cost && has_front front stack.texts) 0 (1 + least front stacks)
unfolding least first_place
least-cons front stack stacks =
    let p : Costed → Bool = λ s. nat_lt 0 s.cost && has_front front s.texts in
    sym (first_place-is p (stack ∷ stacks)) ∙ ap (λ (n : ℕ). cond (p stack) 0 (1 + n)) (first_place-is p stacks)
