-- Lists that are the same place by place, and nodes that are.
use Rattle.std.proofs.Common.{◌≡◌, ℕ, zero, suc, ◌+◌, ◌<◌, ◌≤◌, ◌⊎◌, inl, inr, true, false, IsTrue, List, [], ◌∷◌}
use Rattle.std.proofs.Common.{length, get_or, map, Some, refl, sym, ap₂, subst, arith, true≢false}
use Rattle.std.specs.Prelude.{◌↔◌, slice_get}
use Rattle.std.proofs.lemmas.Bool.{cases_lt}
use Rattle.std.proofs.lemmas.Option.{same_Some}

pub same-items : {X : Type 0} (xs ys : List X) → length xs ≡ length ys
    → ((k : ℕ) → k < length xs → slice_get xs k ≡ slice_get ys k) → xs ≡ ys
same-items [] [] len same = refl
same-items [] (y ∷ ys) len same = absurd (omega (arith, len))
same-items (x ∷ xs) [] len same = absurd (omega (arith, len))
same-items (x ∷ xs) (y ∷ ys) len same =
    ap₂ (λ z zs. z ∷ zs) (same_Some x y (same 0 (omega arith)))
    (same-items xs ys (omega (arith, len)) (λ k within. same (suc k) (omega (arith, within))))

-- one place more is the same
pub same-next : {X : Type 0} (xs ys : List X) (place : ℕ)
    → ((k : ℕ) → k < place → slice_get xs k ≡ slice_get ys k)
    → slice_get xs place ≡ slice_get ys place
    → (k : ℕ) → k < place + 1 → slice_get xs k ≡ slice_get ys k
same-next xs ys place before here k within = by (cases_lt k place)
  where
    by : (k < place) ⊎ (place ≤ k) → slice_get xs k ≡ slice_get ys k
    by (inl earlier) = before k earlier
    by (inr last) =
        let same : place ≡ k = omega (arith, within, last) in
        subst (λ (n : ℕ). slice_get xs n ≡ slice_get ys n) same here

-- an element of a list that a function gave
pub map-at : {X Y : Type 0} (f : X → Y) (xs : List X) (k : ℕ) (default : X) → k < length xs
    → slice_get (map f xs) k ≡ Some (f (get_or xs k default))
map-at f [] k default within = absurd (omega (arith, within))
map-at f (x ∷ xs) zero default within = refl
map-at f (x ∷ xs) (suc k) default within = map-at f xs k default (omega (arith, within))

-- an answer that a fact decides
pub answers-true : (P : Type 0) → P → IsTrue true ↔ P
answers-true P holds = (λ _. holds, λ _. refl)

pub answers-false : (P : Type 0) → (P → ⊥) → IsTrue false ↔ P
answers-false P never = (λ is. absurd (true≢false (sym is)), λ holds. absurd (never holds))
