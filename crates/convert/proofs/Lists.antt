-- Lemmas on lists.
use Rattle.std.proofs.Common.{◌≡◌, ℕ, suc, ◌+◌, ◌<◌, Bool, not, cond, ◌||◌, List, [], ◌∷◌, ◌++◌, length, map, drop}
use Rattle.std.proofs.Common.{get_or, refl, sym, ap, ◌∙◌, subst, arith, append-nil, append_assoc, length-append, Some}
use Rattle.std.specs.Prelude.{All, slice_get}
use Rattle.std.proofs.lemmas.List.{get_or_append_left}
use Rattle.std.proofs.lemmas.Option.{get_or_from_slice_get, slice_get_within}
use Rattle.std.specs.List.{list_any, position_or_len}

-- what holds of the empty list, and of a list with one element more wherever it holds of the list, holds of each list
pub from_end : {X : Type 0} (P : List X → Type 0) → P [] → ((xs : List X) (x : X) → P xs → P (xs ++ x ∷ []))
    → (xs : List X) → P xs
from_end {X} P none more xs = go [] xs none
  where
    go : (done rest : List X) → P done → P (done ++ rest)
    go done [] at = subst P (sym (append-nil done)) at
    go done (x ∷ rest) at = subst P (append_assoc done (x ∷ []) rest) (go (done ++ x ∷ []) rest (more done x at))

-- equal lists have equal heads and tails
pub same_heads : {X : Type 0} (x y : X) (xs ys : List X) → x ∷ xs ≡ y ∷ ys → x ≡ y
same_heads x y xs ys same = ap (λ zs. get_or zs 0 x) same

pub same_tails : {X : Type 0} (x y : X) (xs ys : List X) → x ∷ xs ≡ y ∷ ys → xs ≡ ys
same_tails x y xs ys same = ap (λ zs. drop 1 zs) same

-- tests that answer alike find one place, or both none
pub found-map : {X Y : Type 0} (p : X → Bool) (q : Y → Bool) (f : X → Y) (xs : List X)
    → ((k : ℕ) (d : X) → k < length xs → p (get_or xs k d) ≡ q (f (get_or xs k d)))
    → (list_any p xs ≡ list_any q (map f xs)) × (position_or_len p xs ≡ position_or_len q (map f xs))
found-map p q f [] alike = (refl, refl)
found-map {X} p q f (x ∷ xs) alike =
    let rest = found-map p q f xs (λ k d within. alike (suc k) d (omega arith)) in (
      ap (λ (b : Bool). b || list_any p xs) (alike 0 x (omega arith)) ∙ ap (λ (b : Bool). q (f x) || b) rest.0,
      ap (λ (b : Bool). cond (not b) (1 + position_or_len p xs) 0) (alike 0 x (omega arith))
          ∙ ap (λ (n : ℕ). cond (not (q (f x))) (1 + n) 0) rest.1,
    )

-- what holds of each element holds of those of a front
pub all-front : {X : Type 0} (P : X → Type 0) (xs ys : List X) → All P (xs ++ ys) → All P xs
all-front P xs ys all k d within =
    let count = length-append xs ys in
    subst P (get_or_append_left xs ys d k within) (all k d (omega arith))

-- and of one that stands at a place
pub held-by : {X : Type 0} (P : X → Type 0) (xs : List X) (k : ℕ) (x : X) → slice_get xs k ≡ Some x → All P xs → P x
held-by P xs k x held all = subst P (get_or_from_slice_get xs k x x held) (all k x (slice_get_within xs k x held))
