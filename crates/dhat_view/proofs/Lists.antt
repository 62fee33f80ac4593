-- Lemmas on lists as a loop goes through them.
use Rattle.std.proofs.Common.{◌≡◌, ℕ, ◌+◌, List, [], ◌∷◌, ◌++◌, map, take, Some, ap, ◌∙◌, subst, append_assoc}
use Rattle.std.specs.Prelude.{All, slice_get}
use Rattle.std.proofs.lemmas.List.{map_push, take_more}
use Rattle.std.proofs.lemmas.Option.{get_or_from_slice_get, slice_get_within}
use Rattle.dhat_view.specs.Numbers.{LastGains}

-- one element more
pub take-next : {X : Type 0} (xs : List X) (k : ℕ) (x : X) → slice_get xs k ≡ Some x
    → take (k + 1) xs ≡ take k xs ++ x ∷ []
take-next {X} xs k x held =
    take_more xs k x (slice_get_within xs k x held)
    ∙ ap (λ (y : X). take k xs ++ y ∷ []) (get_or_from_slice_get xs k x x held)

pub map-next : {X Y : Type 0} (f : X → Y) (xs : List X) (k : ℕ) (x : X) → slice_get xs k ≡ Some x
    → map f (take (k + 1) xs) ≡ map f (take k xs) ++ f x ∷ []
map-next f xs k x held = ap (λ ys. map f ys) (take-next xs k x held) ∙ map_push f (take k xs) x

-- numbers come to the end of the last list one by one
pub gains-more : (old now new : List (List ℕ)) (numbers : List ℕ) (number : ℕ) → LastGains old numbers now
    → LastGains now (number ∷ []) new → LastGains old (numbers ++ number ∷ []) new
gains-more old now new numbers number before more = λ earlier last is.
    more earlier (last ++ numbers) (before earlier last is)
    ∙ ap (λ (all : List ℕ). earlier ++ all ∷ []) (append_assoc last numbers (number ∷ []))

-- a list of lists with one more, whose numbers came one by one
pub lists-more : (lists begun new : List (List ℕ)) (numbers : List ℕ) → begun ≡ lists ++ [] ∷ []
    → LastGains begun numbers new → new ≡ lists ++ numbers ∷ []
lists-more lists begun new numbers is gains = gains lists [] is

-- what is held by each element is held by one
pub held-by : {X : Type 0} (P : X → Type 0) (xs : List X) (k : ℕ) (x : X) → slice_get xs k ≡ Some x → All P xs → P x
held-by P xs k x held all = subst P (get_or_from_slice_get xs k x x held) (all k x (slice_get_within xs k x held))
