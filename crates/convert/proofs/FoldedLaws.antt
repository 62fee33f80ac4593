-- What folded lines are.
use Rattle.std.proofs.Common.{◌≡◌, ℕ, zero, suc, ◌<◌, inl, inr, Bool, true, false, List, [], ◌∷◌, map, Some, refl, sym}
use Rattle.std.proofs.Common.{ap, ◌∙◌, subst, arith}
use Rattle.std.specs.Prelude.{slice_get}
use Rattle.std.specs.List.{list_any}
use Rattle.std.specs.Option.{option_map}
use Rattle.std.proofs.lemmas.Bool.{cases_order}
use Rattle.std.proofs.lemmas.Map.Views.{Contains-from_any}
use Rattle.std.proofs.lemmas.Option.{none-some, same_Some, slice_get-get_or, slice_get-map, slice_get_within}
use Rattle.std.proofs.lemmas.Option.{get_or_from_slice_get}
use Rattle.cost_tree.specs.Costed.{Costed}
use Rattle.cost_tree.specs.Inclusive.{is_front, own}
use Rattle.convert.specs.AreFolded.{AreFolded}
use Rattle.convert.specs.Folded.{folded_lists, folded_sums}
use Rattle.convert.proofs.Folding.{is_front-Decides, lists-distinct, lists-some, own-none}

-- the line of a list
abbrev line_of : List Costed → List (List ℕ) → Costed
line_of items list = record { texts = list; cost = own list items }

-- an element of a list that is mapped is made of one of the list
from-map : {X Y : Type 0} (f : X → Y) (xs : List X) (n : ℕ) (y : Y) → slice_get (map f xs) n ≡ Some y
    → (x : X) × (slice_get xs n ≡ Some x) × (f x ≡ y)
from-map f [] n y at = absurd (none-some y at)
from-map f (x ∷ xs) zero y at = (x, refl, same_Some (f x) y at)
from-map f (x ∷ xs) (suc n) y at = from-map f xs n y at

-- the list of a line is one of the items' lists
from-line : (items : List Costed) (n : ℕ) (line : Costed) → slice_get (folded_sums items) n ≡ Some line
    → (slice_get (folded_lists items) n ≡ Some line.texts) × (own line.texts items ≡ line.cost)
unfolding folded_sums
from-line items n line at =
    let from = from-map (line_of items) (folded_lists items) n line at in
    let texts : from.0 ≡ line.texts = ap (λ (l : Costed). l.texts) from.2 in (
      from.1 ∙ ap (λ (l : List (List ℕ)). Some l) texts,
      ap (λ (l : List (List ℕ)). own l items) (sym texts) ∙ ap (λ (l : Costed). l.cost) from.2,
    )

pub are-folded : (items : List Costed) → AreFolded items (folded_sums items)
unfolding folded_sums
are-folded items = record {
  sum = λ n line at. sym (from-line items n line at).1;
  more_than_0 = λ n line at.
      let from = from-line items n line at in
      let within = slice_get_within (folded_lists items) n line.texts from.0 in
      let some = lists-some items n line.texts within in
      let here = get_or_from_slice_get (folded_lists items) n line.texts line.texts from.0 in
      subst (λ (k : ℕ). 0 < k) (ap (λ (l : List (List ℕ)). own l items) here ∙ from.1) some;
  all = λ list some. all list some (list_any (is_front list) (folded_lists items)) refl;
  once = λ m n line other at_m at_n same.
      let F = folded_lists items in
      let m_is = (from-line items m line at_m).0 in
      let n_is = (from-line items n other at_n).0 in
      let m_in = slice_get_within F m line.texts m_is in
      let n_in = slice_get_within F n other.texts n_is in
      let m_list = get_or_from_slice_get F m line.texts line.texts m_is in
      let n_list = get_or_from_slice_get F n other.texts line.texts n_is in
      elim (cases_order m n) [
        | inl e ↦ e
        | inr order ↦ elim order [
          | inl below ↦ absurd (lists-distinct items m n line.texts below n_in (m_list ∙ same ∙ sym n_list))
          | inr above ↦ absurd (lists-distinct items n m line.texts above m_in (n_list ∙ sym same ∙ sym m_list))
        ]
      ];
}
  where
    all : (list : List (List ℕ)) → 0 < own list items → (b : Bool) → list_any (is_front list) (folded_lists items) ≡ b
        → (n : ℕ) × (slice_get (folded_sums items) n ≡ Some (line_of items list))
    all list some true held =
        let F = folded_lists items in
        let place = Contains-from_any {eq = is_front} (λ x y. (is_front-Decides x y).0) list F held in (
          place.0,
          slice_get-map (line_of items) F place.0
              ∙ ap (option_map (line_of items))
              (slice_get-get_or F place.0 list place.1 ∙ ap (λ (l : List (List ℕ)). Some l) place.2),
        )
    all list some false none = let nothing = own-none list items none in absurd (omega arith)
