-- The places of texts in a table that grows.
use Rattle.std.proofs.Common.{◌≡◌, ℕ, ◌+◌, ◌<◌, List, [], ◌∷◌, ◌++◌, length, take, Some, None, ap, ◌∙◌, sym, arith}
use Rattle.std.proofs.Common.{append_assoc, append-nil}
use Rattle.std.specs.Prelude.{Option, position, slice_get, unwrap_or}
use Rattle.std.specs.Option.{option_map}
use Rattle.std.specs.Str.{bytes_eq}
use Rattle.intern_tables.specs.Numbers.{number_of}
use Rattle.intern_tables.specs.WithoutRepeats.{without_repeats}
use Rattle.std.proofs.lemmas.List.{take_more}
use Rattle.std.proofs.lemmas.List.Folds.{list_any_at}
use Rattle.std.proofs.lemmas.List.Quantifiers.{position-Some}
use Rattle.std.proofs.lemmas.Option.{get_or_from_slice_get, slice_get_within}
use Rattle.dhat_trace.specs.FrameTable.{AddsTexts, Keeps, place_in}
use Rattle.dhat_trace.proofs.Repeats.{repeated}

-- the place under a number
place_under : (found : Option ℕ) (place : ℕ) → option_map (λ p. p + 1) found ≡ Some (place + 1) → found ≡ Some place
place_under None place is = cc
place_under (Some found) place is =
    let same : found + 1 ≡ place + 1 = cc in
    ap Some (omega (arith, same))

place_found : (table : List (List ℕ)) (text : List ℕ) (place : ℕ) → number_of table text ≡ Some (place + 1)
    → position (bytes_eq text) table ≡ Some place
unfolding number_of
place_found table text place is = place_under (position (bytes_eq text) table) place is

pub place_is : (table : List (List ℕ)) (text : List ℕ) (place : ℕ) → number_of table text ≡ Some (place + 1)
    → place_in table text ≡ place
place_is table text place is = ap (λ (found : Option ℕ). unwrap_or found 0) (place_found table text place is)

pub place_within : (table : List (List ℕ)) (text : List ℕ) (place : ℕ) → number_of table text ≡ Some (place + 1)
    → place < length table
place_within table text place is = (position-Some (bytes_eq text) table place [] (place_found table text place is)).0

-- tables that keep places, one after another
pub keeps_later : (one next later : List (List ℕ)) → Keeps one next → Keeps next later → Keeps one later
keeps_later one next later first second = λ text number is. second text number (first text number is)

-- no text, and texts behind others
pub adds_none : (table : List (List ℕ)) → AddsTexts table [] table
adds_none table = record {
  first_places = λ came is. is ∙ ap (without_repeats bytes_eq) (sym (append-nil came));
  keeps = λ text number is. is;
}

pub adds_more : (old one new : List (List ℕ)) (texts more : List (List ℕ)) → AddsTexts old texts one
    → AddsTexts one more new → AddsTexts old (texts ++ more) new
adds_more old one new texts more first second = record {
  first_places =
      λ came is. second.first_places (came ++ texts) (first.first_places came is)
      ∙ ap (without_repeats bytes_eq) (append_assoc came texts more);
  keeps = keeps_later old one new first.keeps second.keeps;
}

-- a text that the table has
pub adds_again : (table : List (List ℕ)) (text : List ℕ) (place : ℕ) → number_of table text ≡ Some (place + 1)
    → AddsTexts table (text ∷ []) table
adds_again table text place is =
    let there = position-Some (bytes_eq text) table place [] (place_found table text place is) in
    record {
      first_places =
          λ came same. repeated table came text (list_any_at (bytes_eq text) table place [] there.0 there.1) same;
      keeps = λ other number held. held;
    }

-- one element more
pub take-next : {X : Type 0} (xs : List X) (k : ℕ) (x : X) → slice_get xs k ≡ Some x
    → take (k + 1) xs ≡ take k xs ++ x ∷ []
take-next {X} xs k x held =
    take_more xs k x (slice_get_within xs k x held)
    ∙ ap (λ (y : X). take k xs ++ y ∷ []) (get_or_from_slice_get xs k x x held)
