-- What the test of a text's digits says.
use Rattle.std.proofs.Common.{◌≡◌, ℕ, ◌<◌, ◌≤◌, ◌&&◌, Bool, true, false, nat_lt, nat_le, List, [], ◌∷◌, length, refl}
use Rattle.std.proofs.Common.{lt-ltb, ltb-true, le-leb, leb-true}
use Rattle.std.specs.Char.{digit_value, is_digit}
use Rattle.std.specs.List.{list_all}
use Rattle.std.specs.Str.Parse.{AllDigits}
use Rattle.hp_num.specs.Numeral.{is_numeral}

-- both parts of a test that holds hold
pub and-true : (a b : Bool) → (a && b) ≡ true → (a ≡ true) × (b ≡ true)
and-true true true h = (refl, refl)
and-true true false h = absurd (cc)
and-true false b h = absurd (cc)

-- the test of each byte and the fact that each is a digit
list_all_from_digits : (base : ℕ) (ds : List ℕ) → AllDigits base ds → list_all (λ b. is_digit b base) ds ≡ true
list_all_from_digits base [] h = refl
list_all_from_digits base (d ∷ ds) h = rw (lt-ltb (digit_value d) base h.0) (list_all_from_digits base ds h.1)

-- and the other way
digits_from_list_all : (base : ℕ) (ds : List ℕ) → list_all (λ b. is_digit b base) ds ≡ true → AllDigits base ds
digits_from_list_all base [] h = tt
digits_from_list_all base (d ∷ ds) h =
    let p = and-true (is_digit d base) (list_all (λ b. is_digit b base) ds) h in
    (ltb-true (digit_value d) base p.0, digits_from_list_all base ds p.1)

-- what a numeral of at most `most` digits is
pub record Numeral (base most : ℕ) (text : List ℕ) : Type 0 where
  pub some : 0 < length text
  pub short : length text ≤ most
  pub digits : AllDigits base text

-- a numeral meets the test
pub numeral_test : (base most : ℕ) (text : List ℕ) → Numeral base most text → is_numeral base most text ≡ true
numeral_test base most text h =
    rw (lt-ltb 0 (length text) h.some, le-leb (length text) most h.short) (list_all_from_digits base text h.digits)

-- what meets the test is a numeral
pub numeral_is : (base most : ℕ) (text : List ℕ) → is_numeral base most text ≡ true → Numeral base most text
numeral_is base most text h =
    let front =
    and-true (nat_lt 0 (length text) && nat_le (length text) most) (list_all (λ b. is_digit b base) text) h in
    let bounds = and-true (nat_lt 0 (length text)) (nat_le (length text) most) front.0 in
    record {
      some = ltb-true 0 (length text) bounds.0;
      short = leb-true (length text) most bounds.1;
      digits = digits_from_list_all base text front.1;
    }
