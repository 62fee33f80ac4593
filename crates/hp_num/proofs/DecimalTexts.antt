-- What the texts that `decimal` writes are, and what `parsed_dec` makes of a text.
use Rattle.std.proofs.Common.{◌≡◌, ℕ, ◌+◌, ◌*◌, ◌^◌, ◌<◌, ◌≤◌, ◌&&◌, List, [], ◌∷◌, length, nat_lt, get_or, take}
use Rattle.std.proofs.Common.{decimal, refl, sym, ap, subst, ◌∙◌, arith, lt-ltb, ltb-true, Option, Some, None, All}
use Rattle.std.proofs.Common.{IsSome, ◌↔◌}
use Rattle.std.proofs.lemmas.Fmt.{decimal_is_IsNumeral, decimal_nonempty, length-decimal-le, decimal-digits_value}
use Rattle.std.proofs.lemmas.Int.Digits.{digits_value-lt, digits_value_more}
use Rattle.std.proofs.lemmas.List.Elements.{All-cons, All-nil, All-head, All-tail}
use Rattle.std.proofs.lemmas.Option.{cond_some}
use Rattle.std.proofs.lemmas.Str.{digit_value_digit}
use Rattle.std.proofs.lemmas.Str.Parse.{digit_from_value, digits_value-take-le, numerals_by_value, tells_digits}
use Rattle.std.specs.Char.{digit_value}
use Rattle.std.specs.Str.Parse.{AllDigits, digits_value}
use Rattle.hp_num.specs.DecText.{IsDecText, IsShortestDecText}
use Rattle.hp_num.specs.Digits.{IsDecimalDigit}
use Rattle.hp_num.specs.Numeral.{is_numeral}
use Rattle.hp_num.specs.ParsedDec.{parsed_dec}
use Rattle.hp_num.proofs.Numerals.{Numeral, and-true, numeral_test, numeral_is}

-- the bytes whose value is below 10 are the decimal digits
decimal_digits_from_values : (ds : List ℕ) → AllDigits 10 ds → All IsDecimalDigit ds
decimal_digits_from_values [] h = All-nil IsDecimalDigit
decimal_digits_from_values (d ∷ ds) h =
    All-cons IsDecimalDigit d ds (digit_from_value d h.0) (decimal_digits_from_values ds h.1)

-- and the other way
decimal_digits_values : (ds : List ℕ) → All IsDecimalDigit ds → AllDigits 10 ds
decimal_digits_values [] h = tt
decimal_digits_values (d ∷ ds) h =
    let digit = All-head IsDecimalDigit d ds h in
    (omega (arith, digit_value_digit d digit, digit), decimal_digits_values ds (All-tail IsDecimalDigit d ds h))

-- each byte that is written is a digit
pub all_decimal : (n : ℕ) → n < 2 ^ 64 → All IsDecimalDigit (decimal n)
all_decimal n small = decimal_digits_from_values (decimal n) (decimal_is_IsNumeral n small).0.1

-- there is a digit
pub not_empty : (n : ℕ) → n < 2 ^ 64 → 0 < length (decimal n)
not_empty n small = decimal_nonempty n small

-- 64 bits take at most 20 digits
pub at_most_20 : (n : ℕ) → n < 2 ^ 64 → length (decimal n) ≤ 20
at_most_20 n small = length-decimal-le 20 n (omega arith) (omega arith) small

-- a numeral of at most 20 digits whose number fits 64 bits has that number
pub parsed_numeral : (text : List ℕ) → Numeral 10 20 text → digits_value 10 text < 2 ^ 64
    → parsed_dec text ≡ Some (digits_value 10 text)
unfolding parsed_dec
parsed_numeral text h fits = rw (numeral_test 10 20 text h, lt-ltb (digits_value 10 text) (2 ^ 64) fits)

-- what a text that has a number is
pub parsed_is : (text : List ℕ) (n : ℕ) → parsed_dec text ≡ Some n
    → Numeral 10 20 text × (digits_value 10 text < 2 ^ 64) × (digits_value 10 text ≡ n)
unfolding parsed_dec
parsed_is text n h =
    let p = cond_some (is_numeral 10 20 text && nat_lt (digits_value 10 text) (2 ^ 64)) (digits_value 10 text) n h in
    let q = and-true (is_numeral 10 20 text) (nat_lt (digits_value 10 text) (2 ^ 64)) p.0 in
    (numeral_is 10 20 text q.0, ltb-true (digits_value 10 text) (2 ^ 64) q.1, p.1)

-- what is written reads back
pub reads_back : (n : ℕ) → n < 2 ^ 64 → parsed_dec (decimal n) ≡ Some n
reads_back n small =
    let k = decimal_is_IsNumeral n small in
    parsed_numeral (decimal n) (record {
      some = k.0.0;
      short = at_most_20 n small;
      digits = k.0.1;
    }) (omega (arith, k.1)) ∙ ap Some k.1

-- no text of the number is shorter
pub shortest : (n : ℕ) → n < 2 ^ 64 → (text : List ℕ) → parsed_dec text ≡ Some n → length (decimal n) ≤ length text
shortest n small text h =
    let p = parsed_is text n h in
    length-decimal-le (length text) n p.0.some
    (subst (λ v. v < 10 ^ length text) p.2 (digits_value-lt 10 text p.0.digits)) small

-- a text that has a number is a decimal text
pub dec_text_parsed : (text : List ℕ) (n : ℕ) → parsed_dec text ≡ Some n → IsDecText text
dec_text_parsed text n h =
    let p = parsed_is text n h in
    record {
      not_empty = p.0.some;
      at_most_20 = p.0.short;
      digits = decimal_digits_from_values text p.0.digits;
      fits = p.1;
    }

-- a text that is none has no number
pub not_parsed : (text : List ℕ) → (IsDecText text → ⊥) → parsed_dec text ≡ None
not_parsed text none = by (parsed_dec text) refl
  where
    by : (o : Option ℕ) → parsed_dec text ≡ o → parsed_dec text ≡ None
    by None e = e
    by (Some n) e = absurd (none (dec_text_parsed text n e))

-- no answer, where the text is none
pub not_taken : (text : List ℕ) (answer : Option ℕ) → answer ≡ None → (IsDecText text → ⊥)
    → IsSome answer ↔ IsDecText text
not_taken text answer e none =
    (λ some. absurd (let is : IsSome {T = ℕ} None = subst IsSome e some in cc), λ is. absurd (none is))

-- a shortest text that has a number is what is written of that number
pub written : (text : List ℕ) (n : ℕ) → parsed_dec text ≡ Some n → IsShortestDecText text → decimal n ≡ text
written text n h s =
    let p = parsed_is text n h in
    ap decimal (sym p.2)
    ∙ decimal-digits_value (numerals_by_value _ tells_digits) text p.0.digits p.0.some s.no_leading_zero p.1

-- a byte that is no digit makes it none
pub not_dec_text_at : (text : List ℕ) (i : ℕ) → i < length text → (digit_value (get_or text i 0) < 10 → ⊥)
    → IsDecText text → ⊥
not_dec_text_at text i h other is =
    let digit = is.digits i 0 h in other (omega (arith, digit_value_digit (get_or text i 0) digit, digit))

-- and so does a number of its front that does not fit
pub too_large_at : (text : List ℕ) (i : ℕ) → i < length text
    → 2 ^ 64 ≤ digits_value 10 (take i text) * 10 + digit_value (get_or text i 0) → IsDecText text → ⊥
too_large_at text i h large is =
    omega (arith, digits_value_more 10 text i h, digits_value-take-le 10 text (i + 1) (omega arith), is.fits)

-- what callers learn of the text of a number
pub ruleset decimal_text_laws = (not_empty, at_most_20, all_decimal, reads_back, shortest)
