-- What the texts that `hexadecimal` writes are, and what `parsed_hex` makes of a text.
use Rattle.std.proofs.Common.{◌≡◌, ℕ, zero, suc, ◌+◌, ◌-◌, ◌*◌, ◌/◌, ◌%◌, ◌^◌, ◌<◌, ◌≤◌, Bool, true, false, cond}
use Rattle.std.proofs.Common.{nat_lt, List, [], ◌∷◌, ◌++◌, length, get_or, refl, sym, ap, subst, ◌∙◌, inl, inr}
use Rattle.std.proofs.Common.{append_assoc, append-nil, arith, lt-ltb, ltb-true, ltb-false, le-ltb, take, length-take}
use Rattle.std.proofs.Common.{Option, Some, None, All}
use Rattle.std.proofs.lemmas.Bool.Decides.{nat_tests}
use Rattle.std.proofs.lemmas.Fmt.{digits_is_IsNumeral}
use Rattle.std.proofs.lemmas.List.Elements.{All-push, All-cons, All-nil, All-head, All-tail}
use Rattle.std.proofs.lemmas.Int.Digits.{digits_value-lt}
use Rattle.std.proofs.Math.Nat.{pow-le-pow_right}
use Rattle.std.proofs.lemmas.Option.{cond_some}
use Rattle.std.specs.Char.{digit_value}
use Rattle.std.specs.Fmt.{digit_glyph}
use Rattle.std.specs.Str.Parse.{AllDigits, digits_value, digits_value_after, IsNumeral}
use Rattle.hp_num.specs.Digits.{IsHexDigit, IsLowerHexDigit}
use Rattle.hp_num.specs.HexText.{IsHexText, IsShortestHexText}
use Rattle.hp_num.specs.Hexadecimal.{hexadecimal}
use Rattle.hp_num.specs.Numeral.{is_numeral}
use Rattle.hp_num.specs.ParsedHex.{parsed_hex}
use Rattle.hp_num.proofs.Numerals.{Numeral, numeral_test, numeral_is}
use Rattle.hp_num.proofs.HexSteps.{last_digit, hexadecimal_digit, hexadecimal_step, hexadecimal_by_steps}
use Rattle.hp_num.proofs.HexSteps.{length-hexadecimal-le}

-- a digit below 16 is written by '0' to '9' or 'a' to 'f'
glyph_lower : (d : ℕ) → d < 16 → IsLowerHexDigit (digit_glyph false d)
glyph_lower d small = by (nat_lt d 10) refl
  where
    by : (t : Bool) → nat_lt d 10 ≡ t → IsLowerHexDigit (cond t (48 + d) (87 + d))
    by true e = let l = ltb-true d 10 e in inl (omega arith, omega arith)
    by false e = let l = ltb-false d 10 e in inr (omega arith, omega arith)

-- each digit that is written is in lower case
pub all_lower : (n : ℕ) → n < 2 ^ 64 → All IsLowerHexDigit (hexadecimal n)
all_lower = hexadecimal_by_steps (λ m ds. All IsLowerHexDigit ds)
    (λ m l. All-cons IsLowerHexDigit (digit_glyph false m) [] (glyph_lower m l) (All-nil IsLowerHexDigit))
    (λ m ds l h. All-push IsLowerHexDigit ds (last_digit m) h (glyph_lower (m % 16) (omega arith)))

-- 64 bits take at most 16 digits
pub at_most_16 : (n : ℕ) → n < 2 ^ 64 → length (hexadecimal n) ≤ 16
at_most_16 n small = length-hexadecimal-le 16 n (omega arith) (omega arith) small

-- the digits that are written have the number as their value
numeral : (n : ℕ) → n < 2 ^ 64 → IsNumeral 16 (hexadecimal n) × (digits_value 16 (hexadecimal n) ≡ n)
numeral n small = digits_is_IsNumeral 16 false (omega arith) (omega arith) n (omega arith)

-- there is a digit
pub not_empty : (n : ℕ) → n < 2 ^ 64 → 0 < length (hexadecimal n)
not_empty n small = (numeral n small).0.0

-- a numeral of at most 16 digits has a number
pub parsed_numeral : (text : List ℕ) → Numeral 16 16 text → parsed_hex text ≡ Some (digits_value 16 text)
unfolding parsed_hex
parsed_numeral text h = rw (numeral_test 16 16 text h)

-- what is written reads back
pub reads_back : (n : ℕ) → n < 2 ^ 64 → parsed_hex (hexadecimal n) ≡ Some n
reads_back n small =
    let k = numeral n small in
    parsed_numeral (hexadecimal n) (record {
      some = k.0.0;
      short = at_most_16 n small;
      digits = k.0.1;
    }) ∙ ap Some k.1

-- what a text that has a number is
parsed_is : (text : List ℕ) (n : ℕ) → parsed_hex text ≡ Some n → Numeral 16 16 text × (digits_value 16 text ≡ n)
unfolding parsed_hex
parsed_is text n h =
    let p = cond_some (is_numeral 16 16 text) (digits_value 16 text) n h in (numeral_is 16 16 text p.0, p.1)

-- no text of the number is shorter
pub shortest : (n : ℕ) → n < 2 ^ 64 → (text : List ℕ) → parsed_hex text ≡ Some n → length (hexadecimal n) ≤ length text
shortest n small text h =
    let p = parsed_is text n h in
    length-hexadecimal-le (length text) n p.0.some
    (subst (λ v. v < 16 ^ length text) p.1 (digits_value-lt 16 text p.0.digits)) small

-- the bytes whose value is below 16 are the hexadecimal digits
hex_digit_from_value : (b : ℕ) → digit_value b < 16 → IsHexDigit b
hex_digit_from_value b =
    by (nat_lt b 48) (nat_lt b 58) (nat_lt b 65) (nat_lt b 91) (nat_lt b 97) (nat_lt b 123) refl refl refl refl refl
    refl
  where
    by : (t u v w x y : Bool) → nat_lt b 48 ≡ t → nat_lt b 58 ≡ u → nat_lt b 65 ≡ v → nat_lt b 91 ≡ w → nat_lt b 97 ≡ x
        → nat_lt b 123 ≡ y
        → cond t 36 (cond u (b - 48) (cond v 36 (cond w (b - 55) (cond x 36 (cond y (b - 87) 36))))) < 16 → IsHexDigit b
    by true u v w x y a e f g h i l = absurd (omega arith)
    by false true v w x y a e f g h i l =
        let p = ltb-false b 48 a in let q = ltb-true b 58 e in inl (omega arith, omega arith)
    by false false true w x y a e f g h i l = absurd (omega arith)
    by false false false true x y a e f g h i l = let p = ltb-false b 65 f in inr (inr (omega arith, omega arith))
    by false false false false true y a e f g h i l = absurd (omega arith)
    by false false false false false true a e f g h i l =
        let p = ltb-false b 97 h in inr (inl (omega arith, omega arith))
    by false false false false false false a e f g h i l = absurd (omega arith)

-- and the other way
hex_digit_value : (b : ℕ) → IsHexDigit b → digit_value b < 16
hex_digit_value b (inl r) = grind (arith, nat_tests)
hex_digit_value b (inr (inl r)) = grind (arith, nat_tests)
hex_digit_value b (inr (inr r)) = grind (arith, nat_tests)

-- the same of a list of bytes
hex_digits_from_values : (ds : List ℕ) → AllDigits 16 ds → All IsHexDigit ds
hex_digits_from_values [] h = All-nil IsHexDigit
hex_digits_from_values (d ∷ ds) h =
    All-cons IsHexDigit d ds (hex_digit_from_value d h.0) (hex_digits_from_values ds h.1)

-- and the other way
hex_digits_values : (ds : List ℕ) → All IsHexDigit ds → AllDigits 16 ds
hex_digits_values [] h = tt
hex_digits_values (d ∷ ds) h =
    (hex_digit_value d (All-head IsHexDigit d ds h), hex_digits_values ds (All-tail IsHexDigit d ds h))

-- a text that has a number is a hexadecimal text
pub hex_text_parsed : (text : List ℕ) (n : ℕ) → parsed_hex text ≡ Some n → IsHexText text
hex_text_parsed text n h =
    let p = parsed_is text n h in
    record {
      not_empty = p.0.some;
      at_most_16 = p.0.short;
      digits = hex_digits_from_values text p.0.digits;
    }

-- a digit in lower case is what is written of its value
lower_glyph : (b : ℕ) → IsLowerHexDigit b → (digit_value b < 16) × (digit_glyph false (digit_value b) ≡ b)
lower_glyph b (inl r) =
    let v : digit_value b ≡ b - 48 = grind (arith, nat_tests) in
    (omega arith, rw (v, lt-ltb (b - 48) 10 (omega arith)) (omega arith))
lower_glyph b (inr r) =
    let v : digit_value b ≡ b - 87 = grind (arith, nat_tests) in
    (omega arith, rw (v, le-ltb (b - 87) 10 (omega arith)) (omega arith))

-- further digits do not make the value smaller
le_value_after : (n : ℕ) (ds : List ℕ) → n ≤ digits_value_after 16 n ds
le_value_after n [] = omega arith
le_value_after n (c ∷ cs) = omega (arith, le_value_after (n * 16 + digit_value c) cs)

-- digits in lower case that follow those of a number are the end of the text of the whole
hexadecimal_value_after : (n : ℕ) (ds : List ℕ) → 0 < n → All IsLowerHexDigit ds → digits_value_after 16 n ds < 2 ^ 64
    → hexadecimal (digits_value_after 16 n ds) ≡ hexadecimal n ++ ds
hexadecimal_value_after n [] some d small = sym (append-nil (hexadecimal n))
hexadecimal_value_after n (c ∷ cs) some d small =
    let m : ℕ = n * 16 + digit_value c in
    let k = lower_glyph c (All-head IsLowerHexDigit c cs d) in
    let front : m / 16 ≡ n = omega (arith, k.0) in
    let low : m % 16 ≡ digit_value c = omega (arith, k.0) in
    let end : last_digit m ≡ c = ap (digit_glyph false) low ∙ k.1 in
    hexadecimal_value_after m cs (omega arith) (All-tail IsLowerHexDigit c cs d) small
    ∙ ap (λ x. x ++ cs)
    (hexadecimal_step m (omega arith) (omega (arith, le_value_after m cs))
    ∙ (λ i. hexadecimal (front i) ++ (end i ∷ [])))
    ∙ append_assoc (hexadecimal n) (c ∷ []) cs

-- lower-case digits with no leading zero, or just '0', are what is written of their value
pub hexadecimal_value : (ds : List ℕ) → 0 < length ds → IsShortestHexText ds → digits_value 16 ds < 2 ^ 64
    → hexadecimal (digits_value 16 ds) ≡ ds
hexadecimal_value [] some s small = absurd (omega arith)
hexadecimal_value (c ∷ []) some s small =
    let k = lower_glyph c (All-head IsLowerHexDigit c [] s.lower_case) in
    hexadecimal_digit (0 * 16 + digit_value c) (omega (arith, k.0))
    ∙ ap (λ x. x ∷ []) (ap (digit_glyph false) {x = 0 * 16 + digit_value c} {y = digit_value c} (omega arith) ∙ k.1)
hexadecimal_value (c ∷ e ∷ cs) some s small =
    let k = lower_glyph c (All-head IsLowerHexDigit c (e ∷ cs) s.lower_case) in
    let nonzero : 0 < 0 * 16 + digit_value c = first_nonzero c k (λ z. omega (arith, s.no_leading_zero z)) in
    hexadecimal_value_after (0 * 16 + digit_value c) (e ∷ cs) nonzero (All-tail IsLowerHexDigit c (e ∷ cs) s.lower_case)
    small
    ∙ ap (λ x. x ++ (e ∷ cs))
    (hexadecimal_digit (0 * 16 + digit_value c) (omega (arith, k.0))
    ∙ ap (λ x. x ∷ []) (ap (digit_glyph false) {x = 0 * 16 + digit_value c} {y = digit_value c} (omega arith) ∙ k.1))
  where
    first_nonzero : (c : ℕ) → (digit_value c < 16) × (digit_glyph false (digit_value c) ≡ c) → (c ≡ 48 → ⊥)
        → 0 < 0 * 16 + digit_value c
    first_nonzero c k other = by (digit_value c) refl
      where
        by : (v : ℕ) → digit_value c ≡ v → 0 < 0 * 16 + digit_value c
        by zero z = absurd (other (sym k.1 ∙ ap (digit_glyph false) z))
        by (suc v) z = omega arith

-- a shortest text that has a number is what is written of that number
pub written : (text : List ℕ) (n : ℕ) → n < 2 ^ 64 → parsed_hex text ≡ Some n → IsShortestHexText text
    → hexadecimal n ≡ text
written text n small h s =
    let p = parsed_is text n h in
    ap hexadecimal (sym p.1) ∙ hexadecimal_value text p.0.some s (omega (arith, p.1))

-- a text that is none has no number
pub not_parsed : (text : List ℕ) → (IsHexText text → ⊥) → parsed_hex text ≡ None
not_parsed text none = by (parsed_hex text) refl
  where
    by : (o : Option ℕ) → parsed_hex text ≡ o → parsed_hex text ≡ None
    by None e = e
    by (Some n) e = absurd (none (hex_text_parsed text n e))

-- a byte that is no digit makes it none
pub not_hex_text_at : (text : List ℕ) (i : ℕ) → i < length text → (digit_value (get_or text i 0) < 16 → ⊥)
    → IsHexText text → ⊥
not_hex_text_at text i h other is = other (hex_digit_value (get_or text i 0) (is.digits i 0 h))

-- one more digit fits 64 bits after at most 15 of them
pub room_for_digit : (text : List ℕ) (i : ℕ) → i < length text → length text ≤ 16 → AllDigits 16 (take i text)
    → digits_value 16 (take i text) * 16 + 15 < 2 ^ 64
room_for_digit text i before short h =
    let upto : 16 ^ length (take i text) ≤ 16 ^ 15 =
    pow-le-pow_right {n = 16} (omega arith) {i = length (take i text)} {j = 15} (omega (arith, length-take i text)) in
    omega (arith, digits_value-lt 16 (take i text) h, upto)

-- what callers learn of the text of a number
pub ruleset hex_text_laws = (not_empty, at_most_16, all_lower, reads_back, shortest)
