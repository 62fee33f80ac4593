-- What `parsed_percent` makes of a text, by what `parsed_dec` makes of its parts.
use Rattle.std.proofs.Common.{◌≡◌, ℕ, ◌+◌, ◌-◌, ◌*◌, ◌^◌, ◌<◌, ◌≤◌, Bool, true, false, List, [], ◌∷◌, length, take}
use Rattle.std.proofs.Common.{drop, nat_le, refl, sym, ap, ◌∙◌, arith, Option, Some, None, if◌then◌else◌, ne_eqb}
use Rattle.std.proofs.Common.{take_all, length-take, length-drop, IfSome, All, ◌≢◌, slice_index, get_or, eq-eqb, ◌==◌}
use Rattle.std.proofs.lemmas.Int.Digits.{digits_value-lt}
use Rattle.std.proofs.lemmas.List.{take-append-le, get_or-take}
use Rattle.std.proofs.lemmas.List.Sums.{position_or_len_is}
use Rattle.std.proofs.lemmas.Option.{cond_some}
use Rattle.std.proofs.Math.Nat.{pow-le-pow_right}
use Rattle.std.specs.Str.Parse.{digits_value}
use Rattle.hp_num.specs.Numeral.{is_numeral}
use Rattle.hp_num.specs.ParsedDec.{parsed_dec}
use Rattle.hp_num.specs.ParsedPercent.{parsed_percent, percent_of_parts, is_fraction, fraction_value, whole_len}
use Rattle.hp_num.proofs.DecimalTexts.{parsed_numeral, parsed_is}
use Rattle.hp_num.proofs.Numerals.{Numeral, numeral_test, numeral_is}

-- the number of at most 3 digits is small
value_small : (text : List ℕ) (most : ℕ) → Numeral 10 most text → digits_value 10 text < 10 ^ most
value_small text most h =
    omega (
      arith,
      digits_value-lt 10 text h.digits,
      pow-le-pow_right {n = 10} (omega arith) {i = length text} {j = most} h.short,
    )

-- of a short text `parsed_dec` says whether it is a numeral
parsed_short : (most : ℕ) (text : List ℕ) → most ≤ 3 → length text ≤ most
    → parsed_dec text ≡ (if is_numeral 10 most text then Some (digits_value 10 text) else None)
parsed_short most text few short = by (is_numeral 10 most text) refl
  where
    none : is_numeral 10 most text ≡ false → (o : Option ℕ) → parsed_dec text ≡ o → parsed_dec text ≡ None
    none e None p = p
    none e (Some n) p =
        let h = (parsed_is text n p).0 in
        let is : is_numeral 10 most text ≡ true = numeral_test 10 most text (record {
          some = h.some;
          short = short;
          digits = h.digits;
        }) in
        absurd cc

    by : (t : Bool) → is_numeral 10 most text ≡ t → parsed_dec text ≡ (if t then Some (digits_value 10 text) else None)
    by true e =
        let h = numeral_is 10 most text e in
        parsed_numeral text (record {
          some = h.some;
          short = omega arith;
          digits = h.digits;
        }) (omega (arith, value_small text most h, pow-le-pow_right {n = 10} (omega arith) {i = most} {j = 3} few))
    by false e = none e (parsed_dec text) refl

-- an answer that is none, by its test
test_false : (t : Bool) (n : ℕ) → (if t then Some n else None) ≡ None → t ≡ false
test_false true n e = absurd cc
test_false false n e = refl

-- the part after a whole one is one or two digits and a byte before them, or none
module _ (rest : List ℕ) (some : 2 ≤ length rest) (few : length rest ≤ 3) where
  parsed_digits : (if is_fraction rest then Some (digits_value 10 (drop 1 rest)) else None)
      ≡ parsed_dec (take (length rest - 1) (drop 1 rest))
  parsed_digits =
      let cut : length (drop 1 rest) ≤ length rest - 1 = omega (arith, length-drop 1 rest) in
      let short : length (drop 1 rest) ≤ 2 = omega (arith, length-drop 1 rest) in
      rw (ne_eqb (length rest) 0 (λ e. omega arith), take_all (length rest - 1) (drop 1 rest) cut)
      (sym (parsed_short 2 (drop 1 rest) (omega arith) short))

  -- digits that are no number are no part
  pub no_fraction : parsed_dec (take (length rest - 1) (drop 1 rest)) ≡ None
      → (if is_fraction rest then Some (fraction_value rest) else None) ≡ None
  no_fraction none = rw (test_false (is_fraction rest) (digits_value 10 (drop 1 rest)) (parsed_digits ∙ none))

  -- digits that are one are a part
  pub some_fraction : (n : ℕ) → parsed_dec (take (length rest - 1) (drop 1 rest)) ≡ Some n
      → (is_fraction rest ≡ true) × (digits_value 10 (drop 1 rest) ≡ n)
  some_fraction n is = cond_some (is_fraction rest) (digits_value 10 (drop 1 rest)) n (parsed_digits ∙ is)

-- one digit counts tenths
tenths : (rest : List ℕ) → length rest ≡ 2 → fraction_value rest ≡ digits_value 10 (drop 1 rest) * 10
tenths [] e = absurd (omega (arith, e))
tenths (point ∷ []) e = absurd (omega (arith, e))
tenths (point ∷ digit ∷ []) e = omega arith
tenths (point ∷ digit ∷ more ∷ bytes) e = absurd (omega (arith, e))

-- two digits count hundredths
hundredths : (rest : List ℕ) → length rest ≡ 3 → fraction_value rest ≡ digits_value 10 (drop 1 rest)
hundredths rest e =
    let exact : length (drop 1 rest) ≡ 2 = omega (arith, e, length-drop 1 rest) in
    ap (digits_value 10)
    (take-append-le 2 (drop 1 rest) (48 ∷ 48 ∷ []) (omega (arith, exact))
    ∙ take_all 2 (drop 1 rest) (omega (arith, exact)))

-- what one digit that is a number gives
pub one_digit : (rest : List ℕ) (n : ℕ) → length rest ≡ 2 → parsed_dec (take (length rest - 1) (drop 1 rest)) ≡ Some n
    → Some (n * 10) ≡ (if is_fraction rest then Some (fraction_value rest) else None)
one_digit rest n e is =
    let p = some_fraction rest (omega (arith, e)) (omega (arith, e)) n is in
    rw (p.0, tenths rest e, p.1)

-- what two digits give
pub two_digits : (rest : List ℕ) → length rest ≡ 3
    → parsed_dec (take (length rest - 1) (drop 1 rest))
    ≡ (if is_fraction rest then Some (fraction_value rest) else None)
two_digits rest e = rw (hundredths rest e) (sym (parsed_digits rest (omega (arith, e)) (omega (arith, e))))

-- a number of few digits
pub few_digits : (rest : List ℕ) (n : ℕ) → 2 ≤ length rest → length rest ≤ 3
    → parsed_dec (take (length rest - 1) (drop 1 rest)) ≡ Some n → n < 10 ^ (length rest - 1)
few_digits rest n some few is =
    let h = parsed_is (take (length rest - 1) (drop 1 rest)) n is in
    omega (
      arith,
      h.2,
      digits_value-lt 10 (take (length rest - 1) (drop 1 rest)) h.0.digits,
      pow-le-pow_right {n = 10} (omega arith) {i = length (take (length rest - 1) (drop 1 rest))} {j = length rest - 1}
          (omega (arith, length-take (length rest - 1) (drop 1 rest), length-drop 1 rest)),
    )

-- two digits are below 100
pub two_digits_small : (rest : List ℕ) → length rest ≡ 3 → (o : Option ℕ)
    → o ≡ parsed_dec (take (length rest - 1) (drop 1 rest)) → IfSome o (λ n. n < 100)
two_digits_small rest e None is = tt
two_digits_small rest e (Some n) is =
    let places : length rest - 1 ≡ 2 = omega (arith, e) in
    let small = few_digits rest n (omega (arith, e)) (omega (arith, e)) (sym is) in
    omega (arith, rw places at small)

-- a whole part is at most 3 digits
module _ (text rest : List ℕ) (point : ℕ) (within : point ≤ length text) where
  -- a longer one is none
  pub long_whole : 3 < point → percent_of_parts (take point text) rest ≡ None
  long_whole long = rw (test (is_numeral 10 3 (take point text)) refl)
    where
      test : (t : Bool) → is_numeral 10 3 (take point text) ≡ t → is_numeral 10 3 (take point text) ≡ false
      test true e =
          let h = numeral_is 10 3 (take point text) e in absurd (omega (arith, h.short, length-take point text))
      test false e = e

  module _ (few : point ≤ 3) where
    parsed_whole : (if is_numeral 10 3 (take point text) then Some (digits_value 10 (take point text)) else None)
        ≡ parsed_dec (take point text)
    parsed_whole = sym (parsed_short 3 (take point text) (omega arith) (omega (arith, length-take point text)))

    -- and so is one that is no number
    pub no_whole : parsed_dec (take point text) ≡ None → percent_of_parts (take point text) rest ≡ None
    no_whole none =
        rw (test_false (is_numeral 10 3 (take point text)) (digits_value 10 (take point text)) (parsed_whole ∙ none))

    module _ (n : ℕ) (is : parsed_dec (take point text) ≡ Some n) where
      -- a number of 3 digits
      pub whole_small : n < 1000
      whole_small =
          let p =
          cond_some (is_numeral 10 3 (take point text)) (digits_value 10 (take point text)) n (parsed_whole ∙ is) in
          omega (arith, p.1, value_small (take point text) 3 (numeral_is 10 3 (take point text) p.0))

      -- with no number after it
      pub no_rest : (if is_fraction rest then Some (fraction_value rest) else None) ≡ None
          → percent_of_parts (take point text) rest ≡ None
      no_rest none =
          let p =
          cond_some (is_numeral 10 3 (take point text)) (digits_value 10 (take point text)) n (parsed_whole ∙ is) in
          rw (p.0, test_false (is_fraction rest) (fraction_value rest) none)

      -- with one, their sum is the answer where it is at most the whole
      pub both_parts : (f : ℕ) → (if is_fraction rest then Some (fraction_value rest) else None) ≡ Some f
          → percent_of_parts (take point text) rest ≡ (if nat_le (n * 100 + f) 10000 then Some (n * 100 + f) else None)
      both_parts f given =
          let p =
          cond_some (is_numeral 10 3 (take point text)) (digits_value 10 (take point text)) n (parsed_whole ∙ is) in
          let q = cond_some (is_fraction rest) (fraction_value rest) f given in
          let sum : 100 * digits_value 10 (take point text) + fraction_value rest ≡ n * 100 + f =
          omega (arith, p.1, q.1) in
          rw (p.0, q.0, sum)

-- the place of the first point
point_is : (text : List ℕ) (point : ℕ) → point ≤ length text → All (λ b. b ≢ 46) (take point text)
    → (point < length text → slice_index text point ≡ 46) → whole_len text ≡ point
point_is text point within before found = position_or_len_is (λ b. b == 46) text point 0 within
    (λ k l. let other = before k 0 (omega (arith, length-take point text)) in ne_eqb (get_or text k 0) 46
    (λ e. other (get_or-take point text k 0 l ∙ e)))
    (λ l. eq-eqb (get_or text point 0) 46 (found l))

-- the text by its parts, of which the second is written as the code takes it
pub by_parts : (text : List ℕ) (point : ℕ) → point ≤ length text → All (λ b. b ≢ 46) (take point text)
    → (point < length text → slice_index text point ≡ 46)
    → parsed_percent text ≡ percent_of_parts (take point text) (take (length text - point) (drop point text))
unfolding parsed_percent
by_parts text point within before found =
    ap (λ n. percent_of_parts (take n text) (drop n text)) (point_is text point within before found)
    ∙ ap (percent_of_parts (take point text))
    (sym (take_all (length text - point) (drop point text) (omega (arith, length-drop point text))))
