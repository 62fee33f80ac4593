-- What the texts with commas are.
use Rattle.std.proofs.Common.{◌≡◌, ◌≢◌, ℕ, ◌+◌, ◌-◌, ◌/◌, ◌%◌, ◌^◌, ◌<◌, ◌≤◌, ◌⊎◌, inl, inr, Bool, true, false, nat_lt}
use Rattle.std.proofs.Common.{nat_eq, List, [], ◌∷◌, ◌++◌, length, take, drop, set, get_or, length-set, length-drop}
use Rattle.std.proofs.Common.{drop-cons, add-one, lt-ltb, ⊎_elim, decimal, refl, sym, ap, ◌∙◌, arith, All, ltb-true}
use Rattle.std.proofs.Common.{eqb-true, eq-eqb, if◌then◌else◌, append_assoc, append-nil, drop_of_length-le}
use Rattle.std.proofs.lemmas.Bool.{cases_lt}
use Rattle.std.proofs.lemmas.List.Elements.{All-cons, All-nil, All-head, All-tail}
use Rattle.std.proofs.lemmas.List.{take_more_set}
use Rattle.hp_num.specs.Commas.{with_commas, decimal_with_commas, is_full_groups}
use Rattle.hp_num.specs.Digits.{IsDecimalDigit}
use Rattle.hp_num.proofs.Numerals.{and-true}
use Rattle.hp_num.proofs.DecimalTexts as decimals

-- what the test of groups says
groups_true : (n : ℕ) → is_full_groups n ≡ true → (0 < n) × (n % 3 ≡ 0)
groups_true n e = let p = and-true (nat_lt 0 n) (nat_eq (n % 3) 0) e in (ltb-true 0 n p.0, eqb-true (n % 3) 0 p.1)

-- and what it says where it does not hold
groups_false : (n : ℕ) → is_full_groups n ≡ false → 0 < n → n % 3 ≢ 0
groups_false n e some none =
    let is : is_full_groups n ≡ true = rw (lt-ltb 0 n some, eq-eqb (n % 3) 0 none) refl in absurd cc

-- how many bytes the text with commas has
pub length-with_commas : (ds : List ℕ) → length (with_commas ds) ≡ length ds + (length ds - 1) / 3
unfolding with_commas
length-with_commas [] = refl
length-with_commas (d ∷ ds) = by (is_full_groups (length ds)) refl (length-with_commas ds)
  where
    by : (t : Bool) → is_full_groups (length ds) ≡ t → length (with_commas ds) ≡ length ds + (length ds - 1) / 3
        → length (if t then d ∷ 44 ∷ with_commas ds else d ∷ with_commas ds) ≡ length (d ∷ ds) +
        (length (d ∷ ds) - 1) / 3
    by true e rest = let p = groups_true (length ds) e in omega (arith, rest, p.0, p.1)
    by false e rest = ⊎_elim
        (λ some. let other = groups_false (length ds) e some in omega (arith, rest, some, other))
        (λ (none : length ds ≤ 0). omega (arith, rest, none))
        (cases_lt 0 (length ds))

-- a digit or a comma
abbrev pub IsDigitOrComma : ℕ → Type 0
IsDigitOrComma b = IsDecimalDigit b ⊎ b ≡ 44

-- each byte is one
all_bytes : (ds : List ℕ) → All IsDecimalDigit ds → All IsDigitOrComma (with_commas ds)
unfolding with_commas
all_bytes [] h = All-nil IsDigitOrComma
all_bytes (d ∷ ds) h = by (is_full_groups (length ds)) (all_bytes ds (All-tail IsDecimalDigit d ds h))
  where
    digit : IsDigitOrComma d
    digit = inl (All-head IsDecimalDigit d ds h)

    by : (t : Bool) → All IsDigitOrComma (with_commas ds)
        → All IsDigitOrComma (if t then d ∷ 44 ∷ with_commas ds else d ∷ with_commas ds)
    by true rest =
        All-cons IsDigitOrComma d (44 ∷ with_commas ds) digit
        (All-cons IsDigitOrComma 44 (with_commas ds) (inr refl) rest)
    by false rest = All-cons IsDigitOrComma d (with_commas ds) digit rest

-- the text is not empty
pub not_empty : (n : ℕ) → n < 2 ^ 64 → 0 < length (decimal_with_commas n)
not_empty n small = omega (arith, length-with_commas (decimal n), decimals.not_empty n small)

-- 20 digits take at most 6 commas
pub at_most_26 : (n : ℕ) → n < 2 ^ 64 → length (decimal_with_commas n) ≤ 26
at_most_26 n small = omega (arith, length-with_commas (decimal n), decimals.at_most_20 n small)

-- digits and commas
pub bytes : (n : ℕ) → n < 2 ^ 64 → All (λ b. IsDecimalDigit b ⊎ b ≡ 44) (decimal_with_commas n)
bytes n small = all_bytes (decimal n) (decimals.all_decimal n small)

-- no line feed
pub one_line : (n : ℕ) → n < 2 ^ 64 → All (λ b. b ≢ 10) (decimal_with_commas n)
one_line n small k d l e =
    ⊎_elim (λ (digit : IsDecimalDigit (get_or (decimal_with_commas n) k d)). omega (arith, e, digit))
    (λ (comma : get_or (decimal_with_commas n) k d ≡ 44). omega (arith, e, comma)) (bytes n small k d l)

-- the text from one digit on, without a comma after it and with one
next_alone : (ds : List ℕ) (i : ℕ) → i < length ds → is_full_groups (length (drop (i + 1) ds)) ≡ false
    → with_commas (drop i ds) ≡ get_or ds i 0 ∷ with_commas (drop (i + 1) ds)
unfolding with_commas
next_alone ds i inside e = let last = rw add-one at e in rw (add-one, drop-cons ds i 0 inside, last)

next_comma : (ds : List ℕ) (i : ℕ) → i < length ds → is_full_groups (length (drop (i + 1) ds)) ≡ true
    → with_commas (drop i ds) ≡ get_or ds i 0 ∷ 44 ∷ with_commas (drop (i + 1) ds)
unfolding with_commas
next_comma ds i inside e = let last = rw add-one at e in rw (add-one, drop-cons ds i 0 inside, last)

-- how far a loop over the digits came: what is written, followed by the text of the digits that are
-- left, is the whole text
pub record Written (text : List ℕ) (at i left : ℕ) (ds : List ℕ) : Type 0 where
  pub sized : length text ≡ 26
  pub count : left + i ≡ length ds
  pub room : at + length (with_commas (drop i ds)) ≤ 26
  pub same : take at text ++ with_commas (drop i ds) ≡ with_commas ds

-- one byte more in the buffer is one byte less of what is left
one_written : (text : List ℕ) (at byte : ℕ) (rest whole : List ℕ) → at < length text
    → take at text ++ (byte ∷ rest) ≡ whole → take (at + 1) (set text at byte) ++ rest ≡ whole
one_written text at byte rest whole inside same =
    rw (take_more_set text at byte inside, append_assoc (take at text) (byte ∷ []) rest) same

module _ (text : List ℕ) (at i left : ℕ) (ds : List ℕ) (inside : i < length ds) (w : Written text at i left ds) where
  tail : length (drop (i + 1) ds) ≡ left - 1
  tail = omega (arith, length-drop (i + 1) ds, w.count)

  -- there is room for a digit
  pub digit_fits : at < 26
  digit_fits = omega (arith, w.room, length-with_commas (drop i ds), length-drop i ds)

  -- a digit with no comma after it
  pub written_alone : is_full_groups (left - 1) ≡ false
      → Written (set text at (get_or ds i 0)) (at + 1) (i + 1) (left - 1) ds
  written_alone e =
      let next = next_alone ds i inside (ap is_full_groups tail ∙ e) in
      record {
        sized = length-set text at (get_or ds i 0) ∙ w.sized;
        count = omega (arith, w.count);
        room = omega (arith, w.room, ap length next);
        same =
            one_written text at (get_or ds i 0) (with_commas (drop (i + 1) ds)) (with_commas ds)
            (omega (arith, w.sized, digit_fits)) (ap (λ x. take at text ++ x) (sym next) ∙ w.same);
      }

  module _ (e : is_full_groups (left - 1) ≡ true) where
    next : with_commas (drop i ds) ≡ get_or ds i 0 ∷ 44 ∷ with_commas (drop (i + 1) ds)
    next = next_comma ds i inside (ap is_full_groups tail ∙ e)

    -- there is room for a comma
    pub comma_fits : at + 1 < 26
    comma_fits = omega (arith, w.room, ap length next)

    -- a digit with a comma after it
    pub written_comma : Written (set (set text at (get_or ds i 0)) (at + 1) 44) (at + 1 + 1) (i + 1) (left - 1) ds
    written_comma =
        let sized = length-set text at (get_or ds i 0) ∙ w.sized in
        record {
          sized = length-set (set text at (get_or ds i 0)) (at + 1) 44 ∙ sized;
          count = omega (arith, w.count);
          room = omega (arith, w.room, ap length next);
          same =
              one_written (set text at (get_or ds i 0)) (at + 1) 44 (with_commas (drop (i + 1) ds)) (with_commas ds)
              (omega (arith, sized, comma_fits))
              (one_written text at (get_or ds i 0) (44 ∷ with_commas (drop (i + 1) ds)) (with_commas ds)
              (omega (arith, w.sized, digit_fits)) (ap (λ x. take at text ++ x) (sym next) ∙ w.same));
        }

-- nothing is written at first
pub none_written : (text ds : List ℕ) → length text ≡ 26 → length (with_commas ds) ≤ 26
    → Written text 0 0 (length ds) ds
none_written text ds sized room = record {
  sized = sized;
  count = omega arith;
  room = omega (arith, room);
  same = refl;
}

-- and all at the end
pub all_written : (text ds : List ℕ) (at i left : ℕ) → length ds ≤ i → Written text at i left ds
    → take at text ≡ with_commas ds
unfolding with_commas
all_written text ds at i left end w =
    sym (append-nil (take at text)) ∙ ap (λ x. take at text ++ with_commas x) (sym (drop_of_length-le ds {i = i} end))
    ∙ w.same

-- what callers learn of the text of a number with commas
pub ruleset comma_text_laws = (not_empty, at_most_26, bytes, one_line)
