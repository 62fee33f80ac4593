-- A blank, digits, and then a blank or the end are the first field of a text, and its number.
use Rattle.std.proofs.Common.{◌≡◌, ℕ, suc, ◌+◌, ◌-◌, ◌*◌, ◌^◌, ◌<◌, ◌≤◌, false, List, [], ◌∷◌, ◌++◌, length, take, drop}
use Rattle.std.proofs.Common.{get_or, map, All, Some, IsTrue, refl, sym, ap, subst, ◌∙◌, inl, inr, ◌⊎◌, ◌≢◌, true, eqb}
use Rattle.std.proofs.Common.{append-nil, length-append, length-take, take_all, arith, lt-ltb}
use Rattle.std.specs.Prelude.{unwrap_or}
use Rattle.std.proofs.lemmas.Bool.{eqb-true, false≢true}
use Rattle.std.proofs.lemmas.Bool.Decides.{eqb_tells}
use Rattle.std.proofs.lemmas.Int.Digits.{digits_value-lt}
use Rattle.std.proofs.lemmas.List.{drop_all, length-take-le, take-append-drop}
use Rattle.std.proofs.lemmas.List.Elements.{All-cons, All-nil}
use Rattle.std.proofs.lemmas.List.Splits.{slice_split_at, slice_split_none}
use Rattle.std.proofs.Math.Nat.{pow-le-pow_right}
use Rattle.std.proofs.Math.Seq.{drop-cons}
use Rattle.std.specs.Char.{digit_value, is_digit}
use Rattle.std.specs.Str.Parse.{AllDigits, digits_value}
use Rattle.hp_num.proofs.Laws.{parsed_digits}
use Rattle.ht_lines.specs.Fields.{field_ends, fields, is_blank, number, numbers}
use Rattle.record_scripts.specs.NumberAtFront.{BeginsWithDigits, BeginsWithNumber}

-- one more digit fits 64 bits after at most 15 of them
pub room-for-digit : (text : List ℕ) (i : ℕ) → i < 16 → AllDigits 16 (take i text)
    → digits_value 16 (take i text) * 16 + 15 < 2 ^ 64
room-for-digit text i few all =
    let upto : 16 ^ length (take i text) ≤ 16 ^ 15 =
    pow-le-pow_right {n = 16} (omega arith) {i = length (take i text)} {j = 15} (omega (arith, length-take i text)) in
    omega (arith, digits_value-lt 16 (take i text) all, upto)

-- digits end before a blank, and where the text ends
pub ends-at : (text : List ℕ) (i : ℕ) → i < length text → get_or text i 0 ≡ 32 → IsTrue (field_ends (drop i text))
ends-at text i within blank =
    subst (λ (l : List ℕ). IsTrue (field_ends l))
    (sym (drop-cons text i 0 within ∙ ap (λ b. b ∷ drop (suc i) text) blank)) refl

pub ends-all : (text : List ℕ) (i : ℕ) → length text ≤ i → IsTrue (field_ends (drop i text))
ends-all text i past = subst (λ (l : List ℕ). IsTrue (field_ends l)) (sym (drop_all i text past)) refl

digit-no_blank : (d : ℕ) → digit_value d < 16 → is_blank d ≡ false
digit-no_blank d is = by (eqb_tells d 32)
  where
    blank : is_digit 32 16 ≡ false
    blank = refl

    by : ((eqb d 32 ≡ true) × (d ≡ 32)) ⊎ ((eqb d 32 ≡ false) × (d ≢ 32)) → is_blank d ≡ false
    by (inl w) = absurd (false≢true (sym blank ∙ ap (λ b. is_digit b 16) (sym w.1) ∙ lt-ltb (digit_value d) 16 is))
    by (inr w) = w.0

digits-no_blank : (ds : List ℕ) → AllDigits 16 ds → All (λ b. is_blank b ≡ false) ds
digits-no_blank [] all = All-nil (λ b. is_blank b ≡ false)
digits-no_blank (d ∷ ds) all =
    All-cons (λ b. is_blank b ≡ false) d ds (digit-no_blank d all.0) (digits-no_blank ds all.1)

fields-nil : fields [] ≡ []
unfolding fields
fields-nil = refl

pub no-fields : (text : List ℕ) → eqb (length text) 0 ≡ true → fields text ≡ []
no-fields [] none = fields-nil
no-fields (b ∷ bs) none = absurd (omega (arith, eqb-true (length (b ∷ bs)) 0 none))

-- a piece between blanks is a field
fields-at : (digits after : List ℕ) → 0 < length digits → All (λ b. is_blank b ≡ false) digits
    → IsTrue (field_ends after) → fields (32 ∷ (digits ++ after)) ≡ digits ∷ fields after
unfolding fields
fields-at digits [] some none ends =
    rw (append-nil digits, slice_split_none is_blank digits none, lt-ltb 0 (length digits) some) refl
fields-at digits (b ∷ rest) some none ends =
    rw (slice_split_at is_blank digits b rest none ends, lt-ltb 0 (length digits) some, ends) refl

module _ (text : List ℕ) (n : ℕ) (after : List ℕ) (found : BeginsWithNumber text n after) where
  first-field : fields text ≡ found.digits ∷ fields after
  first-field =
      ap fields found.split ∙ fields-at found.digits after found.some
      (digits-no_blank found.digits found.all) found.ends

  pub first-number : numbers text ≡ n ∷ numbers after
  first-number = ap (map number) first-field ∙ ap (λ o. unwrap_or o 0 ∷ numbers after) found.parsed

  pub one-field : length (fields text) ≡ length (fields after) + 1
  one-field = omega (arith, ap length first-field)

  pub shorter : length after < length text
  shorter = omega (arith, ap length found.split, length-append found.digits after, found.some)

-- what the walk over the digits finds
pub number-found : (text after : List ℕ) (count n : ℕ) → 1 ≤ length text → get_or text 0 0 ≡ 32
    → BeginsWithDigits (take (length text - 1) (drop 1 text)) n count
    → after ≡ drop count (take (length text - 1) (drop 1 text)) → BeginsWithNumber text n after
number-found [] after count n some blank found left = absurd (omega (arith, some))
number-found (b ∷ bs) after count n some blank found left =
    let rest : List ℕ = take (length (b ∷ bs) - 1) bs in
    let whole : rest ≡ bs = take_all (length (b ∷ bs) - 1) bs (omega arith) in
    let size : length (take count rest) ≡ count = length-take-le count rest found.within in
    record {
      digits = take count rest;
      split =
          ap (λ k. k ∷ bs) blank
          ∙ ap (λ l. 32 ∷ l)
          (sym whole ∙ (sym (take-append-drop count rest) ∙ ap (λ l. take count rest ++ l) (sym left)));
      some = omega (arith, size, found.some);
      all = found.digits;
      parsed =
          parsed_digits (take count rest) (omega (arith, size, found.some))
          (omega (arith, size, found.most)) found.digits
          ∙ ap Some (sym found.value);
      ends = subst (λ (l : List ℕ). IsTrue (field_ends l)) (sym left) found.ends;
    }
