-- One digit more, and its value; digits before a blank or the end are a number.
use Rattle.std.proofs.Common.{◌≡◌, ℕ, ◌<◌, ◌≤◌, List, ◌++◌, Some, IsTrue, length, take, drop, refl, sym, subst, ap, ◌∙◌, arith}
use Rattle.std.proofs.lemmas.List.{length-take-le, take-append-drop}
use Rattle.std.specs.Str.Parse.{AllDigits, digits_value}
use Rattle.hp_num.specs.ParsedHex.{parsed_hex}
use Rattle.hp_num.proofs.Laws.{parsed_digits}
use Rattle.ht_lines.specs.Fields.{before_blank, from_blank, field_ends}
use Rattle.ht_lines.proofs.NumberLemmas.{number-no_blank}
use Rattle.ht_lines.proofs.RawLines.{digit-more, room-for-digit}
use Rattle.ht_lines.proofs.TextLemmas.{before_blank-at, from_blank-at}
use Rattle.ht_lines.proofs.fields.leading_number.Goals as goal

pub overflow_mul-number : goal.overflow_mul-number
overflow_mul-number c =
    let room =
    room-for-digit c.args.text.now c.digits.digits (omega (arith, c.digits-test.true)) c.digits.invariant.all in
    omega (arith, c.digits.invariant.value)

pub overflow_add-number : goal.overflow_add-number
overflow_add-number c =
    let room =
    room-for-digit c.args.text.now c.digits.digits (omega (arith, c.digits-test.true)) c.digits.invariant.all in
    omega (arith, c.digits.invariant.value, c.in-Some.ensures)

pub digits-preserved : goal.digits-preserved
digits-preserved c =
    let more =
    digit-more c.args.text.now c.digits.digits c.digits.number _ c.from.result c.if-digits-text.true
    c.digits.invariant.all c.digits.invariant.value refl
    (c.in-Some.ensures.0, c.from.ensures ∙ c.in-Some.ensures.1) in
    record {
      within = omega (arith, c.if-digits-text.true);
      few = omega (arith, c.digits-test.true);
      all = more.0;
      value = more.1;
    }

-- so many digits, and what follows them
module _ (text after : List ℕ) (digits number : ℕ) (some : 0 < digits) (few : digits ≤ 16)
    (within : digits ≤ length text) (all : AllDigits 16 (take digits text))
    (value : number ≡ digits_value 16 (take digits text)) (behind : after ≡ drop digits text)
    (ends : IsTrue (field_ends after)) where
  size : length (take digits text) ≡ digits
  size = length-take-le digits text within

  parsed : parsed_hex (take digits text) ≡ Some number
  parsed = parsed_digits (take digits text) (omega (arith, size)) (omega (arith, size)) all ∙ ap Some (sym value)

  whole : take digits text ++ after ≡ text
  whole = ap (λ l. take digits text ++ l) behind ∙ take-append-drop digits text

  is-number : parsed_hex (before_blank text) ≡ Some number
  is-number =
      ap (λ l. parsed_hex (before_blank l)) (sym whole)
      ∙ ap parsed_hex (before_blank-at (take digits text) after (number-no_blank (take digits text) number parsed) ends)
      ∙ parsed

  is-after : after ≡ from_blank text
  is-after =
      sym (from_blank-at (take digits text) after (number-no_blank (take digits text) number parsed) ends)
      ∙ ap from_blank whole

pub returns-clause-number : goal.returns-clause-number
returns-clause-number c =
    is-number c.args.text.now _ c.digits.digits c.digits.number (omega (arith, c.if-digits-eq0.false))
    c.digits.invariant.few c.digits.invariant.within c.digits.invariant.all c.digits.invariant.value
    c.split_at.ensures.back (sym c.field_ends.ensures ∙ c.if-not-field_ends.false)

pub returns-clause-after : goal.returns-clause-after
returns-clause-after c =
    is-after c.args.text.now _ c.digits.digits c.digits.number (omega (arith, c.if-digits-eq0.false))
    c.digits.invariant.few c.digits.invariant.within c.digits.invariant.all c.digits.invariant.value
    c.split_at.ensures.back (sym c.field_ends.ensures ∙ c.if-not-field_ends.false)
