-- The text has a number exactly where each byte is a digit, there are 1 to 20 of them, and their number fits 64 bits.
use Rattle.std.proofs.Common.{◌≡◌, ◌<◌, length, take, get_or, Some, arith, sym, ap, ◌∙◌, take_all, subst, eqb-true}
use Rattle.std.proofs.Common.{pos_of_ne-zero, refl}
use Rattle.std.proofs.lemmas.Bool.{eqb-false}
use Rattle.std.proofs.lemmas.Int.Digits.{digits_value_more, digits_more}
use Rattle.std.specs.Char.{digit_value}
use Rattle.std.specs.Str.Parse.{AllDigits, digits_value}
use Rattle.hp_num.specs.ParsedDec.{parsed_dec}
use Rattle.hp_num.proofs.DecimalTexts.{not_parsed, not_taken, parsed_numeral, dec_text_parsed, written, not_dec_text_at}
use Rattle.hp_num.proofs.DecimalTexts.{too_large_at}
use Rattle.hp_num.proofs.decimal.parse_dec.Goals as goal
use Rattle.hp_num.proofs.decimal.parse_dec.Goals.{then-is_empty-via-then-is_empty}
use Rattle.hp_num.proofs.decimal.parse_dec.Goals.{then-is_empty-via-else-is_empty+then-text-gt-MAX_DIGITS}

pub returns-then-is_empty-clause-parsed : goal.returns-then-is_empty-clause-parsed
returns-then-is_empty-clause-parsed c =
    sym (not_parsed c.args.text.now (λ is. elim c.then-is_empty.branch [
      | then-is_empty-via-then-is_empty w ↦ omega
          (arith, is.not_empty, eqb-true (length c.args.text.now) 0 (sym c.is_empty.ensures ∙ w.if-is_empty.true))
      | then-is_empty-via-else-is_empty+then-text-gt-MAX_DIGITS w ↦ omega (arith, is.at_most_20)
    ]))

pub returns-in_err-digit-clause-parsed : goal.returns-in_err-digit-clause-parsed
returns-in_err-digit-clause-parsed c =
    c.from_residual.ensures
    ∙ sym (not_parsed c.args.text.now (not_dec_text_at c.args.text.now c.loop-byte.byte-index (omega arith)
    (λ small. c.in_err-digit.ensures.value (subst (λ b. digit_value b < 10) (sym c.from.ensures) small))))

-- what `checked_mul` and `checked_add` refuse is past the greatest number
pub returns-in_err-shifted-clause-parsed : goal.returns-in_err-shifted-clause-parsed
returns-in_err-shifted-clause-parsed c =
    c.from_residual-in_err-shifted.ensures ∙ sym (not_parsed c.args.text.now
    (too_large_at c.args.text.now c.loop-byte.byte-index (omega arith)
    (omega (arith, c.loop-byte.invariant.value, c.in_err-shifted.ensures))))

pub returns-in_err-shifted-clause-taken : goal.returns-in_err-shifted-clause-taken
returns-in_err-shifted-clause-taken c =
    not_taken c.args.text.now _ c.from_residual-in_err-shifted.ensures
    (too_large_at c.args.text.now c.loop-byte.byte-index (omega arith)
    (omega (arith, c.loop-byte.invariant.value, c.in_err-shifted.ensures)))

pub returns-in_err-value-clause-parsed : goal.returns-in_err-value-clause-parsed
returns-in_err-value-clause-parsed c =
    let read : c.from-in-loop-byte.result ≡ digit_value (get_or c.args.text.now c.loop-byte.byte-index 0) =
    c.from-in-loop-byte.ensures ∙ c.in_ok-digit.ensures.value.1 ∙ ap digit_value c.from.ensures in
    c.from_residual-in_err-value.ensures ∙ sym (not_parsed c.args.text.now
    (too_large_at c.args.text.now c.loop-byte.byte-index (omega arith)
    (omega (arith, c.loop-byte.invariant.value, c.in_ok-shifted.ensures, c.in_err-value.ensures, read))))

pub returns-in_err-value-clause-taken : goal.returns-in_err-value-clause-taken
returns-in_err-value-clause-taken c =
    let read : c.from-in-loop-byte.result ≡ digit_value (get_or c.args.text.now c.loop-byte.byte-index 0) =
    c.from-in-loop-byte.ensures ∙ c.in_ok-digit.ensures.value.1 ∙ ap digit_value c.from.ensures in
    not_taken c.args.text.now _ c.from_residual-in_err-value.ensures
    (too_large_at c.args.text.now c.loop-byte.byte-index (omega arith)
    (omega (arith, c.loop-byte.invariant.value, c.in_ok-shifted.ensures, c.in_err-value.ensures, read)))

pub loop-byte-preserved : goal.loop-byte-preserved
loop-byte-preserved c =
    let digit : digit_value (get_or c.args.text.now c.loop-byte.byte-index 0) < 10 =
    subst (λ b. digit_value b < 10) c.from.ensures c.in_ok-digit.ensures.value.0 in
    let read : c.from-in-loop-byte.result ≡ digit_value (get_or c.args.text.now c.loop-byte.byte-index 0) =
    c.from-in-loop-byte.ensures ∙ c.in_ok-digit.ensures.value.1 ∙ ap digit_value c.from.ensures in
    record {
      digits = digits_more 10 c.args.text.now c.loop-byte.byte-index (omega arith) c.loop-byte.invariant.digits digit;
      fits = omega (arith, c.in_ok-value.ensures);
      value =
          omega (
            arith,
            digits_value_more 10 c.args.text.now c.loop-byte.byte-index (omega arith),
            c.loop-byte.invariant.value,
            c.in_ok-shifted.ensures,
            c.in_ok-value.ensures,
            read,
          );
    }

-- after the last byte the text has a number, which is the value
parsed : (c : goal.After-loop-byte) → parsed_dec c.args.text.now ≡ Some c.loop-byte.value
parsed c =
    let whole : take c.loop-byte.byte-index c.args.text.now ≡ c.args.text.now =
    take_all c.loop-byte.byte-index c.args.text.now (omega arith) in
    let some : 0 < length c.args.text.now =
    pos_of_ne-zero (eqb-false (length c.args.text.now) 0 (sym c.is_empty.ensures ∙ c.if-is_empty.false)) in
    let is : digits_value 10 c.args.text.now ≡ c.loop-byte.value =
    sym (c.loop-byte.invariant.value ∙ ap (digits_value 10) whole) in
    parsed_numeral c.args.text.now (record {
      some = some;
      short = omega arith;
      digits = subst (AllDigits 10) whole c.loop-byte.invariant.digits;
    }) (omega (arith, is, c.loop-byte.invariant.fits)) ∙ ap Some is

pub returns-clause-parsed : goal.returns-clause-parsed
returns-clause-parsed c = sym (parsed c)

pub returns-clause-taken : goal.returns-clause-taken
returns-clause-taken c = (λ _. dec_text_parsed c.args.text.now c.loop-byte.value (parsed c), λ _. refl)

pub returns-clause-written : goal.returns-clause-written
returns-clause-written c = written c.args.text.now c.loop-byte.value (parsed c)
