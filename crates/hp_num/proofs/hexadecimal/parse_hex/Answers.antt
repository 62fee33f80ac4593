-- The text has a number exactly where each byte is a digit and there are 1 to 16 of them.
use Rattle.std.proofs.Common.{◌≡◌, ◌<◌, length, take, get_or, Some, arith, sym, ap, ◌∙◌, take_all, subst, eqb-true}
use Rattle.std.proofs.Common.{pos_of_ne-zero, refl}
use Rattle.std.proofs.lemmas.Bool.{eqb-false}
use Rattle.std.proofs.lemmas.Int.Digits.{digits_value_more, digits_more}
use Rattle.std.specs.Char.{digit_value}
use Rattle.std.specs.Str.Parse.{AllDigits, digits_value}
use Rattle.hp_num.specs.ParsedHex.{parsed_hex}
use Rattle.hp_num.proofs.HexTexts.{not_parsed, parsed_numeral, hex_text_parsed, written, room_for_digit}
use Rattle.hp_num.proofs.HexTexts.{not_hex_text_at}
use Rattle.hp_num.proofs.hexadecimal.parse_hex.Goals as goal
use Rattle.hp_num.proofs.hexadecimal.parse_hex.Goals.{then-is_empty-via-then-is_empty}
use Rattle.hp_num.proofs.hexadecimal.parse_hex.Goals.{then-is_empty-via-else-is_empty+then-text-gt-MAX_DIGITS}

pub returns-then-is_empty-clause-parsed : goal.returns-then-is_empty-clause-parsed
returns-then-is_empty-clause-parsed c =
    sym (not_parsed c.args.text.now (λ is. elim c.then-is_empty.branch [
      | then-is_empty-via-then-is_empty w ↦ omega
          (arith, is.not_empty, eqb-true (length c.args.text.now) 0 (sym c.is_empty.ensures ∙ w.if-is_empty.true))
      | then-is_empty-via-else-is_empty+then-text-gt-MAX_DIGITS w ↦ omega (arith, is.at_most_16)
    ]))

pub returns-in_err-digit-clause-parsed : goal.returns-in_err-digit-clause-parsed
returns-in_err-digit-clause-parsed c =
    c.from_residual.ensures
    ∙ sym (not_parsed c.args.text.now (not_hex_text_at c.args.text.now c.loop-byte.byte-index (omega arith)
    c.in_err-digit.ensures))

pub overflow_mul-value : goal.overflow_mul-value
overflow_mul-value c =
    let room =
    room_for_digit c.args.text.now c.loop-byte.byte-index (omega arith) (omega arith) c.loop-byte.invariant.digits in
    omega arith

pub overflow_add-value : goal.overflow_add-value
overflow_add-value c =
    let room =
    room_for_digit c.args.text.now c.loop-byte.byte-index (omega arith) (omega arith) c.loop-byte.invariant.digits in
    omega (arith, c.in_ok-digit.ensures)

pub loop-byte-preserved : goal.loop-byte-preserved
loop-byte-preserved c =
    let read : c.from.result ≡ digit_value (get_or c.args.text.now c.loop-byte.byte-index 0) =
    c.from.ensures ∙ c.in_ok-digit.ensures.1 in
    record {
      digits =
          digits_more 16 c.args.text.now c.loop-byte.byte-index (omega arith) c.loop-byte.invariant.digits
          c.in_ok-digit.ensures.0;
      value =
          omega (
            arith,
            digits_value_more 16 c.args.text.now c.loop-byte.byte-index (omega arith),
            c.loop-byte.invariant.value,
            read,
          );
    }

-- after the last byte the text has a number, which is the value
parsed : (c : goal.After-loop-byte) → parsed_hex c.args.text.now ≡ Some c.loop-byte.value
parsed c =
    let whole : take c.loop-byte.byte-index c.args.text.now ≡ c.args.text.now =
    take_all c.loop-byte.byte-index c.args.text.now (omega arith) in
    let some : 0 < length c.args.text.now =
    pos_of_ne-zero (eqb-false (length c.args.text.now) 0 (sym c.is_empty.ensures ∙ c.if-is_empty.false)) in
    parsed_numeral c.args.text.now (record {
      some = some;
      short = omega arith;
      digits = subst (AllDigits 16) whole c.loop-byte.invariant.digits;
    })
    ∙ ap Some (sym (c.loop-byte.invariant.value ∙ ap (digits_value 16) whole))

pub returns-clause-parsed : goal.returns-clause-parsed
returns-clause-parsed c = sym (parsed c)

pub returns-clause-taken : goal.returns-clause-taken
returns-clause-taken c = (λ _. hex_text_parsed c.args.text.now c.loop-byte.value (parsed c), λ _. refl)

pub returns-clause-written : goal.returns-clause-written
returns-clause-written c = written c.args.text.now c.loop-byte.value (omega arith) (parsed c)
