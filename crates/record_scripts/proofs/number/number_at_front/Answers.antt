-- One digit more, and its value.
use Rattle.std.proofs.Common.{◌≡◌, ◌<◌, length, get_or, arith, ◌∙◌}
use Rattle.std.proofs.lemmas.Int.Digits.{digits_value_more, digits_more}
use Rattle.std.specs.Char.{digit_value}
use Rattle.record_scripts.proofs.NumberLemmas.{room-for-digit}
use Rattle.record_scripts.proofs.number.number_at_front.Goals as goal

pub overflow_mul-number : goal.overflow_mul-number
overflow_mul-number c =
    omega (
      arith,
      c.loop-digits.invariant.value,
      room-for-digit c.args.text.now c.loop-digits.digits (omega arith) c.loop-digits.invariant.all,
    )

pub overflow_add-number : goal.overflow_add-number
overflow_add-number c =
    omega (
      arith,
      c.loop-digits.invariant.value,
      c.from.ensures,
      c.in-Some.ensures,
      room-for-digit c.args.text.now c.loop-digits.digits (omega arith) c.loop-digits.invariant.all,
    )

pub loop-digits-preserved : goal.loop-digits-preserved
loop-digits-preserved c =
    let text = c.args.text.now in
    let within : c.loop-digits.digits < length text = omega arith in
    let is : c.from.result ≡ digit_value (get_or text c.loop-digits.digits 0) = c.from.ensures ∙ c.in-Some.ensures.1 in
    record {
      all = digits_more 16 text c.loop-digits.digits within c.loop-digits.invariant.all c.in-Some.ensures.0;
      value = omega (arith, digits_value_more 16 text c.loop-digits.digits within, c.loop-digits.invariant.value, is);
    }
