-- One digit more, and its value.
use Rattle.std.proofs.Common.{◌≡◌, ◌+◌, ℕ, List, drop, get_or, arith, sym, ap, ◌∙◌, length-drop}
use Rattle.std.proofs.lemmas.List.{get_or-drop}
use Rattle.hp_num.proofs.Laws.{room_for_digit}
use Rattle.ht_lines.proofs.RawLines.{digit-more}
use Rattle.ht_lines.proofs.event.number_to_feed.Goals as goal

-- the byte that is read is the next of those after the first two
byte_at : (front : List ℕ) (digits : ℕ) → get_or front (digits + 2) 0 ≡ get_or (drop 2 front) digits 0
byte_at front digits =
    ap (λ i. get_or front i 0) {x = digits + 2} {y = 2 + digits} (omega arith) ∙ sym (get_or-drop 2 front digits 0)

pub overflow_mul-number : goal.overflow_mul-number
overflow_mul-number c =
    let room =
    room_for_digit (drop 2 c.args.front.now) c.loop-digits.digits (omega (arith, length-drop 2 c.args.front.now))
    (omega (arith, length-drop 2 c.args.front.now)) c.loop-digits.invariant.all in
    omega arith

pub overflow_add-number : goal.overflow_add-number
overflow_add-number c =
    let room =
    room_for_digit (drop 2 c.args.front.now) c.loop-digits.digits (omega (arith, length-drop 2 c.args.front.now))
    (omega (arith, length-drop 2 c.args.front.now)) c.loop-digits.invariant.all in
    omega (arith, c.in-Some.ensures)

pub loop-digits-preserved : goal.loop-digits-preserved
loop-digits-preserved c =
    let more =
    digit-more (drop 2 c.args.front.now) c.loop-digits.digits c.loop-digits.number _ c.from.result
    (omega (arith, length-drop 2 c.args.front.now)) c.loop-digits.invariant.all c.loop-digits.invariant.value
    (byte_at c.args.front.now c.loop-digits.digits) (c.in-Some.ensures.0, c.from.ensures ∙ c.in-Some.ensures.1) in
    record { all = more.0; value = omega (arith, more.1) }
