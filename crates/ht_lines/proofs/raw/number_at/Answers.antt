-- One digit more, and its value.
use Rattle.std.proofs.Common.{drop, arith, sym, ◌∙◌, length-drop}
use Rattle.std.proofs.lemmas.List.{get_or-drop}
use Rattle.ht_lines.proofs.RawLines.{digit-more, room-for-digit}
use Rattle.ht_lines.proofs.raw.number_at.Goals as goal

pub overflow_mul-number : goal.overflow_mul-number
overflow_mul-number c =
    let room =
    room-for-digit (drop c.args.start c.args.front.now) c.loop-digits.digits (omega arith)
    c.loop-digits.invariant.all in
    omega arith

pub overflow_add-number : goal.overflow_add-number
overflow_add-number c =
    let room =
    room-for-digit (drop c.args.start c.args.front.now) c.loop-digits.digits (omega arith)
    c.loop-digits.invariant.all in
    omega (arith, c.in-Some.ensures)

pub loop-digits-preserved : goal.loop-digits-preserved
loop-digits-preserved c =
    let more =
    digit-more (drop c.args.start c.args.front.now) c.loop-digits.digits c.loop-digits.number _ c.from.result
    (omega (arith, length-drop c.args.start c.args.front.now)) c.loop-digits.invariant.all
    c.loop-digits.invariant.value (sym (get_or-drop c.args.start c.args.front.now c.loop-digits.digits 0))
    (c.in-Some.ensures.0, c.from.ensures ∙ c.in-Some.ensures.1) in
    record { all = more.0; value = omega (arith, more.1) }
