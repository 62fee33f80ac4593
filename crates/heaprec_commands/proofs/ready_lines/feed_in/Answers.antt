use Rattle.std.proofs.Common.{◌≢◌, ◌<◌, length, take, get_or, sym, subst, arith}
use Rattle.std.proofs.lemmas.List.{take_more}
use Rattle.std.proofs.lemmas.List.Elements.{All-push}
use Rattle.hp_outside.specs.WholeLines.{IsLineText}
use Rattle.heaprec_commands.proofs.ready_lines.feed_in.Goals as goal

pub loop-place-preserved : goal.loop-place-preserved
loop-place-preserved c =
    let front = c.args.front.now in
    let place = c.loop-place.place in
    let within : place < length front = omega (arith, c.told-front) in
    subst IsLineText (sym (take_more front place 0 within))
    (All-push (λ b. b ≢ 10) (take place front) (get_or front place 0) c.loop-place.invariant
    c.if-front-place-eq10.false)
