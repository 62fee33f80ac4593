use Rattle.std.proofs.Common.{List, map, Some, sym, ap, ◌∙◌, arith, true≢false}
use Rattle.std.specs.Prelude.{slice_get}
use Rattle.std.proofs.lemmas.List.{length-map}
use Rattle.std.proofs.lemmas.Option.{same_Some}
use Rattle.record_scripts.specs.ScriptTurns.{turn_numbered}
use Rattle.record_scripts.specs.Turns.{Turn}
use Rattle.record_scripts.proofs.SameLemmas.{answers-false, answers-true, map-at, same-items, same-next}
use Rattle.record_scripts.proofs.script.are_same_turns.Goals as goal

pub loop-place-preserved : goal.loop-place-preserved
loop-place-preserved c =
    let turns = c.args.turns.now in
    let others = c.args.others.now in
    let place = c.loop-place.place in
    same-next (map turn_numbered turns) (map turn_numbered others) place c.loop-place.invariant
    (map-at turn_numbered turns place _ c.loop-place-test.true
    ∙ ap (λ (turn : Turn). Some turn) (c.is_kept_as.ensures.0 c.if-not-is_kept_as.false)
    ∙ sym (map-at turn_numbered others place _ (omega (arith, c.loop-place-test.true, c.if-turns-others.false))))

pub returns-then-not-is_kept_as : goal.returns-then-not-is_kept_as
returns-then-not-is_kept_as c =
    let turns = c.args.turns.now in
    let others = c.args.others.now in
    let place = c.loop-place.place in
    answers-false _ (λ same. true≢false (sym (c.is_kept_as.ensures.1 (same_Some _ _
    (sym (map-at turn_numbered turns place _ c.loop-place-test.true)
    ∙ ap (λ (all : List Turn). slice_get all place) same
    ∙ map-at turn_numbered others place _ (omega (arith, c.loop-place-test.true, c.if-turns-others.false)))))
    ∙ c.if-not-is_kept_as.true))

pub returns : goal.returns
returns c =
    let turns = c.args.turns.now in
    let others = c.args.others.now in
    let count = length-map turns turn_numbered in
    let other_count = length-map others turn_numbered in
    answers-true _ (same-items (map turn_numbered turns) (map turn_numbered others)
    (omega (arith, count, other_count, c.if-turns-others.false))
    (λ k within. c.loop-place.invariant k
    (omega (arith, within, count, c.loop-place-test.false, c.loop-place.auto.place-end))))
