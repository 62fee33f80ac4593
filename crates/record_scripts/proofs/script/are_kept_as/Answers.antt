use Rattle.std.proofs.Common.{List, map, Some, ap, sym, ◌∙◌, arith, true≢false}
use Rattle.std.specs.Prelude.{slice_get}
use Rattle.std.proofs.lemmas.List.{length-map}
use Rattle.std.proofs.lemmas.Option.{same_Some}
use Rattle.record_scripts.specs.declared.turn_entry.TurnEntry.{TurnEntry}
use Rattle.record_scripts.specs.ScriptTurns.{script_numbered, scripts_numbered, turn_numbered}
use Rattle.record_scripts.specs.Turns.{Turn}
use Rattle.record_scripts.proofs.SameLemmas.{answers-false, answers-true, map-at, same-items, same-next}
use Rattle.record_scripts.proofs.script.are_kept_as.Goals as goal

pub loop-thread-preserved : goal.loop-thread-preserved
loop-thread-preserved c =
    let scripts = c.args.scripts.now in
    let others = c.args.others.now in
    let thread = c.loop-thread.thread in
    same-next (scripts_numbered scripts) (scripts_numbered others) thread c.loop-thread.invariant
    (map-at script_numbered scripts thread c.index-scripts-thread.result c.loop-thread-test.true
    ∙ ap (λ (turns : List TurnEntry). Some (map turn_numbered turns)) (sym c.deref.ensures.value)
    ∙ ap (λ (turns : List Turn). Some turns) (c.are_same_turns.ensures.0 c.if-not-are_same_turns.false)
    ∙ ap (λ (turns : List TurnEntry). Some (map turn_numbered turns)) c.deref-in-loop-thread.ensures.value
    ∙ sym (map-at script_numbered others thread c.index-others-thread.result
    (omega (arith, c.loop-thread-test.true, c.if-scripts-others.false))))

pub returns-then-not-are_same_turns : goal.returns-then-not-are_same_turns
returns-then-not-are_same_turns c =
    let scripts = c.args.scripts.now in
    let others = c.args.others.now in
    let thread = c.loop-thread.thread in
    answers-false _ (λ same. true≢false (sym (c.are_same_turns.ensures.1
    (ap (map turn_numbered) c.deref.ensures.value
    ∙ same_Some _ _ (sym (map-at script_numbered scripts thread c.index-scripts-thread.result c.loop-thread-test.true)
    ∙ ap (λ (all : List (List Turn)). slice_get all thread) same
    ∙ map-at script_numbered others thread c.index-others-thread.result
    (omega (arith, c.loop-thread-test.true, c.if-scripts-others.false)))
    ∙ ap (map turn_numbered) (sym c.deref-in-loop-thread.ensures.value)))
    ∙ c.if-not-are_same_turns.true))

pub returns : goal.returns
returns c =
    let scripts = c.args.scripts.now in
    let others = c.args.others.now in
    let count = length-map scripts script_numbered in
    let other_count = length-map others script_numbered in
    answers-true _ (same-items (scripts_numbered scripts) (scripts_numbered others)
    (omega (arith, count, other_count, c.if-scripts-others.false))
    (λ k within. c.loop-thread.invariant k
    (omega (arith, within, count, c.loop-thread-test.false, c.loop-thread.auto.thread-end))))
