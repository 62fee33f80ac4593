use Rattle.std.proofs.Common.{◌≡◌, ℕ, List, Option, Some, ap, ◌∙◌, subst, arith}
use Rattle.std.specs.Prelude.{option_map, slice_get}
use Rattle.record_scripts.specs.declared.script_line.ScriptLine.{ScriptLine}
use Rattle.stack_table.specs.Stack.{stack}
use Rattle.record_scripts.specs.ScriptNodes.{nodes_in}
use Rattle.record_scripts.specs.ScriptTurns.{turn_said}
use Rattle.record_scripts.specs.Turns.{script_at}
use Rattle.record_book.specs.Actions.{Action}
use Rattle.record_book.specs.TallyState.{IsTally}
use Rattle.record_book.proofs.MapLemmas.{said_in}
use Rattle.record_book.proofs.FewTurns.{place-few}
use Rattle.record_book.proofs.TallyLemmas.{tally-within}
use Rattle.record_book.proofs.TallyOrders.{alone-more}
use Rattle.record_book.proofs.summary.peak_alone.Goals as goal

pub returns-in_default-clause-few : goal.returns-in_default-clause-few
returns-in_default-clause-few c =
    let before = c.loop-place.invariant in
    omega (arith, (tally-within c.loop-place.tally _ before.tallied).2, before.few_bytes, before.few)

pub loop-place-preserved : goal.loop-place-preserved
loop-place-preserved c =
    let before = c.loop-place.invariant in
    let scripts = c.args.job.now.scripts in
    let ips = (stack (nodes_in c.args.job.now.scripts) c.in-Some._node) in
    let said = turn_said c.in-Some.turn ips in
    let at : slice_get (script_at scripts c.args.thread) c.loop-place.place ≡ Some said =
    c.turn.ensures.turn
    ∙ ap (λ (found : Option (ScriptLine × ℕ)). option_map (said_in c.args.job.now.scripts) found) c.in-Some.is in
    record {
      tallied =
          subst (λ (all : List Action). IsTally c.take_turn.new.self all)
          (alone-more (script_at scripts c.args.thread) c.args.thread c.loop-place.place said at)
          (c.in_ok-take_turn.ensures.taken ips _ before.tallied);
      few = place-few scripts c.args.thread c.loop-place.place said at c.turn.ensures.few_events;
      few_bytes = omega (arith, c.in_ok-take_turn.ensures.bytes, before.few_bytes);
      few_calls = omega (arith, c.in_ok-take_turn.ensures.calls, before.few_calls);
    }
