use Rattle.std.proofs.Common.{◌≡◌, ℕ, ◌+◌, List, length, take, Option, Some, sym, ap, ◌∙◌, subst, arith}
use Rattle.std.specs.Prelude.{option_map, slice_get, slice_index_or}
use Rattle.record_scripts.specs.declared.script_line.ScriptLine.{ScriptLine}
use Rattle.stack_table.specs.Stack.{stack}
use Rattle.record_scripts.specs.ScriptNodes.{nodes_in}
use Rattle.record_scripts.specs.ScriptTurns.{turn_said}
use Rattle.record_scripts.specs.Turns.{script_at}
use Rattle.record_book.specs.Actions.{Action, actions}
use Rattle.record_book.specs.StreamState.{done_at}
use Rattle.record_book.specs.TallyState.{IsTally}
use Rattle.record_book.proofs.DoneLemmas.{length-slice_set}
use Rattle.record_book.proofs.StreamLemmas.{length-zeros, place-is, zero-at}
use Rattle.record_book.proofs.OrderLemmas.{actions-none}
use Rattle.record_book.proofs.MapLemmas.{said_in}
use Rattle.record_book.proofs.FewTurns.{place-few}
use Rattle.record_book.proofs.TallyOrders.{at-place, entry-there, taken-none, turn-there, walk-next}
use Rattle.record_book.proofs.summary.tally_order.Goals as goal

pub entries-init : goal.entries-init
entries-init c =
    let scripts = c.args.job.now.scripts in
    let zeros = c.in_ok-done.ensures.items_if_clones_equal (λ y same. same) in
    record {
      within = omega arith;
      threads = ap length zeros ∙ length-zeros c.threads.result ∙ c.threads.ensures.count;
      taken =
          taken-none scripts c.in_ok-done.done.items
          (λ thread. ap (λ (done : List ℕ). done_at done thread) zeros ∙ zero-at c.threads.result thread);
      tallied =
          subst (λ (none : List Action). IsTally c.new-tally.result none) (sym (actions-none scripts))
          c.new-tally.ensures.none;
      few_bytes = omega (arith, c.new-tally.ensures.no_bytes);
      few_calls = omega (arith, c.new-tally.ensures.no_calls);
    }

pub index-place-requires : goal.index-place-requires
index-place-requires c =
    let order = c.args.order.now in
    let there =
    entry-there c.args.job.now.scripts order c.entries.entry (slice_index_or order c.entries.entry 0) c.requires.under
    (at-place order c.entries.entry c.entries-test.true) in
    omega (arith, there, c.entries.invariant.threads)

pub turn-requires : goal.turn-requires
turn-requires c =
    let order = c.args.order.now in
    entry-there c.args.job.now.scripts order c.entries.entry (slice_index_or order c.entries.entry 0) c.requires.under
    (at-place order c.entries.entry c.entries-test.true)

pub unreachable-requires : goal.unreachable-requires
unreachable-requires c =
    let order = c.args.order.now in
    let scripts = c.args.job.now.scripts in
    let thread = slice_index_or order c.entries.entry 0 in
    let at = at-place order c.entries.entry c.entries-test.true in
    let there = entry-there scripts order c.entries.entry thread c.requires.under at in
    let here =
    place-is c.entries.done.items thread c.index-place.result.now (omega (arith, there, c.entries.invariant.threads))
    c.index-place.ensures in
    turn-there scripts order c.entries.done.items c.entries.entry thread c.requires.under c.entries.invariant.taken at
    (ap (λ (n : ℕ). slice_get (script_at scripts thread) n) here ∙ c.turn.ensures.turn
    ∙ ap (λ (found : Option (ScriptLine × ℕ)). option_map (said_in c.args.job.now.scripts) found) c.in_default.is)

pub overflow_add-place : goal.overflow_add-place
overflow_add-place c =
    let ips = (stack (nodes_in c.args.job.now.scripts) c.in-Some._node) in
    let few =
    place-few c.args.job.now.scripts (slice_index_or c.args.order.now c.entries.entry 0) c.index-place.result.now
    (turn_said c.in-Some.turn ips)
    (c.turn.ensures.turn
    ∙ ap (λ (found : Option (ScriptLine × ℕ)). option_map (said_in c.args.job.now.scripts) found) c.in-Some.is)
    c.turn.ensures.few_events in
    omega (arith, few)

pub index_mut-requires : goal.index_mut-requires
index_mut-requires c =
    let order = c.args.order.now in
    let there =
    entry-there c.args.job.now.scripts order c.entries.entry (slice_index_or order c.entries.entry 0) c.requires.under
    (at-place order c.entries.entry c.entries-test.true) in
    omega (arith, there, c.entries.invariant.threads)

pub overflow_add-entry : goal.overflow_add-entry
overflow_add-entry c =
    omega (arith, c.entries-test.true, c.requires.few, c.turn.ensures.few_events, c.entry_count-entry.ensures.few)

pub entries-smaller : goal.entries-smaller
entries-smaller c = omega (arith, c.entries-test.true, c.entry_count-entry.ensures.some)

pub entries-preserved : goal.entries-preserved
entries-preserved c =
    let before = c.entries.invariant in
    let order = c.args.order.now in
    let scripts = c.args.job.now.scripts in
    let thread = slice_index_or order c.entries.entry 0 in
    let place = c.index-place.result.now in
    let ips = (stack (nodes_in c.args.job.now.scripts) c.in-Some._node) in
    let said = turn_said c.in-Some.turn ips in
    let at = at-place order c.entries.entry c.entries-test.true in
    let there = entry-there scripts order c.entries.entry thread c.requires.under at in
    let here =
    place-is c.entries.done.items thread place (omega (arith, there, before.threads)) c.index-place.ensures in
    let found : slice_get (script_at scripts thread) place ≡ Some said =
    c.turn.ensures.turn
    ∙ ap (λ (found : Option (ScriptLine × ℕ)). option_map (said_in c.args.job.now.scripts) found) c.in-Some.is in
    let step =
    walk-next scripts order c.entries.done.items c.entries.entry c.entry_count-entry.result thread place said
    c.requires.under before.taken c.entries-test.true before.threads at here found
    (c.entry_count-entry.ensures.entries thread ips) in
    record {
      within = step.within;
      threads = length-slice_set c.entries.done.items thread (place + 1) ∙ before.threads;
      taken = step.taken;
      tallied =
          subst (λ (all : List Action). IsTally c.take_turn.new.self all) (sym step.means)
          (c.in_ok-take_turn.ensures.taken ips (actions scripts (take c.entries.entry order)) before.tallied);
      few_bytes = omega (arith, c.in_ok-take_turn.ensures.bytes, before.few_bytes, c.entry_count-entry.ensures.some);
      few_calls = omega (arith, c.in_ok-take_turn.ensures.calls, before.few_calls, c.entry_count-entry.ensures.some);
    }
