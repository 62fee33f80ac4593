use Rattle.std.proofs.Common.{rules, true≢false, ◌≡◌, ℕ, ◌+◌, ◌^◌, ◌<◌, false, true, List, [], ◌++◌, length, Option}
use Rattle.std.proofs.Common.{Some, sym, ap, ◌∙◌, subst, arith, append-nil}
use Rattle.std.specs.Prelude.{option_map, slice_get, slice_set, unwrap_or}
use Rattle.std.specs.Arc.{arc_value}
use Rattle.stack_table.specs.Stack.{stack}
use Rattle.record_scripts.specs.ScriptNodes.{nodes_in}
use Rattle.record_book.specs.MappedNodes.{AreMapped, ips_of}
use Rattle.record_book.proofs.MapLemmas.{ips-are, mapped-next, said_in}
use Rattle.record_scripts.specs.declared.script_line.ScriptLine.{ScriptLine}
use Rattle.record_scripts.specs.Events.{event_count}
use Rattle.record_scripts.specs.Job.{Job}
use Rattle.record_scripts.specs.ScriptTurns.{turn_said}
use Rattle.record_book.specs.Actions.{actions}
use Rattle.record_book.specs.BookState.{IsStep, entries_of}
use Rattle.record_book.specs.HeapPlaces.{places_after}
use Rattle.record_book.specs.NodeNumbers.{stacks_after}
use Rattle.record_book.specs.StreamState.{IsStream, Streamed, done_at}
use Rattle.record_book.specs.RecordedTrace.{recorded}
use Rattle.record_book.specs.TakenTurn.{IsFresh}
use Rattle.record_book.specs.TraceState.{IsTrace, with_turn}
use Rattle.record_book.proofs.StreamLemmas.{few-done, fresh-at, place-is, room, stream-next, text-more, turn-found}
use Rattle.record_book.proofs.StreamLemmas.{under-of}
use Rattle.record_book.proofs.OrderLemmas.{all-taken, more-done, more-turn, stepped-done, stepped-turn}
use Rattle.record_book.proofs.trace_stream.TraceStream.step.Goals as goal

-- the ips that the trace is given are those of the node
same_ips : (c : goal.After-self-1) → ips_of c.self.inside.trace.nodes c.stack_of-stack.result
    ≡ stack (nodes_in (arc_value c.self.inside.job).scripts) c.in-Some.node
same_ips c =
    let stream = c.self.inside in
    let said = nodes_in (arc_value stream.job).scripts in
    let node = c.in-Some.node in
    let number = c.in_ok-known.ensures.number in
    ips-are said stream.trace.nodes c.stack_of-stack.result node c.in_ok-known.known
    c.deref-3.result.now
    (λ some. ap (λ (n : ℕ). stack stream.trace.nodes n) number
    ∙ c.self.invariant.1.stacks node (λ none. some (number ∙ none)))
    (λ none. c.deref-3.ensures.value ∙ c.in_ok-known.ensures.unknown none
    ∙ ap (λ (j : Job). stack (nodes_in j.scripts) node) c.deref-2.ensures)
    c.stack_of-stack.ensures.known
    (λ none. c.stack_of-stack.ensures.ips none stream.trace.nodes)

-- the nodes that are known with that of the turn
mapped : (c : goal.After-self-1) → AreMapped c.learn.new.self
    (nodes_in (arc_value c.self.inside.job).scripts) c.add.new.self.nodes
mapped c =
    let stream = c.self.inside in
    let same = c.in_ok-known.ensures.same in
    mapped-next stream.nodes c.learn.new.self (nodes_in (arc_value stream.job).scripts)
    stream.trace.nodes c.add.new.self.nodes c.in-Some.node c.in_ok-number.number
    c.self.invariant.1 c.in_ok-number.ensures.takes.nodes
    (c.learn.ensures.count ∙ ap (λ numbers. length numbers.items) same)
    (λ n apart. c.learn.ensures.other n apart
    ∙ ap (λ numbers. unwrap_or (slice_get numbers.items n) 0) same)
    c.learn.ensures.here c.in_ok-number.ensures.takes.node.held
    (λ some. c.in_ok-number.ensures.takes.node.stack_is some ∙ same_ips c)

pub returns-in_default-clause-step : goal.returns-in_default-clause-step
returns-in_default-clause-step c =
    let book = c.self.inside in
    let job = arc_value book.job in
    let held : c.args.thread < length job.scripts =
    subst (λ (r : Streamed). c.args.thread < length r.job.scripts) (sym c.self.view_is) c.requires in
    let here =
    place-is book.done.items c.args.thread c.index-place.result.now (omega (arith, held, c.self.invariant.0.threads))
    c.index-place.ensures in
    let at =
    turn-found job c.deref.result.now book.done.items c.args.thread c.index-place.result.now _ c.deref.ensures here
    (c.turn.ensures.turn
    ∙ ap (λ (found : Option (ScriptLine × ℕ)). option_map (said_in c.deref.result.now.scripts) found)
    c.in_default.is) in
    let count = done_at book.done.items c.args.thread in
    let taken = c.self.invariant.0.taken c.args.thread in
    subst (λ (r : Streamed). IsStep r.job c.args.thread r.order r.order false) c.self.view_is
    (record {
      order_is = sym (stepped-done job.scripts book.order.items c.args.thread count at taken);
      more_is = more-done job.scripts book.order.items c.args.thread count at taken;
      done = λ _. all-taken job.scripts book.order.items c.args.thread count at taken;
      under = under-of job book.done.items book.order.items book.trace c.self.invariant.0;
    })

pub returns-in_default-clause-text : goal.returns-in_default-clause-text
returns-in_default-clause-text c = ([], sym (append-nil _), sym (append-nil _))

pub add-requires : goal.add-requires
add-requires c =
    let book = c.self.inside in
    let job = arc_value book.job in
    let held : c.args.thread < length job.scripts =
    subst (λ (r : Streamed). c.args.thread < length r.job.scripts) (sym c.self.view_is) c.requires in
    let here =
    place-is book.done.items c.args.thread c.index-place.result.now (omega (arith, held, c.self.invariant.0.threads))
    c.index-place.ensures in
    let at =
    turn-found job c.deref.result.now book.done.items c.args.thread c.index-place.result.now _ c.deref.ensures here
    (c.turn.ensures.turn
    ∙ ap (λ (found : Option (ScriptLine × ℕ)). option_map (said_in c.deref.result.now.scripts) found) c.in-Some.is
    ∙ ap (λ (j : Job). Some (said_in j.scripts (c.in-Some.turn, c.in-Some.node))) c.deref.ensures) in
    let said = turn_said c.in-Some.turn (stack (nodes_in job.scripts) c.in-Some.node) in
    let more = room job book.done.items book.order.items book.trace c.args.thread said c.self.invariant.0 at in
    let few : event_count job.scripts < 2 ^ 24 =
    subst (λ (j : Job). event_count j.scripts < 2 ^ 24) c.deref.ensures c.turn.ensures.few_events in
    let number = c.in_ok-known.ensures.number in
    let ips =
    sym (ips-are (nodes_in job.scripts) book.trace.nodes c.stack_of-stack.result c.in-Some.node c.in_ok-known.known
    c.deref-3.result.now
    (λ some. ap (λ (n : ℕ). stack book.trace.nodes n) number
    ∙ c.self.invariant.1.stacks c.in-Some.node (λ none. some (number ∙ none)))
    (λ none. c.deref-3.ensures.value ∙ c.in_ok-known.ensures.unknown none
    ∙ ap (λ (j : Job). stack (nodes_in j.scripts) c.in-Some.node) c.deref-2.ensures)
    c.stack_of-stack.ensures.known (λ none. c.stack_of-stack.ensures.ips none book.trace.nodes)) in
    record {
      bounded = search rules;
      fresh = subst (λ (own : List ℕ). IsFresh book.trace.heap c.args.thread (turn_said c.in-Some.turn own)) ips
          (fresh-at job book.done.items book.order.items book.trace c.args.thread said c.self.invariant.0 at);
      room = record {
        nodes = record {
          known = search rules;
          numbered = (stacks_after (actions job.scripts book.order.items), c.self.invariant.0.trace_is.nodes_are);
          room = omega (arith, more, few, c.self.invariant.0.few_nodes);
        };
        heap = record {
          places = places_after (actions job.scripts book.order.items);
          heap_is = c.self.invariant.0.trace_is.heap_is;
          end_is = omega (arith, more, few, c.self.invariant.0.end);
        };
      };
    }

pub overflow_add-place : goal.overflow_add-place
overflow_add-place c =
    let book = c.self.inside in
    let job = arc_value book.job in
    let held : c.args.thread < length job.scripts =
    subst (λ (r : Streamed). c.args.thread < length r.job.scripts) (sym c.self.view_is) c.requires in
    let here =
    place-is book.done.items c.args.thread c.index-place.result.now (omega (arith, held, c.self.invariant.0.threads))
    c.index-place.ensures in
    let at =
    turn-found job c.deref.result.now book.done.items c.args.thread c.index-place.result.now _ c.deref.ensures here
    (c.turn.ensures.turn
    ∙ ap (λ (found : Option (ScriptLine × ℕ)). option_map (said_in c.deref.result.now.scripts) found) c.in-Some.is
    ∙ ap (λ (j : Job). Some (said_in j.scripts (c.in-Some.turn, c.in-Some.node))) c.deref.ensures) in
    let said = turn_said c.in-Some.turn (stack (nodes_in job.scripts) c.in-Some.node) in
    let more = room job book.done.items book.order.items book.trace c.args.thread said c.self.invariant.0 at in
    let few : event_count job.scripts < 2 ^ 24 =
    subst (λ (j : Job). event_count j.scripts < 2 ^ 24) c.deref.ensures c.turn.ensures.few_events in
    let below = few-done job book.done.items book.order.items book.trace c.args.thread c.self.invariant.0 in
    omega (arith, more, few, below, here)

-- the recording with the turn
next : (c : goal.After-self-1) → IsStream (arc_value c.self.inside.job)
    (slice_set c.self.inside.done.items c.args.thread (c.index-place.result.now + 1))
    c.push_entries.new.order.items c.add.new.self
next c =
    let book = c.self.inside in
    let job = arc_value book.job in
    let held : c.args.thread < length job.scripts =
    subst (λ (r : Streamed). c.args.thread < length r.job.scripts) (sym c.self.view_is) c.requires in
    let here =
    place-is book.done.items c.args.thread c.index-place.result.now (omega (arith, held, c.self.invariant.0.threads))
    c.index-place.ensures in
    let at =
    turn-found job c.deref.result.now book.done.items c.args.thread c.index-place.result.now _ c.deref.ensures here
    (c.turn.ensures.turn
    ∙ ap (λ (found : Option (ScriptLine × ℕ)). option_map (said_in c.deref.result.now.scripts) found) c.in-Some.is
    ∙ ap (λ (j : Job). Some (said_in j.scripts (c.in-Some.turn, c.in-Some.node))) c.deref.ensures) in
    let said = turn_said c.in-Some.turn (stack (nodes_in job.scripts) c.in-Some.node) in
    let new = c.add.new.self in
    let is =
    subst (λ (ips : List ℕ). (gone : List ℕ)
    → IsTrace gone book.trace job.modules (actions job.scripts book.order.items)
    → IsTrace gone new job.modules
    (with_turn c.args.thread (turn_said c.in-Some.turn ips) (actions job.scripts book.order.items)))
    (same_ips
    c)
    (λ gone before. c.in_ok-number.ensures.added gone job.modules (actions job.scripts book.order.items) before) in
    let order =
    c.in_ok-push_entries.ensures.pushed (stack (nodes_in job.scripts) c.in-Some.node)
    ∙ ap (λ (entries : List ℕ). entries ++ entries_of c.args.thread said) c.in_ok-reserve.ensures.items in
    subst (λ (entries : List ℕ). IsStream job (slice_set book.done.items c.args.thread (c.index-place.result.now + 1))
    entries new) (sym
    order)
    (subst (λ (place : ℕ). IsStream job (slice_set book.done.items c.args.thread (place + 1))
    (book.order.items ++ entries_of c.args.thread said) new) here
    (stream-next job book.done.items book.order.items book.trace new c.args.thread said c.self.invariant.0 held at is
    c.in_ok-number.ensures.takes.few_nodes c.in_ok-number.ensures.takes.end))

pub invariant_of-self-2 : goal.invariant_of-self-2
invariant_of-self-2 c = (next c, mapped c)

pub returns-clause-step : goal.returns-clause-step
returns-clause-step c =
    let book = c.self.inside in
    let job = arc_value book.job in
    let held : c.args.thread < length job.scripts =
    subst (λ (r : Streamed). c.args.thread < length r.job.scripts) (sym c.self.view_is) c.requires in
    let here =
    place-is book.done.items c.args.thread c.index-place.result.now (omega (arith, held, c.self.invariant.0.threads))
    c.index-place.ensures in
    let at =
    turn-found job c.deref.result.now book.done.items c.args.thread c.index-place.result.now _ c.deref.ensures here
    (c.turn.ensures.turn
    ∙ ap (λ (found : Option (ScriptLine × ℕ)). option_map (said_in c.deref.result.now.scripts) found) c.in-Some.is
    ∙ ap (λ (j : Job). Some (said_in j.scripts (c.in-Some.turn, c.in-Some.node))) c.deref.ensures) in
    let said = turn_said c.in-Some.turn (stack (nodes_in job.scripts) c.in-Some.node) in
    let count = done_at book.done.items c.args.thread in
    let taken = c.self.invariant.0.taken c.args.thread in
    let new = c.push_entries.new.order.items in
    let order =
    c.in_ok-push_entries.ensures.pushed (stack (nodes_in job.scripts) c.in-Some.node)
    ∙ ap (λ (entries : List ℕ). entries ++ entries_of c.args.thread said) c.in_ok-reserve.ensures.items in
    subst (λ (r : Streamed). IsStep r.job c.args.thread r.order new true) c.self.view_is
    (record {
      order_is = order ∙ sym (stepped-turn job.scripts book.order.items c.args.thread count said at taken);
      more_is = more-turn job.scripts book.order.items c.args.thread count said at taken;
      done = λ none. absurd (true≢false none);
      under = under-of job _ _ _ (next c);
    })

pub returns-clause-text : goal.returns-clause-text
returns-clause-text c =
    let book = c.self.inside in
    let job = arc_value book.job in
    let held : c.args.thread < length job.scripts =
    subst (λ (r : Streamed). c.args.thread < length r.job.scripts) (sym c.self.view_is) c.requires in
    let here =
    place-is book.done.items c.args.thread c.index-place.result.now (omega (arith, held, c.self.invariant.0.threads))
    c.index-place.ensures in
    let at =
    turn-found job c.deref.result.now book.done.items c.args.thread c.index-place.result.now _ c.deref.ensures here
    (c.turn.ensures.turn
    ∙ ap (λ (found : Option (ScriptLine × ℕ)). option_map (said_in c.deref.result.now.scripts) found) c.in-Some.is
    ∙ ap (λ (j : Job). Some (said_in j.scripts (c.in-Some.turn, c.in-Some.node))) c.deref.ensures) in
    let said = turn_said c.in-Some.turn (stack (nodes_in job.scripts) c.in-Some.node) in
    let new = c.add.new.self in
    let is =
    subst (λ (ips : List ℕ). (gone : List ℕ)
    → IsTrace gone book.trace job.modules (actions job.scripts book.order.items)
    → IsTrace gone new job.modules
    (with_turn c.args.thread (turn_said c.in-Some.turn ips) (actions job.scripts book.order.items)))
    (same_ips
    c)
    (λ gone before. c.in_ok-number.ensures.added gone job.modules (actions job.scripts book.order.items) before) in
    let order =
    c.in_ok-push_entries.ensures.pushed (stack (nodes_in job.scripts) c.in-Some.node)
    ∙ ap (λ (entries : List ℕ). entries ++ entries_of c.args.thread said) c.in_ok-reserve.ensures.items in
    let found =
    text-more job book.done.items book.order.items book.trace new c.args.thread said c.self.invariant.0 at is
    c.in_ok-number.ensures.kept in
    let more = found.0 in (
      more,
      found.1 ∙ ap (λ (r : Streamed). r.text ++ more) c.self.view_is,
      ap (λ (entries : List ℕ). recorded job entries) order ∙ found.2
          ∙ ap (λ (r : Streamed). recorded r.job r.order ++ more) c.self.view_is,
    )
