use Rattle.std.proofs.Common.{◌∷◌, true, false, sym, subst, arith}
use Rattle.record_scripts.specs.declared.script_line.ScriptLine.{ScriptLine}
use Rattle.record_scripts.specs.Events.{free}
use Rattle.record_scripts.specs.ScriptTurns.{turn_said}
use Rattle.record_book.specs.TallyState.{IsTally}
use Rattle.record_book.specs.TraceState.{with_turn}
use Rattle.record_book.proofs.TallyLemmas.{if-ok}
use Rattle.record_book.proofs.tally.Tally.take_turn.Goals as goal

pub allocate-requires-in-Reallocation-clause-room : goal.allocate-requires-in-Reallocation-clause-room
allocate-requires-in-Reallocation-clause-room c =
    let tallied = c.requires.room.tallied in
    record {
      tallied = (
        record { thread = c.args.thread; event = free c.in-Reallocation.id true } ∷ tallied.0,
        c.free-in-Reallocation.ensures.taken true tallied.0 tallied.1,
      );
      few_bytes = omega (arith, c.free-in-Reallocation.ensures.bytes, c.requires.room.few_bytes);
      few_calls = omega (arith, c.free-in-Reallocation.ensures.calls, c.requires.room.few_calls);
    }

pub returns-in-Allocation-clause-taken : goal.returns-in-Allocation-clause-taken
returns-in-Allocation-clause-taken c =
    if-ok c.allocate.result _ _ (λ taken ips actions is.
    subst (λ (turn : ScriptLine). IsTally c.allocate.new.self (with_turn c.args.thread (turn_said turn ips) actions))
    (sym c.in-Allocation.is) (taken ips actions is))
    c.allocate.ensures.taken

pub returns-in-Free-clause-taken : goal.returns-in-Free-clause-taken
returns-in-Free-clause-taken c = λ ips actions is.
    subst (λ (turn : ScriptLine). IsTally c.free.new.self (with_turn c.args.thread (turn_said turn ips) actions))
    (sym c.in-Free.is) (c.free.ensures.taken false actions is)

pub returns-in-Reallocation-clause-taken : goal.returns-in-Reallocation-clause-taken
returns-in-Reallocation-clause-taken c =
    if-ok c.allocate-in-Reallocation.result _ _ (λ taken ips actions is.
    subst (λ (turn : ScriptLine). IsTally c.allocate-in-Reallocation.new.self
    (with_turn c.args.thread (turn_said turn ips) actions)) (sym
    c.in-Reallocation.is)
    (taken ips (record { thread = c.args.thread; event = free c.in-Reallocation.id true } ∷ actions)
    (c.free-in-Reallocation.ensures.taken true actions is)))
    c.allocate-in-Reallocation.ensures.taken
