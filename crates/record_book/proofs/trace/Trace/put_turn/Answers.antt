use Rattle.record_scripts.specs.ScriptTurns.{turn_said}
use Rattle.record_book.specs.HeapPlaces.{places_after}
use Rattle.record_book.specs.MappedNodes.{ips_of}
use Rattle.record_book.specs.NodeNumbers.{stacks_after}
use Rattle.record_book.proofs.TraceLemmas.{turn-added}
use Rattle.record_book.proofs.trace.Trace.put_turn.Goals as goal

pub returns-clause-added : goal.returns-clause-added
returns-clause-added c = λ gone modules actions is.
    turn-added gone c.args.self.now c.put_events.new.self c.put_switch.new.text.items modules actions c.args.thread
    (turn_said c.args.turn (ips_of c.args.self.now.nodes c.args.stack)) is
    c.in_ok-put_switch.ensures.appended
    (c.in_ok-node.ensures.put (stacks_after actions) (places_after actions) is.nodes_are is.heap_is)
