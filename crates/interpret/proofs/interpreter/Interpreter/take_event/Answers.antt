use Rattle.interpret.proofs.FrontLemmas.{err-holds, ok-holds}
use Rattle.interpret.proofs.interpreter.Interpreter.take_event.Goals as goal

pub returns-in-Allocation : goal.returns-in-Allocation
returns-in-Allocation c = rw c.in-Allocation.is c.allocate_held.ensures

pub returns-in-Free : goal.returns-in-Free
returns-in-Free c =
    rw c.in-Free.is (record {
      taken =
          λ taken line. ok-holds c.free.result c.is_ok.result c.is_ok.ensures.value taken
          (c.free.ensures.answers line).takes;
      untaken = λ not. err-holds c.free.result c.is_ok.result c.is_ok.ensures.value not c.free.ensures.untaken;
      unwritten = λ not. err-holds c.free.result c.is_ok.result c.is_ok.ensures.value not c.free.ensures.unwritten;
    })

pub returns-in-Node : goal.returns-in-Node
returns-in-Node c = rw c.in-Node.is c.add_known_node.ensures
