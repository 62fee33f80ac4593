use Rattle.interpret.proofs.FreeLemmas.{event-fault-again, free-fault-again}
use Rattle.interpret.proofs.NoFaultLemmas.{end-again, no-fault-again}
use Rattle.interpret.proofs.OneLineLemmas.{all-one-line}
use Rattle.interpret.proofs.ReadAgainLemmas.{events-again, ledger-again, said-again, version-again}
use Rattle.interpret.proofs.read_again.interpreted_traces.Goals as goal

pub returns : goal.returns
returns c = λ symbols lines are.
    let back = c.hexadecimal_texts.ensures.reads_back in
    record {
      version = version-again back symbols lines are;
      reads_back = said-again back symbols lines are;
      events = events-again back symbols lines are;
      no_fault = no-fault-again back symbols lines are;
      end = end-again back symbols lines are;
      free_fault = free-fault-again back symbols lines are;
      event_fault = event-fault-again back symbols lines are;
      ledger = ledger-again back symbols lines are;
      one_line = all-one-line back symbols lines are;
    }
