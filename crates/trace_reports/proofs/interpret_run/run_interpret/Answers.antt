use Rattle.std.proofs.Common.{◌∙◌}
use Rattle.trace_reports.proofs.interpret_run.run_interpret.Goals as goal

pub returns-in-Some : goal.returns-in-Some
returns-in-Some g c = rw c.in-Some.is c.run_pair.ensures

pub returns-in-None : goal.returns-in-None
returns-in-None g c =
    rw c.in-None.is (rw (c.new-in-None-2.ensures.symbols_are ∙ c.new-in-None.ensures.empty) at c.run_one_file.ensures)
