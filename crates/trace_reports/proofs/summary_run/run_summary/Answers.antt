use Rattle.trace_reading.proofs.Laws.{new_totals}
use Rattle.trace_reports.proofs.summary_run.run_summary.Goals as goal

pub run_followed-requires-clause-new : goal.run_followed-requires-clause-new
run_followed-requires-clause-new g c =
    λ tables none. new_totals c.new-totals.result c.new-totals.ensures.stands c.new-totals.ensures.stacks
    c.new-totals.ensures.infos tables
