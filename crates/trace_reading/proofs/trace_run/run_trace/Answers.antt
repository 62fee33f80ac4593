use Rattle.command_frame.proofs.Laws.{runs_wanting_by}
use Rattle.trace_reading.proofs.ReadingLemmas.{new_peaks}
use Rattle.trace_reading.proofs.trace_run.run_trace.Goals as goal

pub run_followed-requires-clause-new : goal.run_followed-requires-clause-new
run_followed-requires-clause-new g c =
    λ tables none. new_peaks c.in_ok-peaks.peaks c.in_ok-peaks.ensures.stands c.in_ok-peaks.ensures.stacks
    c.in_ok-peaks.ensures.infos tables

pub returns-in_err-peaks : goal.returns-in_err-peaks
returns-in_err-peaks g c = runs_wanting_by _ _ _ _ _ _ _ _ c.from_residual.ensures.1
