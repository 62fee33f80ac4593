-- Lines of a generated trace were taken where some of them were read, and the generator has yet to
-- make the others, which have no fault behind those.
use Rattle.std.specs.Prelude.{◌≡◌, ℕ, ◌+◌, ◌*◌, ◌^◌, ◌≤◌, List, [], ◌++◌, length, None}
use Rattle.trace_gen.specs.declared.generator.Generator.{Generator}
use Rattle.trace_gen.specs.GeneratorState.{IsAt, lines_yet}
use Rattle.sound_traces.specs.NoFault.{HasNoFault}
use Rattle.peak_costs.specs.PeakTotals.{PeakTotalsState}
use Rattle.trace_reading.specs.declared.trace.Trace.{Trace}
use Rattle.trace_reading.specs.TotalsView.{totals_view}
use Rattle.trace_reading.specs.ReadTrace.{HasRead, HasReadLine, IsSound, measure_of}
use Rattle.trace_reading.specs.TraceReport.{content_fault, ledger_faults}

-- some of these lines were read, and a generator has yet to make the others, which have no fault behind them
pub record HasTaken (trace : Trace PeakTotalsState) (generator : Generator)
    (lines : List (List ℕ)) : Type 0 where
  pub at : IsAt generator
  pub sound : IsSound totals_view trace
  pub taken : List (List ℕ)
  pub read : HasRead totals_view trace [] taken
  pub split : lines ≡ taken ++ lines_yet generator
  pub no_fault : HasNoFault taken (lines_yet generator)
  pub room : measure_of totals_view trace + 64 * length (lines_yet generator) ≤ 2 ^ 30

-- a generator has yet to make lines of which none has a fault, and a trace has read none
pub record MayRead (generator : Generator) (trace : Trace PeakTotalsState) : Type 0 where
  pub at : IsAt generator
  pub few : length (lines_yet generator) ≤ 10016003
  pub good : HasNoFault [] (lines_yet generator)
  pub sound : IsSound totals_view trace
  pub new_trace : HasRead totals_view trace [] []
  pub no_measure : measure_of totals_view trace ≡ 0

-- a line has no fault behind those that were read, and there is room for it
pub record MayReadLine (trace : Trace PeakTotalsState) (line : List ℕ) : Type 0 where
  pub sound : IsSound totals_view trace
  pub earlier : List (List ℕ)
  pub read : HasRead totals_view trace [] earlier
  pub good : content_fault ledger_faults [] earlier line ≡ None
  pub short : length line ≤ 40
  pub room : measure_of totals_view trace ≤ 2 ^ 30

-- it was read
abbrev pub ReadsLine : Trace PeakTotalsState → Trace PeakTotalsState → List ℕ → Type 0
ReadsLine old new line = HasReadLine ledger_faults totals_view old new line
