-- What the lines of a suppressions file mean. Each line of a suppressions file is the text of a
-- suppression, whose one fault is that its pattern would be too many; its patterns stand before
-- those of the trace, in the trace's faults and in what is made of it.
use Rattle.std.specs.Prelude.{ℕ, List, [], ◌∷◌, length, Option, None, Some}
use Rattle.std.specs.Option.{option_map}
use Rattle.ht_trace.specs.LineFault.{pattern_fault}
use Rattle.ht_trace.specs.Pattern.{patterns_of}
use Rattle.ht_trace.specs.StandsFor.{StandsAfter}
use Rattle.ht_trace.specs.TableState.{TableState}
use Rattle.command_frame.specs.Plan.{Plan, two_files}
use Rattle.command_frame.specs.Report.{Report, Writes}
use Rattle.command_frame.specs.Told.{Told}
use Rattle.trace_reading.specs.declared.fault.TraceFault.TheVariants.{Line}
use Rattle.trace_reading.specs.TraceFault.{told}
use Rattle.trace_reading.specs.TraceReport.{ledger_faults, trace_plan, trace_report}

-- a line is the text of a suppression: its fault after earlier lines is that a table has no room for its pattern
abbrev pub text_fault : List (List ℕ) → List ℕ → Option Told
text_fault earlier line = option_map (λ error. told (Line error))
    (pattern_fault (length (patterns_of earlier)) line)

-- the lines have no other fault, and write nothing
abbrev pub suppressions_report : Report
suppressions_report = record {
  line_fault = text_fault;
  end_fault = λ lines ended. None;
  gains = λ earlier line. [];
  verdict = λ lines. Writes [];
}

-- tables that were given the texts of some suppressions, and no line
pub record IsGiven (tables : TableState) : Type 0 where
  pub given : List (List ℕ)
  pub stands : StandsAfter tables given []

-- what is made of a trace whose own patterns stand behind those of such lines
abbrev pub report_behind : (List (List ℕ) → List (List ℕ) → List ℕ) → List (List ℕ) → Report
report_behind text lines = trace_report ledger_faults (patterns_of lines)
    (text (patterns_of lines))

-- a trace is read, and where a suppressions file is named, that file before it
abbrev pub plan_behind : Option (List ℕ) → List ℕ → (List (List ℕ) → List (List ℕ) → List ℕ) → Plan
plan_behind None trace text = trace_plan trace (text [])
plan_behind (Some name) trace text = two_files name suppressions_report trace (report_behind text)

-- the files that are read for it, in order
abbrev pub names_behind : Option (List ℕ) → List ℕ → List (List ℕ)
names_behind None trace = trace ∷ []
names_behind (Some name) trace = name ∷ trace ∷ []
