-- The lines of a table of symbols give nothing; with its symbols each line of the raw trace gives
-- its interpreted lines.
use Rattle.std.specs.Prelude.{ℕ, List, [], ◌∷◌, Option, Some, None}
use Rattle.std.specs.Option.{option_map}
use Rattle.interpret.specs.Interpreted.{interpreted_lines, text_of}
use Rattle.interpret.specs.RawFault.{raw_end_fault, raw_fault}
use Rattle.interpret.specs.SymbolLine.{Symbol}
use Rattle.interpret.specs.SymbolList.{symbol_fault, symbols_of}
use Rattle.command_frame.specs.Plan.{Plan, one_file, two_files}
use Rattle.command_frame.specs.Report.{Report, Writes}
use Rattle.trace_reading.specs.declared.fault.TraceFault.TheVariants.{Line}
use Rattle.trace_reading.specs.TraceFault as trace_fault
use Rattle.trace_reports.specs.declared.symbol_file_fault.SymbolFileFault.TheVariants.{Line as symbol}
use Rattle.trace_reports.specs.SymbolFileFault.{told}

-- the lines of a table of symbols give nothing to standard output
abbrev pub symbols_report : Report
symbols_report = record {
  line_fault = λ earlier line.
      option_map (λ fault. told (symbol fault)) (symbol_fault (symbols_of earlier) line);
  end_fault = λ lines ended. None;
  gains = λ earlier line. [];
  verdict = λ lines. Writes [];
}

-- with these symbols, each line of a raw trace gives its interpreted lines, and nothing is left for the end
abbrev pub interpret_report : List Symbol → Report
interpret_report symbols = record {
  line_fault = λ earlier line.
      option_map (λ error. trace_fault.told (Line error)) (raw_fault symbols earlier line);
  end_fault = λ lines ended.
      option_map (λ error. trace_fault.told (Line error)) (raw_end_fault lines);
  gains = λ earlier line. text_of (interpreted_lines symbols earlier line);
  verdict = λ lines. Writes [];
}

-- the trace is read behind the table of symbols, or alone and then without symbols
abbrev pub plan_with : Option (List ℕ) → List ℕ → Plan
plan_with None trace = one_file trace (interpret_report [])
plan_with (Some symbols) trace = two_files symbols symbols_report trace
    (λ lines. interpret_report (symbols_of lines))

-- the files that are read, in order
abbrev pub files_with : Option (List ℕ) → List ℕ → List (List ℕ)
files_with None trace = trace ∷ []
files_with (Some symbols) trace = symbols ∷ trace ∷ []
