-- Read as an interpreted trace, these lines say what was meant, have no fault, and keep the ledger.
use Rattle.std.specs.Prelude.{◌≡◌, ◌^◌, ◌≤◌, ℕ, List, [], length, None}
use Rattle.std.specs.List.{AllByRecursion}
use Rattle.ht_lines.specs.OneLine.{IsOneLine}
use Rattle.ht_trace.specs.Contents as trace
use Rattle.ht_trace.specs.Gathered.{gathered}
use Rattle.ht_trace.specs.LineFault.{end_fault, line_fault, most_entries}
use Rattle.ht_trace.specs.TraceEvents as of_trace
use Rattle.ht_trace.specs.TraceLists.{patterns}
use Rattle.live_ledger.specs.Faults.{fault_of}
use Rattle.live_ledger.specs.LiveBytes.{allocated_bytes}
use Rattle.interpret.specs.InterpretedSaid.{interpreted_events, interpreted_said}
use Rattle.interpret.specs.InterpretedTrace as written
use Rattle.interpret.specs.InterpretedTrace.{AreInterpretable, HasFrames, HasOneLines, interpreted_trace}
use Rattle.interpret.specs.RawContents.{contents, version_of}
use Rattle.interpret.specs.RawFault.{raw_end_fault}
use Rattle.interpret.specs.RawLedger.{KeepsLedger}
use Rattle.interpret.specs.SymbolLine.{Symbol}

-- it holds of all lines of which none has a fault
abbrev pub OfInterpretable : (List Symbol → List (List ℕ) → Type 0) → Type 0
OfInterpretable P = (symbols : List Symbol) (lines : List (List ℕ)) → AreInterpretable symbols lines
    → P symbols lines

-- the written lines say what was meant, have no fault, and keep the ledger
pub record IsReadAgain (symbols : List Symbol) (lines : List (List ℕ)) : Type 0 where
  pub version : trace.version_of (interpreted_trace symbols lines) ≡ version_of lines
  pub reads_back : trace.contents (interpreted_trace symbols lines)
      ≡ interpreted_said symbols (contents lines)
  pub events : of_trace.events (interpreted_trace symbols lines)
      ≡ interpreted_events symbols (contents lines)
  -- the patterns of a table of suppressions may be too many
  pub no_fault : AllByRecursion HasFrames symbols
      → length (patterns (contents lines)) ≤ most_entries
      → gathered line_fault [] (interpreted_trace symbols lines) ≡ []
  pub end : raw_end_fault lines ≡ None → end_fault (interpreted_trace symbols lines) ≡ None
  pub free_fault :
      gathered written.free_fault [] (of_trace.events (interpreted_trace symbols lines)) ≡ []
  -- so long as the sizes fit the ledger
  pub event_fault : allocated_bytes (of_trace.events (interpreted_trace symbols lines)) ≤ 2 ^ 62
      → gathered fault_of [] (of_trace.events (interpreted_trace symbols lines)) ≡ []
  pub ledger : KeepsLedger symbols (contents lines)
  pub one_line : AllByRecursion HasOneLines symbols → AllByRecursion IsOneLine lines
      → AllByRecursion IsOneLine (interpreted_trace symbols lines)
