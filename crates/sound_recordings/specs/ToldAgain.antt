-- A recording is told again by bytes where none of their lines is too long; without symbols none
-- has a fault in an interpretation, nor has their end; and with any symbols by which none has one,
-- `summary` of the interpreted trace tells the events, the calls, the allocated bytes, what is live
-- at the end, in bytes and in blocks, and the peak of the recording, any test of instruction
-- pointers counts in it the calls and bytes that it counts in the recording, and the trace is read
-- without a fault.
use Rattle.std.specs.Prelude.{◌≡◌, ℕ, ◌+◌, ◌^◌, ◌<◌, Bool, List, [], ◌++◌, length, map, Option, None, Some}
use Rattle.std.specs.List.{AllByRecursion}
use Rattle.hp_outside.specs.Lines.{lines_of}
use Rattle.ht_print.specs.SummaryText as trace
use Rattle.ht_trace.specs.Contents.{contents}
use Rattle.ht_trace.specs.Gathered.{gathered}
use Rattle.ht_trace.specs.LineFault.{end_fault, line_fault}
use Rattle.ht_trace.specs.TraceEvents.{events}
use Rattle.interpret.specs.InterpretedTrace.{HasFrames, HasShortTexts, interpreted_trace}
use Rattle.interpret.specs.IpLists.{interpreted_ips}
use Rattle.interpret.specs.RawFault.{raw_end_fault, raw_fault}
use Rattle.interpret.specs.SymbolLine.{Symbol}
use Rattle.live_ledger.specs.declared.event.Event.{Event}
use Rattle.live_ledger.specs.Faults.{fault_of}
use Rattle.record_book.specs.Actions.{actions}
use Rattle.record_book.specs.Figures as own
use Rattle.record_book.specs.Orders.{IsUnder}
use Rattle.record_book.specs.RecordedTrace.{recorded}
use Rattle.record_book.specs.SummaryText as recording
use Rattle.record_book.specs.SummaryText.{rec_summary}
use Rattle.record_scripts.specs.Job.{Job}
use Rattle.record_scripts.specs.ModuleLines.{AreModuleLines}
use Rattle.record_scripts.specs.Playable.{IsPlayable}
use Rattle.record_scripts.specs.Turns.{Turn}
use Rattle.sound_recordings.specs.StackFigures.{allocated_at, calls_at, freed_at, frees_at}

-- what `summary` tells of a trace of these events is what the summary of a recording tells, which
-- has nothing of temporary allocations and no moment of the peak
pub record TellSame (told : List Event) (scripts : List (List Turn)) (order : List ℕ) : Type 0 where
  pub events : (trace.summary_of told).totals.events ≡ (recording.summary_of scripts order).events
  pub calls : (trace.summary_of told).totals.calls ≡ (recording.summary_of scripts order).calls
  pub allocated : (trace.summary_of told).totals.allocated
      ≡ (recording.summary_of scripts order).allocated
  pub leaked : (trace.summary_of told).totals.live ≡ (recording.summary_of scripts order).leaked
  pub blocks : (trace.summary_of told).totals.blocks ≡ (recording.summary_of scripts order).blocks
  pub peak : (trace.summary_of told).peak ≡ (recording.summary_of scripts order).peak

-- the stacks of a trace are counted by their instruction pointers, from the innermost frame outwards
abbrev pub is_at : List (List ℕ) → (List (Option ℕ) → Bool) → ℕ → Bool
is_at lines counted stack = counted (interpreted_ips (contents lines) stack)

-- at the stacks that are counted, a trace of these lines has the calls and the bytes of the
-- recording; and what it frees there, with what the recording leaves live, is what it allocates
pub record TellStacks (lines : List (List ℕ)) (scripts : List (List Turn)) (order : List ℕ)
    (counted : List (Option ℕ) → Bool) : Type 0 where
  pub calls : calls_at (is_at lines counted) (events lines)
      ≡ own.calls (λ ips. counted (map Some ips)) (actions scripts order)
  pub allocated : allocated_at (is_at lines counted) (events lines)
      ≡ own.allocated (λ ips. counted (map Some ips)) (actions scripts order)
  pub bytes : freed_at (is_at lines counted) (events lines)
      + own.live_bytes (λ ips. counted (map Some ips)) (actions scripts order)
      ≡ allocated_at (is_at lines counted) (events lines)
  pub blocks : frees_at (is_at lines counted) (events lines)
      + own.live_count (λ ips. counted (map Some ips)) (actions scripts order)
      ≡ calls_at (is_at lines counted) (events lines)

-- no line of a trace has a fault, nor has its end, nor an event
pub record AreRead (lines : List (List ℕ)) : Type 0 where
  pub no_fault : gathered line_fault [] lines ≡ []
  pub end : end_fault lines ≡ None
  pub event_fault : gathered fault_of [] (events lines) ≡ []

-- what is told of lines that scripts were recorded in, in this order, once they are interpreted:
-- all figures and those at any stacks are the recording's; and where the texts of the symbols are
-- frames, as those of a file are, the trace is read without a fault
pub record TellAgain (lines : List (List ℕ)) (scripts : List (List Turn)) (order : List ℕ)
    (symbols : List Symbol) : Type 0 where
  pub figures : TellSame (events (interpreted_trace symbols lines)) scripts order
  pub stacks : (counted : List (Option ℕ) → Bool)
      → TellStacks (interpreted_trace symbols lines) scripts order counted
  pub read : AllByRecursion HasFrames symbols → AreRead (interpreted_trace symbols lines)

-- without symbols, no line of these bytes has a fault in an interpretation, nor has their end; none
-- is longer than what can be read; and with any symbols by which none has a fault, the interpreted
-- trace tells what scripts do that are recorded in this order
pub record IsToldAgain (bytes : List ℕ) (scripts : List (List Turn)) (order : List ℕ) : Type 0 where
  pub no_fault : gathered (raw_fault []) [] (lines_of bytes) ≡ []
  pub end : raw_end_fault (lines_of bytes) ≡ None
  pub short : AllByRecursion (λ line. length line < 2 ^ 32) (lines_of bytes)
  pub again : (symbols : List Symbol) → AllByRecursion HasShortTexts symbols
      → gathered (raw_fault symbols) [] (lines_of bytes) ≡ []
      → TellAgain (lines_of bytes) scripts order symbols

-- a job that lines without a fault can say, and an order under its scripts
pub record CanBeRecorded (job : Job) (order : List ℕ) : Type 0 where
  pub playable : IsPlayable job
  pub modules : AreModuleLines job.modules
  pub under : IsUnder job.scripts order

-- its recording is told again, and so it is with its summary behind it
pub record AreToldAgain (job : Job) (order : List ℕ) : Type 0 where
  pub trace : IsToldAgain (recorded job order) job.scripts order
  pub summary : IsToldAgain (recorded job order ++ rec_summary job.scripts order) job.scripts order
