-- What standard output gets of `interpret`: lines with the ledger and the stacks of the raw trace,
-- after every line of it.
use Rattle.std.specs.Prelude.{◌≡◌, ℕ, List, [], ◌++◌, count_by, sum_by, map, take, Option, Some, None, unwrap_or}
use Rattle.hp_outside.specs.Folder.{Folder, file_of}
use Rattle.hp_outside.specs.Lines.{lines_of}
use Rattle.ht_trace.specs.Contents as trace
use Rattle.ht_trace.specs.TraceEvents.{events}
use Rattle.live_ledger.specs.InStack.{blocks_in, live_in}
use Rattle.interpret.specs.Interpreted.{text_of}
use Rattle.interpret.specs.InterpretedTrace.{interpreted_trace}
use Rattle.interpret.specs.IpLists.{interpreted_ips, raw_ips}
use Rattle.interpret.specs.RawContents.{contents}
use Rattle.interpret.specs.RawLedger.{KeepsLedger, bytes_of, is_of, live_blocks}
use Rattle.interpret.specs.SymbolLine.{Symbol}
use Rattle.interpret.specs.SymbolList.{symbols_of}

-- the lines of a named file
abbrev pub lines_in : Folder → List ℕ → List (List ℕ)
lines_in folder name = lines_of (unwrap_or (file_of folder name) [])

-- the symbols of the named table, where one is named
abbrev pub symbols_in : Folder → Option (List ℕ) → List Symbol
symbols_in folder None = []
symbols_in folder (Some name) = symbols_of (lines_in folder name)

-- the output is the interpretation of raw lines with these symbols; read as an interpreted trace,
-- it leaves at every node the bytes and the blocks live that the raw lines do, and every node has
-- the instruction pointers outwards that it has there
pub record KeepsTrace (symbols : List Symbol) (lines : List (List ℕ)) (output : List ℕ) : Type
    0 where
  pub text : output ≡ text_of (interpreted_trace symbols lines)
  pub read : lines_of output ≡ interpreted_trace symbols lines
  pub ledger : KeepsLedger symbols (contents lines)
  pub bytes : (node : ℕ)
      → live_in node (events (lines_of output))
      ≡ sum_by (bytes_of node) (live_blocks (contents lines))
  pub blocks : (node : ℕ)
      → blocks_in node (events (lines_of output))
      ≡ count_by (is_of node) (live_blocks (contents lines))
  pub stacks : (node : ℕ)
      → interpreted_ips (trace.contents (lines_of output)) node
      ≡ map Some (raw_ips (contents lines) node)

-- the same of every front of the lines, of which a front of the output is the interpretation
pub record KeepsFronts (symbols : List Symbol) (lines : List (List ℕ)) (output : List ℕ) : Type
    0 where
  pub whole : KeepsTrace symbols lines output
  pub fronts : (count : ℕ) → (text : List ℕ) × ((rest : List ℕ) × ((output ≡ text ++ rest)
      × KeepsTrace symbols (take count lines) text))
