-- An interpreter stands for lines with some symbols where its tables and pointers are theirs and
-- none of them has a fault.
use Rattle.std.specs.Prelude.{◌≡◌, ℕ, ◌==◌, ◌<◌, ◌≤◌, if◌then◌else◌, true, false, List, [], length, Option, Some, None}
use Rattle.std.specs.Prelude.{IfSome, is_some, unwrap_or}
use Rattle.std.specs.List.{AllByRecursion}
use Rattle.std.specs.Map.{lookup}
use Rattle.ht_lines.specs.Content.{Content, raw_allocation_line, raw_free_line}
use Rattle.ht_trace.specs.declared.error.LineError.{LineError}
use Rattle.ht_trace.specs.declared.error.LineError.TheVariants.{NoMemory, TooMany}
use Rattle.ht_trace.specs.Gathered.{gathered}
use Rattle.ht_trace.specs.LineFault.{most_entries, most_nodes}
use Rattle.ht_trace.specs.VersionLines.{may_stand_first}
use Rattle.stack_table.specs.Node.{Node}
use Rattle.interpret.specs.declared.infos.AllocationInfo.{AllocationInfo}
use Rattle.interpret.specs.RawBlocks.{freed_info, held}
use Rattle.interpret.specs.RawContents.{IsRaw, contents, version_of}
use Rattle.interpret.specs.RawFault.{raw_fault}
use Rattle.interpret.specs.RawTables.{KnownIp, RawTables, info_number, tables_of}
use Rattle.interpret.specs.SymbolLine.{Symbol}

-- the symbols that are looked up, the file version where there was one, the tables, an info for
-- each pointer that stands for a block, and the fault after which no line is taken
pub record InterpreterState : Type 0 where
  pub symbols : List Symbol
  pub version : Option ℕ
  pub tables : RawTables
  pub pointers : List (ℕ × ℕ)
  pub failed : Option LineError

-- the info of a pointer
abbrev pub info_at : List (ℕ × ℕ) → ℕ → Option ℕ
info_at pointers ptr = lookup (λ named. ptr == named) pointers

-- the info of a pointer after one more line, where it had this one before
abbrev pub info_after : List AllocationInfo → Content → ℕ → Option ℕ → Option ℕ
info_after infos (raw_allocation_line size trace named) ptr before =
    if named == ptr then Some (info_number infos (record { size = size; trace = trace }))
    else before
info_after infos (raw_free_line named) ptr before = if named == ptr then None else before
info_after infos _ ptr before = before

-- a pointer stands for a block of this info, or for none, and every other for what it did
abbrev pub SetsPointer : List (ℕ × ℕ) → List (ℕ × ℕ) → ℕ → Option ℕ → Type 0
SetsPointer old new ptr info = (other : ℕ)
    → info_at new other ≡ if ptr == other then info else info_at old other

-- the fault after which no line is taken, with one more fault
abbrev pub failed_with : Option LineError → LineError → Option LineError
failed_with failed TooMany = Some TooMany
failed_with failed NoMemory = Some NoMemory
failed_with failed error = failed

-- each pointer has the info of its block, which is held
pub record PointsAs (pointers : List (ℕ × ℕ)) (infos : List AllocationInfo)
    (said : List Content) : Type 0 where
  pub info : (ptr : ℕ) → info_at pointers ptr ≡ freed_info infos (held said ptr)
  pub within : (ptr : ℕ) → IfSome (info_at pointers ptr) (λ n. n < length infos)

-- the tables and pointers are those of lines with these symbols, of which none has a fault after
-- those before it; so long as none is a version line, each may stand before one
pub record StandsFor (state : InterpreterState) (symbols : List Symbol)
    (lines : List (List ℕ)) : Type 0 where
  pub symbols_are : state.symbols ≡ symbols
  pub version : state.version ≡ version_of lines
  pub tables : state.tables ≡ tables_of symbols (contents lines)
  pub pointers : PointsAs state.pointers state.tables.infos (contents lines)
  pub not_failed : state.failed ≡ None
  pub no_fault : gathered (raw_fault symbols) [] lines ≡ []
  pub raw : AllByRecursion IsRaw (contents lines)
  pub first : is_some state.version ≡ false
      → AllByRecursion (λ line. may_stand_first line ≡ true) lines

-- it holds of all lines that it stands for
abbrev pub OfItsLines : InterpreterState → (List Symbol → List (List ℕ) → Type 0) → Type 0
OfItsLines state P = (symbols : List Symbol) (lines : List (List ℕ)) → StandsFor state symbols lines
    → P symbols lines

-- the file version is one that there is, and no table has more than it may have
pub record IsWithin (version : Option ℕ) (names : List (List ℕ)) (held : List KnownIp)
    (nodes : List Node) (infos : List AllocationInfo) : Type 0 where
  pub low : 1 ≤ unwrap_or version 1
  pub high : unwrap_or version 1 ≤ 3
  pub names_few : length names ≤ most_entries
  pub known_few : length held ≤ most_entries
  pub nodes_few : length nodes ≤ most_nodes
  pub infos_few : length infos ≤ most_entries
