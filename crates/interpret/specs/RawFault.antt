-- The fault of a line of a raw trace after earlier lines, the first of these that holds: the want of a
-- version line, the grammar's, a second version line, an unknown parent or node, a stack too deep, a
-- table too full.
use Rattle.std.specs.Prelude.{ℕ, ◌+◌, ◌||◌, if◌then◌else◌, List, length, nat_lt, Option, Some, None, is_some, unwrap_or}
use Rattle.std.specs.Prelude.{Result, Ok, Err}
use Rattle.std.specs.Option.{option_or}
use Rattle.ht_lines.specs.declared.item.Malformed.{Malformed}
use Rattle.ht_lines.specs.Content.{Content, version_line, node_line, raw_allocation_line}
use Rattle.ht_lines.specs.declared.item.Form.TheVariants.{Raw}
use Rattle.ht_lines.specs.Reading.{reading}
use Rattle.ht_trace.specs.declared.error.LineError.{LineError}
use Rattle.ht_trace.specs.declared.error.LineError.TheVariants.{NoVersion, UnknownParent, UnknownTrace, TooDeep}
use Rattle.ht_trace.specs.declared.error.LineError.TheVariants.{TooMany}
use Rattle.ht_trace.specs.ErrorOf.{of_malformed}
use Rattle.ht_trace.specs.LineFault.{most_entries, most_nodes}
use Rattle.ht_trace.specs.VersionLines.{may_stand_first, missing_fault, second_fault}
use Rattle.stack_table.specs.Node.{Node}
use Rattle.stack_table.specs.Stack.{frame_count, most_frames}
use Rattle.interpret.specs.FirstAppearances.{over_fault}
use Rattle.interpret.specs.RawContents.{contents, version_of}
use Rattle.interpret.specs.RawTables.{KnownIp, RawTables, ip_frames, known_with, new_call, tables_after, tables_of}
use Rattle.interpret.specs.SymbolLine.{Symbol}

-- the fault of lists of names, instruction pointers and nodes, where one has more than it may have
abbrev pub lists_fault : List (List ℕ) → List KnownIp → List Node → Option LineError
lists_fault names held nodes =
    if nat_lt most_entries (length names)
    || (nat_lt most_entries (length held) || nat_lt most_nodes (length nodes)) then Some TooMany
    else None

-- the fault of tables that would grow to these
abbrev pub full_fault : RawTables → Option LineError
full_fault tables = option_or (lists_fault tables.names tables.known tables.nodes)
    (over_fault most_entries (length tables.infos))

-- a node's parent is a node or 0, and its stack, to which its instruction adds so many frames, has at most 4,096; else
-- it has the fault of the tables with it
abbrev pub node_fault : List Node → ℕ → ℕ → Option LineError → Option LineError
node_fault nodes frames parent full =
    if nat_lt (length nodes) parent then Some UnknownParent
    else if nat_lt most_frames (frame_count nodes parent + frames) then Some TooDeep
    else full

-- an allocation's node is one that is held or 0
abbrev pub allocation_fault : List Node → ℕ → Option LineError → Option LineError
allocation_fault nodes trace full = if nat_lt (length nodes) trace then Some UnknownTrace else full

-- the fault of what a line says, beside the version and the tables so far
unfoldable pub content_fault : List Symbol → Option ℕ → RawTables → Content → Option LineError
content_fault symbols version tables (version_line heaptrack file) = second_fault version
content_fault symbols version tables (node_line ip parent) =
    node_fault tables.nodes (ip_frames (known_with tables.known (new_call symbols tables ip)) ip)
    parent
    (full_fault (tables_after symbols tables (node_line ip parent)))
content_fault symbols version tables (raw_allocation_line size trace ptr) =
    allocation_fault tables.nodes trace
    (full_fault (tables_after symbols tables (raw_allocation_line size trace ptr)))
content_fault symbols version tables _ = None

-- the fault of a line that is read as this
abbrev pub reading_fault : List Symbol → Option ℕ → RawTables → Result Content Malformed
    → Option LineError
reading_fault symbols version tables (Ok said) = content_fault symbols version tables said
reading_fault symbols version tables (Err fault) = Some (of_malformed fault)

-- the fault of a line beside the version and the tables so far
abbrev pub fault_in : List Symbol → Option ℕ → RawTables → List ℕ → Option LineError
fault_in symbols version tables line =
    if is_some version || may_stand_first line
    then reading_fault symbols version tables (reading Raw (unwrap_or version 1) line)
    else Some NoVersion

-- the fault of a line after earlier lines, if it has one
unfoldable pub raw_fault : List Symbol → List (List ℕ) → List ℕ → Option LineError
raw_fault symbols earlier line = fault_in symbols (version_of earlier)
    (tables_of symbols (contents earlier)) line

-- the fault of a trace's end, if it has one
abbrev pub raw_end_fault : List (List ℕ) → Option LineError
raw_end_fault lines = missing_fault (version_of lines)
