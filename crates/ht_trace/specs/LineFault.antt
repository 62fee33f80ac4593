-- The fault of a line after earlier lines: the first that holds in the order of the tests here. The
-- fault of a line is told from the lines before it: the version line, its form, a second version
-- line, what it names, the depth of its stack, and the room of the tables. A string, an instruction
-- or a node is named by 0 or a number up to their count, an info by a number below it.
use Rattle.std.specs.Prelude.{◌≡◌, ◌≢◌, ℕ, ◌+◌, ◌-◌, ◌^◌, Bool, ◌&&◌, ◌||◌, if◌then◌else◌, List, [], length, nat_le}
use Rattle.std.specs.Prelude.{nat_lt, Option, Some, None, is_some, unwrap_or, Result, Ok, Err}
use Rattle.std.specs.List.{list_all}
use Rattle.std.specs.Option.{option_or}
use Rattle.ht_lines.specs.declared.item.Malformed.{Malformed}
use Rattle.ht_lines.specs.Content.{Content, version_line, string_line, instruction_line, node_line, info_line}
use Rattle.ht_lines.specs.Content.{allocation_line, free_line, suppression_line}
use Rattle.ht_lines.specs.declared.item.Form.TheVariants.{Interpreted}
use Rattle.ht_lines.specs.Reading.{reading}
use Rattle.stack_table.specs.Node.{Node}
use Rattle.stack_table.specs.Stack.{frame_count, most_frames}
use Rattle.ht_trace.specs.declared.frame.Frame.{Frame}
use Rattle.ht_trace.specs.declared.error.LineError.{LineError}
use Rattle.ht_trace.specs.declared.error.LineError.TheVariants.{NoVersion, UnknownString, UnknownInstruction}
use Rattle.ht_trace.specs.declared.error.LineError.TheVariants.{UnknownParent, UnknownTrace, UnknownAllocation, TooDeep}
use Rattle.ht_trace.specs.declared.error.LineError.TheVariants.{TooMany, NoMemory}
use Rattle.ht_trace.specs.FramesSaid.{frames_said}
use Rattle.ht_trace.specs.Instruction.{frame_count_of}
use Rattle.ht_trace.specs.Pattern.{pattern_of}
use Rattle.ht_trace.specs.TableState.{TableState, tables_after, tables_of}
use Rattle.ht_trace.specs.ErrorOf.{of_malformed}
use Rattle.ht_trace.specs.VersionLines.{may_stand_first, missing_fault, second_fault}

-- the most strings, instructions, infos and patterns of a trace, and the most nodes
abbrev pub most_entries : ℕ
most_entries = 2 ^ 32 - 1

abbrev pub most_nodes : ℕ
most_nodes = 2 ^ 32 - 2

-- a table of so many entries can't grow where it has the most
abbrev pub growth_fault : ℕ → ℕ → Option LineError
growth_fault count most = if nat_lt count most then None else Some TooMany

-- whether each frame's function and file is one of so many strings, or 0 for none
abbrev pub frames_held : ℕ → List Frame → Bool
frames_held count frames = list_all
    (λ frame. nat_le frame.function count && nat_le frame.file count) frames

abbrev pub held_fault : ℕ → List Frame → Option LineError
held_fault count frames = if frames_held count frames then None else Some UnknownString

-- where they are held, one more instruction is wanted
abbrev pub append_fault : ℕ → ℕ → List Frame → Option LineError
append_fault string_count count frames = option_or (held_fault string_count frames)
    (growth_fault count most_entries)

-- the module, functions and files of an instruction are strings, or 0; the line numbers of its frames are no references
abbrev pub instruction_fault : ℕ → ℕ → ℕ → List Frame → Option LineError
instruction_fault string_count count module_string frames =
    if nat_lt string_count module_string then Some UnknownString
    else append_fault string_count count frames

-- a node whose instruction has so many frames, if it is held: its parent is a node or 0, and its stack has at most
-- 4,096 frames
abbrev pub node_fault : List Node → Option ℕ → ℕ → Option LineError
node_fault nodes None parent = Some UnknownInstruction
node_fault nodes (Some frames) parent =
    if nat_lt (length nodes) parent then Some UnknownParent
    else if nat_lt most_frames (frame_count nodes parent + frames) then Some TooDeep
    else growth_fault (length nodes) most_nodes

-- an info's trace is a node or 0
abbrev pub info_fault : ℕ → ℕ → ℕ → Option LineError
info_fault node_count count trace = if nat_lt node_count trace then Some UnknownTrace
    else growth_fault count most_entries

-- the info of an allocation or a free is held; infos are numbered from 0
abbrev pub reference_fault : ℕ → ℕ → Option LineError
reference_fault count info = if nat_lt info count then None else Some UnknownAllocation

-- the pattern of a text is one more, where it has one
abbrev pub pattern_fault : ℕ → List ℕ → Option LineError
pattern_fault count text = if is_some (pattern_of text) then growth_fault count most_entries
    else None

-- the fault of what a line says, beside the tables so far
abbrev pub content_fault : TableState → Content → Option LineError
content_fault tables (version_line heaptrack file) = second_fault tables.version
content_fault tables (string_line bytes) = growth_fault (length tables.strings) most_entries
content_fault tables (instruction_line ip module_string numbers) =
    instruction_fault (length tables.strings) (length tables.instructions) module_string
    (frames_said numbers)
content_fault tables (node_line instruction parent) = node_fault tables.nodes
    (frame_count_of tables.instructions instruction) parent
content_fault tables (info_line size trace) = info_fault (length tables.nodes) (length tables.infos)
    trace
content_fault tables (allocation_line info) = reference_fault (length tables.infos) info
content_fault tables (free_line info) = reference_fault (length tables.infos) info
content_fault tables (suppression_line bytes) = pattern_fault (length tables.patterns) bytes
content_fault tables _ = None

-- the fault of a line that is read as this
abbrev pub reading_fault : TableState → Result Content Malformed → Option LineError
reading_fault tables (Ok said) = content_fault tables said
reading_fault tables (Err fault) = Some (of_malformed fault)

-- the fault of a line beside the tables so far
abbrev pub fault_in : TableState → List ℕ → Option LineError
fault_in tables line =
    if is_some tables.version || may_stand_first line
    then reading_fault tables (reading Interpreted (unwrap_or tables.version 1) line)
    else Some NoVersion

-- the fault of a line after earlier lines, if it has one; texts of suppressions were given before them all
abbrev pub line_fault_after : List (List ℕ) → List (List ℕ) → List ℕ → Option LineError
line_fault_after given earlier line = fault_in (tables_after given earlier) line

-- the same where none were given
abbrev pub line_fault : List (List ℕ) → List ℕ → Option LineError
line_fault earlier line = line_fault_after [] earlier line

-- the fault of a trace's end, if it has one
abbrev pub end_fault : List (List ℕ) → Option LineError
end_fault lines = missing_fault (tables_of lines).version

-- the error is this fault, unless memory was wanting
abbrev pub Tells : LineError → Option LineError → Type 0
Tells error found = error ≢ NoMemory → found ≡ Some error
