-- The lists of a trace, each in the order of its lines, from what the lines say. The strings,
-- instructions, nodes and infos are those of the lines of their kind, in the lines' order; the
-- patterns are those of the suppressions that were given, and then those of the `S` lines.
use Rattle.std.specs.Prelude.{ℕ, List, [], Option, Some, None, slice_get, unwrap_or}
use Rattle.std.specs.List.{filter_map}
use Rattle.ht_lines.specs.Content.{Content, command_line, string_line, instruction_line, node_line, info_line}
use Rattle.ht_lines.specs.Content.{suppression_line}
use Rattle.stack_table.specs.Node.{Node}
use Rattle.live_ledger.specs.LedgerState.{HeldInfo}
use Rattle.ht_trace.specs.FramesSaid.{frames_said}
use Rattle.ht_trace.specs.Instruction.{Instruction, frame_count_of}
use Rattle.ht_trace.specs.Gathered.{gathered}
use Rattle.ht_trace.specs.Pattern.{pattern_of}

abbrev pub string_in : Content → Option (List ℕ)
string_in (string_line bytes) = Some bytes
string_in _ = None

abbrev pub instruction_in : Content → Option Instruction
instruction_in (instruction_line ip module_string numbers) =
    Some (record { ip = ip; module_string = module_string; frames = frames_said numbers })
instruction_in _ = None

abbrev pub info_in : Content → Option HeldInfo
info_in (info_line size trace) = Some (record { stack = trace; size = size })
info_in _ = None

abbrev pub command_in : Content → Option (List ℕ)
command_in (command_line bytes) = Some bytes
command_in _ = None

abbrev pub pattern_in : Content → Option (List ℕ)
pattern_in (suppression_line bytes) = pattern_of bytes
pattern_in _ = None

-- the strings, numbered from 1; a text that comes twice has two numbers
abbrev pub strings : List Content → List (List ℕ)
strings said = filter_map string_in said

-- the instructions, numbered from 1
abbrev pub instructions : List Content → List Instruction
instructions said = filter_map instruction_in said

-- the infos, numbered from 0
abbrev pub infos : List Content → List HeldInfo
infos said = filter_map info_in said

-- the text of the first command line
abbrev pub command : List Content → Option (List ℕ)
command said = slice_get (filter_map command_in said) 0

-- the patterns of the suppression lines, numbered from 1
abbrev pub patterns : List Content → List (List ℕ)
patterns said = filter_map pattern_in said

-- a node's instruction pointer is the number of its instruction, one of those before it, and it has the frames of it
abbrev pub node_in : List Instruction → Content → Option Node
node_in held (node_line instruction parent) =
    Some (record {
      ip = instruction;
      parent = parent;
      frames = unwrap_or (frame_count_of held instruction) 0;
    })
node_in held _ = None

-- the nodes, numbered from 1
abbrev pub nodes : List Content → List Node
nodes said = gathered (λ earlier. node_in (instructions earlier)) [] said
