-- The instruction pointers of a node are its own, and then those of its parent. A raw node's line
-- has its own; an interpreted one has the number of an instruction, and 0 stands for the pointer 0.
use Rattle.std.specs.Prelude.{ℕ, ◌==◌, ◌-◌, List, if◌then◌else◌, map, slice_get, Option, Some, None}
use Rattle.std.specs.List.{filter_map}
use Rattle.std.specs.Option.{option_map}
use Rattle.ht_lines.specs.Content.{Content, node_line}
use Rattle.ht_trace.specs.Instruction.{Instruction}
use Rattle.ht_trace.specs.TraceLists.{instructions, nodes}
use Rattle.stack_table.specs.Node.{Node}
use Rattle.stack_table.specs.Stack.{stack}

-- the node of a raw line, which names its instruction pointer itself; how many frames stand there it doesn't say
abbrev pub raw_node_in : Content → Option Node
raw_node_in (node_line ip parent) = Some (record { ip = ip; parent = parent; frames = 1 })
raw_node_in _ = None

-- the nodes of raw lines, numbered from 1
abbrev pub raw_nodes : List Content → List Node
raw_nodes said = filter_map raw_node_in said

unfoldable pub raw_ips : List Content → ℕ → List ℕ
raw_ips said node = stack (raw_nodes said) node

-- the instruction pointer of an instruction's number, where it is held; 0 stands for no instruction
abbrev pub ip_of : List Instruction → ℕ → Option ℕ
ip_of held n = if n == 0 then Some 0
    else option_map (λ instruction. instruction.ip) (slice_get held (n - 1))

-- a node of interpreted lines names its instruction's number
unfoldable pub interpreted_ips : List Content → ℕ → List (Option ℕ)
interpreted_ips told node = map (ip_of (instructions told)) (stack (nodes told) node)
