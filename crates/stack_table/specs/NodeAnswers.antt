-- What calls on nodes answer: a node by its number, why a node can't be added, and the nodes and the
-- number where one is found or added.
use Rattle.std.specs.Prelude.{◌≡◌, ◌≢◌, ℕ, ◌+◌, ◌-◌, ◌^◌, ◌<◌, ◌≤◌, List, length, Option, Some, None}
use Rattle.std.specs.Option.{option_map}
use Rattle.stack_table.specs.declared.fault.NodeFault.{NodeFault}
use Rattle.stack_table.specs.declared.fault.NodeFault.TheVariants.{NoMemory}
use Rattle.stack_table.specs.Interned.{Interned, node_interned}
use Rattle.stack_table.specs.Node.{Node, node_at}
use Rattle.stack_table.specs.NodeNumber.{node_number}
use Rattle.stack_table.specs.Stack.{frame_count, most_frames}

-- the node with this instruction pointer, called from this parent, of so many frames
abbrev pub node_of_call : ℕ → ℕ → ℕ → Node
node_of_call ip parent frames = record { ip = ip; parent = parent; frames = frames }

-- the instruction pointer and the parent of node n
abbrev pub call_at : List Node → ℕ → Option (ℕ × ℕ)
call_at nodes n = option_map (λ node. record { 0 = node.ip; 1 = node.parent }) (node_at nodes n)

-- the parent is held, and the new stack would have too many frames
abbrev pub IsTooDeep : List Node → ℕ → ℕ → Type 0
IsTooDeep nodes parent frames =
    (parent ≤ length nodes) × (most_frames < frame_count nodes parent + frames)

-- it would not, and there is no number for one more node
abbrev pub IsFull : List Node → ℕ → ℕ → Type 0
IsFull nodes parent frames =
    (parent ≤ length nodes) × (frame_count nodes parent + frames ≤ most_frames)
    × (length nodes ≡ 2 ^ 32 - 2)

-- the same of a node that isn't held yet
abbrev pub IsNewTooDeep : List Node → ℕ → ℕ → ℕ → Type 0
IsNewTooDeep nodes ip parent frames =
    (parent ≤ length nodes) × (node_number nodes ip parent ≡ None)
    × (most_frames < frame_count nodes parent + frames)

abbrev pub IsNewFull : List Node → ℕ → ℕ → ℕ → Type 0
IsNewFull nodes ip parent frames =
    (parent ≤ length nodes) × (node_number nodes ip parent ≡ None)
    × (frame_count nodes parent + frames ≤ most_frames) × (length nodes ≡ 2 ^ 32 - 2)

-- the nodes and the number that are answered
abbrev pub interned_as : List Node → ℕ → Interned
interned_as nodes number = record { nodes = nodes; number = number }

-- the node is interned so that these are the nodes, and it has this number
abbrev pub IsInternedAs : List Node → Node → List Node → ℕ → Type 0
IsInternedAs old node new number = node_interned old node ≡ interned_as new number

-- the fault is the one that was found, unless memory was wanting
abbrev pub TellsFault : Option NodeFault → NodeFault → Type 0
TellsFault found fault = fault ≢ NoMemory → found ≡ Some fault
