-- The nodes after a node or a stack is interned: those that are held are found, and the others are
-- added. A node is interned where it is found under that number, or else added at the end; a stack
-- is, where the stack of its outer instructions is and then its innermost one, called from there.
use Rattle.std.specs.Prelude.{◌==◌, ℕ, ◌+◌, ◌-◌, ◌^◌, if◌then◌else◌, List, [], ◌∷◌, ◌++◌, length, nat_lt, Option, Some}
use Rattle.std.specs.Prelude.{None}
use Rattle.std.specs.Option.{option_or}
use Rattle.stack_table.specs.declared.fault.NodeFault.{NodeFault}
use Rattle.stack_table.specs.declared.fault.NodeFault.TheVariants.{UnknownParent, TooDeep, Full}
use Rattle.stack_table.specs.Node.{Node}
use Rattle.stack_table.specs.NodeNumber.{node_number}
use Rattle.stack_table.specs.Stack.{frame_count, most_frames}

-- the nodes and the number that is answered
pub record Interned : Type 0 where
  pub nodes : List Node
  pub number : ℕ

-- a node that is held has its least number, and a new one the next
abbrev pub of_number : List Node → Node → Option ℕ → Interned
of_number nodes node (Some number) = record { nodes = nodes; number = number }
of_number nodes node None = record { nodes = nodes ++ node ∷ []; number = length nodes + 1 }

abbrev pub node_interned : List Node → Node → Interned
node_interned nodes node = of_number nodes node (node_number nodes node.ip node.parent)

-- why a node that isn't held can't be added
abbrev pub fault_of_number : List Node → Node → Option ℕ → Option NodeFault
fault_of_number nodes node (Some number) = None
fault_of_number nodes node None =
    if nat_lt most_frames (frame_count nodes node.parent + node.frames) then Some TooDeep
    else if length nodes == 2 ^ 32 - 2 then Some Full
    else None

abbrev pub node_interned_fault : List Node → Node → Option NodeFault
node_interned_fault nodes node =
    if nat_lt (length nodes) node.parent then Some UnknownParent
    else fault_of_number nodes node (node_number nodes node.ip node.parent)

-- a stack, given from its innermost instruction pointer outwards: that one is called from the stack of the others, and
-- each is one frame; the empty stack has number 0
abbrev pub stack_interned : List Node → List ℕ → Interned
stack_interned nodes [] = record { nodes = nodes; number = 0 }
stack_interned nodes (ip ∷ outer) =
    let before = stack_interned nodes outer in
    node_interned before.nodes (record { ip = ip; parent = before.number; frames = 1 })

-- the fault of the outermost node that can't be added
abbrev pub stack_fault : List Node → List ℕ → Option NodeFault
stack_fault nodes [] = None
stack_fault nodes (ip ∷ outer) =
    let before = stack_interned nodes outer in
    option_or (stack_fault nodes outer)
    (node_interned_fault before.nodes (record { ip = ip; parent = before.number; frames = 1 }))
