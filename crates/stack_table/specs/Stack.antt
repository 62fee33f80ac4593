-- Stacks: the instruction pointers from a node outwards, and the frames that they stand for. The
-- stack of a node is its instruction, and then the stack of its parent; that of node 0 is empty.
use Rattle.std.specs.Prelude.{ℕ, ◌==◌, ◌+◌, List, [], ◌∷◌, length, reverse, map, sum_by, if◌then◌else◌}
use Rattle.stack_table.specs.Node.{Node}

-- for nodes listed from the last to the first: node n, then the nodes of its parent's stack, which all stand
-- before it; nothing where no node has the number
abbrev pub outwards : List Node → ℕ → List Node
outwards [] n = []
outwards (node ∷ before) n = if n == length before + 1 then node ∷ outwards before node.parent
    else outwards before n

-- the nodes of stack n, from node n outwards
unfoldable pub stack_nodes : List Node → ℕ → List Node
stack_nodes nodes n = outwards (reverse nodes) n

-- stack n: the instruction pointers of its nodes; stack 0 is empty
unfoldable pub stack : List Node → ℕ → List ℕ
stack nodes n = map (λ node. node.ip) (stack_nodes nodes n)

-- the frames of stack n: the sum over its nodes
unfoldable pub frame_count : List Node → ℕ → ℕ
frame_count nodes n = sum_by (λ node. node.frames) (stack_nodes nodes n)

-- the most frames of a stack
abbrev pub most_frames : ℕ
most_frames = 4096
