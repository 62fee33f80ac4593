-- The number of an instruction and a parent is that of the first node that has both.
use Rattle.std.specs.Prelude.{ℕ, ◌+◌, ◌==◌, ◌&&◌, Bool, List, Option, position}
use Rattle.std.specs.Option.{option_map}
use Rattle.stack_table.specs.Node.{Node}

-- whether a node has this instruction pointer and parent
abbrev pub is_call : ℕ → ℕ → Node → Bool
is_call ip parent node = node.ip == ip && node.parent == parent

-- the number of the first node with this instruction pointer and parent, which is the least; none where there is no
-- such node
unfoldable pub node_number : List Node → ℕ → ℕ → Option ℕ
node_number nodes ip parent = option_map (λ place. place + 1) (position (is_call ip parent) nodes)
