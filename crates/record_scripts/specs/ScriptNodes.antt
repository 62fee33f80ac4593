-- The nodes of scripts are those of the stacks of their turns, each where it is called for first.
use Rattle.std.specs.Prelude.{List, [], ◌∷◌}
use Rattle.stack_table.specs.Interned.{stack_interned}
use Rattle.stack_table.specs.Node.{Node}
use Rattle.record_scripts.specs.Turns.{Turn, allocates, frees, reallocates}

-- with those of the stack of a turn, where they aren't there
abbrev pub nodes_with : List Node → Turn → List Node
nodes_with nodes (allocates id size ips) = (stack_interned nodes ips).nodes
nodes_with nodes (frees id) = nodes
nodes_with nodes (reallocates id size ips) = (stack_interned nodes ips).nodes

-- with those of the turns of a script
abbrev pub nodes_after : List Node → List Turn → List Node
nodes_after nodes [] = nodes
nodes_after nodes (turn ∷ turns) = nodes_after (nodes_with nodes turn) turns

-- with those of scripts, from the first on
abbrev pub nodes_behind : List Node → List (List Turn) → List Node
nodes_behind nodes [] = nodes
nodes_behind nodes (script ∷ scripts) = nodes_behind (nodes_after nodes script) scripts

-- the nodes of the stacks of scripts, each in the order in which the turns call for it first
unfoldable pub nodes_in : List (List Turn) → List Node
nodes_in scripts = nodes_behind [] scripts
