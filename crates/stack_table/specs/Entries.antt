-- How the nodes are kept: each entry also has the frames of its whole stack, for private clauses.
use Rattle.std.specs.Prelude.{◌≡◌, ℕ, ◌+◌, ◌-◌, ◌^◌, ◌≤◌, List, length, map, slice_get, Some}
use Rattle.stack_table.specs.declared.node_entry.NodeEntry.{NodeEntry}
use Rattle.stack_table.specs.Node.{Node}
use Rattle.stack_table.specs.Stack.{frame_count, most_frames}
use Rattle.stack_table.specs.LowerParents.{HasLowerParents}

-- the node that an entry stands for
abbrev pub node_of : NodeEntry → Node
node_of entry = record { ip = entry.ip; parent = entry.parent; frames = entry.frames }

-- the nodes that entries stand for
abbrev pub nodes_of : List NodeEntry → List Node
nodes_of entries = map node_of entries

-- the entries are a list of nodes with the frames of each stack, of which there are at most 4,096
pub record IsTable (entries : List NodeEntry) : Type 0 where
  pub parents : HasLowerParents (nodes_of entries)
  pub depths : (k : ℕ) (entry : NodeEntry) → slice_get entries k ≡ Some entry
      → entry.depth ≡ frame_count (nodes_of entries) (k + 1)
  pub few_frames : (k : ℕ) (entry : NodeEntry) → slice_get entries k ≡ Some entry
      → entry.depth ≤ most_frames
  pub few_nodes : length entries ≤ 2 ^ 32 - 2
