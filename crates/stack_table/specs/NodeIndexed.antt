-- What the index of the nodes has, for private clauses.
use Rattle.std.specs.Prelude.{◌≡◌, ℕ, ◌≤◌, ◌==◌, ◌&&◌, Bool, false, List, length, Option, Some}
use Rattle.std.specs.HashMap.{get}
use Rattle.stack_table.specs.declared.node_index.NodeIndex.{NodeIndex}
use Rattle.stack_table.specs.Node.{Node, node_at}
use Rattle.stack_table.specs.NodeNumber.{is_call, node_number}

-- whether two keys, each an instruction pointer and a parent, are equal
abbrev pub same_key : ℕ × ℕ → ℕ × ℕ → Bool
same_key x y = x.0 == y.0 && x.1 == y.1

-- the number that is kept for an instruction pointer and a parent
abbrev pub number_at : NodeIndex → ℕ → ℕ → Option ℕ
number_at index ip parent = get same_key index.numbers (ip, parent)

-- the index has the least number of each of the first nodes' instruction pointer and parent
pub record IsIndexed (nodes : List Node) (index : NodeIndex) : Type 0 where
  pub within : index.count ≤ length nodes
  pub each : (n : ℕ) (node : Node) → n ≤ index.count → node_at nodes n ≡ Some node
      → number_at index node.ip node.parent ≡ node_number nodes node.ip node.parent

-- none of the first nodes has this instruction pointer and parent
pub record IsPassed (nodes : List Node) (ip parent count : ℕ) : Type 0 where
  pub none : (n : ℕ) (node : Node) → n ≤ count → node_at nodes n ≡ Some node
      → is_call ip parent node ≡ false
