-- The nodes of a trace, by their numbers. A node has an instruction, the number of its parent, 0
-- for none, and so many frames; node n is the n-th of the list, from 1.
use Rattle.std.specs.Prelude.{ℕ, ◌==◌, ◌-◌, List, Option, None, if◌then◌else◌, slice_get}

-- an instruction pointer, the number of the parent that it was called from, where 0 is none, and how many frames
-- it stands for
pub record Node : Type 0 where
  pub ip : ℕ
  pub parent : ℕ
  pub frames : ℕ

-- the node with the number n; numbers begin at 1
abbrev pub node_at : List Node → ℕ → Option Node
node_at nodes n = if n == 0 then None else slice_get nodes (n - 1)
