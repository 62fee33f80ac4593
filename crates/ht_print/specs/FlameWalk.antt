-- The lines of a tree that are still to be written, for private clauses.
use Rattle.std.specs.Prelude.{◌≡◌, ℕ, ◌-◌, ◌<◌, List, [], ◌∷◌, ◌++◌, length, Some, slice_get, slice_index_or}
use Rattle.cost_tree.specs.declared.node.CostNode.{CostNode}
use Rattle.cost_tree.specs.Costed.{Costed}
use Rattle.cost_tree.specs.IsTreeOf.{IsTreeOf}
use Rattle.cost_tree.specs.TreeState.{TreeState}
use Rattle.stack_table.specs.Stack.{most_frames}
use Rattle.ht_print.specs.FlameText.{flame_of}

-- the front of node n
abbrev pub front_at : TreeState → ℕ → List (List ℕ)
front_at tree n = slice_index_or tree.fronts n []

-- its last text
abbrev pub last_text : TreeState → ℕ → List ℕ
last_text tree n = slice_index_or (front_at tree n) (length (front_at tree n) - 1) []

-- a node other than node 0
abbrev pub IsBelowRoot : TreeState → ℕ → Type 0
IsBelowRoot tree n = (0 < n) × (n < length tree.nodes)

-- node 0 stands for the empty front, and each other node for its parent's with one text more
pub record IsRooted (tree : TreeState) : Type 0 where
  pub count : length tree.fronts ≡ length tree.nodes
  pub some : 0 < length tree.nodes
  pub root : front_at tree 0 ≡ []
  pub longer : (n : ℕ) (node : CostNode) → 0 < n → slice_get tree.nodes n ≡ Some node
      → front_at tree n ≡ front_at tree node.parent ++ last_text tree n ∷ []

-- the lines of node n and of those below it, in a tree of fronts of at most `depth` texts
abbrev pub flame_at : ℕ → TreeState → List Costed → ℕ → List ℕ
flame_at depth tree stacks n = flame_of (depth - length (front_at tree n)) stacks (front_at tree n)

-- the text is the flame stacks of the stacks that the tree is one of
abbrev pub AreFlamesOf : TreeState → List ℕ → Type 0
AreFlamesOf tree text = (stacks : List Costed) → IsTreeOf tree stacks most_frames
    → text ≡ flame_of most_frames stacks []
