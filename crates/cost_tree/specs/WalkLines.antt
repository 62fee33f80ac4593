-- A walk over a tree, and the lines that it gives, for private clauses.
use Rattle.std.specs.Prelude.{◌≡◌, ℕ, ◌+◌, nat_lt, if◌then◌else◌, All, List, [], ◌∷◌, ◌++◌, map, reverse}
use Rattle.std.specs.List.{flat_map}
use Rattle.cost_tree.specs.declared.children.Gathered.{Gathered}
use Rattle.cost_tree.specs.declared.line.CostLine.{CostLine}
use Rattle.cost_tree.specs.declared.lines.Pending.{Pending}
use Rattle.cost_tree.specs.declared.scale.Scale.{Scale}
use Rattle.cost_tree.specs.AreLinesOf.{AreLinesOf}
use Rattle.cost_tree.specs.Costed.{Costed}
use Rattle.cost_tree.specs.CostLines.{cost_lines}
use Rattle.cost_tree.specs.Pendings.{IsLeft, IsPending, gathered_line, pending_lines}
use Rattle.cost_tree.specs.TreeLines.{HasLines, IsLineOf, line_at}
use Rattle.cost_tree.specs.TreeState.{TreeState}

-- the lines that were given, and what is pending, are the lines of the tree
pub record IsWalking (scale : Scale) (tree : TreeState) (lines : List CostLine)
    (pending : List Pending) : Type 0 where
  pub held : All (IsPending tree) pending
  pub made : (stacks : List Costed) (depth : ℕ) → HasLines tree stacks depth
      → map (line_at tree) lines ++ flat_map (pending_lines depth scale tree stacks) (reverse pending)
      ≡ cost_lines depth scale stacks
  pub each : (stacks : List Costed) (depth : ℕ) → HasLines tree stacks depth
      → All (IsLineOf tree stacks depth) lines
  pub left : (stacks : List Costed) (depth : ℕ) → HasLines tree stacks depth
      → All (IsLeft tree stacks depth) pending

-- behind those that it has taken, a taker takes so many
abbrev pub TakesBehind : {X : Type 0} → (X → List CostLine → X → Type 0) → List CostLine → X → X
    → Type 0
TakesBehind {X} takes rest old new = (first : X) (lines : List CostLine) → takes first lines old
    → takes first (lines ++ rest) new

-- a taker has taken the lines of what was pending
pub record TakesLeft {X : Type 0} (takes : TreeState → X → List CostLine → X → Type 0) (scale : Scale)
    (tree : TreeState) (pending : List Pending) (old new : X) : Type 0 where
  pub rest : List CostLine
  pub all : (lines : List CostLine) → IsWalking scale tree lines pending
      → AreLinesOf scale tree (lines ++ rest)
  pub taken : TakesBehind (takes tree) rest old new

-- the line of what is gathered beside it, where there is some
abbrev pub few_lines : Gathered → List CostLine
few_lines few = if nat_lt 0 few.places then gathered_line 1 few ∷ [] else []

-- the line of node 0 with what is gathered beside the tree
abbrev pub root_line : CostLine → Gathered → CostLine
root_line line few = record {
  level = line.level;
  children = line.children + (if nat_lt 0 few.places then 1 else 0);
  cost = line.cost + few.cost;
  place = line.place;
}
