-- What private clauses say of a tree and its lines, for private clauses.
use Rattle.std.specs.Prelude.{◌≡◌, ℕ, ◌^◌, ◌≤◌, List, ◌++◌, sum_by}
use Rattle.std.specs.List.{flat_map}
use Rattle.cost_tree.specs.declared.line.CostLine.{CostLine}
use Rattle.cost_tree.specs.declared.scale.Scale.{Scale}
use Rattle.cost_tree.specs.Costed.{Costed}
use Rattle.cost_tree.specs.TreeLines.{HasLines, IsPlace, line_at}
use Rattle.cost_tree.specs.TreeState.{TreeState}
use Rattle.dhat_view.specs.declared.options.ViewOptions.{ViewOptions}
use Rattle.dhat_view.specs.Lines.{line_text}
use Rattle.dhat_view.specs.TreeText.{scale_of, tree_text}

-- the tree is that of the stacks, which cost so much together, and its numbers fit
pub record IsViewed (total : ℕ) (tree : TreeState) (stacks : List Costed) (depth : ℕ) : Type 0 where
  pub lines : HasLines tree stacks depth
  pub total_is : sum_by (λ (stack : Costed). stack.cost) stacks ≡ total

-- a line's node is held, and its level and its cost fit
pub record IsWritten (scale : Scale) (tree : TreeState) (line : CostLine) : Type 0 where
  pub place : IsPlace tree line.place
  pub level : line.level ≤ 2 ^ 32
  pub part : line.cost ≤ scale.total

-- the text of a line of a tree
abbrev pub text_in : Scale → TreeState → CostLine → List ℕ
text_in scale tree line = line_text scale (line_at tree line)

-- the texts of lines
abbrev pub texts_in : Scale → TreeState → List CostLine → List ℕ
texts_in scale tree = flat_map (text_in scale tree)

-- the tree's text came to the bytes, for each list of stacks whose tree it is
abbrev pub GainsTree : ℕ → ViewOptions → TreeState → List ℕ → List ℕ → Type 0
GainsTree total options tree old new = (stacks : List Costed)
    → IsViewed total tree stacks options.depth
    → new ≡ old ++ tree_text options.depth (scale_of total options.threshold) stacks
