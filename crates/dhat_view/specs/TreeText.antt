-- The tree of a view: what some points cost below each front of their texts. The view's tree is the
-- lines of the points' tree without the first.
use Rattle.std.specs.Prelude.{ℕ, List, drop}
use Rattle.std.specs.List.{flat_map}
use Rattle.cost_tree.specs.declared.scale.Scale.{Scale}
use Rattle.cost_tree.specs.Costed.{Costed}
use Rattle.cost_tree.specs.CostLines.{cost_lines}
use Rattle.dhat_view.specs.Lines.{line_text}

-- shares of a total, with a threshold
abbrev pub scale_of : ℕ → ℕ → Scale
scale_of total threshold = record { total = total; threshold = threshold }

-- the lines of the points' tree, to fronts of at most so many texts, without that of the empty front
unfoldable pub tree_text : ℕ → Scale → List Costed → List ℕ
tree_text depth scale stacks = flat_map (line_text scale) (drop 1 (cost_lines depth scale stacks))
