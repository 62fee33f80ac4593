-- The tree of a snapshot: what some stacks cost below each front of their texts. A line of a
-- snapshot's tree is a line of the stacks' tree with a label: the front's last text, of the root
-- one of its own, and of gathered places their number.
use Rattle.std.specs.Prelude.{ℕ, List, [], ◌∷◌, map, ◌≡◌}
use Rattle.cost_tree.specs.declared.scale.Scale.{Scale}
use Rattle.cost_tree.specs.Costed.{Costed, costed}
use Rattle.cost_tree.specs.CostLines.{FrontLine, Shown, a_front, gathered, cost_lines, last_of}
use Rattle.massif_file.specs.TreeLine.{TreeLine}
use Rattle.massif_tree.specs.declared.options.TreeOptions.{TreeOptions}
use Rattle.massif_tree.specs.Labels.{gathered_label, root_label}

-- a front's last text; the empty one has the root's label
abbrev pub label_of : List (List ℕ) → List ℕ
label_of [] = root_label
label_of (text ∷ more) = last_of (text ∷ more)

-- the label of a line, where places below this threshold are gathered
abbrev pub label_in : ℕ → Shown → List ℕ
label_in threshold (a_front front) = label_of front
label_in threshold (gathered places) = gathered_label threshold places

-- the line of a snapshot's tree
abbrev pub massif_line : ℕ → FrontLine → TreeLine
massif_line threshold line
    = record { children = line.children; bytes = line.cost; label = label_in threshold line.shown }

-- the share of a snapshot's total that has a line of its own
abbrev pub scale_of : TreeOptions → ℕ → Scale
scale_of options total = record { total = total; threshold = options.threshold }

-- the lines of the stacks' tree, where the snapshot has this total
unfoldable pub massif_tree : TreeOptions → ℕ → List Costed → List TreeLine
massif_tree options total stacks = map (massif_line options.threshold)
    (cost_lines options.depth (scale_of options total) stacks)

-- the lines are those of lists with the costs that a costing has
abbrev pub AreLinesOfStated : (List ℕ → Type 0) → TreeOptions → ℕ → List (List (List ℕ))
    → List TreeLine → Type 0
AreLinesOfStated are_costs options total lists lines = (costs : List ℕ) → are_costs costs
    → lines ≡ massif_tree options total (costed lists costs)
