-- What private clauses say of a tree's lines, for private clauses.
use Rattle.std.specs.Prelude.{ℕ, List, ◌≡◌}
use Rattle.cost_tree.specs.declared.children.Gathered.{Gathered}
use Rattle.cost_tree.specs.declared.line.CostLine.{CostLine}
use Rattle.cost_tree.specs.Costed.{Costed}
use Rattle.cost_tree.specs.Gathering.{HaveLines}
use Rattle.cost_tree.specs.TreeLines.{line_at}
use Rattle.cost_tree.specs.TreeState.{TreeState}
use Rattle.massif_file.specs.TreeLine.{TreeLine}
use Rattle.massif_tree.specs.declared.options.TreeOptions.{TreeOptions}
use Rattle.massif_tree.specs.MassifTree.{massif_line, massif_tree, scale_of}

-- the line of the file for a line of the tree
abbrev pub line_in : ℕ → TreeState → CostLine → TreeLine
line_in threshold tree line = massif_line threshold (line_at tree line)

-- a tree has the lines of some stacks with what is gathered beside it
abbrev pub HaveSomeLines : TreeOptions → ℕ → TreeState → Gathered → Type 0
HaveSomeLines options total tree few = (stacks : List Costed)
    × HaveLines (scale_of options total) tree few stacks options.depth

-- the lines are those of stacks whose lines a tree has with what is gathered beside it, whichever stacks these are
abbrev pub AreLinesOfBoth : TreeOptions → ℕ → TreeState → Gathered → List TreeLine → Type 0
AreLinesOfBoth options total tree few lines = (stacks : List Costed)
    → HaveLines (scale_of options total) tree few stacks options.depth
    → lines ≡ massif_tree options total stacks
