-- The lines of a tree say trees: each is a root, and of the trees that the lines behind it say the
-- first are its children.
use Rattle.std.specs.Prelude.{ℕ, zero, suc, List, [], ◌∷◌}
use Rattle.massif_file.specs.TreeLine.{TreeLine}
use Rattle.massif_file.specs.Trees.{Trees, no_tree, a_tree}

-- so many of the trees, from the first on
abbrev pub first_trees : ℕ → Trees → Trees
first_trees zero trees = no_tree
first_trees (suc n) no_tree = no_tree
first_trees (suc n) (a_tree bytes label children others) = a_tree bytes label children
    (first_trees n others)

-- the others
abbrev pub later_trees : ℕ → Trees → Trees
later_trees zero trees = trees
later_trees (suc n) no_tree = no_tree
later_trees (suc n) (a_tree bytes label children others) = later_trees n others

-- A line is a root: of the trees that the lines after it say, the first are its children, as many
-- as it has, and the others stand beside it.
abbrev pub trees_of : List TreeLine → Trees
trees_of [] = no_tree
trees_of (line ∷ lines) = a_tree line.bytes line.label (first_trees line.children (trees_of lines))
    (later_trees line.children (trees_of lines))
