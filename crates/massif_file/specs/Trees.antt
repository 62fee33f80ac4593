-- Trees, and the lines that say one.
use Rattle.std.specs.Prelude.{◌≡◌, ℕ, suc, ◌≤◌, max, List, [], ◌∷◌, ◌++◌}
use Rattle.massif_file.specs.TreeLine.{TreeLine}

-- trees side by side: none, or one with the trees below its root, and the others beside it
pub data Trees : Type 0 where
  no_tree : Trees
  a_tree : (bytes : ℕ) (label : List ℕ) (children others : Trees) → Trees

-- how many there are
abbrev pub count_of : Trees → ℕ
count_of no_tree = 0
count_of (a_tree bytes label children others) = suc (count_of others)

-- how many levels they have, where the roots are one
abbrev pub levels_of : Trees → ℕ
levels_of no_tree = 0
levels_of (a_tree bytes label children others) = max (suc (levels_of children)) (levels_of others)

-- a line for each root, with the number of its children, before the lines of these
abbrev pub lines_of : Trees → List TreeLine
lines_of no_tree = []
lines_of (a_tree bytes label children others)
    = record { children = count_of children; bytes = bytes; label = label }
    ∷ (lines_of children ++ lines_of others)

-- The lines are those of one tree, whose levels are 0 to at most 256.
pub record IsTree (lines : List TreeLine) : Type 0 where
  pub tree : Trees
  pub one : count_of tree ≡ 1
  pub levels : levels_of tree ≤ 257
  pub same : lines ≡ lines_of tree
