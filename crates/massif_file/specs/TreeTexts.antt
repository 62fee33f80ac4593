-- The lines of a tree are written from its root on, what is below a node behind its line, and
-- before each line as many blanks as its level, which is 0 for the root.
use Rattle.std.specs.Prelude.{◌≡◌, ℕ, suc, List, [], ◌∷◌, ◌++◌}
use Rattle.massif_file.specs.Blanks.{blanks}
use Rattle.massif_file.specs.MassifText.{node_text, tree_lines}
use Rattle.massif_file.specs.Trees.{Trees, no_tree, a_tree, count_of, lines_of}

-- a line for each root, which are at this level, before the lines of what is below it, one level further in
abbrev pub tree_texts : ℕ → Trees → List (List ℕ)
tree_texts level no_tree = []
tree_texts level (a_tree bytes label children others) =
    (blanks level ++ node_text
    (record { children = count_of children; bytes = bytes; label = label }))
    ∷ (tree_texts (suc level) children ++ tree_texts level others)

-- the lines of the tree, as they are written line by line, are those
abbrev pub StandsByLevels : Trees → Type 0
StandsByLevels tree = tree_lines (1 ∷ []) (lines_of tree) ≡ tree_texts 0 tree
