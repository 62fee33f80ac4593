-- The tree of a snapshot on a page. An entry is its prefix, `->`, its share, its bytes and its
-- place; a bar leads on below it where others stand beside it, and an entry without children has a
-- line of its prefix below.
use Rattle.std.specs.Prelude.{ℕ, List, [], ◌++◌, codes}
use Rattle.massif_file.specs.TreeLine.{TreeLine}
use Rattle.massif_file.specs.Trees.{Trees, no_tree, a_tree}
use Rattle.ms_print.specs.declared.entry.Scale.{Scale}
use Rattle.ms_print.specs.Entries.{entry_text}
use Rattle.ms_print.specs.Shown.{shown}
use Rattle.ms_print.specs.TreesOf.{trees_of}

-- what leads on below an entry: a bar to the entries that stand beside it, where there are some
abbrev pub bar_to : Trees → List ℕ
bar_to no_tree = codes "  "
bar_to (a_tree bytes label children others) = codes "| "

-- the line of an entry
unfoldable pub entry_line : Scale → List ℕ → ℕ → List ℕ → List ℕ
entry_line scale prefix bytes label = prefix
    ++ (codes "->" ++ (entry_text scale bytes label ++ codes "\n"))

-- the lines below an entry: its prefix alone, where it has no children
abbrev pub lines_below : Trees → List ℕ → List ℕ → List ℕ
lines_below no_tree prefix lines = prefix ++ codes "\n"
lines_below (a_tree bytes label children others) prefix lines = lines

-- the entries of trees side by side, each with those below it
abbrev pub entries_text : Scale → List ℕ → Trees → List ℕ
entries_text scale prefix no_tree = []
entries_text scale prefix (a_tree bytes label children others) =
    entry_line scale prefix bytes label
    ++ (lines_below children (prefix ++ bar_to others)
    (entries_text scale (prefix ++ bar_to others) children)
    ++ entries_text scale prefix others)

-- the root, and the entries below it
abbrev pub root_text : Scale → Trees → List ℕ
root_text scale no_tree = []
root_text scale (a_tree bytes label children others) = entry_text scale bytes label
    ++ (codes "\n" ++ entries_text scale [] (shown scale children))

-- the tree that these lines say
unfoldable pub tree_text : Scale → List TreeLine → List ℕ
tree_text scale lines = root_text scale (trees_of lines)
