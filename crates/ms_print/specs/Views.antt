-- The entries of a tree that is shown: what a walk over it asks for, and what stands for its trees, for
-- private clauses.
use Rattle.std.specs.Prelude.{ℕ, List, [], ◌++◌}
use Rattle.massif_file.specs.TreeLine.{TreeLine}
use Rattle.massif_file.specs.Trees.{Trees}
use Rattle.ms_print.specs.declared.children.Entry.{Entry}
use Rattle.ms_print.specs.declared.children.Pending.{Pending}
use Rattle.ms_print.specs.declared.children.TreeView.{TreeView}
use Rattle.ms_print.specs.declared.entry.Scale.{Scale}
use Rattle.ms_print.specs.Ends.{children_at}
use Rattle.ms_print.specs.Entries.{entry_text}
use Rattle.ms_print.specs.Pendings.{AreRoots, entry_bytes, entry_children, entry_label}
use Rattle.ms_print.specs.Shown.{beside, kept, shown}
use Rattle.ms_print.specs.TreeText.{entries_text, entry_line}

-- what is shown below an entry, and what stands below the line at this place
abbrev pub below : TreeView → Entry → Trees
below view entry = entry_children view.scale view.tree.now entry

abbrev pub children_of : TreeView → ℕ → Trees
children_of view place = children_at view.tree.now place

-- what is pending are the roots of these trees
abbrev pub AreRootsIn : TreeView → ℕ → List Pending → Trees → Type 0
AreRootsIn view indent pending trees = AreRoots view.scale view.tree.now indent pending trees

-- and with any others behind it, of the trees that are not small with the others' beside them
abbrev pub AreKeptIn : TreeView → ℕ → List Pending → Trees → Type 0
AreKeptIn view indent pending trees = (more : List Pending) (others : Trees)
    → AreRootsIn view indent more others
    → AreRootsIn view indent (pending ++ more) (beside (kept view.scale trees) others)

-- what an entry says, its line behind a prefix, and those of all that is shown below the root
abbrev pub what_of : Scale → List TreeLine → Entry → List ℕ
what_of scale lines entry = entry_text scale (entry_bytes lines entry) (entry_label scale lines entry)

abbrev pub line_of : Scale → List ℕ → List TreeLine → Entry → List ℕ
line_of scale prefix lines entry = entry_line scale prefix (entry_bytes lines entry)
    (entry_label scale lines entry)

abbrev pub lines_of : Scale → List TreeLine → List ℕ
lines_of scale lines = entries_text scale [] (shown scale (children_at lines 0))

-- the entries are those below an entry, behind a prefix of this length
abbrev pub AreBelowIn : TreeView → ℕ → Entry → List Pending → Type 0
AreBelowIn view indent entry entries = AreRootsIn view indent entries (below view entry)
