-- How the lines of a tree are kept: each with the number of its label, for private clauses.
use Rattle.std.specs.Prelude.{ℕ, ◌<◌, List, [], All, length, map, slice_index_or}
use Rattle.massif_file.specs.declared.labelled_tree.LineEntry.{LineEntry}
use Rattle.massif_file.specs.LabelledLines.{LabelledLines}
use Rattle.massif_file.specs.TreeLine.{TreeLine}

-- the line of an entry
abbrev pub line_kept : List (List ℕ) → LineEntry → TreeLine
line_kept labels entry = record {
  children = entry.children;
  bytes = entry.bytes;
  label = slice_index_or labels entry.label [];
}

abbrev pub lines_in : List (List ℕ) → List LineEntry → List TreeLine
lines_in labels entries = map (line_kept labels) entries

-- the labels, and the lines of the entries
abbrev pub labelled_lines : List (List ℕ) → List LineEntry → LabelledLines
labelled_lines labels entries = record { labels = labels; lines = lines_in labels entries }

-- there is a label with the entry's number
abbrev pub HasLabel : List (List ℕ) → LineEntry → Type 0
HasLabel labels entry = entry.label < length labels

abbrev pub HaveLabels : List (List ℕ) → List LineEntry → Type 0
HaveLabels labels entries = All (HasLabel labels) entries
