-- A tree with labels is its labels by their numbers, from 0 on, and its lines.
use Rattle.std.specs.Prelude.{ℕ, List, [], slice_index_or}
use Rattle.massif_file.specs.TreeLine.{TreeLine}

-- the labels by their numbers, which begin at 0, and the lines
pub record LabelledLines : Type 0 where
  pub labels : List (List ℕ)
  pub lines : List TreeLine

-- a line with the label of this number
abbrev pub line_with : LabelledLines → ℕ → ℕ → ℕ → TreeLine
line_with tree children bytes label = record {
  children = children;
  bytes = bytes;
  label = slice_index_or tree.labels label [];
}
