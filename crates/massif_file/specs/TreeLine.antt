-- A line of a tree is how many children it has, its bytes and its label.
use Rattle.std.specs.Prelude.{ℕ, List}
use Rattle.massif_file.specs.declared.profile.TreeFields.{TreeFields}

-- how many lines of the next level belong to it, the heap bytes of the place, and the place in words
pub record TreeLine : Type 0 where
  pub children : ℕ
  pub bytes : ℕ
  pub label : List ℕ

-- the line that these fields say
abbrev pub line_of : TreeFields → TreeLine
line_of fields = record {
  children = fields.children;
  bytes = fields.bytes;
  label = fields.label.now;
}
