-- What is written so far, a line feed and the text of the lines that are left is the whole.
use Rattle.std.proofs.Common.{◌≡◌, ◌++◌, [], ◌∷◌, take, drop, vec_len}
use Rattle.massif_file.specs.MassifText.{tree_lines, text_of}
use Rattle.massif_file.proofs.writer.put_tree.Given as goal

abbrev pub invariant-each_line : goal.invariant-each_line
invariant-each_line l = record {
  kept : take (vec_len l.fn.out) l.out.items ≡ l.fn.out.items;
  written : l.out.items ++ (10 ∷ text_of (tree_lines l.levels (drop l.place l.fn.tree)))
      ≡ l.fn.out.items ++ (10 ∷ text_of (tree_lines (1 ∷ []) l.fn.tree));
}
