-- A tree line is blanks, its number of children, its bytes and its label.
use Rattle.std.specs.Prelude.{ℕ, List, Option, codes}
use Rattle.std.specs.Option.{option_map, option_and_then}
use Rattle.massif_file.specs.TreeLine.{TreeLine}
use Rattle.massif_file.specs.Blanks.{without_blanks, before_byte, from_byte}
use Rattle.massif_file.specs.Fields.{value_after, number_of, max_number}

-- `B LABEL`: the bytes end at a blank or with the line, and the label has no leading blank
abbrev pub sized_line : ℕ → List ℕ → Option TreeLine
sized_line children text = option_map
    (λ bytes. record {
      children = children;
      bytes = bytes;
      label = without_blanks (from_byte 32 text);
    }) (number_of max_number (before_byte 32 text))

-- `C: B LABEL`, with C below 2 ^ 32
abbrev pub counted_line : List ℕ → Option TreeLine
counted_line text = option_and_then
    (λ children. option_and_then (sized_line children)
    (value_after (codes ": ") (from_byte 58 text))) (number_of 4294967295 (before_byte 58 text))

-- what the line says, where it is a tree line
unfoldable pub tree_line_of : List ℕ → Option TreeLine
tree_line_of line = option_and_then counted_line (value_after (codes "n") (without_blanks line))
