-- What a Massif tree has to fold: its lines by the labels above them, with the bytes that their
-- children leave. Of trees side by side, whose lines follow one another, a line has the first so
-- many of the trees behind it below itself as it has children, and the others beside itself. Of a
-- Massif tree one for each line: the shown labels from the root's child down to it, and its bytes
-- without those of its children, or 0 where they have more.
use Rattle.std.specs.Prelude.{ℕ, ◌-◌, List, [], ◌∷◌, drop, flat_map, map, sum, take}
use Rattle.cost_tree.specs.Costed.{Costed}
use Rattle.dhat_json.specs.Shown.{shown}
use Rattle.massif_file.specs.TreeLine.{TreeLine}

-- the shown labels of lines
abbrev pub labels_of : List TreeLine → List (List ℕ)
labels_of lines = map (λ line. shown line.label) lines

-- the bytes of each tree's root
unfoldable pub root_bytes : List TreeLine → List ℕ
root_bytes [] = []
root_bytes (line ∷ lines) = line.bytes ∷ drop line.children (root_bytes lines)

-- what the line's children, whose lines follow, leave of its bytes; nothing where they have more
abbrev pub left_bytes : TreeLine → List TreeLine → ℕ
left_bytes line lines = line.bytes - sum (take line.children (root_bytes lines))

-- the item one text further in, below a line with this text
abbrev pub below : List ℕ → Costed → Costed
below text item = record { texts = text ∷ item.texts; cost = item.cost }

-- the items of some trees, tree by tree
abbrev pub all_items : List (List Costed) → List Costed
all_items trees = flat_map (λ items. items) trees

-- the items of each tree, one for each line in the order of the file: the shown labels from the
-- root down to the line, and what the line's children leave
unfoldable pub forest_items : List TreeLine → List (List Costed)
forest_items [] = []
forest_items (line ∷ lines) =
    (record { texts = shown line.label ∷ []; cost = left_bytes line lines }
    ∷ map (below (shown line.label)) (all_items (take line.children (forest_items lines))))
    ∷ drop line.children (forest_items lines)

-- without the root's label: the list of the root is empty
abbrev pub without_root : Costed → Costed
without_root item = record { texts = drop 1 item.texts; cost = item.cost }

-- the items of a tree: the shown labels from the root's child down to each line, with what the line's children leave
unfoldable pub tree_items : List TreeLine → List Costed
tree_items lines = map without_root (all_items (forest_items lines))
