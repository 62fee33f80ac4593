-- What one line of a profile may say, and what a profile says, line by line.
use Rattle.std.specs.Prelude.{◌≡◌, ℕ, suc, List, [], ◌∷◌, ◌++◌, Some, Ok, map, codes}
use Rattle.massif_file.specs.declared.profile.TimeUnit.{TimeUnit}
use Rattle.massif_file.specs.declared.profile.HeapTree.{HeapTree}
use Rattle.massif_file.specs.TreeLine.{TreeLine}
use Rattle.massif_file.specs.declared.profile.Snap.{Snap}
use Rattle.massif_file.specs.declared.profile.Profile.{Profile}
use Rattle.massif_file.specs.Fields.{value_after, header_value, key_number, unit_in, mark_in}
use Rattle.massif_file.specs.TreeLineOf.{tree_line_of}

-- what one line may say: the command, the unit, a number after a key, a mark, a line of a tree
pub data Item : Type 0 where
  command_item : (cmd : List ℕ) → Item
  unit_item : (unit : TimeUnit) → Item
  number_item : (key : List ℕ) (n : ℕ) → Item
  mark_item : (mark : HeapTree) → Item
  node_item : (line : TreeLine) → Item

-- the line says the item
abbrev pub Says : List ℕ → Item → Type 0
Says line (command_item cmd) = header_value (codes "cmd:") line ≡ Some cmd
Says line (unit_item unit) = unit_in (header_value (codes "time_unit:") line) ≡ Some unit
Says line (number_item key n) = key_number key line ≡ Ok n
Says line (mark_item mark) = mark_in (value_after (codes "heap_tree=") line) ≡ Some mark
Says line (node_item node) = tree_line_of line ≡ Some node

-- the lines say the items, one line an item
abbrev pub Say : List (List ℕ) → List Item → Type 0
Say [] [] = Unit {0}
Say [] (item ∷ items) = ⊥
Say (line ∷ lines) [] = ⊥
Say (line ∷ lines) (item ∷ items) = Says line item × Say lines items

-- the six values of the snapshot with this number, and the lines of its tree
abbrev pub snap_items : ℕ → Snap → List Item
snap_items n snap =
    number_item (codes "snapshot=") n
    ∷ number_item (codes "time=") snap.time
    ∷ number_item (codes "mem_heap_B=") snap.heap
    ∷ number_item (codes "mem_heap_extra_B=") snap.extra
    ∷ number_item (codes "mem_stacks_B=") snap.stacks
    ∷ mark_item snap.mark
    ∷ map node_item snap.tree

-- the snapshots, which are numbered from this number on
abbrev pub snaps_items : ℕ → List Snap → List Item
snaps_items n [] = []
snaps_items n (snap ∷ snaps) = snap_items n snap ++ snaps_items (suc n) snaps

-- what a profile says after its description
abbrev pub items_of : Profile → List Item
items_of profile = command_item profile.cmd ∷ unit_item profile.unit ∷ snaps_items 0 profile.snaps
