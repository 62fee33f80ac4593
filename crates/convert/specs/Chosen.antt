-- Which snapshot of a Massif file is folded. The snapshot that is folded is the one with the
-- number, where it has a tree; without a number the last peak, and where there is none the last
-- detailed one.
use Rattle.std.specs.Prelude.{ℕ, true, false, Bool, if◌then◌else◌, List, [], Option, Some, None, slice_get, find}
use Rattle.std.specs.Prelude.{option_and_then, reverse}
use Rattle.std.specs.Option.{option_map_or, option_or}
use Rattle.cost_tree.specs.Costed.{Costed}
use Rattle.massif_file.specs.declared.profile.HeapTree.{HeapTree}
use Rattle.massif_file.specs.declared.profile.HeapTree.TheVariants.{Empty, Detailed, Peak}
use Rattle.massif_file.specs.declared.profile.Profile.{Profile}
use Rattle.massif_file.specs.declared.profile.Snap.{Snap}
use Rattle.convert.specs.Folded.{folded_text}
use Rattle.convert.specs.TreeItems.{tree_items}

abbrev pub is_peak : HeapTree → Bool
is_peak Empty = false
is_peak Detailed = false
is_peak Peak = true

abbrev pub is_detailed : HeapTree → Bool
is_detailed Empty = false
is_detailed Detailed = true
is_detailed Peak = false

-- both a detailed snapshot and a peak have a tree
abbrev pub has_tree : HeapTree → Bool
has_tree Empty = false
has_tree Detailed = true
has_tree Peak = true

-- the snapshot, where its mark passes
abbrev pub if_marked : (HeapTree → Bool) → Snap → Option Snap
if_marked passes snap = if passes snap.mark then Some snap else None

-- the last snapshot whose mark passes
abbrev pub last_marked : (HeapTree → Bool) → List Snap → Option Snap
last_marked passes snaps = find (λ snap. passes snap.mark) (reverse snaps)

-- the last peak, and where there is none the last detailed snapshot
abbrev pub last_chosen : List Snap → Option Snap
last_chosen snaps = option_or (last_marked is_peak snaps) (last_marked is_detailed snaps)

-- the snapshot with this number, where it has a tree; without a number the last peak, and where
-- there is none the last detailed one
abbrev pub chosen : Option ℕ → Profile → Option Snap
chosen (Some number) profile = option_and_then (if_marked has_tree) (slice_get profile.snaps number)
chosen None profile = last_chosen profile.snaps

-- the items of its tree
abbrev pub chosen_items : Option ℕ → Profile → List Costed
chosen_items number profile = option_map_or (λ snap. tree_items snap.tree) (chosen number profile)
    []

-- their folded lines
abbrev pub folded_of_massif : Option ℕ → Profile → List ℕ
folded_of_massif number profile = folded_text (chosen_items number profile)
