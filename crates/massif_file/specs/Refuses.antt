-- A line can't follow such lines where it lacks the awaited key, number, order, mark or tree line:
-- one case a fault.
use Rattle.std.specs.Prelude.{◌≡◌, ◌≢◌, ◌⊎◌, ℕ, ◌<◌, ◌≤◌, List, [], ◌∷◌, length, Some, None, slice_get, codes}
use Rattle.massif_file.specs.declared.fault.ProfileFault.{ProfileFault}
use Rattle.massif_file.specs.declared.fault.ProfileFault.TheVariants.{BadHeader, BadSnapshot, BadNumber, WrongOrder}
use Rattle.massif_file.specs.declared.fault.ProfileFault.TheVariants.{BadTree, Truncated, NoMemory}
use Rattle.massif_file.specs.declared.profile.TimeUnit.{TimeUnit}
use Rattle.massif_file.specs.declared.profile.HeapTree.{HeapTree}
use Rattle.massif_file.specs.TreeLine.{TreeLine}
use Rattle.massif_file.specs.declared.profile.Snap.{Snap}
use Rattle.massif_file.specs.declared.profile.Profile.{Profile}
use Rattle.massif_file.specs.Begins.{Begins, InSnapshot, InTree}
use Rattle.massif_file.specs.Fields.{value_after, number_of, max_number}
use Rattle.massif_file.specs.Items.{command_item, unit_item, number_item, mark_item, node_item, Says, items_of}
use Rattle.massif_file.specs.LastTime.{last_time}
use Rattle.massif_file.specs.Descriptions.{Describe}

-- the keys of a snapshot's numbers, in the order of its lines
abbrev pub number_keys : List (List ℕ)
number_keys = codes "snapshot=" ∷ codes "time=" ∷ codes "mem_heap_B=" ∷ codes "mem_heap_extra_B="
    ∷ codes "mem_stacks_B=" ∷ []

-- after the lines a number with this key is awaited
pub record AwaitsNumber (lines : List (List ℕ)) (key : List ℕ) : Type 0 where
  pub profile : Profile
  pub snap : Snap
  pub count : ℕ
  pub begun : InSnapshot lines profile snap count
  pub key_is : slice_get number_keys count ≡ Some key

-- after the lines a mark is awaited
pub record AwaitsMark (lines : List (List ℕ)) : Type 0 where
  pub profile : Profile
  pub snap : Snap
  pub begun : InSnapshot lines profile snap 5

-- no description and no command where one is awaited, or no known unit
abbrev pub IsBadHeader : List (List ℕ) → List ℕ → Type 0
IsBadHeader lines line =
    ((desc : List ℕ) × Describe [] lines desc × (value_after (codes "desc:") line ≡ None)
    × (value_after (codes "cmd:") line ≡ None))
    ⊎ ((desc : List ℕ) × (cmd : List ℕ) × Begins lines desc (command_item cmd ∷ [])
    × ((unit : TimeUnit) → ¬ Says line (unit_item unit)))

-- not the awaited key, or no known mark
abbrev pub IsBadSnapshot : List (List ℕ) → List ℕ → Type 0
IsBadSnapshot lines line =
    ((key : List ℕ) × AwaitsNumber lines key × (value_after key line ≡ None))
    ⊎ (AwaitsMark lines × ((mark : HeapTree) → ¬ Says line (mark_item mark)))

-- the awaited key, and no number of at most 2 ^ 62 after it
abbrev pub IsBadNumber : List (List ℕ) → List ℕ → Type 0
IsBadNumber lines line =
    (key : List ℕ) × (value : List ℕ) × AwaitsNumber lines key × (value_after key line ≡ Some value)
    × (number_of max_number value ≡ None)

-- another number than that of the snapshot, or a time below that of the last one
abbrev pub IsWrongOrder : List (List ℕ) → List ℕ → Type 0
IsWrongOrder lines line =
    ((profile : Profile) × (snap : Snap) × (n : ℕ) × InSnapshot lines profile snap 0
    × Says line (number_item (codes "snapshot=") n) × (n ≢ length profile.snaps))
    ⊎ ((profile : Profile) × (snap : Snap) × (time : ℕ) × InSnapshot lines profile snap 1
    × Says line (number_item (codes "time=") time) × (time < last_time profile.snaps))

-- no line of a tree where one is awaited, or one above level 256
abbrev pub IsBadTree : List (List ℕ) → List ℕ → Type 0
IsBadTree lines line =
    (profile : Profile) × (snap : Snap) × (to_come : List ℕ) × InTree lines profile snap to_come
    × ((257 < length to_come) ⊎ ((node : TreeLine) → ¬ Says line (node_item node)))

-- the line can't follow the lines, for this fault
abbrev pub Refuses : List (List ℕ) → List ℕ → ProfileFault → Type 0
Refuses lines line BadHeader = IsBadHeader lines line
Refuses lines line BadSnapshot = IsBadSnapshot lines line
Refuses lines line BadNumber = IsBadNumber lines line
Refuses lines line WrongOrder = IsWrongOrder lines line
Refuses lines line BadTree = IsBadTree lines line
Refuses lines line Truncated = ⊥
Refuses lines line NoMemory = ⊥

-- the lines end in the header, before the first snapshot, in a snapshot or in a tree
pub data EndsEarly (lines : List (List ℕ)) : Type 0 where
  in_descriptions : (desc : List ℕ) → Describe [] lines desc → EndsEarly lines
  before_unit : (desc cmd : List ℕ) → Begins lines desc (command_item cmd ∷ []) → EndsEarly lines
  before_snapshots : (profile : Profile) → profile.snaps ≡ []
      → Begins lines profile.desc (items_of profile) → EndsEarly lines
  in_snapshot : (profile : Profile) (snap : Snap) (count : ℕ) → 0 < count → count ≤ 5
      → InSnapshot lines profile snap count → EndsEarly lines
  in_tree : (profile : Profile) (snap : Snap) (to_come : List ℕ) → InTree lines profile snap to_come
      → EndsEarly lines
