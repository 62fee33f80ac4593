-- How the lines of a file may begin. Lines that say nothing are left out. Lines begin a profile
-- where they say its header and whole snapshots, and then some values of one more, or some lines of
-- its tree.
use Rattle.std.specs.Prelude.{◌≡◌, ℕ, ◌<◌, ◌≤◌, List, [], ◌∷◌, ◌++◌, length, take}
use Rattle.massif_file.specs.declared.profile.HeapTree.{HeapTree}
use Rattle.massif_file.specs.declared.profile.HeapTree.TheVariants.{Empty, Detailed, Peak}
use Rattle.massif_file.specs.declared.profile.Snap.{Snap}
use Rattle.massif_file.specs.declared.profile.Profile.{Profile}
use Rattle.massif_file.specs.IsRight.{AreRight}
use Rattle.massif_file.specs.Items.{Item, Say, items_of, snap_items}
use Rattle.massif_file.specs.Leads.{Leads}
use Rattle.massif_file.specs.LastTime.{last_time}
use Rattle.massif_file.specs.Descriptions.{Describe}

-- the lines are descriptions, which make this description together, and then one line for each of the items
pub record Begins (lines : List (List ℕ)) (desc : List ℕ) (items : List Item) : Type 0 where
  pub descriptions : List (List ℕ)
  pub others : List (List ℕ)
  pub parts : lines ≡ descriptions ++ others
  pub described : Describe [] descriptions desc
  pub said : Say others items

-- the lines say the header and whole snapshots, and then the first `count` values of one more
pub record InSnapshot (lines : List (List ℕ)) (profile : Profile) (snap : Snap) (count : ℕ) : Type
    0 where
  pub begun : Begins lines profile.desc
      (items_of profile ++ take count (snap_items (length profile.snaps) snap))
  pub right : AreRight 0 profile.snaps
  pub in_order : 1 < count → last_time profile.snaps ≤ snap.time

-- a snapshot of this mark has a tree
abbrev pub HasTree : HeapTree → Type 0
HasTree Empty = ⊥
HasTree Detailed = Unit {0}
HasTree Peak = Unit {0}

-- the lines say the header and whole snapshots, and then one more without the last lines of its tree, of which so
-- many are to come at each level
pub record InTree (lines : List (List ℕ)) (profile : Profile) (snap : Snap)
    (to_come : List ℕ) : Type 0 where
  pub begun : Begins lines profile.desc (items_of profile ++ snap_items (length profile.snaps) snap)
  pub right : AreRight 0 profile.snaps
  pub in_order : last_time profile.snaps ≤ snap.time
  pub marked : HasTree snap.mark
  pub leads : Leads (1 ∷ []) snap.tree to_come
  pub more : 0 < length to_come
