-- Which profiles a file may have. Which trees a mark goes with, and what a right profile is.
use Rattle.std.specs.Prelude.{◌≡◌, ℕ, ◌<◌, ◌≤◌, List, [], ◌∷◌, length}
use Rattle.massif_file.specs.declared.profile.HeapTree.{HeapTree}
use Rattle.massif_file.specs.declared.profile.HeapTree.TheVariants.{Empty, Detailed, Peak}
use Rattle.massif_file.specs.TreeLine.{TreeLine}
use Rattle.massif_file.specs.declared.profile.Snap.{Snap}
use Rattle.massif_file.specs.declared.profile.Profile.{Profile}
use Rattle.massif_file.specs.Trees.{IsTree}

-- no tree, or one tree
abbrev pub IsTreeOf : HeapTree → List TreeLine → Type 0
IsTreeOf Empty lines = lines ≡ []
IsTreeOf Detailed lines = IsTree lines
IsTreeOf Peak lines = IsTree lines

-- each tree is right, and no time is below the one before
abbrev pub AreRight : ℕ → List Snap → Type 0
AreRight time [] = Unit {0}
AreRight time (snap ∷ snaps) = (time ≤ snap.time) × IsTreeOf snap.mark snap.tree
    × AreRight snap.time snaps

-- there is a snapshot, each tree is right, and no time is below the one before
pub record IsRight (profile : Profile) : Type 0 where
  pub some : 0 < length profile.snaps
  pub snaps : AreRight 0 profile.snaps
