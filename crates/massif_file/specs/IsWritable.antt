-- Which profiles are read again as they are written. A profile can be read again where its numbers
-- are at most 2^62, its texts are texts of a line, and its trees are right.
use Rattle.std.specs.Prelude.{◌≢◌, ℕ, ◌+◌, ◌^◌, ◌<◌, ◌≤◌, List, length, All, Some, slice_get}
use Rattle.massif_file.specs.TreeLine.{TreeLine}
use Rattle.massif_file.specs.declared.profile.Snap.{Snap}
use Rattle.massif_file.specs.declared.profile.Profile.{Profile}
use Rattle.massif_file.specs.IsRight.{IsRight}

-- bytes without a line feed
abbrev pub IsLine : List ℕ → Type 0
IsLine text = All (λ b. b ≢ 10) text

-- bytes of one line that don't begin with a blank
pub record IsText (text : List ℕ) : Type 0 where
  pub line : IsLine text
  pub begin : slice_get text 0 ≢ Some 32

-- the numbers and the label that a tree line may have
pub record IsWritableLine (line : TreeLine) : Type 0 where
  pub children : line.children < 2 ^ 32
  pub bytes : line.bytes ≤ 2 ^ 62
  pub label : IsText line.label

-- the numbers that a snapshot may have, and the lines of its tree
pub record IsWritableSnap (snap : Snap) : Type 0 where
  pub time : snap.time ≤ 2 ^ 62
  pub heap : snap.heap ≤ 2 ^ 62
  pub extra : snap.extra ≤ 2 ^ 62
  pub stacks : snap.stacks ≤ 2 ^ 62
  pub tree : All IsWritableLine snap.tree

-- Each number is at most 2 ^ 62, that of the last snapshot too, and each text is one of a line. There is a snapshot,
-- trees are right, and no time falls.
pub record IsWritable (profile : Profile) : Type 0 where
  pub right : IsRight profile
  pub numbers : length profile.snaps ≤ 2 ^ 62 + 1
  pub desc : IsText profile.desc
  pub cmd : IsText profile.cmd
  pub snaps : All IsWritableSnap profile.snaps
