-- A writer of points has written a profile where, whatever points come next, its tokens, then theirs
-- and those of the members behind the points, are the tokens of the profile with these added; and the
-- writer keeps those members.
use Rattle.std.specs.Prelude.{[], ◌∷◌, ◌++◌}
use Rattle.dhat_json.specs.declared.point_writer.PointWriter.{PointWriter}
use Rattle.dhat_json.specs.declared.profile.Dhat.{Dhat}
use Rattle.dhat_json.specs.declared.profile.Point.{Point}
use Rattle.dhat_json.specs.Begun.{HasBegun, HasTimes, with_points}
use Rattle.dhat_json.specs.IsSound.{HasTexts}

-- the writer has written the profile up to its last point, and keeps what stands behind the points
pub record HasWritten (writer : PointWriter) (dhat : Dhat) : Type 0 where
  pub begun : HasBegun writer.out dhat
  pub times : HasTimes writer.head dhat
  pub texts : HasTexts writer.head

-- a point was put behind the others
abbrev pub WritesPoint : PointWriter → PointWriter → Point → Type 0
WritesPoint old new point = (dhat : Dhat) → HasWritten old dhat
    → HasWritten new (with_points dhat (dhat.pps ++ point ∷ []))
