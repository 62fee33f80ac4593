-- The time of the last of some snapshots, and 0 where there is none.
use Rattle.std.specs.Prelude.{ℕ, ◌-◌, List, length, Option, Some, None, slice_get}
use Rattle.massif_file.specs.declared.profile.Snap.{Snap}

-- the time of the last snapshot, and 0 where there is none
abbrev pub time_of : Option Snap → ℕ
time_of None = 0
time_of (Some snap) = snap.time

abbrev pub last_time : List Snap → ℕ
last_time snaps = time_of (slice_get snaps (length snaps - 1))
