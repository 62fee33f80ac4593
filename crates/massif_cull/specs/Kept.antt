-- What an array is made with and keeps: the entries, the interval, the total of the last peak, and
-- how many normal offers were taken.
use Rattle.std.specs.Prelude.{ℕ, List, []}
use Rattle.massif_cull.specs.declared.snapshot.SnapEntry.{SnapEntry}

-- what an array is made with: its number of entries before a cull, every how many normal offers taken one is
-- detailed, and by how many hundredths of a percent a peak must pass the last one
pub record Settings : Type 0 where
  pub max : ℕ
  pub detailed_freq : ℕ
  pub inaccuracy : ℕ

-- the settings as they are given
abbrev pub settings_with : ℕ → ℕ → ℕ → Settings
settings_with max detailed_freq inaccuracy
    = record { max = max; detailed_freq = detailed_freq; inaccuracy = inaccuracy }

-- the entries, the least time from the last of them to the next normal offer taken, the total of the last peak
-- taken, and how many normal offers were taken
pub record Kept : Type 0 where
  pub entries : List SnapEntry
  pub interval : ℕ
  pub last_peak : ℕ
  pub normals : ℕ

-- before the first offer
abbrev pub nothing_kept : Kept
nothing_kept = record { entries = []; interval = 0; last_peak = 0; normals = 0 }
