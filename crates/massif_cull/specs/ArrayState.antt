-- What contracts see of an array of snapshots, and what is true of each.
use Rattle.std.specs.Prelude.{◌≡◌, ◌<◌, ◌≤◌, ◌^◌, false, ◌&&◌, List, length, All, AllPairs}
use Rattle.massif_cull.specs.declared.snapshot.SnapEntry.{SnapEntry}
use Rattle.massif_cull.specs.Entries.{is_peak}
use Rattle.massif_cull.specs.Kept.{Settings, Kept}

-- the settings, what is kept, with the number of normal offers modulo `detailed_freq`, and beside each entry its load
pub record ArrayState (T : Type 0) : Type 0 where
  pub settings : Settings
  pub kept : Kept
  pub loads : List T

-- the settings are within their ranges
pub record AreInRange (settings : Settings) : Type 0 where
  pub max_least : 10 ≤ settings.max
  pub max_most : settings.max ≤ 1000
  pub detailed_freq_least : 1 ≤ settings.detailed_freq
  pub detailed_freq_most : settings.detailed_freq ≤ 1000000
  pub inaccuracy_most : settings.inaccuracy ≤ 10000

-- no time falls, at most one entry is a peak, and no number passes 2^62
pub record AreSound (entries : List SnapEntry) : Type 0 where
  pub in_order : AllPairs (λ earlier later. earlier.time ≤ later.time) entries
  pub one_peak : AllPairs (λ earlier later. (is_peak earlier && is_peak later) ≡ false) entries
  pub times_most : All (λ entry. entry.time ≤ 2 ^ 62) entries
  pub totals_most : All (λ entry. entry.total ≤ 2 ^ 62) entries

-- what is true of each array
pub record IsSound {T : Type 0} (state : ArrayState T) : Type 0 where
  pub settings : AreInRange state.settings
  pub entries : AreSound state.kept.entries
  pub below_max : length state.kept.entries < state.settings.max
  pub loads_beside : length state.loads ≡ length state.kept.entries
  pub interval_most : state.kept.interval ≤ 2 ^ 62
  pub last_peak_most : state.kept.last_peak ≤ 2 ^ 62
  pub normals_below : state.kept.normals < state.settings.detailed_freq
