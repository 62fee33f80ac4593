-- How contracts see the fields of an array, for private clauses.
use Rattle.std.specs.Prelude.{◌≡◌, ◌≤◌, ◌^◌, length}
use Rattle.massif_cull.specs.declared.array.SnapArray.TheInside.{Inside}
use Rattle.massif_cull.specs.ArrayState.{ArrayState}
use Rattle.massif_cull.specs.TakenAs.{next_time_after, peak_bound}

-- the settings, what is kept, and the loads
abbrev pub state_of : {T : Type 0} → Inside T → ArrayState T
state_of array = record {
  settings = record {
    max = array.max;
    detailed_freq = array.detailed_freq;
    inaccuracy = array.inaccuracy;
  };
  kept = record {
    entries = array.snaps.entries;
    interval = array.interval;
    last_peak = array.last_peak;
    normals = array.normals;
  };
  loads = array.snaps.loads;
}

-- there are as many places, and keys of places, as the maximum says
pub record IsAsLarge {T : Type 0} (array : Inside T) : Type 0 where
  pub max : array.snaps.max ≡ array.max
  pub gaps : length array.gaps.keys ≡ array.max

-- the numbers that offers are judged by are those of what is kept
pub record JudgesBy {T : Type 0} (array : Inside T) : Type 0 where
  pub normal : array.normal_from ≡ next_time_after array.snaps.entries array.interval
  pub normal_most : array.normal_from ≤ 2 ^ 63
  pub peak : array.peak_above ≡ peak_bound (state_of array).settings (state_of array).kept
