-- What is read off entries: which are peaks, and the time of the last.
use Rattle.std.specs.Prelude.{◌≡◌, ◌≢◌, ◌≤◌, ◌^◌, ℕ, ◌-◌, Bool, true, false, List, map, length, slice_index}
use Rattle.std.specs.List.{slice_index_or}
use Rattle.massif_cull.specs.declared.snapshot.Kind.{Kind}
use Rattle.massif_cull.specs.declared.snapshot.Kind.TheVariants.{Normal, Detailed, Peak}
use Rattle.massif_cull.specs.declared.snapshot.SnapEntry.{SnapEntry}

-- whether it is the kind of a peak
abbrev pub is_peak_kind : Kind → Bool
is_peak_kind Normal = false
is_peak_kind Detailed = false
is_peak_kind Peak = true

-- whether the entry is a peak
abbrev pub is_peak : SnapEntry → Bool
is_peak entry = is_peak_kind entry.kind

-- whether the entry at the place is a peak
abbrev pub is_peak_at : List SnapEntry → ℕ → Bool
is_peak_at entries place = slice_index_or (map is_peak entries) place false

-- no entry at another index is a peak
abbrev pub NoOtherIsPeak : List SnapEntry → ℕ → Type 0
NoOtherIsPeak entries index = (k : ℕ) → k ≢ index → is_peak_at entries k ≡ false

-- the kind that an entry has once a later peak is taken: an earlier peak becomes normal
abbrev pub kind_after_peak : Kind → Kind
kind_after_peak Normal = Normal
kind_after_peak Detailed = Detailed
kind_after_peak Peak = Normal

-- the entry with that kind
abbrev pub end_peak : SnapEntry → SnapEntry
end_peak entry = record entry { kind = kind_after_peak entry.kind }

-- the times of the entries
abbrev pub times : List SnapEntry → List ℕ
times entries = map (λ entry. entry.time) entries

-- the time of the last entry, and 0 of none
abbrev pub last_time : List SnapEntry → ℕ
last_time entries = slice_index (times entries) (length entries - 1)

-- what has this time and this total may come behind the entries: no time falls, and no number passes 2^62
pub record MayFollow (entries : List SnapEntry) (time total : ℕ) : Type 0 where
  pub in_order : last_time entries ≤ time
  pub time_most : time ≤ 2 ^ 62
  pub total_most : total ≤ 2 ^ 62
