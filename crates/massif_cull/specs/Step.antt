-- What is kept after one more offer. What is kept after offers is what one step after another
-- leaves.
use Rattle.std.specs.Prelude.{ℕ, ◌+◌, nat_le, if◌then◌else◌, List, [], ◌∷◌, ◌++◌, length, map}
use Rattle.massif_cull.specs.declared.snapshot.Kind.{Kind}
use Rattle.massif_cull.specs.declared.snapshot.Kind.TheVariants as kind
use Rattle.massif_cull.specs.declared.snapshot.SnapEntry.{SnapEntry}
use Rattle.massif_cull.specs.declared.snapshot.Offer.{Offer}
use Rattle.massif_cull.specs.declared.snapshot.Taken.{Taken}
use Rattle.massif_cull.specs.declared.snapshot.Taken.TheVariants.{No, Normal, Detailed, Peak}
use Rattle.massif_cull.specs.Culling.{cull}
use Rattle.massif_cull.specs.Entries.{end_peak}
use Rattle.massif_cull.specs.Interval.{least_interval}
use Rattle.massif_cull.specs.Kept.{Settings, Kept}
use Rattle.massif_cull.specs.TakenAs.{taken_as}

-- the entry of an offer
abbrev pub entry_of : Offer → Kind → SnapEntry
entry_of offer as_kind
    = record { place = offer.place; time = offer.time; total = offer.total; kind = as_kind }

-- the entries with that of an offer at their end
abbrev pub with_entry : List SnapEntry → Offer → Taken → List SnapEntry
with_entry entries offer No = entries
with_entry entries offer Normal = entries ++ entry_of offer kind.Normal ∷ []
with_entry entries offer Detailed = entries ++ entry_of offer kind.Detailed ∷ []
with_entry entries offer Peak = map end_peak entries ++ entry_of offer kind.Peak ∷ []

-- what is kept with the offer, before a cull
abbrev pub with_offer : Kept → Offer → Taken → Kept
with_offer kept offer No = kept
with_offer kept offer Normal = record kept
    { entries = with_entry kept.entries offer Normal; normals = kept.normals + 1 }
with_offer kept offer Detailed = record kept
    { entries = with_entry kept.entries offer Detailed; normals = kept.normals + 1 }
with_offer kept offer Peak = record kept
    { entries = with_entry kept.entries offer Peak; last_peak = offer.total }

-- the entries, culled where they reach the maximum
abbrev pub entries_bounded : ℕ → List SnapEntry → List SnapEntry
entries_bounded max entries = if nat_le max (length entries) then cull entries else entries

-- the interval, a new one where the entries reach the maximum and are culled
abbrev pub interval_bounded : ℕ → List SnapEntry → ℕ → ℕ
interval_bounded max entries interval = if nat_le max (length entries)
    then least_interval (cull entries) else interval

-- what is left after a cull
abbrev pub culled : Kept → Kept
culled kept = record kept
    { entries = cull kept.entries; interval = least_interval (cull kept.entries) }

-- a cull where the entries reach the maximum
abbrev pub bounded : Settings → Kept → Kept
bounded settings kept =
    record kept {
      entries = entries_bounded settings.max kept.entries;
      interval = interval_bounded settings.max kept.entries kept.interval;
    }

-- what is kept after one more offer
unfoldable pub step : Settings → Kept → Offer → Kept
step settings kept offer = bounded settings (with_offer kept offer (taken_as settings kept offer))
