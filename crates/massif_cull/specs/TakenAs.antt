-- An offer is taken where its time has come, as a detailed snapshot at each so many-th, or as the
-- peak where its total is above the last peak's by more than the inaccuracy.
use Rattle.std.specs.Prelude.{ℕ, ◌+◌, ◌*◌, ◌/◌, ◌%◌, ◌==◌, nat_lt, nat_le, if◌then◌else◌, List, [], ◌∷◌}
use Rattle.massif_cull.specs.declared.snapshot.SnapEntry.{SnapEntry}
use Rattle.massif_cull.specs.declared.snapshot.Offer.{Offer}
use Rattle.massif_cull.specs.declared.snapshot.Taken.{Taken}
use Rattle.massif_cull.specs.declared.snapshot.Taken.TheVariants.{No, Normal, Detailed, Peak}
use Rattle.massif_cull.specs.Entries.{last_time}
use Rattle.massif_cull.specs.Kept.{Settings, Kept}

-- the least time at which a normal offer is taken
abbrev pub next_time_after : List SnapEntry → ℕ → ℕ
next_time_after [] interval = 0
next_time_after (entry ∷ entries) interval = last_time (entry ∷ entries) + interval

-- the greatest total that is not above the last peak's by the inaccuracy
abbrev pub peak_bound : Settings → Kept → ℕ
peak_bound settings kept = kept.last_peak + kept.last_peak * settings.inaccuracy / 10000

-- a peak offer is taken where its total is above the last peak's by more than the inaccuracy; a normal offer where
-- its time is the last entry's and the interval or later, and then each `detailed_freq`-th is detailed
abbrev pub taken_as : Settings → Kept → Offer → Taken
taken_as settings kept offer =
    if offer.peak
    then (if nat_lt (peak_bound settings kept) offer.total then Peak else No)
    else (if nat_le (next_time_after kept.entries kept.interval) offer.time
    then (if (kept.normals + 1) % settings.detailed_freq == 0 then Detailed else Normal)
    else No)
