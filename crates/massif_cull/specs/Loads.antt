-- The loads that are left where entries go: those that stand beside the entries that stay.
use Rattle.std.specs.Prelude.{ℕ, zero, suc, ◌/◌, nat_le, if◌then◌else◌, List, [], ◌∷◌, ◌++◌, length, remove}
use Rattle.std.specs.Option.{option_map_or}
use Rattle.massif_cull.specs.declared.snapshot.SnapEntry.{SnapEntry}
use Rattle.massif_cull.specs.declared.snapshot.Offer.{Offer}
use Rattle.massif_cull.specs.declared.snapshot.Taken.{Taken}
use Rattle.massif_cull.specs.declared.snapshot.Taken.TheVariants.{No, Normal, Detailed, Peak}
use Rattle.massif_cull.specs.Culling.{removed_place, cull1}
use Rattle.massif_cull.specs.Kept.{Settings, Kept}
use Rattle.massif_cull.specs.TakenAs.{taken_as}
use Rattle.massif_cull.specs.Step.{with_offer}

-- the loads without the one beside the entry that goes
unfoldable pub loads_cull1 : {T : Type 0} → List SnapEntry → List T → List T
loads_cull1 entries loads = option_map_or (remove loads) (removed_place entries) loads

-- the loads left where `cull1` is done so many times
unfoldable pub loads_cull_times : {T : Type 0} → ℕ → List SnapEntry → List T → List T
loads_cull_times zero entries loads = loads
loads_cull_times (suc n) entries loads = loads_cull_times n (cull1 entries)
    (loads_cull1 entries loads)

-- the loads left after a cull of the entries
unfoldable pub loads_cull : {T : Type 0} → List SnapEntry → List T → List T
loads_cull entries loads = loads_cull_times (length entries / 2) entries loads

-- the loads with that of an offer at their end, where the offer is taken
abbrev pub with_load : {T : Type 0} → List T → T → Taken → List T
with_load loads load No = loads
with_load loads load Normal = loads ++ load ∷ []
with_load loads load Detailed = loads ++ load ∷ []
with_load loads load Peak = loads ++ load ∷ []

-- the loads left where the entries reach the maximum
abbrev pub loads_bounded : {T : Type 0} → ℕ → List SnapEntry → List T → List T
loads_bounded max entries loads = if nat_le max (length entries) then loads_cull entries loads
    else loads

-- the loads after one more offer
unfoldable pub loads_step : {T : Type 0} → Settings → Kept → Offer → List T → T → List T
loads_step settings kept offer loads load =
    let taken = taken_as settings kept offer in
    loads_bounded settings.max (with_offer kept offer taken).entries (with_load loads load taken)
