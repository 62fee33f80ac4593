-- What an offer leaves, by what it is taken as.
use Rattle.std.proofs.Common.{◌≡◌, ℕ, ◌<◌, ◌%◌, Bool, false, cond, List, length, refl, sym, ap, subst, ◌∙◌, arith}
use Rattle.std.specs.Prelude.{nat_le}
use Rattle.std.proofs.Math.Nat.{mod-eq_of_lt}
use Rattle.std.proofs.lemmas.Bool.Decides.{nat_tests}
use Rattle.massif_cull.specs.declared.snapshot.SnapEntry.{SnapEntry}
use Rattle.massif_cull.specs.declared.snapshot.Offer.{Offer}
use Rattle.massif_cull.specs.declared.snapshot.Taken.{Taken}
use Rattle.massif_cull.specs.declared.snapshot.Taken.TheVariants.{No, Normal, Detailed, Peak}
use Rattle.massif_cull.specs.Among.{AreAmong}
use Rattle.massif_cull.specs.ArrayState.{ArrayState, IsSound}
use Rattle.massif_cull.specs.Culling.{cull}
use Rattle.massif_cull.specs.Interval.{least_interval}
use Rattle.massif_cull.specs.Kept.{Settings, Kept}
use Rattle.massif_cull.specs.TakenAs.{taken_as}
use Rattle.massif_cull.specs.Step.{with_entry, with_offer, bounded, entry_of, step}
use Rattle.massif_cull.specs.Loads.{with_load, loads_cull, loads_bounded, loads_step}
use Rattle.massif_cull.specs.Origins.{kind_of}
use Rattle.massif_cull.specs.StandsFor.{held_of}
use Rattle.massif_cull.specs.TakenEntry.{TakesEntry, with_peak}
use Rattle.massif_cull.specs.TakesOffer.{TakesOffer}
use Rattle.massif_cull.proofs.Origins.{come-from}
use Rattle.massif_cull.proofs.Removals.{among-itself}
use Rattle.massif_cull.proofs.Standing.{stands-push}

-- a step by what the offer is taken as
pub step-as : (settings : Settings) (kept : Kept) (offer : Offer) (taken : Taken) → taken ≡ taken_as settings kept offer
    → held_of settings (bounded settings (with_offer kept offer taken)) ≡ held_of settings (step settings kept offer)
unfolding step
step-as settings kept offer taken as_taken =
    ap (λ (t : Taken). held_of settings (bounded settings (with_offer kept offer t))) as_taken

-- the loads by what the offer is taken as
pub loads-as : {T : Type 0} (settings : Settings) (kept : Kept) (offer : Offer) (loads : List T) (load : T)
    (taken : Taken)
    → taken ≡ taken_as settings kept offer
    → loads_bounded settings.max (with_offer kept offer taken).entries (with_load loads load taken)
    ≡ loads_step settings kept offer loads load
unfolding loads_step
loads-as {T} settings kept offer loads load taken as_taken =
    ap (λ (t : Taken). loads_bounded settings.max (with_offer kept offer t).entries (with_load loads load t)) as_taken

-- below the maximum nothing is removed
pub below-max : (max n : ℕ) → n < max → nat_le max n ≡ false
below-max max n less = grind (arith, nat_tests)

-- an offer that isn't taken leaves what is kept
pub none-kept : {T : Type 0} (state : ArrayState T) (offer : Offer) → IsSound state
    → No ≡ taken_as state.settings state.kept offer
    → state.kept ≡ held_of state.settings (step state.settings state.kept offer)
none-kept {T} state offer sound as_taken =
    let kept = state.kept in
    let no_cull : nat_le state.settings.max (length kept.entries) ≡ false = below-max _ _ sound.below_max in
    let counted : kept.normals % state.settings.detailed_freq ≡ kept.normals = mod-eq_of_lt sound.normals_below in
    sym
    (ap
    (λ (b : Bool).
    let k : Kept = record {
      entries = cond b (cull kept.entries) kept.entries;
      interval = cond b (least_interval (cull kept.entries)) kept.interval;
      last_peak = kept.last_peak;
      normals = kept.normals % state.settings.detailed_freq;
    }
    in k)
    no_cull
    ∙ ap (λ (n : ℕ). let k : Kept = record kept { normals = n } in k) counted)
    ∙ step-as state.settings kept offer No as_taken

-- and the loads
pub none-loads : {T : Type 0} (state : ArrayState T) (offer : Offer) (load : T) → IsSound state
    → No ≡ taken_as state.settings state.kept offer
    → state.loads ≡ loads_step state.settings state.kept offer state.loads load
none-loads {T} state offer load sound as_taken =
    let no_cull : nat_le state.settings.max (length state.kept.entries) ≡ false = below-max _ _ sound.below_max in
    sym (ap (λ (b : Bool). cond b (loads_cull state.kept.entries state.loads) state.loads) no_cull)
    ∙ loads-as state.settings state.kept offer state.loads load No as_taken

-- and each snapshot
pub none-among : {T : Type 0} (entries : List SnapEntry) (loads : List T) (offer : Offer) (load : T) (taken : Taken)
    → taken ≡ No → AreAmong (with_entry entries offer taken) (with_load loads load taken) entries loads
none-among {T} entries loads offer load taken none =
    subst (λ (t : Taken). AreAmong (with_entry entries offer t) (with_load loads load t) entries loads) (sym none)
    (among-itself entries loads)

-- a peak leaves the number of normal offers, which is below that of a turn
pub peak-held : (settings : Settings) (kept new : Kept) (entry : SnapEntry) → kept.normals < settings.detailed_freq
    → new ≡ bounded settings (with_peak kept entry) → new ≡ held_of settings (bounded settings (with_peak kept entry))
peak-held settings kept new entry below after =
    after
    ∙ ap (λ (n : ℕ). let k : Kept = record (bounded settings (with_peak kept entry)) { normals = n } in k)
    (sym (mod-eq_of_lt below))

-- the entries that are kept with an offer, whatever it is taken as
entries-with : (kept : Kept) (offer : Offer) (taken : Taken)
    → (with_offer kept offer taken).entries ≡ with_entry kept.entries offer taken
entries-with kept offer No = refl
entries-with kept offer Normal = refl
entries-with kept offer Detailed = refl
entries-with kept offer Peak = refl

-- what an array makes of an offer, by the entry that it takes
pub takes-offer :
    {T : Type 0} (old new : ArrayState T) (offer : Offer) (load : T) (judged taken : Taken)
    → IsSound old
    → judged ≡ taken
    → judged ≡ taken_as old.settings old.kept offer
    → new.kept ≡ held_of old.settings (bounded old.settings (with_offer old.kept offer taken))
    → TakesEntry old new (entry_of offer (kind_of taken)) (with_entry old.kept.entries offer taken)
    (with_load old.loads load taken)
    → TakesOffer old new offer load judged
takes-offer {T} old new offer load judged taken sound is as_judged after takes =
    let as_taken = sym is ∙ as_judged in
    let kept = after ∙ step-as old.settings old.kept offer taken as_taken in
    subst (λ (t : Taken). TakesOffer old new offer load t) (sym is) (record {
      stands = λ offers stands. stands-push old new offers offer takes.settings kept stands;
      settings = takes.settings;
      kept = kept;
      loads =
          takes.loads_left
          ∙ ap (λ (entries : List SnapEntry). loads_bounded old.settings.max entries (with_load old.loads load taken))
          (sym (entries-with old.kept offer taken))
          ∙ loads-as old.settings old.kept offer old.loads load taken as_taken;
      origins =
          come-from old.kept.entries old.loads offer load taken new.kept.entries new.loads sound.loads_beside
          takes.among;
      last = omega (arith, takes.last);
      below_max = takes.below_max;
    })
