-- What an array stands for: the number of normal offers taken serves by its remainder alone.
use Rattle.std.proofs.Common.{◌≡◌, ℕ, ◌+◌, ◌*◌, ◌/◌, ◌%◌, ◌<◌, List, [], ◌∷◌, ◌++◌, inl, inr, sym, ap, ◌∙◌, arith}
use Rattle.std.specs.Prelude.{◌==◌, nat_lt, nat_le, if◌then◌else◌}
use Rattle.std.proofs.Math.Nat.{add-mul-mod_self_left, mod-add-div, mod-eq_of_lt, zero-mod}
use Rattle.std.proofs.lemmas.Bool.{cases_eq}
use Rattle.std.proofs.lemmas.Bool.Decides.{nat_tests}
use Rattle.std.proofs.lemmas.List.Sums.{fold-append}
use Rattle.massif_cull.specs.declared.snapshot.Offer.{Offer}
use Rattle.massif_cull.specs.declared.snapshot.Taken.{Taken}
use Rattle.massif_cull.specs.declared.snapshot.Taken.TheVariants.{No, Normal, Detailed, Peak}
use Rattle.massif_cull.specs.ArrayState.{ArrayState}
use Rattle.massif_cull.specs.Kept.{Settings, Kept, nothing_kept}
use Rattle.massif_cull.specs.TakenAs.{next_time_after, peak_bound, taken_as}
use Rattle.massif_cull.specs.Step.{with_offer, bounded, step}
use Rattle.massif_cull.specs.KeptOf.{kept_of}
use Rattle.massif_cull.specs.StandsFor.{StandsFor, held_of}

-- one more than a remainder
pub mod-more : (n f : ℕ) → (n % f + 1) % f ≡ (n + 1) % f
mod-more n f =
    let whole : n % f + 1 + f * (n / f) ≡ n + 1 = omega (arith, mod-add-div n f) in
    sym (add-mul-mod_self_left (n % f + 1) f (n / f)) ∙ ap (λ (k : ℕ). k % f) whole

-- the remainder of a remainder
pub mod-again : (n f : ℕ) → n % f % f ≡ n % f
mod-again n f =
    sym (add-mul-mod_self_left (n % f) f (n / f)) ∙ ap (λ (k : ℕ). k % f) (mod-add-div n f)

-- at the end of a turn, and within it
pub turn-full : (n f : ℕ) → n + 1 ≡ f → (n + 1) % f ≡ 0
turn-full n f full =
    let whole : 0 + f * 1 ≡ n + 1 = omega (arith, full) in
    ap (λ (k : ℕ). k % f) (sym whole) ∙ add-mul-mod_self_left 0 f 1 ∙ zero-mod f

pub turn-within : (n f : ℕ) → n + 1 < f → (n + 1) % f ≡ n + 1
turn-within n f less = mod-eq_of_lt less

pub turn-ends : (n f : ℕ) → n < f → (n + 1 == f) ≡ ((n + 1) % f == 0)
turn-ends n f below =
    elim (cases_eq (n + 1) f) [
      | inl full ↦ (let none = turn-full n f full in rw none (grind (arith, nat_tests)))
      | inr apart ↦ (let same = turn-within n f (omega arith) in rw same (grind (arith, nat_tests)))
    ]

-- the remainder says whether the next normal offer taken is detailed
pub taken-held : (settings : Settings) (kept : Kept) (offer : Offer)
    → taken_as settings (held_of settings kept) offer ≡ taken_as settings kept offer
taken-held settings kept offer =
    ap
    (λ (n : ℕ).
    if offer.peak
    then (if nat_lt (peak_bound settings kept) offer.total then Peak else No)
    else (if nat_le (next_time_after kept.entries kept.interval) offer.time
    then (if n == 0 then Detailed else Normal)
    else No))
    (mod-more kept.normals settings.detailed_freq)

-- what is taken, counted by its remainder
pub with-held : (settings : Settings) (kept : Kept) (offer : Offer) (taken : Taken)
    → held_of settings (bounded settings (with_offer (held_of settings kept) offer taken))
    ≡ held_of settings (bounded settings (with_offer kept offer taken))
with-held settings kept offer No =
    ap (λ (n : ℕ). let k : Kept = record (bounded settings kept) { normals = n } in k)
    (mod-again kept.normals settings.detailed_freq)
with-held settings kept offer Normal =
    ap (λ (n : ℕ). let k : Kept = record (bounded settings (with_offer kept offer Normal)) { normals = n } in k)
    (mod-more kept.normals settings.detailed_freq)
with-held settings kept offer Detailed =
    ap (λ (n : ℕ). let k : Kept = record (bounded settings (with_offer kept offer Detailed)) { normals = n } in k)
    (mod-more kept.normals settings.detailed_freq)
with-held settings kept offer Peak =
    ap (λ (n : ℕ). let k : Kept = record (bounded settings (with_offer kept offer Peak)) { normals = n } in k)
    (mod-again kept.normals settings.detailed_freq)

-- a step, counted by its remainder
pub step-held : (settings : Settings) (kept : Kept) (offer : Offer)
    → held_of settings (step settings (held_of settings kept) offer) ≡ held_of settings (step settings kept offer)
unfolding step
step-held settings kept offer =
    ap (λ (taken : Taken). held_of settings (bounded settings (with_offer (held_of settings kept) offer taken)))
    (taken-held settings kept offer)
    ∙ with-held settings kept offer (taken_as settings kept offer)

-- one more offer is one more step
pub kept_of-push : (settings : Settings) (offers : List Offer) (offer : Offer)
    → kept_of settings (offers ++ offer ∷ []) ≡ step settings (kept_of settings offers) offer
unfolding kept_of
kept_of-push settings offers offer = fold-append (step settings) nothing_kept offers (offer ∷ [])

-- a new array stands for no offers
pub stands-none : {T : Type 0} (state : ArrayState T) → state.kept ≡ nothing_kept → StandsFor state []
unfolding kept_of
stands-none state nothing = record {
  kept_is =
      nothing
      ∙ ap (λ (n : ℕ). let k : Kept = record nothing_kept { normals = n } in k)
      (sym (zero-mod state.settings.detailed_freq));
}

-- what an offer is taken as, by the list
pub stands-taken : {T : Type 0} (state : ArrayState T) (offers : List Offer) (offer : Offer) → StandsFor state offers
    → taken_as state.settings state.kept offer ≡ taken_as state.settings (kept_of state.settings offers) offer
stands-taken state offers offer stands =
    ap (λ (kept : Kept). taken_as state.settings kept offer) stands.kept_is
    ∙ taken-held state.settings (kept_of state.settings offers) offer

-- after one more offer
pub stands-push :
    {T : Type 0} (old new : ArrayState T) (offers : List Offer) (offer : Offer)
    → new.settings ≡ old.settings
    → new.kept ≡ held_of old.settings (step old.settings old.kept offer)
    → StandsFor old offers
    → StandsFor new (offers ++ offer ∷ [])
stands-push old new offers offer same after stands = record {
  kept_is =
      after
      ∙ ap (λ (kept : Kept). held_of old.settings (step old.settings kept offer)) stands.kept_is
      ∙ step-held old.settings (kept_of old.settings offers) offer
      ∙ ap (held_of old.settings) (sym (kept_of-push old.settings offers offer))
      ∙ ap (λ (settings : Settings). held_of settings (kept_of settings (offers ++ offer ∷ []))) (sym same);
}
