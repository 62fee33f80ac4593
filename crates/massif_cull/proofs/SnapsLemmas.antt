-- What contracts see of linked snapshots, by their fields, before and after a call.
use Rattle.std.proofs.Common.{◌≡◌, ◌≢◌, ℕ, ◌+◌, ◌-◌, ◌<◌, ◌≤◌, List, [], ◌∷◌, ◌++◌, length, map, set, get_or, Option}
use Rattle.std.proofs.Common.{false, inl, inr, refl, sym, ap, subst, ◌∙◌, arith}
use Rattle.std.specs.Prelude.{slice_get, remove, Contains, Some, None, IsSome, is_some}
use Rattle.std.specs.Option.{option_map}
use Rattle.std.proofs.lemmas.Bool.{cases_eq, cases_lt}
use Rattle.std.proofs.lemmas.List.{get_or_default, get_or-set_other, get_or-set_same, length-map, map-append}
use Rattle.std.proofs.lemmas.List.{length-set, length_push, nil_from_length}
use Rattle.std.proofs.lemmas.List.Edits.{length-remove}
use Rattle.std.proofs.lemmas.Simd.{map-map}
use Rattle.std.proofs.lemmas.Option.{none-some, same_Some, slice_get-map, slice_get_within, slice_get-get_or}
use Rattle.std.proofs.lemmas.Option.{get_or_from_slice_get}
use Rattle.massif_cull.specs.declared.linked.Held.{Held}
use Rattle.massif_cull.specs.declared.linked.LinkedSnaps.TheInside.{Inside}
use Rattle.massif_cull.specs.declared.snapshot.Kind.{Kind}
use Rattle.massif_cull.specs.declared.snapshot.Kind.TheVariants.{Normal, Detailed, Peak}
use Rattle.massif_cull.specs.Entries.{end_peak, is_peak, is_peak_at, is_peak_kind, kind_after_peak}
use Rattle.massif_cull.specs.Linked.{IsOutside, AreDifferent, AreBelow}
use Rattle.massif_cull.specs.LinksState.{LinksState}
use Rattle.massif_cull.specs.Held.{held_at, held_in, snaps_of, AreHeld, ended}
use Rattle.massif_cull.specs.Removed.{HoldsAt}
use Rattle.massif_cull.specs.SnapsState.{ArePlaced}
use Rattle.massif_cull.proofs.Linking.{apart-at, each-append, each-at, each-from, each-remove, different-pop}
use Rattle.massif_cull.proofs.HeldLemmas.{AreEnded, AreTaken, some-of, length-held, held-at, held-push, taken-push}
use Rattle.massif_cull.proofs.HeldLemmas.{held-remove, taken-remove, held-ended, taken-ended}
use Rattle.massif_cull.proofs.Places.{peak-of}
use Rattle.massif_cull.proofs.Removals.{map-remove}

-- the place of a snap_at is one of the list
pub contains-at : (places : List ℕ) (k p : ℕ) → slice_get places k ≡ Some p → Contains places p
contains-at places k p at = (k, slice_get_within places k p at, get_or_from_slice_get places k p p at)

-- within a list there is something
pub some-inside : (xs : List ℕ) (k : ℕ) (o : Option ℕ) → o ≡ slice_get xs k → k < length xs → IsSome o
some-inside xs k o is inside = ap is_some (is ∙ slice_get-get_or xs k 0 inside)

-- before a place that isn't the front there is another
pub before-at :
    (places : List ℕ) (place before k : ℕ)
    → (slice_get places 0 ≡ Some place → Some before ≡ None)
    → ((j : ℕ) → slice_get places (j + 1) ≡ Some place → Some before ≡ slice_get places j)
    → slice_get places k ≡ Some place
    → (0 < k) × (slice_get places (k - 1) ≡ Some before)
before-at places place before k front inner at =
    elim (cases_lt 0 k) [
      | inl some ↦
          (let back : k - 1 + 1 ≡ k = omega arith in (some, sym (inner (k - 1) (ap (slice_get places) back ∙ at))))
      | inr none ↦
          (let first : k
          ≡ 0 = omega arith in absurd (none-some before (sym (front (ap (slice_get places) (sym first) ∙ at)))))
    ]

-- for each place there is an entry, and a load
pub entries-beside : {T : Type 0} (snaps : Inside T) → AreHeld snaps
    → length (snaps_of snaps).entries ≡ length snaps.links.places
entries-beside snaps is =
    length-map (held_in snaps.slots.items snaps.links.places) (λ held. held.entry)
    ∙ length-held snaps.slots.items snaps.links.places is.each

pub loads-beside : {T : Type 0} (snaps : Inside T) → AreHeld snaps
    → length (snaps_of snaps).loads ≡ length snaps.links.places
loads-beside snaps is =
    length-map (held_in snaps.slots.items snaps.links.places) (λ held. held.load)
    ∙ length-held snaps.slots.items snaps.links.places is.each

-- and the places are different ones below the maximum
pub are-placed : {T : Type 0} (snaps : Inside T) → AreHeld snaps → ArePlaced (snaps_of snaps)
are-placed snaps is = record {
  beside = sym (entries-beside snaps is);
  different = is.different;
  below = is.below;
}

-- where there is no last place there is no entry
pub none-left : {T : Type 0} (snaps : Inside T) → AreHeld snaps
    → None ≡ slice_get snaps.links.places (length snaps.links.places - 1) → (snaps_of snaps).entries ≡ []
none-left snaps is none =
    nil_from_length (snaps_of snaps).entries
    (let beside = entries-beside snaps is in
    elim (cases_lt 0 (length snaps.links.places)) [
      | inl some ↦ absurd
          (none-some _ (none ∙ slice_get-get_or snaps.links.places (length snaps.links.places - 1) 0 (omega arith)))
      | inr zero ↦ omega arith
    ])

-- what is read of a slot stands there
pub slot-there : {T : Type 0} (slots : List (Option (Held T))) (p : ℕ) (x : Option (Held T)) → p < length slots
    → x ≡ get_or slots p x → held_at slots p ≡ x
slot-there slots p x inside e = get_or_default slots p None x inside ∙ sym e

-- what stands at a snap_at
pub held-there : {T : Type 0} (snaps : Inside T) (k p : ℕ) → AreHeld snaps → slice_get snaps.links.places k ≡ Some p
    → (held : Held T) × (held_at snaps.slots.items p ≡ Some held)
held-there snaps k p is at =
    some-of (held_at snaps.slots.items p)
    (each-at (λ place. IsSome (held_at snaps.slots.items place)) snaps.links.places k p at is.each)

pub place-inside : {T : Type 0} (snaps : Inside T) (k p : ℕ) → AreHeld snaps → slice_get snaps.links.places k ≡ Some p
    → p < length snaps.slots.items
place-inside snaps k p is at =
    omega (arith, each-at (λ place. place < snaps.links.max) snaps.links.places k p at is.below, is.slots)

pub holds-at : {T : Type 0} (snaps : Inside T) (k p : ℕ) (held : Held T) → AreHeld snaps
    → slice_get snaps.links.places k ≡ Some p → held_at snaps.slots.items p ≡ Some held
    → HoldsAt (snaps_of snaps) k held
holds-at {T} snaps k p held is at there =
    let stands = held-at snaps.slots.items snaps.links.places k p is.each at ∙ there in
    record {
      entry =
          slice_get-map (λ h. h.entry) (held_in snaps.slots.items snaps.links.places) k
          ∙ ap (option_map (λ (h : Held T). h.entry)) stands;
      load =
          slice_get-map (λ h. h.load) (held_in snaps.slots.items snaps.links.places) k
          ∙ ap (option_map (λ (h : Held T). h.load)) stands;
    }

-- ---- one more

pub record IsGrown {T : Type 0} (snaps new : Inside T) (place : ℕ) (held : Held T) : Type 0 where
  pub same_max : new.links.max ≡ snaps.links.max
  pub places : new.links.places ≡ snaps.links.places ++ place ∷ []
  pub different : AreDifferent new.links.places
  pub below : place < snaps.links.max
  pub room : length snaps.links.places < snaps.links.max
  pub slots : new.slots.items ≡ set snaps.slots.items place (Some held)

grown-outside : {T : Type 0} (snaps new : Inside T) (place : ℕ) (held : Held T) → IsGrown snaps new place held
    → IsOutside place snaps.links.places
grown-outside snaps new place held grown =
    (different-pop snaps.links.places place (subst AreDifferent grown.places grown.different)).0

-- what is held then
grown-held : {T : Type 0} (snaps new : Inside T) (place : ℕ) (held : Held T) → AreHeld snaps
    → IsGrown snaps new place held
    → held_in new.slots.items new.links.places ≡ held_in snaps.slots.items snaps.links.places ++ held ∷ []
grown-held {T} snaps new place held is grown =
    ap (λ (slots : List (Option (Held T))). held_in slots new.links.places) grown.slots
    ∙ ap (held_in (set snaps.slots.items place (Some held))) grown.places
    ∙ held-push snaps.slots.items snaps.links.places place held (grown-outside snaps new place held grown)
    (omega (arith, grown.below, is.slots))

pub grown-entries : {T : Type 0} (snaps new : Inside T) (place : ℕ) (held : Held T) → AreHeld snaps
    → IsGrown snaps new place held → (snaps_of new).entries ≡ (snaps_of snaps).entries ++ held.entry ∷ []
grown-entries {T} snaps new place held is grown =
    ap (map (λ (h : Held T). h.entry)) (grown-held snaps new place held is grown)
    ∙ map-append (λ (h : Held T). h.entry) (held_in snaps.slots.items snaps.links.places) (held ∷ [])

pub grown-loads : {T : Type 0} (snaps new : Inside T) (place : ℕ) (held : Held T) → AreHeld snaps
    → IsGrown snaps new place held → (snaps_of new).loads ≡ (snaps_of snaps).loads ++ held.load ∷ []
grown-loads {T} snaps new place held is grown =
    ap (map (λ (h : Held T). h.load)) (grown-held snaps new place held is grown)
    ∙ map-append (λ (h : Held T). h.load) (held_in snaps.slots.items snaps.links.places) (held ∷ [])

pub grown-stays : {T : Type 0} (snaps new : Inside T) (place : ℕ) (held : Held T) → AreHeld snaps
    → IsGrown snaps new place held → AreHeld new
grown-stays {T} snaps new place held is grown =
    let taken =
    taken-push snaps.slots.items snaps.links.places place held (grown-outside snaps new place held grown)
    (omega (arith, grown.below, is.slots)) is.each in
    let below = each-append (λ p. p < snaps.links.max) snaps.links.places (place ∷ []) is.below (grown.below, tt) in
    record {
      slots = ap length grown.slots ∙ length-set snaps.slots.items place (Some held) ∙ is.slots ∙ sym grown.same_max;
      each = subst (λ (slots : List (Option (Held T))). AreTaken slots new.links.places) (sym grown.slots)
          (subst (AreTaken (set snaps.slots.items place (Some held))) (sym grown.places) taken);
      different = grown.different;
      below =
          subst (λ (max : ℕ). AreBelow max new.links.places) (sym grown.same_max)
          (subst (AreBelow snaps.links.max) (sym grown.places) below);
      most = omega (arith, ap length grown.places, length_push snaps.links.places place, grown.room, grown.same_max);
      max_most = omega (arith, is.max_most, grown.same_max);
    }

-- ---- one fewer

pub record IsShrunk {T : Type 0} (snaps new : Inside T) (k place : ℕ) : Type 0 where
  pub same_max : new.links.max ≡ snaps.links.max
  pub at : slice_get snaps.links.places k ≡ Some place
  pub places : new.links.places ≡ remove snaps.links.places k
  pub different : AreDifferent new.links.places
  pub slots : new.slots.items ≡ set snaps.slots.items place None

shrunk-held : {T : Type 0} (snaps new : Inside T) (k place : ℕ) → AreHeld snaps → IsShrunk snaps new k place
    → held_in new.slots.items new.links.places ≡ remove (held_in snaps.slots.items snaps.links.places) k
shrunk-held {T} snaps new k place is shrunk =
    ap (λ (slots : List (Option (Held T))). held_in slots new.links.places) shrunk.slots
    ∙ ap (held_in (set snaps.slots.items place None)) shrunk.places
    ∙ held-remove snaps.slots.items snaps.links.places k place shrunk.at is.different is.each

pub shrunk-entries : {T : Type 0} (snaps new : Inside T) (k place : ℕ) → AreHeld snaps → IsShrunk snaps new k place
    → (snaps_of new).entries ≡ remove (snaps_of snaps).entries k
shrunk-entries {T} snaps new k place is shrunk =
    ap (map (λ (h : Held T). h.entry)) (shrunk-held snaps new k place is shrunk)
    ∙ map-remove (λ (h : Held T). h.entry) (held_in snaps.slots.items snaps.links.places) k

pub shrunk-loads : {T : Type 0} (snaps new : Inside T) (k place : ℕ) → AreHeld snaps → IsShrunk snaps new k place
    → (snaps_of new).loads ≡ remove (snaps_of snaps).loads k
shrunk-loads {T} snaps new k place is shrunk =
    ap (map (λ (h : Held T). h.load)) (shrunk-held snaps new k place is shrunk)
    ∙ map-remove (λ (h : Held T). h.load) (held_in snaps.slots.items snaps.links.places) k

pub shrunk-stays : {T : Type 0} (snaps new : Inside T) (k place : ℕ) → AreHeld snaps → IsShrunk snaps new k place
    → AreHeld new
shrunk-stays {T} snaps new k place is shrunk =
    let taken = taken-remove snaps.slots.items snaps.links.places k place shrunk.at is.different is.each in
    let below = each-remove (λ p. p < snaps.links.max) snaps.links.places k is.below in
    record {
      slots = ap length shrunk.slots ∙ length-set snaps.slots.items place None ∙ is.slots ∙ sym shrunk.same_max;
      each = subst (λ (slots : List (Option (Held T))). AreTaken slots new.links.places) (sym shrunk.slots)
          (subst (AreTaken (set snaps.slots.items place None)) (sym shrunk.places) taken);
      different = shrunk.different;
      below =
          subst (λ (max : ℕ). AreBelow max new.links.places) (sym shrunk.same_max)
          (subst (AreBelow snaps.links.max) (sym shrunk.places) below);
      most =
          omega (
            arith,
            ap length shrunk.places,
            length-remove snaps.links.places k (slice_get_within snaps.links.places k place shrunk.at),
            is.most,
            shrunk.same_max,
          );
      max_most = omega (arith, is.max_most, shrunk.same_max);
    }

-- ---- a later peak

-- what stands at the place is ended, and no other entry is a peak
pub record IsEnded {T : Type 0} (snaps new : Inside T) (k place : ℕ) : Type 0 where
  pub links : new.links ≡ snaps.links
  pub at : slice_get snaps.links.places k ≡ Some place
  pub others : (j : ℕ) → j ≢ k → is_peak_at (snaps_of snaps).entries j ≡ false
  pub slots : new.slots.items ≡ set snaps.slots.items place (option_map ended (held_at snaps.slots.items place))

-- one that is no peak stays what it is
kind-normal : (kind : Kind) → is_peak_kind kind ≡ false → kind ≡ kind_after_peak kind
kind-normal Normal normal = refl
kind-normal Detailed normal = refl
kind-normal Peak normal = absurd cc

held-normal : {T : Type 0} (held : Held T) → is_peak held.entry ≡ false → held ≡ ended held
held-normal held normal =
    ap (λ (kind : Kind). record held { entry = record held.entry { kind = kind } }) (kind-normal held.entry.kind normal)

-- what stands at each place then
ended-each : {T : Type 0} (snaps new : Inside T) (k place : ℕ) → AreHeld snaps → IsEnded snaps new k place → (j p : ℕ)
    → slice_get snaps.links.places j ≡ Some p
    → held_at new.slots.items p ≡ option_map ended (held_at snaps.slots.items p)
ended-each {T} snaps new k place is done j p at =
    ap (λ (slots : List (Option (Held T))). held_at slots p) done.slots
    ∙ elim (cases_eq j k) [
      | inl same ↦
          let e : place ≡ p = same_Some place p (sym done.at ∙ ap (slice_get snaps.links.places) (sym same) ∙ at) in
          subst
          (λ (q : ℕ). held_at (set snaps.slots.items place (option_map ended (held_at snaps.slots.items place))) q
          ≡ option_map ended (held_at snaps.slots.items q))
          e
          (get_or-set_same snaps.slots.items place (option_map ended (held_at snaps.slots.items place)) None
          (place-inside snaps k place is done.at))
      | inr apart ↦
          let there = held-there snaps j p is at in
          let entry = (holds-at snaps j p there.0 is at there.1).entry in
          let normal : is_peak there.0.entry ≡ false =
          sym (peak-of (snaps_of snaps).entries j there.0.entry entry) ∙ done.others j apart in
          get_or-set_other snaps.slots.items place p (option_map ended (held_at snaps.slots.items place)) None
          (apart-at snaps.links.places j k p place is.different at done.at apart)
          ∙ there.1 ∙ ap Some (held-normal there.0 normal) ∙ ap (option_map ended) (sym there.1)
    ]

ended-all : {T : Type 0} (snaps new : Inside T) (k place : ℕ) → AreHeld snaps → IsEnded snaps new k place
    → AreEnded snaps.slots.items new.slots.items snaps.links.places
ended-all {T} snaps new k place is done =
    each-from (λ p. held_at new.slots.items p ≡ option_map ended (held_at snaps.slots.items p)) snaps.links.places
    (ended-each snaps new k place is done)

pub ended-entries : {T : Type 0} (snaps new : Inside T) (k place : ℕ) → AreHeld snaps → IsEnded snaps new k place
    → (snaps_of new).entries ≡ map end_peak (snaps_of snaps).entries
ended-entries {T} snaps new k place is done =
    ap (λ (links : LinksState). map (λ (h : Held T). h.entry) (held_in new.slots.items links.places)) done.links
    ∙ ap (map (λ (h : Held T). h.entry))
    (held-ended snaps.slots.items new.slots.items snaps.links.places (ended-all snaps new k place is done))
    ∙ map-map (λ (h : Held T). h.entry) ended (held_in snaps.slots.items snaps.links.places)
    ∙ sym (map-map end_peak (λ (h : Held T). h.entry) (held_in snaps.slots.items snaps.links.places))

pub ended-loads : {T : Type 0} (snaps new : Inside T) (k place : ℕ) → AreHeld snaps → IsEnded snaps new k place
    → (snaps_of new).loads ≡ (snaps_of snaps).loads
ended-loads {T} snaps new k place is done =
    ap (λ (links : LinksState). map (λ (h : Held T). h.load) (held_in new.slots.items links.places)) done.links
    ∙ ap (map (λ (h : Held T). h.load))
    (held-ended snaps.slots.items new.slots.items snaps.links.places (ended-all snaps new k place is done))
    ∙ map-map (λ (h : Held T). h.load) ended (held_in snaps.slots.items snaps.links.places)

pub ended-stays : {T : Type 0} (snaps new : Inside T) (k place : ℕ) → AreHeld snaps → IsEnded snaps new k place
    → AreHeld new
ended-stays {T} snaps new k place is done = record {
  slots =
      ap length done.slots ∙ length-set snaps.slots.items place _ ∙ is.slots
      ∙ ap (λ (links : LinksState). links.max) (sym done.links);
  each = subst (λ (links : LinksState). AreTaken new.slots.items links.places) (sym done.links)
      (taken-ended snaps.slots.items new.slots.items snaps.links.places (ended-all snaps new k place is done) is.each);
  different = subst (λ (links : LinksState). AreDifferent links.places) (sym done.links) is.different;
  below = subst (λ (links : LinksState). AreBelow links.max links.places) (sym done.links) is.below;
  most = subst (λ (links : LinksState). length links.places ≤ links.max) (sym done.links) is.most;
  max_most = subst (λ (links : LinksState). links.max ≤ 1000) (sym done.links) is.max_most;
}
