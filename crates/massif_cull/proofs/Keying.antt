-- The keys of places while snapshots are culled: how they are given, which one comes first, and
-- what is left after a removal.
use Rattle.std.proofs.Common.{◌≡◌, ◌≢◌, ◌⊎◌, ℕ, ◌+◌, ◌-◌, ◌^◌, ◌<◌, ◌≤◌, zero, suc, Bool, true, false, List, [], ◌∷◌}
use Rattle.std.proofs.Common.{◌++◌, length, map, take, set, get_or, inl, inr, refl, sym, ap, subst, ◌∙◌, arith}
use Rattle.std.specs.Prelude.{remove, slice_get, slice_index, Some}
use Rattle.std.specs.List.{slice_index_or}
use Rattle.std.proofs.lemmas.Bool.{cases_Bool, cases_eq, cases_lt, le-ltb, lt-ltb}
use Rattle.std.proofs.lemmas.List.{get_or-set_same, get_or-set_other, length-map, length-set, take_all, take_more}
use Rattle.std.proofs.lemmas.List.Edits.{length-remove, get_or-remove_above}
use Rattle.std.proofs.lemmas.Option.{get_or_from_slice_get, same_Some, slice_get-get_or, slice_get_within}
use Rattle.massif_cull.specs.declared.gaps.Key.{Key}
use Rattle.massif_cull.specs.declared.snapshot.SnapEntry.{SnapEntry}
use Rattle.massif_cull.specs.ArrayState.{AreSound}
use Rattle.massif_cull.specs.Culling.{may_go, gap_at, removed_place}
use Rattle.massif_cull.specs.Entries.{is_peak, is_peak_at, times}
use Rattle.massif_cull.specs.Keyed.{gap_to_go, AreKeyed}
use Rattle.massif_cull.specs.Keys.{never, no_key, key_at, with_gap, IsFirst}
use Rattle.massif_cull.specs.Linked.{AreBelow, AreDifferent, IsOutside}
use Rattle.massif_cull.specs.SnapsState.{SnapsState, ArePlaced}
use Rattle.massif_cull.proofs.Equals.{peak-below, time-above, time-below}
use Rattle.massif_cull.proofs.Linking.{apart-at, each-at, each-left, each-remove, each-right}
use Rattle.massif_cull.proofs.Places.{IsFirstLeast, may_go-between, may_go-inside, may_go-peak, no_entry, removed-is}
use Rattle.massif_cull.proofs.Places.{second-may_go, time-at}
use Rattle.massif_cull.proofs.Removals.{get-remove_above, get-remove_below, map-remove}

-- ---- places

-- a place is none of the list or stands in it
find-place : (xs : List ℕ) (p : ℕ) → IsOutside p xs ⊎ ((k : ℕ) × (slice_get xs k ≡ Some p))
find-place [] p = inl tt
find-place (x ∷ xs) p =
    elim (cases_eq p x) [
      | inl same ↦ inr (0, ap Some (sym same))
      | inr apart ↦ elim (find-place xs p) [
        | inl out ↦ inl (apart, out)
        | inr found ↦ inr (suc found.0, found.1)
      ]
    ]

-- different places are left
pub different-remove : (xs : List ℕ) (k : ℕ) → AreDifferent xs → AreDifferent (remove xs k)
different-remove [] zero different = tt
different-remove [] (suc k) different = tt
different-remove (x ∷ xs) zero different = different.1
different-remove (x ∷ xs) (suc k) different =
    (each-remove (λ y. x ≢ y) xs k different.0, different-remove xs k different.1)

-- what is none of those left, and not the one that goes, was none before
outside-remove : (xs : List ℕ) (k p q : ℕ) → slice_get xs k ≡ Some p → q ≢ p → IsOutside q (remove xs k)
    → IsOutside q xs
outside-remove [] k p q here apart out = tt
outside-remove (x ∷ xs) zero p q here apart out = ((λ e. apart (e ∙ same_Some x p here)), out)
outside-remove (x ∷ xs) (suc k) p q here apart out = (out.0, outside-remove xs k p q here apart out.1)

-- where one of those left stood before
pub kept-at : (places : List ℕ) (k j p : ℕ) → slice_get (remove places k) j ≡ Some p
    → (i : ℕ) × (slice_get places i ≡ Some p) × (((i ≡ j) × (j < k)) ⊎ ((i ≡ j + 1) × (k ≤ j)))
kept-at places k j p at =
    elim (cases_lt j k) [
      | inl below ↦ (j, sym (get-remove_below places k j below) ∙ at, inl (refl, below))
      | inr above ↦
          let next : j + 1 ≡ suc j = omega arith in
          (j + 1, ap (slice_get places) next ∙ sym (get-remove_above places k j above) ∙ at, inr (refl, above))
    ]

-- ---- gaps

-- the gap of one that may go
pub goes-gap : (entries : List SnapEntry) (k : ℕ) → may_go entries k ≡ true → gap_to_go entries k ≡ gap_at entries k
goes-gap entries k goes = rw goes refl

-- the gap of one that may not
pub stays-gap : (entries : List SnapEntry) (k : ℕ) → may_go entries k ≡ false → gap_to_go entries k ≡ never
stays-gap entries k stays = rw stays refl

-- the first and the last may not go
first-stays : (entries : List SnapEntry) (k : ℕ) → k ≡ 0 → may_go entries k ≡ false
first-stays entries k first =
    elim (cases_Bool (may_go entries k)) [
      | inl goes ↦ (let between = may_go-between entries k goes in absurd (omega arith))
      | inr stays ↦ stays
    ]

last-stays : (entries : List SnapEntry) (k : ℕ) → length entries ≤ k + 1 → may_go entries k ≡ false
last-stays entries k last =
    elim (cases_Bool (may_go entries k)) [
      | inl goes ↦ (let between = may_go-between entries k goes in absurd (omega arith))
      | inr stays ↦ stays
    ]

pub first-gap : (entries : List SnapEntry) (k : ℕ) → k ≡ 0 → never ≡ gap_to_go entries k
first-gap entries k first = sym (stays-gap entries k (first-stays entries k first))

pub last-gap : (entries : List SnapEntry) (k : ℕ) → length entries ≤ k + 1 → never ≡ gap_to_go entries k
last-gap entries k last = sym (stays-gap entries k (last-stays entries k last))

pub peak-gap : (entries : List SnapEntry) (k : ℕ) → is_peak_at entries k ≡ true → never ≡ gap_to_go entries k
peak-gap entries k peak = sym (stays-gap entries k (may_go-peak entries k peak))

pub inner-gap : (entries : List SnapEntry) (k : ℕ) → 0 < k → k + 1 < length entries → is_peak_at entries k ≡ false
    → gap_at entries k ≡ gap_to_go entries k
inner-gap entries k low high normal = sym (goes-gap entries k (may_go-inside entries k low high normal))

-- of one whose neighbours have one time, and of the others
pub equal-gap : (entries : List SnapEntry) (k : ℕ) → gap_to_go entries k ≡ 0
    → (may_go entries k ≡ true) × (gap_at entries k ≡ 0)
equal-gap entries k none =
    elim (cases_Bool (may_go entries k)) [
      | inl goes ↦ (goes, sym (goes-gap entries k goes) ∙ none)
      | inr stays ↦ (let e = stays-gap entries k stays in absurd (omega arith))
    ]

pub unequal-gap : (entries : List SnapEntry) (k : ℕ) → 0 < gap_to_go entries k → may_go entries k ≡ true
    → 0 < gap_at entries k
unequal-gap entries k some goes = let e = goes-gap entries k goes in omega arith

-- no difference of times is above all others
gap-most : (entries : List SnapEntry) (k : ℕ) → AreSound entries → k + 1 < length entries → gap_at entries k ≤ 2 ^ 62
unfolding gap_at
gap-most entries k sound inside =
    let time = time-at entries (k + 1) no_entry inside in
    let most = sound.times_most (k + 1) no_entry inside in
    omega arith

-- ---- gaps away from the entry that goes

pub may-below : (entries : List SnapEntry) (p j : ℕ) → p + 1 < length entries → j < p
    → may_go (remove entries p) j ≡ may_go entries j
unfolding may_go
may-below entries p j inside below =
    let long = length-remove entries p (omega arith) in
    rw (
      peak-below entries p j (omega arith) (omega arith),
      lt-ltb (j + 1) (length (remove entries p)) (omega arith),
      lt-ltb (j + 1) (length entries) (omega arith),
    ) refl

gap-below : (entries : List SnapEntry) (p j : ℕ) → p + 1 < length entries → j + 1 < p
    → gap_at (remove entries p) j ≡ gap_at entries j
unfolding gap_at
gap-below entries p j inside below =
    rw (time-below entries p (j + 1) (omega arith) below, time-below entries p (j - 1) (omega arith) (omega arith)) refl

peak-above : (entries : List SnapEntry) (p j : ℕ) → p < length entries → p ≤ j
    → is_peak_at (remove entries p) j ≡ is_peak_at entries (j + 1)
peak-above entries p j inside above =
    let long = length-map entries is_peak in
    ap (λ (flags : List Bool). slice_index_or flags j false) (map-remove is_peak entries p)
    ∙ get_or-remove_above (map is_peak entries) p false j above (omega arith)

pub may-above : (entries : List SnapEntry) (p j : ℕ) → 0 < p → p + 1 < length entries → p ≤ j
    → may_go (remove entries p) j ≡ may_go entries (j + 1)
unfolding may_go
may-above entries p j some inside above =
    let long = length-remove entries p (omega arith) in
    rw (peak-above entries p j (omega arith) (omega arith), lt-ltb 0 j (omega arith), lt-ltb 0 (j + 1) (omega arith))
    (elim (cases_lt (j + 1) (length (remove entries p))) [
      | inl less ↦ rw
          (lt-ltb (j + 1) (length (remove entries p)) less, lt-ltb (j + 1 + 1) (length entries) (omega arith)) refl
      | inr past ↦ rw
          (le-ltb (j + 1) (length (remove entries p)) past, le-ltb (j + 1 + 1) (length entries) (omega arith)) refl
    ])

gap-above : (entries : List SnapEntry) (p j : ℕ) → p + 1 < length entries → p < j
    → gap_at (remove entries p) j ≡ gap_at entries (j + 1)
unfolding gap_at
gap-above entries p j inside above =
    let back : j - 1 + 1 ≡ j + 1 - 1 = omega arith in
    rw (
      time-above entries p (j + 1) (omega arith) (omega arith),
      time-above entries p (j - 1) (omega arith) (omega arith),
    )
    (ap (λ (k : ℕ). slice_index (times entries) (j + 1 + 1) - slice_index (times entries) k) back)

-- an entry that isn't beside the one that goes keeps its gap
gap-kept :
    (entries : List SnapEntry) (p i j : ℕ)
    → 0 < p
    → p + 1 < length entries
    → ((i ≡ j) × (j < p)) ⊎ ((i ≡ j + 1) × (p ≤ j))
    → (j + 1 ≡ p → ⊥)
    → (j ≡ p → ⊥)
    → gap_to_go entries i ≡ gap_to_go (remove entries p) j
gap-kept entries p i j some inside side before after =
    elim side [
      | inl below ↦
          (let early = below.1 in
          let may = may-below entries p j inside (omega arith) in
          let gap = gap-below entries p j inside (omega arith) in
          ap (gap_to_go entries) below.0 ∙ rw (may, gap) refl)
      | inr above ↦
          (let late = above.1 in
          let may = may-above entries p j some inside (omega arith) in
          let gap = gap-above entries p j inside (omega arith) in
          ap (gap_to_go entries) above.0 ∙ rw (may, gap) refl)
    ]

-- ---- the first key

-- one may go
some-goes : (entries : List SnapEntry) → AreSound entries → 4 ≤ length entries → (k : ℕ) × (may_go entries k ≡ true)
some-goes entries sound long =
    elim (cases_Bool (is_peak_at entries 1)) [
      | inl peak ↦ (2, second-may_go entries sound long peak)
      | inr normal ↦ (1, may_go-inside entries 1 (omega arith) (omega arith) normal)
    ]

-- the key of an entry
pub record IsKeyOf (places : List ℕ) (entries : List SnapEntry) (keys : List Key) (k : ℕ) : Type 0 where
  pub place : ℕ
  pub at : slice_get places k ≡ Some place
  pub inside : place < length keys
  pub gap : (key_at keys place).gap ≡ gap_at entries k

key-of : (places : List ℕ) (entries : List SnapEntry) (keys : List Key) (k : ℕ) → AreKeyed places entries keys
    → may_go entries k ≡ true → IsKeyOf places entries keys k
key-of places entries keys k keyed goes =
    let between = may_go-between entries k goes in
    let beside = keyed.beside in
    let at : slice_get places k ≡ Some (get_or places k 0) = slice_get-get_or places k 0 (omega arith) in
    record {
      place = get_or places k 0;
      at = at;
      inside = each-at (λ p. p < length keys) places k (get_or places k 0) at keyed.below;
      gap = keyed.gaps k (get_or places k 0) at ∙ goes-gap entries k goes;
    }

-- the entry of the first key is the first with the least gap
first-goes :
    (places : List ℕ) (entries : List SnapEntry) (keys : List Key) (first : Key) (k place : ℕ)
    → AreKeyed places entries keys
    → IsFirst keys first
    → slice_get places k ≡ Some place
    → key_at keys place ≡ first
    → may_go entries k ≡ true
    → IsFirstLeast entries k (length entries - 1)
first-goes places entries keys first k place keyed is at there goes =
    let between = may_go-between entries k goes in
    let gap : first.gap ≡ gap_at entries k =
    ap (λ (key : Key). key.gap) (sym there) ∙ keyed.gaps k place at ∙ goes-gap entries k goes in
    let number = ap (λ (key : Key). key.number) there in
    record {
      goes = goes;
      below = omega arith;
      not_greater = λ j inside other.
          (let of = key-of places entries keys j keyed other in
          let later = (is.each of.place of.inside).gap in
          let other_gap = of.gap in
          omega arith);
      less = λ j before other.
          (let of = key-of places entries keys j keyed other in
          let later = (is.each of.place of.inside).gap in
          let other_gap = of.gap in
          let order = keyed.order j k of.place place before of.at at in
          elim (cases_lt (gap_at entries k) (gap_at entries j)) [
            | inl less ↦ less
            | inr same ↦ (let numbers = (is.each of.place of.inside).number (omega arith) in absurd (omega arith))
          ]);
    }

-- where the first key is one of an entry that goes
pub record IsNext (places : List ℕ) (entries : List SnapEntry) (place : ℕ) : Type 0 where
  pub index : ℕ
  pub at : slice_get places index ≡ Some place
  pub some : 0 < index
  pub inside : index + 1 < length entries
  pub goes : removed_place entries ≡ Some index

pub next-goes : (places : List ℕ) (entries : List SnapEntry) (keys : List Key) (first : Key)
    → AreKeyed places entries keys → AreSound entries → 4 ≤ length entries → IsFirst keys first
    → IsNext places entries first.place
next-goes places entries keys first keyed sound long is =
    let some = some-goes entries sound long in
    let of = key-of places entries keys some.0 keyed some.1 in
    let of_gap = of.gap in
    let between = may_go-between entries some.0 some.1 in
    let most = gap-most entries some.0 sound between.1 in
    let later = (is.each of.place of.inside).gap in
    let below : first.gap < never = omega arith in
    let there = ap (λ (key : Key). key.gap) is.there in
    elim (find-place places is.at) [
      | inl out ↦ (let none = keyed.others is.at out in absurd (omega arith))
      | inr found ↦
          let own : is.at ≡ first.place =
          sym (keyed.own found.0 is.at found.1) ∙ ap (λ (key : Key). key.place) is.there in
          let gap = keyed.gaps found.0 is.at found.1 in
          let goes : may_go entries found.0 ≡ true = elim (cases_Bool (may_go entries found.0)) [
            | inl goes ↦ goes
            | inr stays ↦ (let none = stays-gap entries found.0 stays in absurd (omega arith))
          ]
          in
          let inner = may_go-between entries found.0 goes in
          record {
            index = found.0;
            at = found.1 ∙ ap Some own;
            some = inner.0;
            inside = inner.1;
            goes =
                removed-is entries found.0
                (first-goes places entries keys first found.0 is.at keyed is found.1 is.there goes);
          }
    ]

-- ---- keys are given

-- the first so many places have the keys of their entries, and no other is to be chosen
pub record AreNumbered (places : List ℕ) (entries : List SnapEntry) (count : ℕ) (keys : List Key) : Type 0 where
  pub each : (k place : ℕ) → k < count → slice_get places k ≡ Some place
      → key_at keys place ≡ record { gap = gap_to_go entries k; number = k; place = place }
  pub others : (place : ℕ) → IsOutside place (take count places) → key_at keys place ≡ no_key

pub numbered-none : (places : List ℕ) (entries : List SnapEntry) (count : ℕ) (keys : List Key) → count ≡ 0
    → ((place : ℕ) → key_at keys place ≡ no_key) → AreNumbered places entries count keys
numbered-none places entries count keys start none = record {
  each = λ k place below at. absurd (omega arith);
  others = λ place out. none place;
}

pub numbered-more :
    (places : List ℕ) (entries : List SnapEntry) (count next place : ℕ) (key : Key) (keys new : List Key)
    → next ≡ count + 1
    → AreDifferent places
    → slice_get places count ≡ Some place
    → place < length keys
    → key ≡ record { gap = gap_to_go entries count; number = count; place = place }
    → new ≡ set keys place key
    → AreNumbered places entries count keys
    → AreNumbered places entries next new
numbered-more places entries count next place key keys new follows different at inside is made so_far =
    subst (λ (n : ℕ). AreNumbered places entries n new) (sym follows)
    (subst (λ (ks : List Key). AreNumbered places entries (count + 1) ks) (sym made) (record {
      each = λ k other below there. elim (cases_eq k count) [
        | inl last ↦
            let same : place ≡ other = same_Some place other (sym at ∙ ap (slice_get places) (sym last) ∙ there) in
            subst
            (λ (p : ℕ). key_at (set keys place key) p ≡ record { gap = gap_to_go entries k; number = k; place = p })
            same
            (subst
            (λ (n : ℕ). key_at (set keys place key) place
            ≡ record { gap = gap_to_go entries n; number = n; place = place })
            (sym last)
            (get_or-set_same keys place key no_key inside ∙ is))
        | inr early ↦
            get_or-set_other keys place other key no_key (apart-at places k count other place different there at early)
            ∙ so_far.each k other (omega arith) there
      ];
      others = λ other out.
          let within = slice_get_within places count place at in
          let parts : IsOutside other (take count places ++ get_or places count 0 ∷ []) =
          subst (IsOutside other) (take_more places count 0 within) out in
          let apart = (each-right (λ p. other ≢ p) (take count places) (get_or places count 0 ∷ []) parts).0 in
          get_or-set_other keys place other key no_key
          (λ e. apart (e ∙ sym (get_or_from_slice_get places count place 0 at)))
          ∙ so_far.others other (each-left (λ p. other ≢ p) (take count places) (get_or places count 0 ∷ []) parts);
    }))

pub numbered-all :
    (places : List ℕ) (entries : List SnapEntry) (count : ℕ) (keys : List Key)
    → length places ≡ length entries
    → AreDifferent places
    → AreBelow (length keys) places
    → length places ≤ count
    → AreNumbered places entries count keys
    → AreKeyed places entries keys
numbered-all places entries count keys beside different below all numbered =
    let within : (k place : ℕ) → slice_get places k ≡ Some place → k < count =
    λ k place at. (let inside = slice_get_within places k place at in omega arith)
    in
    record {
      beside = beside;
      different = different;
      below = below;
      own = λ k place at. ap (λ (key : Key). key.place) (numbered.each k place (within k place at) at);
      gaps = λ k place at. ap (λ (key : Key). key.gap) (numbered.each k place (within k place at) at);
      order = λ j k other place before there at.
          (let one = ap (λ (key : Key). key.number) (numbered.each j other (within j other there) there) in
          let two = ap (λ (key : Key). key.number) (numbered.each k place (within k place at) at) in
          omega arith);
      others =
          λ place out. ap (λ (key : Key). key.gap)
          (numbered.others place (subst (IsOutside place) (sym (take_all count places all)) out));
    }

-- where a place stands
pub place-below : {T : Type 0} (state : SnapsState T) (k place : ℕ) → ArePlaced state
    → slice_get state.places k ≡ Some place → place < state.max
place-below state k place placed at = each-at (λ p. p < state.max) state.places k place at placed.below

-- ---- a removal

-- a key that gets another gap keeps the rest, and the others stay
gap-same : (keys : List Key) (p gap : ℕ) → p < length keys → (key_at (with_gap keys p gap) p).gap ≡ gap
gap-same keys p gap inside =
    ap (λ (key : Key). key.gap) (get_or-set_same keys p (record (key_at keys p) { gap = gap }) no_key inside)

gap-other : (keys : List Key) (p gap q : ℕ) → q ≢ p → key_at (with_gap keys p gap) q ≡ key_at keys q
gap-other keys p gap q apart = get_or-set_other keys p q (record (key_at keys p) { gap = gap }) no_key apart

rest-same : (keys : List Key) (p gap q : ℕ) → p < length keys
    → ((key_at (with_gap keys p gap) q).number ≡ (key_at keys q).number)
    × ((key_at (with_gap keys p gap) q).place ≡ (key_at keys q).place)
rest-same keys p gap q inside =
    elim (cases_eq p q) [
      | inl same ↦
          let is = get_or-set_same keys p (record (key_at keys p) { gap = gap }) no_key inside in
          subst
          (λ (r : ℕ). ((key_at (with_gap keys p gap) r).number ≡ (key_at keys r).number)
          × ((key_at (with_gap keys p gap) r).place ≡ (key_at keys r).place))
          same
          (ap (λ (key : Key). key.number) is, ap (λ (key : Key). key.place) is)
      | inr apart ↦
          let is = gap-other keys p gap q (λ e. apart (sym e)) in
          (ap (λ (key : Key). key.number) is, ap (λ (key : Key). key.place) is)
    ]

-- the keys after a removal: the place that goes isn't to be chosen, and those beside it have new gaps
abbrev pub keys_after : List Key → ℕ → ℕ → ℕ → ℕ → ℕ → List Key
keys_after keys place before gap_before after gap_after =
    with_gap (with_gap (with_gap keys place never) before gap_before) after gap_after

pub length-after : (keys : List Key) (place before gap_before after gap_after : ℕ)
    → length (keys_after keys place before gap_before after gap_after) ≡ length keys
length-after keys place before gap_before after gap_after =
    length-set (with_gap (with_gap keys place never) before gap_before) after _
    ∙ length-set (with_gap keys place never) before _ ∙ length-set keys place _

rest-after :
    (keys : List Key) (place before gap_before after gap_after q : ℕ)
    → place < length keys
    → before < length keys
    → after < length keys
    → ((key_at (keys_after keys place before gap_before after gap_after) q).number ≡ (key_at keys q).number)
    × ((key_at (keys_after keys place before gap_before after gap_after) q).place ≡ (key_at keys q).place)
rest-after keys place before gap_before after gap_after q inside_place inside_before inside_after =
    let one = with_gap keys place never in
    let two = with_gap (with_gap keys place never) before gap_before in
    let long_one : length (with_gap keys place never) ≡ length keys = length-set keys place _ in
    let long_two : length (with_gap (with_gap keys place never) before gap_before)
    ≡ length (with_gap keys place never) = length-set (with_gap keys place never) before _ in
    let first = rest-same keys place never q inside_place in
    let second = rest-same (with_gap keys place never) before gap_before q (omega arith) in
    let third = rest-same (with_gap (with_gap keys place never) before gap_before) after gap_after q (omega arith) in
    (third.0 ∙ second.0 ∙ first.0, third.1 ∙ second.1 ∙ first.1)

-- a key that is none of the three stays
others-after :
    (keys : List Key) (place before gap_before after gap_after q : ℕ)
    → q ≢ place
    → q ≢ before
    → q ≢ after
    → key_at (keys_after keys place before gap_before after gap_after) q ≡ key_at keys q
others-after keys place before gap_before after gap_after q not_place not_before not_after =
    gap-other (with_gap (with_gap keys place never) before gap_before) after gap_after q not_after
    ∙ gap-other (with_gap keys place never) before gap_before q not_before
    ∙ gap-other keys place never q not_place

-- the place stands between two others, and has its key
pub record IsBetween (places : List ℕ) (entries : List SnapEntry) (keys : List Key)
    (k place before after : ℕ) : Type 0 where
  pub keyed : AreKeyed places entries keys
  pub here : slice_get places k ≡ Some place
  pub some : 0 < k
  pub inside : k + 1 < length entries
  pub at_before : slice_get places (k - 1) ≡ Some before
  pub at_after : slice_get places (k + 1) ≡ Some after

-- the gap of each place that is left
new-gap :
    (places : List ℕ) (entries : List SnapEntry) (keys : List Key) (k place before after j p : ℕ)
    → IsBetween places entries keys k place before after
    → slice_get (remove places k) j ≡ Some p
    → (key_at
    (keys_after keys place before (gap_to_go (remove entries k) (k - 1)) after (gap_to_go (remove entries k) k)) p).gap
    ≡ gap_to_go (remove entries k) j
new-gap places entries keys k place before after j p between at =
    let keyed = between.keyed in
    let gap_before = gap_to_go (remove entries k) (k - 1) in
    let gap_after = gap_to_go (remove entries k) k in
    let one = with_gap keys place never in
    let two = with_gap (with_gap keys place never) before (gap_to_go (remove entries k) (k - 1)) in
    let long_one : length (with_gap keys place never) ≡ length keys = length-set keys place _ in
    let long_two : length (with_gap (with_gap keys place never) before (gap_to_go (remove entries k) (k - 1)))
    ≡ length (with_gap keys place never) =
    length-set (with_gap keys place never) before _ in
    let in_before = each-at (λ q. q < length keys) places (k - 1) before between.at_before keyed.below in
    let in_after = each-at (λ q. q < length keys) places (k + 1) after between.at_after keyed.below in
    elim (cases_eq j k) [
      | inl same ↦
          let next : suc k ≡ k + 1 = omega arith in
          let is : after ≡ p = same_Some after p
          (sym between.at_after ∙ ap (slice_get places) (sym next) ∙ sym (get-remove_above places k k (omega arith))
          ∙ ap (slice_get (remove places k)) (sym same) ∙ at) in
          subst (λ (q : ℕ). (key_at (with_gap two after gap_after) q).gap ≡ gap_to_go (remove entries k) j) is
          (gap-same two after gap_after (omega arith) ∙ ap (gap_to_go (remove entries k)) (sym same))
      | inr other ↦ elim (cases_eq (j + 1) k) [
        | inl next ↦
            let back : k - 1 ≡ j = omega arith in
            let is : before ≡ p = same_Some before p
            (sym between.at_before ∙ ap (slice_get places) back ∙ sym (get-remove_below places k j (omega arith))
            ∙ at) in
            let beside_apart : before ≢ after =
            apart-at places (k - 1) (k + 1) before after keyed.different between.at_before between.at_after
            (λ e. omega arith) in
            subst (λ (q : ℕ). (key_at (with_gap two after gap_after) q).gap ≡ gap_to_go (remove entries k) j) is
            (ap (λ (key : Key). key.gap) (gap-other two after gap_after before beside_apart)
            ∙ gap-same one before gap_before (omega arith)
            ∙ ap (gap_to_go (remove entries k)) back)
        | inr far ↦
            let old = kept-at places k j p at in
            let not_place : p ≢ place =
            apart-at places old.0 k p place keyed.different old.1 between.here (λ e. elim old.2 [
              | inl early ↦ (let a = early.0 in let b = early.1 in omega arith)
              | inr late ↦ (let a = late.0 in let b = late.1 in far (omega arith))
            ]) in
            let not_before : p ≢ before =
            apart-at places old.0 (k - 1) p before keyed.different old.1 between.at_before (λ e. elim old.2 [
              | inl early ↦ (let a = early.0 in let b = early.1 in far (omega arith))
              | inr late ↦ (let a = late.0 in let b = late.1 in omega arith)
            ]) in
            let not_after : p ≢ after =
            apart-at places old.0 (k + 1) p after keyed.different old.1 between.at_after (λ e. elim old.2 [
              | inl early ↦ (let a = early.0 in let b = early.1 in omega arith)
              | inr late ↦ (let a = late.0 in let b = late.1 in other (omega arith))
            ]) in
            ap (λ (key : Key). key.gap)
            (others-after keys place before gap_before after gap_after p not_place not_before not_after)
            ∙ keyed.gaps old.0 p old.1
            ∙ gap-kept entries k old.0 j between.some between.inside old.2 far other
      ]
    ]

pub keyed-removed :
    (places : List ℕ) (entries : List SnapEntry) (keys : List Key) (k place before after : ℕ)
    → IsBetween places entries keys k place before after
    → AreKeyed (remove places k) (remove entries k)
    (keys_after keys place before (gap_to_go (remove entries k) (k - 1)) after (gap_to_go (remove entries k) k))
keyed-removed places entries keys k place before after between =
    let keyed = between.keyed in
    let gap_before = gap_to_go (remove entries k) (k - 1) in
    let gap_after = gap_to_go (remove entries k) k in
    let keys_new =
    keys_after keys place before (gap_to_go (remove entries k) (k - 1)) after (gap_to_go (remove entries k) k) in
    let beside = keyed.beside in
    let fewer = length-remove entries k (omega arith) in
    let fewer_places = length-remove places k (omega arith) in
    let in_place = each-at (λ p. p < length keys) places k place between.here keyed.below in
    let in_before = each-at (λ p. p < length keys) places (k - 1) before between.at_before keyed.below in
    let in_after = each-at (λ p. p < length keys) places (k + 1) after between.at_after keyed.below in
    let long =
    length-after keys place before (gap_to_go (remove entries k) (k - 1)) after (gap_to_go (remove entries k) k) in
    let not_before : place ≢ before =
    apart-at places k (k - 1) place before keyed.different between.here between.at_before (λ e. omega arith) in
    let not_after : place ≢ after =
    apart-at places k (k + 1) place after keyed.different between.here between.at_after (λ e. omega arith) in
    let beside_apart : before ≢ after =
    apart-at places (k - 1) (k + 1) before after keyed.different between.at_before between.at_after
    (λ e. omega arith) in
    record {
      beside = omega arith;
      different = different-remove places k keyed.different;
      below =
          subst (λ (n : ℕ). AreBelow n (remove places k)) (sym long)
          (each-remove (λ p. p < length keys) places k keyed.below);
      own = λ j p at.
          let old = kept-at places k j p at in
          (rest-after keys place before gap_before after gap_after p in_place in_before in_after).1
          ∙ keyed.own old.0 p old.1;
      gaps =
          λ j p at. new-gap places entries keys k place before after j p between at;
      order = λ i j other p less there at.
          (let one = kept-at places k i other there in
          let two = kept-at places k j p at in
          let rises : one.0 < two.0 = elim one.2 [
            | inl early ↦ (let a = early.0 in let b = early.1 in elim two.2 [
              | inl first ↦ (let c = first.0 in omega arith)
              | inr second ↦ (let c = second.0 in omega arith)
            ])
            | inr late ↦ (let a = late.0 in let b = late.1 in elim two.2 [
              | inl first ↦ (let c = first.0 in let d = first.1 in omega arith)
              | inr second ↦ (let c = second.0 in omega arith)
            ])
          ]
          in
          let old = keyed.order one.0 two.0 other p rises one.1 two.1 in
          let number_one =
          (rest-after keys place before gap_before after gap_after other in_place in_before in_after).0 in
          let number_two = (rest-after keys place before gap_before after gap_after p in_place in_before in_after).0 in
          omega arith);
      others = λ p out. elim (cases_eq p place) [
        | inl same ↦
            subst (λ (q : ℕ). (key_at keys_new q).gap ≡ never) (sym same)
            (ap (λ (key : Key). key.gap)
            (gap-other (with_gap (with_gap keys place never) before gap_before) after gap_after place not_after
            ∙ gap-other (with_gap keys place never) before gap_before place not_before)
            ∙ gap-same keys place never in_place)
        | inr apart ↦
            let was_out = outside-remove places k place p between.here apart out in
            let no_before : p ≢ before = each-at (λ q. p ≢ q) places (k - 1) before between.at_before was_out in
            let no_after : p ≢ after = each-at (λ q. p ≢ q) places (k + 1) after between.at_after was_out in
            ap (λ (key : Key). key.gap)
            (others-after keys place before gap_before after gap_after p apart no_before no_after)
            ∙ keyed.others p was_out
      ];
    }

-- the same, where lists and gaps are equal by equations
pub keyed-next :
    (places new_places : List ℕ) (entries new_entries : List SnapEntry) (keys one two three : List Key)
    (k place before after gap_before gap_after : ℕ)
    → IsBetween places entries keys k place before after
    → new_places ≡ remove places k
    → new_entries ≡ remove entries k
    → gap_before ≡ gap_to_go new_entries (k - 1)
    → gap_after ≡ gap_to_go new_entries k
    → one ≡ with_gap keys place never
    → two ≡ with_gap one before gap_before
    → three ≡ with_gap two after gap_after
    → AreKeyed new_places new_entries three
keyed-next places new_places entries new_entries keys one two three k place before after gap_before gap_after between
    is_places is_entries is_before is_after is_one is_two is_three =
    let made : three ≡ keys_after keys place before gap_before after gap_after =
    is_three
    ∙ ap (λ (ks : List Key). with_gap ks after gap_after)
    (is_two ∙ ap (λ (ks : List Key). with_gap ks before gap_before) is_one)
    in
    let left = is_before ∙ ap (λ (es : List SnapEntry). gap_to_go es (k - 1)) is_entries in
    let right = is_after ∙ ap (λ (es : List SnapEntry). gap_to_go es k) is_entries in
    let gaps : keys_after keys place before gap_before after gap_after
    ≡ keys_after keys place before (gap_to_go (remove entries k) (k - 1)) after (gap_to_go (remove entries k) k) =
    ap (λ (gap : ℕ). keys_after keys place before gap after gap_after) left
    ∙ ap (λ (gap : ℕ). keys_after keys place before (gap_to_go (remove entries k) (k - 1)) after gap) right
    in
    subst (λ (ks : List Key). AreKeyed new_places new_entries ks) (sym (made ∙ gaps))
    (subst (λ (ps : List ℕ). AreKeyed ps new_entries
    (keys_after keys place before (gap_to_go (remove entries k) (k - 1)) after (gap_to_go (remove entries k) k)))
    (sym
    is_places)
    (subst (λ (es : List SnapEntry). AreKeyed (remove places k) es
    (keys_after keys place before (gap_to_go (remove entries k) (k - 1)) after (gap_to_go (remove entries k) k)))
    (sym
    is_entries)
    (keyed-removed places entries keys k place before after between)))

-- where there are entries there are keys
pub keys-some : (places : List ℕ) (entries : List SnapEntry) (keys : List Key) → AreKeyed places entries keys
    → 4 ≤ length entries → 0 < length keys
keys-some places entries keys keyed long =
    let beside = keyed.beside in
    let below =
    each-at (λ p. p < length keys) places 0 (get_or places 0 0) (slice_get-get_or places 0 0 (omega arith))
    keyed.below in
    omega arith

-- a place of an entry has a key
pub key-inside : (places : List ℕ) (entries : List SnapEntry) (keys : List Key) (k place : ℕ)
    → AreKeyed places entries keys → slice_get places k ≡ Some place → place < length keys
key-inside places entries keys k place keyed at = each-at (λ p. p < length keys) places k place at keyed.below

pub length-with_gap : (keys new : List Key) (place gap : ℕ) → new ≡ with_gap keys place gap → length new ≡ length keys
length-with_gap keys new place gap is = ap length is ∙ length-set keys place _
