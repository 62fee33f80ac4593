-- What is left while entries are removed with their loads.
use Rattle.std.proofs.Common.{◌≡◌, ℕ, ◌+◌, ◌-◌, ◌/◌, ◌^◌, ◌<◌, ◌≤◌, zero, suc, false, ◌&&◌, List, [], ◌∷◌, length, map}
use Rattle.std.proofs.Common.{Option, inl, inr, refl, sym, ap, subst, ◌∙◌, arith}
use Rattle.std.specs.Prelude.{remove, slice_get, slice_index, Some, All}
use Rattle.std.specs.Option.{option_map_or}
use Rattle.std.proofs.lemmas.Bool.{cases_lt}
use Rattle.std.proofs.lemmas.List.{length-map}
use Rattle.std.proofs.lemmas.List.Edits.{length-remove, get_or-remove_below, get_or-remove_above}
use Rattle.std.proofs.lemmas.List.Quantifiers.{all_pairs_remove}
use Rattle.massif_cull.specs.declared.snapshot.SnapEntry.{SnapEntry}
use Rattle.massif_cull.specs.Among.{AreAmong}
use Rattle.massif_cull.specs.ArrayState.{AreSound}
use Rattle.massif_cull.specs.Culling.{removed_place, cull1, cull_times, cull}
use Rattle.massif_cull.specs.Entries.{is_peak, times, last_time}
use Rattle.massif_cull.specs.Left.{AreLeft}
use Rattle.massif_cull.specs.Loads.{loads_cull1, loads_cull_times, loads_cull}

-- before the removed place a list stays
pub get-remove_below : {X : Type 0} (xs : List X) (p k : ℕ) → k < p → slice_get (remove xs p) k ≡ slice_get xs k
get-remove_below [] zero k less = absurd (omega arith)
get-remove_below [] (suc p) k less = refl
get-remove_below (x ∷ xs) zero k less = absurd (omega arith)
get-remove_below (x ∷ xs) (suc p) zero less = refl
get-remove_below (x ∷ xs) (suc p) (suc k) less = get-remove_below xs p k (omega arith)

-- behind it each element comes one place nearer
pub get-remove_above : {X : Type 0} (xs : List X) (p k : ℕ) → p ≤ k → slice_get (remove xs p) k ≡ slice_get xs (suc k)
get-remove_above [] zero k most = refl
get-remove_above [] (suc p) k most = refl
get-remove_above (x ∷ xs) zero k most = refl
get-remove_above (x ∷ xs) (suc p) zero most = absurd (omega arith)
get-remove_above (x ∷ xs) (suc p) (suc k) most = get-remove_above xs p k (omega arith)

-- what is made of each element is made of those left
pub map-remove : {X Y : Type 0} (f : X → Y) (xs : List X) (p : ℕ) → map f (remove xs p) ≡ remove (map f xs) p
map-remove f [] zero = refl
map-remove f [] (suc p) = refl
map-remove f (x ∷ xs) zero = refl
map-remove {X} {Y} f (x ∷ xs) (suc p) = ap (λ (ys : List Y). f x ∷ ys) (map-remove f xs p)

-- what is true of each element is true of those left
pub All-remove : {X : Type 0} (P : X → Type 0) (xs : List X) (p : ℕ) → p < length xs → All P xs → All P (remove xs p)
All-remove P xs p inside all k d within =
    let long = length-remove xs p inside in
    elim (cases_lt k p) [
      | inl below ↦ rw (get_or-remove_below xs p d k below inside) (all k d (omega arith))
      | inr above ↦ rw (get_or-remove_above xs p d k above inside) (all (k + 1) d (omega arith))
    ]

-- the facts of a list of entries stay
pub sound-remove : (entries : List SnapEntry) (p : ℕ) → p < length entries → AreSound entries
    → AreSound (remove entries p)
sound-remove entries p inside sound = record {
  in_order = all_pairs_remove (λ (a b : SnapEntry). a.time ≤ b.time) entries p inside sound.in_order;
  one_peak = all_pairs_remove (λ (a b : SnapEntry). (is_peak a && is_peak b) ≡ false) entries p inside sound.one_peak;
  times_most = All-remove (λ (a : SnapEntry). a.time ≤ 2 ^ 62) entries p inside sound.times_most;
  totals_most = All-remove (λ (a : SnapEntry). a.total ≤ 2 ^ 62) entries p inside sound.totals_most;
}

-- each list is among itself
pub among-itself : {T : Type 0} (entries : List SnapEntry) (loads : List T) → AreAmong entries loads entries loads
among-itself entries loads = record { each = λ k inside. (k, inside, (refl, refl)) }

-- what is left after one more removal is among what it was before
pub among-remove :
    {T : Type 0} (earlier : List SnapEntry) (earlier_loads : List T) (entries : List SnapEntry) (loads : List T) (p : ℕ)
    → p < length entries
    → AreAmong earlier earlier_loads entries loads
    → AreAmong earlier earlier_loads (remove entries p) (remove loads p)
among-remove earlier earlier_loads entries loads p inside among = record {
  each = λ k within.
      let long = length-remove entries p inside in
      elim (cases_lt k p) [
        | inl below ↦
            let from = among.each k (omega arith) in (
              from.0,
              from.1,
              (get-remove_below entries p k below ∙ from.2.0, get-remove_below loads p k below ∙ from.2.1),
            )
        | inr above ↦
            let from = among.each (suc k) (omega arith) in (
              from.0,
              from.1,
              (get-remove_above entries p k above ∙ from.2.0, get-remove_above loads p k above ∙ from.2.1),
            )
      ];
}

-- where an entry before the last goes, the last stays
pub last-remove : (entries : List SnapEntry) (p : ℕ) → p + 1 < length entries
    → last_time (remove entries p) ≡ last_time entries
last-remove entries p inside =
    let long : length (times entries) ≡ length entries = length-map entries (λ (entry : SnapEntry). entry.time) in
    let shorter = length-remove entries p (omega arith) in
    let end : length (remove entries p) - 1 + 1 ≡ length entries - 1 = omega arith in
    ap (λ (ts : List ℕ). slice_index ts (length (remove entries p) - 1))
    (map-remove (λ (entry : SnapEntry). entry.time) entries p)
    ∙ get_or-remove_above (times entries) p 0 (length (remove entries p) - 1) (omega arith) (omega arith)
    ∙ ap (slice_index (times entries)) end

-- before the first removal
pub left-start : {T : Type 0} (entries : List SnapEntry) (loads : List T) → AreSound entries
    → length loads ≡ length entries → AreLeft (length entries / 2) entries loads entries loads
unfolding cull loads_cull
left-start entries loads sound beside = record {
  entries_left = refl;
  loads_left = refl;
  count = refl;
  beside = beside;
  sound = sound;
  last = refl;
  among = among-itself entries loads;
}

-- the lists without the place that goes
pub cull1-at : (entries : List SnapEntry) (p : ℕ) → removed_place entries ≡ Some p → cull1 entries ≡ remove entries p
unfolding cull1
cull1-at entries p goes = ap (λ (o : Option ℕ). option_map_or (remove entries) o entries) goes

pub loads_cull1-at : {T : Type 0} (entries : List SnapEntry) (loads : List T) (p : ℕ) → removed_place entries ≡ Some p
    → loads_cull1 entries loads ≡ remove loads p
unfolding loads_cull1
loads_cull1-at entries loads p goes = ap (λ (o : Option ℕ). option_map_or (remove loads) o loads) goes

-- one removal fewer is still to come
pub cull_times-suc : (n : ℕ) (entries : List SnapEntry) → cull_times (suc n) entries ≡ cull_times n (cull1 entries)
unfolding cull_times
cull_times-suc n entries = refl

pub loads_cull_times-suc : {T : Type 0} (n : ℕ) (entries : List SnapEntry) (loads : List T)
    → loads_cull_times (suc n) entries loads ≡ loads_cull_times n (cull1 entries) (loads_cull1 entries loads)
unfolding loads_cull_times
loads_cull_times-suc n entries loads = refl

-- after one more removal
pub left-more :
    {T : Type 0} (rest : ℕ) (earlier : List SnapEntry) (earlier_loads : List T) (entries : List SnapEntry)
    (loads : List T) (p : ℕ)
    → removed_place entries ≡ Some p
    → p + 1 < length entries
    → AreLeft (suc rest) earlier earlier_loads entries loads
    → AreLeft rest earlier earlier_loads (remove entries p) (remove loads p)
left-more rest earlier earlier_loads entries loads p goes inside left =
    let within : p < length entries = omega arith in
    let shorter = length-remove entries p within in
    let beside = left.beside in
    let loads_shorter = length-remove loads p (omega arith) in
    record {
      entries_left =
          ap (cull_times rest) (sym (cull1-at entries p goes)) ∙ sym (cull_times-suc rest entries) ∙ left.entries_left;
      loads_left =
          rw (← cull1-at entries p goes, ← loads_cull1-at entries loads p goes)
          (sym (loads_cull_times-suc rest entries loads) ∙ left.loads_left);
      count = omega (arith, left.count);
      beside = omega arith;
      sound = sound-remove entries p within left.sound;
      last = last-remove entries p inside ∙ left.last;
      among = among-remove earlier earlier_loads entries loads p within left.among;
    }

-- after the last removal
pub left-entries : {T : Type 0} (earlier : List SnapEntry) (earlier_loads : List T) (entries : List SnapEntry)
    (loads : List T)
    → AreLeft 0 earlier earlier_loads entries loads → entries ≡ cull earlier
unfolding cull_times
left-entries earlier earlier_loads entries loads left = left.entries_left

pub left-loads : {T : Type 0} (earlier : List SnapEntry) (earlier_loads : List T) (entries : List SnapEntry)
    (loads : List T)
    → AreLeft 0 earlier earlier_loads entries loads → loads ≡ loads_cull earlier earlier_loads
unfolding loads_cull_times
left-loads earlier earlier_loads entries loads left = left.loads_left

-- the same steps, where numbers and lists are equal by equations
pub left-at_start :
    {T : Type 0} (rest : ℕ) (entries : List SnapEntry) (loads : List T)
    → rest ≡ length entries / 2
    → AreSound entries
    → length loads ≡ length entries
    → AreLeft rest entries loads entries loads
left-at_start rest entries loads all sound beside =
    subst (λ (n : ℕ). AreLeft n entries loads entries loads) (sym all) (left-start entries loads sound beside)

pub left-at_more :
    {T : Type 0} (rest fewer : ℕ) (earlier : List SnapEntry) (earlier_loads : List T) (entries : List SnapEntry)
    (loads : List T) (p : ℕ)
    (after : List SnapEntry) (loads_after : List T)
    → rest ≡ suc fewer
    → removed_place entries ≡ Some p
    → p + 1 < length entries
    → after ≡ remove entries p
    → loads_after ≡ remove loads p
    → AreLeft rest earlier earlier_loads entries loads
    → AreLeft fewer earlier earlier_loads after loads_after
left-at_more {T} rest fewer earlier earlier_loads entries loads p after loads_after one goes inside is_after is_loads
    left =
    let left_suc : AreLeft (suc fewer) earlier earlier_loads entries loads =
    subst (λ (n : ℕ). AreLeft n earlier earlier_loads entries loads) one left in
    subst (λ (ls : List T). AreLeft fewer earlier earlier_loads after ls) (sym is_loads)
    (subst (λ (es : List SnapEntry). AreLeft fewer earlier earlier_loads es (remove loads p)) (sym is_after)
    (left-more fewer earlier earlier_loads entries loads p goes inside left_suc))

pub left-at_end :
    {T : Type 0} (rest : ℕ) (earlier : List SnapEntry) (earlier_loads : List T) (entries : List SnapEntry)
    (loads : List T)
    → rest ≡ 0
    → AreLeft rest earlier earlier_loads entries loads
    → AreLeft 0 earlier earlier_loads entries loads
left-at_end rest earlier earlier_loads entries loads none left =
    subst (λ (n : ℕ). AreLeft n earlier earlier_loads entries loads) none left

-- while removals are to come, four entries are left
pub left-long : {T : Type 0} (rest : ℕ) (earlier : List SnapEntry) (earlier_loads : List T) (entries : List SnapEntry)
    (loads : List T)
    → 6 ≤ length earlier → 1 ≤ rest → AreLeft rest earlier earlier_loads entries loads → 4 ≤ length entries
left-long rest earlier earlier_loads entries loads long some left = omega (arith, left.count)

-- equal lists are among each other
pub among_same : {T : Type 0} (earlier : List SnapEntry) (earlier_loads : List T) (entries : List SnapEntry)
    (loads : List T)
    → entries ≡ earlier → loads ≡ earlier_loads → AreAmong earlier earlier_loads entries loads
among_same {T} earlier earlier_loads entries loads same same_loads =
    subst (λ (es : List SnapEntry). AreAmong es earlier_loads entries loads) same
    (subst (λ (ls : List T). AreAmong entries ls entries loads) same_loads (among-itself entries loads))

-- what stands beside a place that goes stands there still
pub left-before : (places new : List ℕ) (k before : ℕ) → 0 < k → new ≡ remove places k
    → slice_get places (k - 1) ≡ Some before → slice_get new (k - 1) ≡ Some before
left-before places new k before some is at =
    ap (λ (ps : List ℕ). slice_get ps (k - 1)) is ∙ get-remove_below places k (k - 1) (omega arith) ∙ at

pub left-behind : (places new : List ℕ) (k after : ℕ) → new ≡ remove places k → slice_get places (k + 1) ≡ Some after
    → slice_get new k ≡ Some after
left-behind places new k after is at =
    let follows : suc k ≡ k + 1 = omega arith in
    ap (λ (ps : List ℕ). slice_get ps k) is ∙ get-remove_above places k k (omega arith)
    ∙ ap (slice_get places) follows
    ∙ at

-- and what is left is in order
pub sound-left : (entries new : List SnapEntry) (k : ℕ) → k < length entries → new ≡ remove entries k → AreSound entries
    → AreSound new
sound-left entries new k inside is sound = subst AreSound (sym is) (sound-remove entries k inside sound)
