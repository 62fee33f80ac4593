-- Entries whose neighbours have one time: they go first, in their order.
use Rattle.std.proofs.Common.{◌≡◌, ℕ, ◌+◌, ◌-◌, ◌<◌, ◌≤◌, Bool, true, false, List, length, map, inl, inr, sym, ap}
use Rattle.std.proofs.Common.{subst, ◌∙◌, arith}
use Rattle.std.specs.Prelude.{remove, slice_index, Some}
use Rattle.std.specs.List.{slice_index_or}
use Rattle.std.proofs.lemmas.Bool.{both_ways, cases_Bool, cases_eq, cases_lt}
use Rattle.std.proofs.lemmas.List.{length-map}
use Rattle.std.proofs.lemmas.List.Edits.{length-remove, get_or-remove_below, get_or-remove_above}
use Rattle.massif_cull.specs.declared.snapshot.SnapEntry.{SnapEntry}
use Rattle.massif_cull.specs.ArrayState.{AreSound}
use Rattle.massif_cull.specs.Culling.{may_go, gap_at, removed_place}
use Rattle.massif_cull.specs.Entries.{is_peak, is_peak_at, times}
use Rattle.massif_cull.specs.Left.{AreLeft}
use Rattle.massif_cull.proofs.Places.{may_go-between, may_go-inside, may_go-peak, no_entry, removed-is, time-at}
use Rattle.massif_cull.proofs.Removals.{map-remove}

-- of those that were passed, none that may go is between equals
pub record ArePassed (entries : List SnapEntry) (place : ℕ) : Type 0 where
  pub each : (j : ℕ) → j < place → may_go entries j ≡ true → 0 < gap_at entries j

-- the first may not go
pub passed-first : (entries : List SnapEntry) (place : ℕ) → place ≡ 1 → ArePassed entries place
passed-first entries place second = record {
  each = λ j below goes. (let between = may_go-between entries j goes in absurd (omega arith));
}

-- one more
pub passed-more : (entries : List SnapEntry) (place next : ℕ) → next ≡ place + 1 → ArePassed entries place
    → (may_go entries place ≡ true → 0 < gap_at entries place) → ArePassed entries next
passed-more entries place next is passed here = record {
  each = λ j below goes. elim (cases_eq j place) [
    | inl last ↦
        (let at = here (subst (λ (k : ℕ). may_go entries k ≡ true) last goes) in
        let same = ap (gap_at entries) last in
        omega arith)
    | inr early ↦ passed.each j (omega arith) goes
  ];
}

-- what may go is no peak
pub no-peak : (entries : List SnapEntry) (j : ℕ) → may_go entries j ≡ true → is_peak_at entries j ≡ false
no-peak entries j goes =
    elim (cases_Bool (is_peak_at entries j)) [
      | inl peak ↦ absurd (both_ways _ (may_go-peak entries j peak) goes)
      | inr normal ↦ normal
    ]

-- before the removed place all stay what they are
pub peak-below : (entries : List SnapEntry) (p j : ℕ) → p < length entries → j < p
    → is_peak_at (remove entries p) j ≡ is_peak_at entries j
peak-below entries p j inside below =
    let long = length-map entries is_peak in
    ap (λ (flags : List Bool). slice_index_or flags j false) (map-remove is_peak entries p)
    ∙ get_or-remove_below (map is_peak entries) p false j below (omega arith)

pub time-below : (entries : List SnapEntry) (p j : ℕ) → p < length entries → j < p
    → slice_index (times (remove entries p)) j ≡ slice_index (times entries) j
time-below entries p j inside below =
    let long = length-map entries (λ (entry : SnapEntry). entry.time) in
    ap (λ (ts : List ℕ). slice_index ts j) (map-remove (λ (entry : SnapEntry). entry.time) entries p)
    ∙ get_or-remove_below (times entries) p 0 j below (omega arith)

pub time-above : (entries : List SnapEntry) (p j : ℕ) → p < length entries → p ≤ j
    → slice_index (times (remove entries p)) j ≡ slice_index (times entries) (j + 1)
time-above entries p j inside above =
    let long = length-map entries (λ (entry : SnapEntry). entry.time) in
    ap (λ (ts : List ℕ). slice_index ts j) (map-remove (λ (entry : SnapEntry). entry.time) entries p)
    ∙ get_or-remove_above (times entries) p 0 j above (omega arith)

-- no time falls
pub later : (entries : List SnapEntry) (k : ℕ) → AreSound entries → k + 1 < length entries
    → slice_index (times entries) k ≤ slice_index (times entries) (k + 1)
later entries k sound inside =
    let first = time-at entries k no_entry (omega arith) in
    let second = time-at entries (k + 1) no_entry inside in
    let order = sound.in_order k (k + 1) no_entry (omega arith) inside in
    omega arith

-- where an entry goes, the differences of those before it don't fall
pub gap-grows : (entries : List SnapEntry) (p j : ℕ) → AreSound entries → p + 1 < length entries → 0 < j → j < p
    → gap_at entries j ≤ gap_at (remove entries p) j
unfolding gap_at
gap-grows entries p j sound inside some below =
    let before = time-below entries p (j - 1) (omega arith) (omega arith) in
    elim (cases_lt (j + 1) p) [
      | inl early ↦ (let after = time-below entries p (j + 1) (omega arith) early in omega arith)
      | inr last ↦
          (let here : j + 1 ≡ p = omega arith in
          let after = time-above entries p (j + 1) (omega arith) last in
          let order = later entries (j + 1) sound (omega arith) in
          omega arith)
    ]

-- an entry goes behind those that were passed
pub passed-removed :
    (entries after : List SnapEntry) (place next : ℕ)
    → after ≡ remove entries place
    → next ≡ place
    → AreSound entries
    → place + 1 < length entries
    → ArePassed entries place
    → ArePassed after next
passed-removed entries after place next is same sound inside passed =
    subst (λ (es : List SnapEntry). ArePassed es next) (sym is)
    (record {
      each = λ j below goes.
          (let shorter = length-remove entries place (omega arith) in
          let between = may_go-between (remove entries place) j goes in
          let normal =
          sym (peak-below entries place j (omega arith) (omega arith)) ∙ no-peak (remove entries place) j goes in
          let at = passed.each j (omega arith) (may_go-inside entries j between.0 (omega arith) normal) in
          let more = gap-grows entries place j sound inside between.0 (omega arith) in
          omega arith);
    })

-- the next one that may go, where its neighbours have one time, is the one that goes
pub goes-next : (entries : List SnapEntry) (place : ℕ) → ArePassed entries place → may_go entries place ≡ true
    → gap_at entries place ≡ 0 → removed_place entries ≡ Some place
goes-next entries place passed goes none =
    let between = may_go-between entries place goes in
    removed-is entries place
    (record {
      goes = goes;
      below = omega arith;
      not_greater = λ j below other. omega arith;
      less = λ j below other. (let some = passed.each j below other in omega arith);
    })

-- as many removals are to come by another name
pub left-same : {T : Type 0} (rest other : ℕ) (earlier : List SnapEntry) (earlier_loads : List T)
    (entries : List SnapEntry) (loads : List T)
    → rest ≡ other → AreLeft rest earlier earlier_loads entries loads
    → AreLeft other earlier earlier_loads entries loads
left-same rest other earlier earlier_loads entries loads same left =
    subst (λ (n : ℕ). AreLeft n earlier earlier_loads entries loads) same left
