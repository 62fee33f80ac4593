-- The entry that goes: what a loop over the places keeps, and that it ends at the defined place.
use Rattle.std.proofs.Common.{◌≡◌, ℕ, ◌+◌, ◌-◌, ◌<◌, ◌≤◌, ◌&&◌, true, false, List, length, map, get_or, inl, inr, sym}
use Rattle.std.proofs.Common.{ap, ◌∙◌, arith}
use Rattle.std.specs.Prelude.{Some, slice_get, slice_index, nat_le}
use Rattle.std.proofs.lemmas.Bool.{and_cases, both_ways, cases_Bool}
use Rattle.std.proofs.lemmas.Bool.Decides.{nat_tests, leb_tells}
use Rattle.std.proofs.lemmas.List.{get_or-map, get_or_past, length-map}
use Rattle.std.proofs.lemmas.Option.{slice_get_within, get_or_from_slice_get}
use Rattle.massif_cull.specs.declared.snapshot.Kind.TheVariants.{Normal}
use Rattle.massif_cull.specs.declared.snapshot.SnapEntry.{SnapEntry}
use Rattle.massif_cull.specs.ArrayState.{AreSound}
use Rattle.massif_cull.specs.Culling.{may_go, removable, gap_at, has_least_gap, removed_place}
use Rattle.massif_cull.specs.Entries.{is_peak, is_peak_at, times}
use Rattle.massif_cull.proofs.Search.{find-filter, all-filter, all-filter-at}

-- an entry to read past the end of a list
abbrev pub no_entry : SnapEntry
no_entry = record { place = 0; time = 0; total = 0; kind = Normal }

-- the time at a place is the time of the entry there
pub time-at : (entries : List SnapEntry) (k : ℕ) (d : SnapEntry) → k < length entries
    → slice_index (times entries) k ≡ (get_or entries k d).time
time-at entries k d inside = get_or-map (λ (entry : SnapEntry). entry.time) entries k d 0 inside

-- the entry at a place is a peak where the place is a peak's
pub peak-at : (entries : List SnapEntry) (k : ℕ) (d : SnapEntry) → k < length entries
    → is_peak_at entries k ≡ is_peak (get_or entries k d)
peak-at entries k d inside = get_or-map is_peak entries k d false inside

-- the same of the entry that is there
pub time-of : (entries : List SnapEntry) (k : ℕ) (entry : SnapEntry) → slice_get entries k ≡ Some entry
    → slice_index (times entries) k ≡ entry.time
time-of entries k entry here =
    time-at entries k entry (slice_get_within entries k entry here)
    ∙ ap (λ (e : SnapEntry). e.time) (get_or_from_slice_get entries k entry entry here)

pub peak-of : (entries : List SnapEntry) (k : ℕ) (entry : SnapEntry) → slice_get entries k ≡ Some entry
    → is_peak_at entries k ≡ is_peak entry
peak-of entries k entry here =
    peak-at entries k entry (slice_get_within entries k entry here)
    ∙ ap is_peak (get_or_from_slice_get entries k entry entry here)

-- no later entry has an earlier time
pub order-of : (entries : List SnapEntry) (i j : ℕ) (earlier later : SnapEntry) → AreSound entries → i < j
    → slice_get entries i ≡ Some earlier → slice_get entries j ≡ Some later → earlier.time ≤ later.time
order-of entries i j earlier later sound less here there =
    let order = sound.in_order i j earlier less (slice_get_within entries j later there) in
    let first = get_or_from_slice_get entries i earlier earlier here in
    let second = get_or_from_slice_get entries j later earlier there in
    omega (arith, ap (λ (e : SnapEntry). e.time) first, ap (λ (e : SnapEntry). e.time) second)

-- an entry that is neither first, last nor the peak may go
pub may_go-inside : (entries : List SnapEntry) (k : ℕ) → 0 < k → k + 1 < length entries → is_peak_at entries k ≡ false
    → may_go entries k ≡ true
unfolding may_go
may_go-inside entries k low high normal = rw normal (grind (arith, nat_tests))

-- an entry that may go has a neighbour on each side
pub may_go-between : (entries : List SnapEntry) (k : ℕ) → may_go entries k ≡ true → (0 < k) × (k + 1 < length entries)
unfolding may_go
may_go-between entries k goes = (grind (arith, nat_tests), grind (arith, nat_tests))

-- a peak may not go
pub may_go-peak : (entries : List SnapEntry) (k : ℕ) → is_peak_at entries k ≡ true → may_go entries k ≡ false
unfolding may_go
may_go-peak entries k peak = rw peak (grind (arith, nat_tests))

-- of two neighbours at most one is a peak
pub second-may_go : (entries : List SnapEntry) → AreSound entries → 4 ≤ length entries → is_peak_at entries 1 ≡ true
    → may_go entries 2 ≡ true
second-may_go entries sound long first =
    let one : is_peak_at entries 1 ≡ is_peak (get_or entries 1 no_entry) = peak-at entries 1 no_entry (omega arith) in
    let two : is_peak_at entries 2 ≡ is_peak (get_or entries 2 no_entry) = peak-at entries 2 no_entry (omega arith) in
    let not_both : (is_peak (get_or entries 1 no_entry) && is_peak (get_or entries 2 no_entry)) ≡ false =
    sound.one_peak 1 2 no_entry (omega arith) (omega arith) in
    let is_first : is_peak (get_or entries 1 no_entry) ≡ true = sym one ∙ first in
    let second : is_peak (get_or entries 2 no_entry) ≡ false = rw is_first at not_both in
    may_go-inside entries 2 (omega arith) (omega arith) (two ∙ second)

-- the difference at a place is that of the times of the entries beside it
pub gap-of :
    (entries : List SnapEntry) (k i j : ℕ) (earlier later : SnapEntry)
    → i + 1 ≡ k
    → j ≡ k + 1
    → slice_get entries i ≡ Some earlier
    → slice_get entries j ≡ Some later
    → later.time - earlier.time ≡ gap_at entries k
unfolding gap_at
gap-of entries k i j earlier later before after here there =
    ap (λ (t : ℕ). t - earlier.time) (sym (time-of entries j later there) ∙ ap (slice_index (times entries)) after)
    ∙ ap (λ (t : ℕ). slice_index (times entries) (k + 1) - t)
    (sym (time-of entries i earlier here) ∙ ap (slice_index (times entries)) {x = i} {y = k - 1} (omega arith))

-- the same of the two times
pub gap-between : (entries : List SnapEntry) (k later earlier : ℕ) → later ≡ slice_index (times entries) (k + 1)
    → earlier ≡ slice_index (times entries) (k - 1) → later - earlier ≡ gap_at entries k
unfolding gap_at
gap-between entries k later earlier after before =
    ap (λ (t : ℕ). t - earlier) after ∙ ap (λ (t : ℕ). slice_index (times entries) (k + 1) - t) before

-- of the places below `other` that may go, `place` is the first with the least difference
pub record IsFirstLeast (entries : List SnapEntry) (place other : ℕ) : Type 0 where
  pub goes : may_go entries place ≡ true
  pub below : place < other
  pub not_greater : (j : ℕ) → j < other → may_go entries j ≡ true → gap_at entries place ≤ gap_at entries j
  pub less : (j : ℕ) → j < place → may_go entries j ≡ true → gap_at entries place < gap_at entries j

-- the last entry may not go, so that the loop ends at the place that goes
pub removed-is : (entries : List SnapEntry) (place : ℕ) → IsFirstLeast entries place (length entries - 1)
    → removed_place entries ≡ Some place
unfolding removed_place removable has_least_gap
removed-is entries place least =
    let between = may_go-between entries place least.goes in
    let all : (j : ℕ) → may_go entries j ≡ true → gap_at entries place ≤ gap_at entries j =
    λ j g. let inside = may_go-between entries j g in least.not_greater j (omega arith) g in
    find-filter (may_go entries) (has_least_gap entries) (length entries) 0 place (omega arith) (omega arith) least.goes
    (all-filter (may_go entries) (λ other. nat_le (gap_at entries place) (gap_at entries other)) (length entries) 0
    (λ j l h g. let within = all j g in grind (arith, nat_tests)))
    (λ j l h g. elim (cases_Bool (has_least_gap entries j)) [
      | inl passes ↦
          let test =
          all-filter-at (may_go entries) (λ other. nat_le (gap_at entries j) (gap_at entries other)) (length entries)
          0 place passes (omega arith) (omega arith) least.goes in
          let less = least.less j h g in
          absurd (elim (leb_tells (gap_at entries j) (gap_at entries place)) [
            | inl at_most ↦ omega arith
            | inr above ↦ let n : nat_le (gap_at entries j) (gap_at entries place) ≡ false = above.0 in cc
          ])
      | inr fails ↦ fails
    ])

-- past the last there is no peak
pub no-peak_past : (entries : List SnapEntry) (k : ℕ) → length entries ≤ k → is_peak_at entries k ≡ false
no-peak_past entries k past =
    get_or_past (map is_peak entries) k false (let long = length-map entries is_peak in omega arith)

-- beside a peak there is no other
pub no-other_peak : (entries : List SnapEntry) (i k : ℕ) → AreSound entries → is_peak_at entries i ≡ true → k < i
    → i < length entries → is_peak_at entries k ≡ false
no-other_peak entries i k sound peak before inside =
    let here = peak-at entries i no_entry inside in
    let there = peak-at entries k no_entry (omega arith) in
    elim (and_cases (is_peak (get_or entries k no_entry)) (is_peak (get_or entries i no_entry))
    (sound.one_peak k i no_entry before inside)) [
      | inl earlier ↦ there ∙ earlier
      | inr later ↦ absurd (both_ways (is_peak_at entries i) (here ∙ later) peak)
    ]
