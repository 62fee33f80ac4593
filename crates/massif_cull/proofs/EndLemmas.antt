-- An end of a list that goes whole: each removal of a cull takes one of it, and in whatever order
-- they go, the same is left.
use Rattle.std.proofs.Common.{◌≡◌, ◌⊎◌, ℕ, ◌+◌, ◌-◌, ◌^◌, ◌<◌, ◌≤◌, zero, suc, Bool, true, false, cond, List, [], ◌∷◌}
use Rattle.std.proofs.Common.{length, map, inl, inr, refl, sym, ap, subst, ◌∙◌, arith}
use Rattle.std.specs.Prelude.{if◌then◌else◌, remove, slice_index, Some}
use Rattle.std.specs.List.{slice_index_or}
use Rattle.std.proofs.lemmas.Bool.{both_ways, cases_Bool, cases_eq, cases_lt}
use Rattle.std.proofs.lemmas.List.{length-map}
use Rattle.std.proofs.lemmas.List.Edits.{length-remove}
use Rattle.massif_cull.specs.declared.snapshot.SnapEntry.{SnapEntry}
use Rattle.massif_cull.specs.ArrayState.{AreSound}
use Rattle.massif_cull.specs.Culling.{may_go, gap_at, removed_place}
use Rattle.massif_cull.specs.Ends.{count_may_go, span}
use Rattle.massif_cull.specs.Entries.{is_peak, is_peak_at, last_time, times}
use Rattle.massif_cull.specs.Keyed.{gap_to_go}
use Rattle.massif_cull.specs.Left.{AreLeft}
use Rattle.massif_cull.proofs.Equals.{gap-grows, no-peak, time-below}
use Rattle.massif_cull.proofs.Keying.{goes-gap, may-above, may-below, stays-gap}
use Rattle.massif_cull.proofs.Places.{IsFirstLeast, may_go-between, may_go-inside, no_entry, removed-is, time-at}
use Rattle.massif_cull.proofs.Removals.{last-remove, left-more, map-remove}

-- ---- what is left

-- the elements at whose place a flag stands, and the last one
keep_flagged : {X : Type 0} → List X → List Bool → List X
keep_flagged [] flags = []
keep_flagged (x ∷ xs) [] = x ∷ xs
keep_flagged (x ∷ xs) (b ∷ []) = x ∷ xs
keep_flagged (x ∷ xs) (b ∷ c ∷ bs) = cond b (x ∷ keep_flagged xs (c ∷ bs)) (keep_flagged xs (c ∷ bs))

-- the same from a place on, behind all before it
pub keep_from : {X : Type 0} → ℕ → List X → List Bool → List X
keep_from zero xs flags = keep_flagged xs flags
keep_from (suc n) [] flags = []
keep_from (suc n) (x ∷ xs) [] = x ∷ xs
keep_from (suc n) (x ∷ xs) (b ∷ bs) = x ∷ keep_from n xs bs

-- an element without a flag, which isn't the last, may have gone before
flagged-removed : {X : Type 0} (xs : List X) (flags : List Bool) (k : ℕ) → k + 1 < length flags
    → slice_index_or flags k false ≡ false → keep_flagged (remove xs k) (remove flags k) ≡ keep_flagged xs flags
unfolding keep_flagged
flagged-removed [] flags zero inside none = refl
flagged-removed [] flags (suc k) inside none = refl
flagged-removed (x ∷ xs) [] k inside none = absurd (omega arith)
flagged-removed (x ∷ xs) (b ∷ []) k inside none = absurd (omega arith)
flagged-removed (x ∷ xs) (b ∷ c ∷ bs) zero inside none =
    sym (ap (λ (f : Bool). cond f (x ∷ keep_flagged xs (c ∷ bs)) (keep_flagged xs (c ∷ bs))) none)
flagged-removed (x ∷ xs) (b ∷ c ∷ []) (suc k) inside none = absurd (omega arith)
flagged-removed {X} (x ∷ xs) (b ∷ c ∷ d ∷ bs) (suc zero) inside none =
    ap (λ (ys : List X). cond b (x ∷ ys) ys) (flagged-removed xs (c ∷ d ∷ bs) zero (omega arith) none)
flagged-removed {X} (x ∷ xs) (b ∷ c ∷ d ∷ bs) (suc (suc k)) inside none =
    ap (λ (ys : List X). cond b (x ∷ ys) ys) (flagged-removed xs (c ∷ d ∷ bs) (suc k) (omega arith) none)

from-removed : {X : Type 0} (n : ℕ) (xs : List X) (flags : List Bool) (k : ℕ) → n ≤ k → k + 1 < length flags
    → slice_index_or flags k false ≡ false → keep_from n (remove xs k) (remove flags k) ≡ keep_from n xs flags
unfolding keep_from keep_flagged
from-removed zero xs flags k low inside none = flagged-removed xs flags k inside none
from-removed (suc n) [] flags zero low inside none = absurd (omega arith)
from-removed (suc n) [] flags (suc k) low inside none = refl
from-removed (suc n) (x ∷ xs) [] k low inside none = absurd (omega arith)
from-removed (suc n) (x ∷ xs) (b ∷ bs) zero low inside none = absurd (omega arith)
from-removed {X} (suc n) (x ∷ xs) (b ∷ bs) (suc k) low inside none =
    ap (λ (ys : List X). x ∷ ys) (from-removed n xs bs k (omega arith) (omega arith) none)

-- where all have flags, all stay
flagged-all : {X : Type 0} (xs : List X) (flags : List Bool)
    → ((k : ℕ) → k + 1 < length flags → slice_index_or flags k false ≡ true) → keep_flagged xs flags ≡ xs
unfolding keep_flagged
flagged-all [] flags all = refl
flagged-all (x ∷ xs) [] all = refl
flagged-all (x ∷ xs) (b ∷ []) all = refl
flagged-all {X} (x ∷ xs) (b ∷ c ∷ bs) all =
    ap (λ (f : Bool). cond f (x ∷ keep_flagged xs (c ∷ bs)) (keep_flagged xs (c ∷ bs))) (all 0 (omega arith))
    ∙ ap (λ (ys : List X). x ∷ ys) (flagged-all xs (c ∷ bs) (λ k inside. all (suc k) (omega arith)))

from-all : {X : Type 0} (n : ℕ) (xs : List X) (flags : List Bool)
    → ((k : ℕ) → n ≤ k → k + 1 < length flags → slice_index_or flags k false ≡ true) → keep_from n xs flags ≡ xs
unfolding keep_from keep_flagged
from-all zero xs flags all = flagged-all xs flags (λ k inside. all k (omega arith) inside)
from-all (suc n) [] flags all = refl
from-all (suc n) (x ∷ xs) [] all = refl
from-all {X} (suc n) (x ∷ xs) (b ∷ bs) all =
    ap (λ (ys : List X). x ∷ ys) (from-all n xs bs (λ k low inside. all (suc k) (omega arith) (omega arith)))

-- an entry of the end that is neither the last nor the peak may have gone before
pub kept-removed :
    {X : Type 0} (entries : List SnapEntry) (xs : List X) (place p : ℕ)
    → place ≤ p
    → p + 1 < length entries
    → is_peak_at entries p ≡ false
    → keep_from place (remove xs p) (map is_peak (remove entries p)) ≡ keep_from place xs (map is_peak entries)
kept-removed entries xs place p low inside normal =
    let long = length-map entries is_peak in
    ap (keep_from place (remove xs p)) (map-remove is_peak entries p)
    ∙ from-removed place xs (map is_peak entries) p low (omega arith) normal

-- where but for the last all of the end are peaks, nothing of it goes
pub kept-all :
    {X : Type 0} (entries : List SnapEntry) (xs : List X) (place : ℕ)
    → ((k : ℕ) → place ≤ k → k + 1 < length entries → is_peak_at entries k ≡ true)
    → keep_from place xs (map is_peak entries) ≡ xs
kept-all entries xs place all =
    let long = length-map entries is_peak in
    from-all place xs (map is_peak entries) (λ k low inside. all k low (omega arith))

-- ---- how many may go

-- one more place
pub count_may_go-next : (entries : List SnapEntry) (place next : ℕ) (goes : Bool) → place + 1 ≡ next
    → next < length entries → may_go entries place ≡ goes
    → count_may_go entries place (length entries - 1 - place)
    ≡ (if goes then 1 else 0) + count_may_go entries next (length entries - 1 - next)
count_may_go-next entries place next goes follows inside is =
    let more : length entries - 1 - place ≡ suc (length entries - 1 - next) = omega arith in
    ap (count_may_go entries place) more
    ∙ ap (λ (b : Bool). (if b then 1 else 0) + count_may_go entries (place + 1) (length entries - 1 - next)) is
    ∙ ap (λ (k : ℕ). (if goes then 1 else 0) + count_may_go entries k (length entries - 1 - next)) follows

-- of some there is one
one-goes : (entries : List SnapEntry) (place n : ℕ) → 0 < count_may_go entries place n
    → (k : ℕ) × (place ≤ k) × (may_go entries k ≡ true)
one-goes entries place zero some = absurd (omega arith)
one-goes entries place (suc n) some =
    elim (cases_Bool (may_go entries place)) [
      | inl goes ↦ (place, omega arith, goes)
      | inr stays ↦
          let counted : 0 < 0 + count_may_go entries (place + 1) n =
          subst (λ (b : Bool). 0 < (if b then 1 else 0) + count_may_go entries (place + 1) n) stays some in
          let behind : 0 < count_may_go entries (place + 1) n = omega (arith, counted) in
          let rest = one-goes entries (place + 1) n behind in
          (rest.0, (let low = rest.1 in omega arith), rest.2)
    ]

-- of none there is none
none-goes : (entries : List SnapEntry) (place n k : ℕ) → count_may_go entries place n ≡ 0 → place ≤ k → k < place + n
    → may_go entries k ≡ false
none-goes entries place zero k none low high = absurd (omega arith)
none-goes entries place (suc n) k none low high =
    elim (cases_Bool (may_go entries place)) [
      | inl goes ↦
          let counted : 1 + count_may_go entries (place + 1) n ≡ 0 =
          subst (λ (b : Bool). (if b then 1 else 0) + count_may_go entries (place + 1) n ≡ 0) goes none in
          absurd (omega (arith, counted))
      | inr stays ↦ elim (cases_eq place k) [
        | inl here ↦ ap (may_go entries) (sym here) ∙ stays
        | inr behind ↦
            let counted : 0 + count_may_go entries (place + 1) n ≡ 0 =
            subst (λ (b : Bool). (if b then 1 else 0) + count_may_go entries (place + 1) n ≡ 0) stays none in
            none-goes entries (place + 1) n k (omega (arith, counted)) (omega arith) (omega arith)
      ]
    ]

-- behind one that is removed
count_may_go-behind : (entries : List SnapEntry) (p place n : ℕ) → 0 < p → p + 1 < length entries → p ≤ place
    → count_may_go (remove entries p) place n ≡ count_may_go entries (place + 1) n
count_may_go-behind entries p place zero some inside behind = refl
count_may_go-behind entries p place (suc n) some inside behind =
    ap (λ (b : Bool). (if b then 1 else 0) + count_may_go (remove entries p) (place + 1) n)
    (may-above entries p place some inside behind)
    ∙ ap (λ (m : ℕ). (if may_go entries (place + 1) then 1 else 0) + m)
    (count_may_go-behind entries p (place + 1) n some inside (omega arith))

-- where the first of them goes
count_may_go-first : (entries : List SnapEntry) (p place n : ℕ) → may_go entries p ≡ true → 0 < p
    → p + 1 < length entries
    → place ≡ p → count_may_go (remove entries p) place n + 1 ≡ count_may_go entries place (suc n)
count_may_go-first entries p place n goes some inside here =
    let behind = count_may_go-behind entries p place n some inside (omega arith) in
    let counted : count_may_go entries place (suc n) ≡ 1 + count_may_go entries (place + 1) n =
    ap (λ (b : Bool). (if b then 1 else 0) + count_may_go entries (place + 1) n) (ap (may_go entries) here ∙ goes)
    in
    omega (arith, behind, counted)

-- where one of them goes, one fewer may go
count_may_go-removed : (entries : List SnapEntry) (p place n : ℕ) → may_go entries p ≡ true → 0 < p
    → p + 1 < length entries
    → place ≤ p → p ≤ place + n → count_may_go (remove entries p) place n + 1 ≡ count_may_go entries place (suc n)
count_may_go-removed entries p place zero goes some inside low high =
    count_may_go-first entries p place zero goes some inside (omega arith)
count_may_go-removed entries p place (suc n) goes some inside low high =
    elim (cases_eq place p) [
      | inl here ↦ count_may_go-first entries p place (suc n) goes some inside here
      | inr apart ↦
          let rest = count_may_go-removed entries p (place + 1) n goes some inside (omega arith) (omega arith) in
          let first : count_may_go (remove entries p) place (suc n)
          ≡ (if may_go entries place then 1 else 0) + count_may_go (remove entries p) (place + 1) n =
          ap (λ (b : Bool). (if b then 1 else 0) + count_may_go (remove entries p) (place + 1) n)
          (may-below entries p place inside (omega arith))
          in
          let whole : count_may_go entries place (suc (suc n))
          ≡ (if may_go entries place then 1 else 0) + count_may_go entries (place + 1) (suc n) = refl in
          omega (arith, rest, first, whole)
    ]

-- ---- which one goes

-- the last of the places is the one where its gap is below those of all others that may go
least-last : (entries : List SnapEntry) (n : ℕ) → may_go entries n ≡ true
    → ((j : ℕ) → j < n → may_go entries j ≡ true → gap_at entries n < gap_at entries j)
    → IsFirstLeast entries n (suc n)
least-last entries n goes less = record {
  goes = goes;
  below = omega arith;
  not_greater = λ j below other. elim (cases_eq j n) [
    | inl same ↦ (let e = ap (gap_at entries) same in omega arith)
    | inr early ↦ (let more = less j (omega arith) other in omega arith)
  ];
  less = less;
}

-- of the places below a number, none may go, or one is the first with the least gap
find-least : (entries : List SnapEntry) (n : ℕ)
    → ((k : ℕ) → k < n → may_go entries k ≡ false) ⊎ ((p : ℕ) × IsFirstLeast entries p n)
find-least entries zero = inl (λ k below. absurd (omega arith))
find-least entries (suc n) =
    elim (cases_Bool (may_go entries n)) [
      | inl goes ↦ elim (find-least entries n) [
        | inl none ↦
            inr (n, least-last entries n goes (λ j before other. absurd (both_ways _ (none j before) other)))
        | inr found ↦
            let least = found.1 in
            elim (cases_lt (gap_at entries n) (gap_at entries found.0)) [
              | inl less ↦ inr (
                n,
                least-last entries n goes
                    (λ j before other. (let more = least.not_greater j before other in omega arith)),
              )
              | inr most ↦ inr (
                found.0,
                record {
                  goes = least.goes;
                  below = (let below = least.below in omega arith);
                  not_greater = λ j below other. elim (cases_eq j n) [
                    | inl same ↦ (let e = ap (gap_at entries) same in omega arith)
                    | inr early ↦ least.not_greater j (omega arith) other
                  ];
                  less = least.less;
                },
              )
            ]
      ]
      | inr stays ↦ elim (find-least entries n) [
        | inl none ↦ inl (λ k below. elim (cases_eq k n) [
          | inl last ↦ ap (may_go entries) last ∙ stays
          | inr early ↦ none k (omega arith)
        ])
        | inr found ↦
            let least = found.1 in
            inr (
              found.0,
              record {
                goes = least.goes;
                below = (let below = least.below in omega arith);
                not_greater = λ j below other. elim (cases_eq j n) [
                  | inl same ↦ absurd (both_ways _ stays (ap (may_go entries) (sym same) ∙ other))
                  | inr early ↦ least.not_greater j (omega arith) other
                ];
                less = least.less;
              },
            )
      ]
    ]

-- no time falls
pub times-rise : (entries : List SnapEntry) (i j : ℕ) → AreSound entries → i ≤ j → j < length entries
    → slice_index (times entries) i ≤ slice_index (times entries) j
times-rise entries i j sound most inside =
    elim (cases_eq i j) [
      | inl same ↦ (let e = ap (slice_index (times entries)) same in omega arith)
      | inr apart ↦
          let first = time-at entries i no_entry (omega arith) in
          let second = time-at entries j no_entry inside in
          let order = sound.in_order i j no_entry (omega arith) inside in
          omega arith
    ]

-- no gap of the end is above the time that it takes
gap-within : (entries : List SnapEntry) (place k : ℕ) → AreSound entries → 0 < place → place ≤ k
    → k + 1 < length entries → gap_at entries k ≤ span entries place
unfolding gap_at
gap-within entries place k sound some low inside =
    let before = times-rise entries (place - 1) (k - 1) sound (omega arith) (omega arith) in
    let after = times-rise entries (k + 1) (length entries - 1) sound (omega arith) (omega arith) in
    omega arith

-- which entry of the end goes next
record IsNextOf (entries : List SnapEntry) (place : ℕ) : Type 0 where
  index : ℕ
  goes : removed_place entries ≡ Some index
  low : place ≤ index
  inside : index + 1 < length entries
  may : may_go entries index ≡ true

next-of :
    (entries : List SnapEntry) (place k : ℕ)
    → AreSound entries
    → 0 < place
    → ((j : ℕ) → 0 < j → j < place → span entries place < gap_to_go entries j)
    → place ≤ k
    → may_go entries k ≡ true
    → IsNextOf entries place
next-of entries place k sound some above low goes =
    let between = may_go-between entries k goes in
    elim (find-least entries (length entries - 1)) [
      | inl none ↦ absurd (both_ways _ (none k (omega arith)) goes)
      | inr found ↦
          let least = found.1 in
          let inner = may_go-between entries found.0 least.goes in
          record {
            index = found.0;
            goes = removed-is entries found.0 least;
            low = elim (cases_lt found.0 place) [
              | inl before ↦
                  let gap = goes-gap entries found.0 least.goes in
                  let wide = above found.0 inner.0 before in
                  let most = least.not_greater k (omega arith) goes in
                  let within = gap-within entries place k sound some low between.1 in
                  absurd (omega arith)
              | inr behind ↦ behind
            ];
            inside = inner.1;
            may = least.goes;
          }
    ]

-- ---- what stays so once it is gone

span-removed : (entries : List SnapEntry) (place p : ℕ) → 0 < place → place ≤ p → p + 1 < length entries
    → span (remove entries p) place ≡ span entries place
span-removed entries place p some low inside =
    ap (λ (t : ℕ). t - slice_index (times (remove entries p)) (place - 1)) (last-remove entries p inside)
    ∙ ap (λ (t : ℕ). last_time entries - t) (time-below entries p (place - 1) (omega arith) (omega arith))

span-most : (entries : List SnapEntry) (place : ℕ) → AreSound entries → 0 < length entries → span entries place ≤ 2 ^ 62
span-most entries place sound some =
    let last = time-at entries (length entries - 1) no_entry (omega arith) in
    let most = sound.times_most (length entries - 1) no_entry (omega arith) in
    omega arith

above-removed :
    (entries : List SnapEntry) (place p : ℕ)
    → AreSound entries
    → 0 < place
    → place ≤ p
    → p + 1 < length entries
    → ((j : ℕ) → 0 < j → j < place → span entries place < gap_to_go entries j)
    → (j : ℕ)
    → 0 < j
    → j < place
    → span (remove entries p) place < gap_to_go (remove entries p) j
above-removed entries place p sound some low inside above j first before =
    let same = span-removed entries place p some low inside in
    let may = may-below entries p j inside (omega arith) in
    elim (cases_Bool (may_go entries j)) [
      | inl goes ↦
          let wide = above j first before in
          let grown = gap-grows entries p j sound inside first (omega arith) in
          let gap = goes-gap entries j goes in
          let gap_after = goes-gap (remove entries p) j (may ∙ goes) in
          omega arith
      | inr stays ↦
          let gap_after = stays-gap (remove entries p) j (may ∙ stays) in
          let most = span-most entries place sound (omega arith) in
          omega arith
    ]

-- ---- the whole end

-- of so many removals to come all are of the end, and all of it goes
pub end-goes :
    {T : Type 0} (n : ℕ) (earlier : List SnapEntry) (earlier_loads : List T) (entries : List SnapEntry) (loads : List T)
    (place : ℕ)
    → AreLeft n earlier earlier_loads entries loads
    → 0 < place
    → place < length entries
    → ((j : ℕ) → 0 < j → j < place → span entries place < gap_to_go entries j)
    → count_may_go entries place (length entries - 1 - place) ≡ n
    → AreLeft 0 earlier earlier_loads (keep_from place entries (map is_peak entries))
    (keep_from place loads (map is_peak entries))
end-goes {T} zero earlier earlier_loads entries loads place left some inside above count =
    let peaks : (k : ℕ) → place ≤ k → k + 1 < length entries → is_peak_at entries k ≡ true =
    λ k low high. elim (cases_Bool (is_peak_at entries k)) [
      | inl peak ↦ peak
      | inr normal ↦ absurd
          (both_ways _ (none-goes entries place _ k count low (omega arith))
          (may_go-inside entries k (omega arith) high normal))
    ]
    in
    subst (λ (ls : List T). AreLeft 0 earlier earlier_loads (keep_from place entries (map is_peak entries)) ls)
    (sym (kept-all entries loads place peaks))
    (subst (λ (es : List SnapEntry). AreLeft 0 earlier earlier_loads es loads)
    (sym (kept-all entries entries place peaks)) left)
end-goes {T} (suc n) earlier earlier_loads entries loads place left some inside above count =
    let one = one-goes entries place (length entries - 1 - place) (omega (arith, count)) in
    let next = next-of entries place one.0 left.sound some above one.1 one.2 in
    let p = next.index in
    let low : place ≤ next.index = next.low in
    let within : next.index + 1 < length entries = next.inside in
    let shorter = length-remove entries next.index (omega arith) in
    let more : length entries - 1 - place ≡ suc (length (remove entries next.index) - 1 - place) = omega arith in
    let fewer =
    count_may_go-removed entries next.index place (length (remove entries next.index) - 1 - place) next.may
    (omega arith)
    within low (omega arith) in
    let counted = ap (count_may_go entries place) more in
    let normal = no-peak entries next.index next.may in
    let rest = end-goes n earlier earlier_loads (remove entries next.index) (remove loads next.index) place
    (left-more n earlier earlier_loads entries loads next.index next.goes within left) some (omega arith)
    (above-removed entries place next.index left.sound some low within above)
    (omega (arith, fewer, counted, count)) in
    subst (λ (ls : List T). AreLeft 0 earlier earlier_loads (keep_from place entries (map is_peak entries)) ls)
    (kept-removed entries loads place next.index low within normal)
    (subst (λ (es : List SnapEntry). AreLeft 0 earlier earlier_loads es
    (keep_from place (remove loads next.index) (map is_peak (remove entries next.index))))
    (kept-removed entries entries place next.index low within normal) rest)

-- where nothing of the end is left but peaks and the last entry, all that goes is gone
pub end-gone :
    {T : Type 0} (entries now : List SnapEntry) (loads loads_now : List T) (place : ℕ)
    → AreLeft 0 entries loads (keep_from place entries (map is_peak entries))
    (keep_from place loads (map is_peak entries))
    → keep_from place now (map is_peak now) ≡ keep_from place entries (map is_peak entries)
    → keep_from place loads_now (map is_peak now) ≡ keep_from place loads (map is_peak entries)
    → ((k : ℕ) → place ≤ k → k + 1 < length now → is_peak_at now k ≡ true)
    → AreLeft 0 entries loads now loads_now
end-gone {T} entries now loads loads_now place left same same_loads peaks =
    subst (λ (ls : List T). AreLeft 0 entries loads now ls) (sym same_loads ∙ kept-all now loads_now place peaks)
    (subst (λ (es : List SnapEntry). AreLeft 0 entries loads es (keep_from place loads (map is_peak entries)))
    (sym same ∙ kept-all now now place peaks) left)
