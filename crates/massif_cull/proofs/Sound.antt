-- The facts of a list of entries after one more entry, and after a later peak.
use Rattle.std.proofs.Common.{◌≡◌, ℕ, ◌-◌, ◌^◌, ◌<◌, ◌≤◌, Bool, true, false, ◌&&◌, List, [], ◌∷◌, ◌++◌, length, map}
use Rattle.std.proofs.Common.{get_or, inl, inr, refl, sym, ap, subst, ◌∙◌, arith}
use Rattle.std.specs.Prelude.{All, slice_index}
use Rattle.std.proofs.lemmas.Bool.{cases_lt}
use Rattle.std.proofs.lemmas.List.{get_or-map, length-map, length_push, get_or_append_left, get_or_push}
use Rattle.std.proofs.lemmas.List.Quantifiers.{all_pairs_push}
use Rattle.massif_cull.specs.declared.snapshot.Kind.{Kind}
use Rattle.massif_cull.specs.declared.snapshot.Kind.TheVariants.{Normal, Detailed, Peak}
use Rattle.massif_cull.specs.declared.snapshot.SnapEntry.{SnapEntry}
use Rattle.massif_cull.specs.ArrayState.{AreSound}
use Rattle.massif_cull.specs.Entries.{end_peak, kind_after_peak, is_peak, is_peak_kind, times, last_time}
use Rattle.massif_cull.proofs.Places.{time-at}

-- no time is above the last
pub time-last : (entries : List SnapEntry) → AreSound entries → (k : ℕ) (d : SnapEntry) → k < length entries
    → (get_or entries k d).time ≤ last_time entries
time-last entries sound k d inside =
    let last : last_time entries ≡ (get_or entries (length entries - 1) d).time =
    time-at entries (length entries - 1) d (omega arith) in
    elim (cases_lt k (length entries - 1)) [
      | inl before ↦ let order = sound.in_order k (length entries - 1) d before (omega arith) in omega arith
      | inr after ↦
          let same : k ≡ length entries - 1 = omega arith in
          let e : (get_or entries k d).time ≡ (get_or entries (length entries - 1) d).time =
          ap (λ (j : ℕ). (get_or entries j d).time) same in
          omega arith
    ]

-- what is true of each entry and of one more is true of all
pub All-push : (P : SnapEntry → Type 0) (entries : List SnapEntry) (entry : SnapEntry) → All P entries → P entry
    → All P (entries ++ entry ∷ [])
All-push P entries entry all here k d inside =
    let long = length_push entries entry in
    elim (cases_lt k (length entries)) [
      | inl before ↦ rw (get_or_append_left entries (entry ∷ []) d k before) (all k d before)
      | inr after ↦ rw (get_or_push entries entry d k (omega arith)) here
    ]

-- the last time is that of the entry that was added last
pub last_time-push : (entries : List SnapEntry) (entry : SnapEntry) → last_time (entries ++ entry ∷ []) ≡ entry.time
last_time-push entries entry =
    let long = length_push entries entry in
    time-at (entries ++ entry ∷ []) (length (entries ++ entry ∷ []) - 1) entry (omega arith)
    ∙ ap (λ (e : SnapEntry). e.time)
    (get_or_push entries entry entry (length (entries ++ entry ∷ []) - 1) (omega arith))

-- of two entries of which the second is no peak, not both are
pub not_both : (a b : Bool) → b ≡ false → (a && b) ≡ false
not_both true b off = off
not_both false b off = refl

pub not_both_first : (a b : Bool) → a ≡ false → (a && b) ≡ false
not_both_first a b off = rw off refl

-- one more entry
pub sound-push :
    (entries : List SnapEntry) (entry : SnapEntry)
    → AreSound entries
    → last_time entries ≤ entry.time
    → entry.time ≤ 2 ^ 62
    → entry.total ≤ 2 ^ 62
    → ((k : ℕ) (d : SnapEntry) → k < length entries → (is_peak (get_or entries k d) && is_peak entry) ≡ false)
    → AreSound (entries ++ entry ∷ [])
sound-push entries entry sound order time total peaks = record {
  in_order = all_pairs_push (λ (a b : SnapEntry). a.time ≤ b.time) entries entry sound.in_order
      (λ k d inside. let last = time-last entries sound k d inside in omega arith);
  one_peak = all_pairs_push (λ (a b : SnapEntry). (is_peak a && is_peak b) ≡ false) entries entry sound.one_peak peaks;
  times_most = All-push (λ (a : SnapEntry). a.time ≤ 2 ^ 62) entries entry sound.times_most time;
  totals_most = All-push (λ (a : SnapEntry). a.total ≤ 2 ^ 62) entries entry sound.totals_most total;
}

-- one more entry that is no peak
pub sound-push_normal : (entries : List SnapEntry) (entry : SnapEntry) → AreSound entries
    → last_time entries ≤ entry.time → entry.time ≤ 2 ^ 62 → entry.total ≤ 2 ^ 62 → is_peak entry ≡ false
    → AreSound (entries ++ entry ∷ [])
sound-push_normal entries entry sound order time total normal =
    sound-push entries entry sound order time total
    (λ k d inside. not_both (is_peak (get_or entries k d)) (is_peak entry) normal)

-- no entry is a peak once a later one is taken
pub end_peak-is_peak : (kind : Kind) → is_peak_kind (kind_after_peak kind) ≡ false
end_peak-is_peak Normal = refl
end_peak-is_peak Detailed = refl
end_peak-is_peak Peak = refl

-- the times stay
pub times-end_peak : (entries : List SnapEntry) → times (map end_peak entries) ≡ times entries
times-end_peak [] = refl
times-end_peak (entry ∷ entries) = ap (λ (ts : List ℕ). entry.time ∷ ts) (times-end_peak entries)

pub last_time-end_peak : (entries : List SnapEntry) → last_time (map end_peak entries) ≡ last_time entries
last_time-end_peak entries =
    ap (λ (ts : List ℕ). slice_index ts (length (map end_peak entries) - 1)) (times-end_peak entries)
    ∙ ap (λ (n : ℕ). slice_index (times entries) (n - 1)) (length-map entries end_peak)

-- an entry after a later peak
pub end_peak-at : (entries : List SnapEntry) (k : ℕ) (d : SnapEntry) → k < length (map end_peak entries)
    → get_or (map end_peak entries) k d ≡ end_peak (get_or entries k d)
end_peak-at entries k d inside =
    let long = length-map entries end_peak in get_or-map end_peak entries k d d (omega arith)

-- the facts stay
pub sound-end_peak : (entries : List SnapEntry) → AreSound entries → AreSound (map end_peak entries)
sound-end_peak entries sound =
    let long : length (map end_peak entries) ≡ length entries = length-map entries end_peak in
    record {
      in_order =
          λ i j d less inside. rw (end_peak-at entries i d (omega arith), end_peak-at entries j d inside)
          (sound.in_order i j d less (omega arith));
      one_peak = λ i j d less inside.
          rw (end_peak-at entries i d (omega arith), end_peak-at entries j d inside)
          (not_both_first _ (is_peak (end_peak (get_or entries j d))) (end_peak-is_peak (get_or entries i d).kind));
      times_most = λ k d inside. rw (end_peak-at entries k d inside) (sound.times_most k d (omega arith));
      totals_most = λ k d inside. rw (end_peak-at entries k d inside) (sound.totals_most k d (omega arith));
    }

-- a peak after the earlier entries
pub sound-push_peak :
    (entries after : List SnapEntry) (entry : SnapEntry)
    → after ≡ map end_peak entries
    → AreSound entries
    → last_time entries ≤ entry.time
    → entry.time ≤ 2 ^ 62
    → entry.total ≤ 2 ^ 62
    → AreSound (after ++ entry ∷ [])
sound-push_peak entries after entry ended sound order time total =
    let same = last_time-end_peak entries in
    subst (λ (es : List SnapEntry). AreSound (es ++ entry ∷ [])) (sym ended)
    (sound-push (map end_peak entries) entry (sound-end_peak entries sound) (omega arith) time total
    (λ k d inside. rw (end_peak-at entries k d inside)
    (not_both_first _ (is_peak entry) (end_peak-is_peak (get_or entries k d).kind))))
