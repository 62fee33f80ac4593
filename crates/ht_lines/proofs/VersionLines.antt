-- Lines of versions, of the clock and of instructions: both sides, and both ways.
use Rattle.std.proofs.Common.{◌≡◌, ℕ, ◌^◌, ◌<◌, ◌≤◌, Bool, true, false, cond, leb, ◌&&◌, List, [], ◌∷◌, Option, Some}
use Rattle.std.proofs.Common.{None, Result, Ok, Err, MatchResult, refl, sym, ap, ◌∙◌, inl, inr, arith, ◌⊎◌}
use Rattle.std.proofs.lemmas.Bool.{le-leb}
use Rattle.std.proofs.lemmas.Bool.Decides.{leb_tells}
use Rattle.hp_num.specs.ParsedHex.{parsed_hex}
use Rattle.ht_lines.specs.declared.item.Malformed.{Malformed}
use Rattle.ht_lines.specs.declared.item.Malformed.TheVariants.{BadField, MissingField, ExtraField, NotInterpreted}
use Rattle.ht_lines.specs.declared.item.Malformed.TheVariants.{NotRaw, BadVersion}
use Rattle.ht_lines.specs.Content.{Content, version_line, clock_line}
use Rattle.ht_lines.specs.Fields.{AreNumbers}
use Rattle.ht_lines.specs.Refuses.{AreNoNumbers, RefusesNumbers, RefusesVersion, RefusesClock}
use Rattle.ht_lines.specs.Reading.{with_number, one_number, version_of, clock_from}
use Rattle.ht_lines.proofs.NumberLemmas.{not_all-AreNoNumbers, AreNumbers-length, AreNumbers-unique}
use Rattle.ht_lines.proofs.CountedLines.{one_number-sound, one_number-item}

-- versions

-- the fields are those of a line of these versions
abbrev pub AreVersions : List (List ℕ) → ℕ → ℕ → Type 0
AreVersions fs heaptrack file =
    (AreNumbers fs (heaptrack ∷ []) × (file ≡ 1)) ⊎ (AreNumbers fs (heaptrack ∷ file ∷ []) × (1 ≤ file) × (file ≤ 3))

abbrev pub SaysVersions : List (List ℕ) → Content → Type 0
SaysVersions fs said = (heaptrack file : ℕ) × (said ≡ version_line heaptrack file) × AreVersions fs heaptrack file

abbrev VersionSides : List (List ℕ) → Result Content Malformed → Type 0
VersionSides fs r = MatchResult r (λ said. SaysVersions fs said) (λ fault. RefusesVersion fs fault)

version_one : (a : List ℕ) (o : Option ℕ) → parsed_hex a ≡ o
    → VersionSides (a ∷ []) (with_number o (λ heaptrack. Ok (version_line heaptrack 1)))
version_one a None e = (omega arith, omega arith, not_all-AreNoNumbers (a ∷ []) (rw e refl))
version_one a (Some n) e = (n, 1, refl, inl (ap (λ o. o ∷ []) e, refl))

file_test : (fs : List (List ℕ)) (m n : ℕ) → AreNumbers fs (m ∷ n ∷ [])
    → ((leb 1 n ≡ true) × (1 ≤ n)) ⊎ ((leb 1 n ≡ false) × (n < 1))
    → ((leb n 3 ≡ true) × (n ≤ 3)) ⊎ ((leb n 3 ≡ false) × (3 < n))
    → VersionSides fs (cond (leb 1 n && leb n 3) (Ok (version_line m n)) (Err BadVersion))
file_test fs m n a (inl l) (inl h) = rw (l.0, h.0) (m, n, refl, inr (a, l.1, h.1))
file_test fs m n a (inl l) (inr h) = rw (l.0, h.0) (m, n, a, inr h.1)
file_test fs m n a (inr l) h = rw l.0 (m, n, a, inl (omega (arith, l.1)))

version_two : (a b : List ℕ) (o p : Option ℕ) → parsed_hex a ≡ o → parsed_hex b ≡ p
    → VersionSides (a ∷ b ∷ [])
    (with_number o
    (λ heaptrack. with_number p
    (λ file. cond (leb 1 file && leb file 3) (Ok (version_line heaptrack file)) (Err BadVersion))))
version_two a b None p d e = (omega arith, omega arith, not_all-AreNoNumbers (a ∷ b ∷ []) (rw d refl))
version_two a b (Some m) None d e = (omega arith, omega arith, not_all-AreNoNumbers (a ∷ b ∷ []) (rw (d, e) refl))
version_two a b (Some m) (Some n) d e = file_test (a ∷ b ∷ []) m n (λ i. d i ∷ e i ∷ []) (leb_tells 1 n) (leb_tells n 3)

pub version-sound : (fs : List (List ℕ)) → VersionSides fs (version_of fs)
version-sound [] = refl
version-sound (a ∷ []) = version_one a (parsed_hex a) refl
version-sound (a ∷ b ∷ []) = version_two a b (parsed_hex a) (parsed_hex b) refl refl
version-sound (a ∷ b ∷ c ∷ more) = omega arith

version_item_one : (fs : List (List ℕ)) (heaptrack : ℕ) → AreNumbers fs (heaptrack ∷ [])
    → version_of fs ≡ Ok (version_line heaptrack 1)
version_item_one [] h a = absurd (cc)
version_item_one (x ∷ []) h a = let is : parsed_hex x ≡ Some h = cc in rw is refl
version_item_one (x ∷ y ∷ more) h a = absurd (cc)

version_item_two : (fs : List (List ℕ)) (heaptrack file : ℕ) → AreNumbers fs (heaptrack ∷ file ∷ []) → 1 ≤ file
    → file ≤ 3 → version_of fs ≡ Ok (version_line heaptrack file)
version_item_two [] h f a low high = absurd (cc)
version_item_two (x ∷ []) h f a low high = absurd (cc)
version_item_two (x ∷ y ∷ []) h f a low high =
    let first : parsed_hex x ≡ Some h = cc in
    let second : parsed_hex y ≡ Some f = cc in
    rw (first, second, le-leb 1 f low, le-leb f 3 high) refl
version_item_two (x ∷ y ∷ z ∷ more) h f a low high = absurd (cc)

pub version-item : (fs : List (List ℕ)) (heaptrack file : ℕ) → AreVersions fs heaptrack file
    → version_of fs ≡ Ok (version_line heaptrack file)
version-item fs h f (inl v) = version_item_one fs h v.0 ∙ ap (λ k. Ok (version_line h k)) (sym v.1)
version-item fs h f (inr v) = version_item_two fs h f v.0 v.1 v.2

one_version_fault : (a : List ℕ) (o : Option ℕ) → parsed_hex a ≡ o → AreNoNumbers (a ∷ [])
    → with_number {X = Content} o (λ heaptrack. Ok (version_line heaptrack 1)) ≡ Err BadField
one_version_fault a None e never = refl
one_version_fault a (Some n) e never = absurd (never (n ∷ []) (ap (λ o. o ∷ []) e))

two_versions_fault : (a b : List ℕ) (o p : Option ℕ) → parsed_hex a ≡ o → parsed_hex b ≡ p → AreNoNumbers (a ∷ b ∷ [])
    → with_number {X = Content} o
    (λ heaptrack. with_number p
    (λ file. cond (leb 1 file && leb file 3) (Ok (version_line heaptrack file)) (Err BadVersion)))
    ≡ Err BadField
two_versions_fault a b None p d e never = refl
two_versions_fault a b (Some m) None d e never = refl
two_versions_fault a b (Some m) (Some n) d e never = absurd (never (m ∷ n ∷ []) (λ i. d i ∷ e i ∷ []))

wrong_file : (m n : ℕ) → (n ≡ 0) ⊎ (3 < n)
    → cond (leb 1 n && leb n 3) (Ok (version_line m n)) (Err BadVersion) ≡ Err BadVersion
wrong_file m n (inl z) = rw z refl
wrong_file m n (inr h) = either (leb 1 n) (leb_tells n 3)
  where
    either : (t : Bool) → ((leb n 3 ≡ true) × (n ≤ 3)) ⊎ ((leb n 3 ≡ false) × (3 < n))
        → cond (t && leb n 3) (Ok (version_line m n)) (Err BadVersion) ≡ Err BadVersion
    either false w = refl
    either true (inl w) = absurd (omega (arith, w.1))
    either true (inr w) = rw w.0 refl

bad_version : (fs : List (List ℕ)) (m n : ℕ) → AreNumbers fs (m ∷ n ∷ []) → (n ≡ 0) ⊎ (3 < n)
    → version_of fs ≡ Err BadVersion
bad_version [] m n a w = absurd (cc)
bad_version (x ∷ []) m n a w = absurd (cc)
bad_version (x ∷ y ∷ []) m n a w =
    let first : parsed_hex x ≡ Some m = cc in
    let second : parsed_hex y ≡ Some n = cc in
    rw (first, second) (wrong_file m n w)
bad_version (x ∷ y ∷ z ∷ more) m n a w = absurd (cc)

pub version-fault : (fs : List (List ℕ)) (fault : Malformed) → RefusesVersion fs fault → version_of fs ≡ Err fault
version-fault [] MissingField r = refl
version-fault [] ExtraField r = absurd (omega arith)
version-fault [] BadField r = absurd (omega (arith, r.0))
version-fault (a ∷ []) MissingField r = absurd (omega arith)
version-fault (a ∷ []) ExtraField r = absurd (omega arith)
version-fault (a ∷ []) BadField r = one_version_fault a (parsed_hex a) refl r.2
version-fault (a ∷ b ∷ []) MissingField r = absurd (omega arith)
version-fault (a ∷ b ∷ []) ExtraField r = absurd (omega arith)
version-fault (a ∷ b ∷ []) BadField r = two_versions_fault a b (parsed_hex a) (parsed_hex b) refl refl r.2
version-fault (a ∷ b ∷ c ∷ more) MissingField r = absurd (omega arith)
version-fault (a ∷ b ∷ c ∷ more) ExtraField r = refl
version-fault (a ∷ b ∷ c ∷ more) BadField r = absurd (omega (arith, r.1))
version-fault fs BadVersion r = bad_version fs r.0 r.1 r.2 r.3
version-fault fs NotInterpreted r = absurd r
version-fault fs NotRaw r = absurd r

-- the clock

abbrev pub SaysClock : List (List ℕ) → Content → Type 0
SaysClock fs said = (ms : ℕ) × (said ≡ clock_line ms) × AreNumbers fs (ms ∷ []) × (ms ≤ 2 ^ 62)

abbrev ClockSides : List (List ℕ) → Result Content Malformed → Type 0
ClockSides fs r = MatchResult r (λ said. SaysClock fs said) (λ fault. RefusesClock fs fault)

clock_test : (fs : List (List ℕ)) (ms : ℕ) → AreNumbers fs (ms ∷ [])
    → ((leb ms (2 ^ 62) ≡ true) × (ms ≤ 2 ^ 62)) ⊎ ((leb ms (2 ^ 62) ≡ false) × (2 ^ 62 < ms))
    → ClockSides fs (clock_from (Ok ms))
clock_test fs ms a (inl w) = rw w.0 (ms, refl, a, w.1)
clock_test fs ms a (inr w) =
    rw w.0 (
      AreNumbers-length fs (ms ∷ []) a,
      λ n b. let same : n ≡ ms = (let l = AreNumbers-unique fs (n ∷ []) (ms ∷ []) b a in cc) in omega (arith, w.1),
    )

clock_fault_of : (fs : List (List ℕ)) (fault : Malformed) → RefusesNumbers 1 fs fault → RefusesClock fs fault
clock_fault_of fs MissingField r = omega arith
clock_fault_of fs ExtraField r = r
clock_fault_of fs BadField r = (r.0, λ ms a. absurd (r.1 (ms ∷ []) a))
clock_fault_of fs NotInterpreted r = absurd r
clock_fault_of fs NotRaw r = absurd r
clock_fault_of fs BadVersion r = absurd r

clock_by : (fs : List (List ℕ)) (r : Result ℕ Malformed)
    → MatchResult r (λ n. AreNumbers fs (n ∷ [])) (λ fault. RefusesNumbers 1 fs fault) → ClockSides fs (clock_from r)
clock_by fs (Ok ms) a = clock_test fs ms a (leb_tells ms (2 ^ 62))
clock_by fs (Err fault) r = clock_fault_of fs fault r

pub clock-sound : (fs : List (List ℕ)) → ClockSides fs (clock_from (one_number fs))
clock-sound fs = clock_by fs (one_number fs) (one_number-sound fs)

pub clock-item : (fs : List (List ℕ)) (ms : ℕ) → AreNumbers fs (ms ∷ []) → ms ≤ 2 ^ 62
    → clock_from (one_number fs) ≡ Ok (clock_line ms)
clock-item fs ms a h = ap clock_from (one_number-item fs ms a) ∙ rw (le-leb ms (2 ^ 62) h) refl

clock_bad : (a : List ℕ) (o : Option ℕ) → parsed_hex a ≡ o → ((ms : ℕ) → AreNumbers (a ∷ []) (ms ∷ []) → 2 ^ 62 < ms)
    → clock_from (with_number o Ok) ≡ Err BadField
clock_bad a None e late = refl
clock_bad a (Some n) e late = by (leb_tells n (2 ^ 62))
  where
    by : ((leb n (2 ^ 62) ≡ true) × (n ≤ 2 ^ 62)) ⊎ ((leb n (2 ^ 62) ≡ false) × (2 ^ 62 < n))
        → clock_from (Ok n) ≡ Err BadField
    by (inl w) = absurd (omega (arith, w.1, late n (ap (λ o. o ∷ []) e)))
    by (inr w) = rw w.0 refl

pub clock-fault : (fs : List (List ℕ)) (fault : Malformed) → RefusesClock fs fault
    → clock_from (one_number fs) ≡ Err fault
clock-fault [] MissingField r = refl
clock-fault [] ExtraField r = absurd (omega arith)
clock-fault [] BadField r = absurd (omega (arith, r.0))
clock-fault (a ∷ []) MissingField r = absurd (omega arith)
clock-fault (a ∷ []) ExtraField r = absurd (omega arith)
clock-fault (a ∷ []) BadField r = clock_bad a (parsed_hex a) refl r.1
clock-fault (a ∷ b ∷ more) MissingField r = absurd (omega arith)
clock-fault (a ∷ b ∷ more) ExtraField r = refl
clock-fault (a ∷ b ∷ more) BadField r = absurd (omega (arith, r.0))
clock-fault fs NotInterpreted r = absurd r
clock-fault fs NotRaw r = absurd r
clock-fault fs BadVersion r = absurd r
