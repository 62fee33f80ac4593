-- Lines of modules: both sides, and both ways.
use Rattle.std.proofs.Common.{◌≡◌, ◌≢◌, ℕ, suc, ◌+◌, ◌%◌, ◌^◌, Bool, true, false, cond, eqb, ltb, ◌&&◌, List, [], ◌∷◌}
use Rattle.std.proofs.Common.{length, map, Result, Ok, Err, MatchResult, refl, sym, ap, ◌∙◌, inl, inr, arith, ◌⊎◌}
use Rattle.std.specs.Prelude.{codes}
use Rattle.std.specs.Str.{bytes_eq}
use Rattle.std.proofs.lemmas.Bool.{ltb-true, false≢true}
use Rattle.std.proofs.lemmas.Bool.Decides.{eqb_tells}
use Rattle.std.proofs.lemmas.Slice.Eq.{bytes_eq-Decides}
use borrow.Author.Tests.{eqb-true, eq-eqb, ne_eqb, lt-ltb}
use Rattle.ht_lines.specs.declared.item.Malformed.{Malformed}
use Rattle.ht_lines.specs.declared.item.Malformed.TheVariants.{BadField, MissingField, ExtraField, NotInterpreted}
use Rattle.ht_lines.specs.declared.item.Malformed.TheVariants.{NotRaw, BadVersion}
use Rattle.ht_lines.specs.Content.{Content, clear_line, module_line}
use Rattle.ht_lines.specs.Fields.{fields, AreNumbers, all_numbers, number}
use Rattle.ht_lines.specs.Reads.{RangesFit}
use Rattle.ht_lines.specs.Reading.{named_module, ranges_from, ranges_fit}
use Rattle.hp_num.proofs.Laws.{and-true}
use Rattle.ht_lines.proofs.NumberLemmas.{AreNumbers-all, all-AreNumbers, AreNumbers-number, not_all-AreNoNumbers}
use Rattle.ht_lines.proofs.NumberLemmas.{AreNumbers-length}

abbrev Tells : ℕ → ℕ → Type 0
Tells a b = ((eqb a b ≡ true) × (a ≡ b)) ⊎ ((eqb a b ≡ false) × (a ≢ b))

-- ranges

pub ranges_fit-RangesFit : (start : ℕ) (ranges : List ℕ) → ranges_fit start ranges ≡ true → RangesFit start ranges
ranges_fit-RangesFit start [] e = tt
ranges_fit-RangesFit start (offset ∷ []) e = tt
ranges_fit-RangesFit start (offset ∷ size ∷ more) e =
    let both = and-true (ltb (start + offset + size) (2 ^ 64)) (ranges_fit start more) e in
    (ltb-true (start + offset + size) (2 ^ 64) both.0, ranges_fit-RangesFit start more both.1)

pub RangesFit-ranges_fit : (start : ℕ) (ranges : List ℕ) → RangesFit start ranges → ranges_fit start ranges ≡ true
RangesFit-ranges_fit start [] h = refl
RangesFit-ranges_fit start (offset ∷ []) h = refl
RangesFit-ranges_fit start (offset ∷ size ∷ more) h =
    rw (lt-ltb (start + offset + size) (2 ^ 64) h.0) (RangesFit-ranges_fit start more h.1)

-- what a name and a tail say

abbrev pub SaysModule : List ℕ → List (List ℕ) → Content → Type 0
SaysModule name fs said =
    ((said ≡ clear_line) × (name ≡ codes "-") × (length fs ≡ 0))
    ⊎ ((start : ℕ) × (ranges : List ℕ) × (said ≡ module_line name start ranges) × AreNumbers fs (start ∷ ranges)
    × (length ranges % 2 ≡ 0) × RangesFit start ranges)

abbrev pub RefusesNamed : List ℕ → List (List ℕ) → Malformed → Type 0
RefusesNamed name fs MissingField = (length fs % 2 ≡ 0) × ¬ ((name ≡ codes "-") × (length fs ≡ 0))
RefusesNamed name fs BadField =
    (length fs % 2 ≡ 1) × ((start : ℕ) (ranges : List ℕ) → AreNumbers fs (start ∷ ranges) → ¬ RangesFit start ranges)
RefusesNamed name fs _ = ⊥

abbrev NamedSides : List ℕ → List (List ℕ) → Result Content Malformed → Type 0
NamedSides name fs r = MatchResult r (λ said. SaysModule name fs said) (λ fault. RefusesNamed name fs fault)

abbrev named : List ℕ → List (List ℕ) → Result Content Malformed
named name fs =
    cond (eqb (length fs) 0 && bytes_eq name (codes "-")) (Ok clear_line)
    (cond (eqb (length fs % 2) 0) (Err MissingField)
    (cond (all_numbers fs) (ranges_from name (map number fs)) (Err BadField)))

odd_rest : (n : ℕ) → suc n % 2 ≢ 0 → n % 2 ≡ 0
odd_rest n h = omega (arith, h)

odd_one : (n : ℕ) → n % 2 ≢ 0 → n % 2 ≡ 1
odd_one n h = omega (arith, h)

ranges_test : (name : List ℕ) (fs : List (List ℕ)) (start : ℕ) (ranges : List ℕ) (t : Bool)
    → ranges_fit start ranges ≡ t → AreNumbers fs (start ∷ ranges) → length fs % 2 ≢ 0
    → NamedSides name fs (cond t (Ok (module_line name start ranges)) (Err BadField))
ranges_test name fs start ranges true e a odd =
    let n = AreNumbers-length fs (start ∷ ranges) a in
    inr (
      start,
      ranges,
      refl,
      a,
      odd_rest (length ranges) (λ z. odd (ap (λ k. k % 2) n ∙ z)),
      ranges_fit-RangesFit start ranges e,
    )
ranges_test name fs start ranges false e a odd = (
  odd_one (length fs) odd,
  λ s r b fit.
      let same : s ∷ r ≡ start ∷ ranges =
      sym (AreNumbers-number fs (s ∷ r) b) ∙ AreNumbers-number fs (start ∷ ranges) a in
      let first : s ≡ start = cc in
      let rest : r ≡ ranges = cc in
      false≢true (sym e ∙ (λ i. ranges_fit (sym first i) (sym rest i)) ∙ RangesFit-ranges_fit s r fit),
)

ranges_from_numbers : (name : List ℕ) (fs : List (List ℕ)) (ns : List ℕ) → AreNumbers fs ns → length fs % 2 ≢ 0
    → NamedSides name fs (ranges_from name ns)
ranges_from_numbers name fs [] a odd = absurd (odd (ap (λ k. k % 2) (AreNumbers-length fs [] a)))
ranges_from_numbers name fs (start ∷ ranges) a odd =
    ranges_test name fs start ranges (ranges_fit start ranges) refl a odd

numbers_test : (name : List ℕ) (fs : List (List ℕ)) (t : Bool) → all_numbers fs ≡ t → length fs % 2 ≢ 0
    → NamedSides name fs (cond t (ranges_from name (map number fs)) (Err BadField))
numbers_test name fs true e odd = ranges_from_numbers name fs (map number fs) (all-AreNumbers fs e) odd
numbers_test name fs false e odd = (odd_one (length fs) odd, λ s r b fit. not_all-AreNoNumbers fs e (s ∷ r) b)

count_test : (name : List ℕ) (fs : List (List ℕ)) → Tells (length fs % 2) 0 → ¬ ((name ≡ codes "-") × (length fs ≡ 0))
    → NamedSides name fs
    (cond (eqb (length fs % 2) 0) (Err MissingField)
    (cond (all_numbers fs) (ranges_from name (map number fs)) (Err BadField)))
count_test name fs (inl w) other = rw w.0 (w.1, other)
count_test name fs (inr w) other = rw w.0 (numbers_test name fs (all_numbers fs) refl w.1)

named_by : (name : List ℕ) (fs : List (List ℕ)) (t : Bool) → bytes_eq name (codes "-") ≡ t → Tells (length fs) 0
    → NamedSides name fs (named name fs)
named_by name fs t e (inr z) = rw z.0 (count_test name fs (eqb_tells (length fs % 2) 0) (λ w. z.1 w.1))
named_by name fs true e (inl z) = rw (z.0, e) (inl (refl, (bytes_eq-Decides name (codes "-")).0 e, z.1))
named_by name fs false e (inl z) =
    rw (z.0, e)
    (count_test name fs (eqb_tells (length fs % 2) 0)
    (λ w. false≢true (sym e ∙ (bytes_eq-Decides name (codes "-")).1 w.0)))

pub named-sound : (name : List ℕ) (tail : List ℕ) → NamedSides name (fields tail) (named_module name tail)
unfolding named_module
named-sound name tail =
    named_by name (fields tail) (bytes_eq name (codes "-")) refl (eqb_tells (length (fields tail)) 0)

-- the other way

pub named-clear : (name tail : List ℕ) → name ≡ codes "-" → fields tail ≡ [] → named_module name tail ≡ Ok clear_line
unfolding named_module
named-clear name tail e f =
    rw (eq-eqb (length (fields tail)) 0 (ap length f), (bytes_eq-Decides name (codes "-")).1 e) refl

some_odd : (n : ℕ) → n % 2 ≡ 0 → suc n % 2 ≢ 0
some_odd n h z = omega arith

pub named-item : (name tail : List ℕ) (start : ℕ) (ranges : List ℕ) → AreNumbers (fields tail) (start ∷ ranges)
    → length ranges % 2 ≡ 0 → RangesFit start ranges → named_module name tail ≡ Ok (module_line name start ranges)
unfolding named_module
named-item name tail start ranges a even fit =
    let n = AreNumbers-length (fields tail) (start ∷ ranges) a in
    let some : eqb (length (fields tail)) 0 ≡ false = ne_eqb (length (fields tail)) 0 (λ z. omega (arith, n)) in
    let odd : eqb (length (fields tail) % 2) 0 ≡ false =
    ne_eqb (length (fields tail) % 2) 0 (λ z. some_odd (length ranges) even (sym (ap (λ k. k % 2) n) ∙ z)) in
    rw (
      some,
      odd,
      AreNumbers-all (fields tail) (start ∷ ranges) a,
      AreNumbers-number (fields tail) (start ∷ ranges) a,
      RangesFit-ranges_fit start ranges fit,
    ) refl

not_clear : (name : List ℕ) (fs : List (List ℕ)) (X : Result Content Malformed) (s t : Bool) → eqb (length fs) 0 ≡ s
    → bytes_eq name (codes "-") ≡ t → ¬ ((name ≡ codes "-") × (length fs ≡ 0)) → cond (s && t) (Ok clear_line) X ≡ X
not_clear name fs X false t d e other = refl
not_clear name fs X true false d e other = refl
not_clear name fs X true true d e other =
    absurd (other ((bytes_eq-Decides name (codes "-")).0 e, eqb-true (length fs) 0 d))

no_ranges : (name : List ℕ) (fs : List (List ℕ)) (ns : List ℕ) → AreNumbers fs ns → length fs % 2 ≡ 1
    → ((start : ℕ) (ranges : List ℕ) → AreNumbers fs (start ∷ ranges) → ¬ RangesFit start ranges)
    → ranges_from name ns ≡ Err BadField
no_ranges name fs [] a odd late = absurd (omega (arith, ap (λ k. k % 2) (AreNumbers-length fs [] a)))
no_ranges name fs (start ∷ ranges) a odd late = by (ranges_fit start ranges) refl
  where
    by : (t : Bool) → ranges_fit start ranges ≡ t
        → cond t (Ok (module_line name start ranges)) (Err BadField) ≡ Err BadField
    by true e = absurd (late start ranges a (ranges_fit-RangesFit start ranges e))
    by false e = refl

bad_numbers : (name : List ℕ) (fs : List (List ℕ)) (t : Bool) → all_numbers fs ≡ t → length fs % 2 ≡ 1
    → ((start : ℕ) (ranges : List ℕ) → AreNumbers fs (start ∷ ranges) → ¬ RangesFit start ranges)
    → cond t (ranges_from name (map number fs)) (Err BadField) ≡ Err BadField
bad_numbers name fs true e odd late = no_ranges name fs (map number fs) (all-AreNumbers fs e) odd late
bad_numbers name fs false e odd late = refl

pub named-fault : (name tail : List ℕ) (fault : Malformed) → RefusesNamed name (fields tail) fault
    → named_module name tail ≡ Err fault
unfolding named_module
named-fault name tail MissingField r =
    not_clear name (fields tail) _ (eqb (length (fields tail)) 0) (bytes_eq name (codes "-")) refl refl r.1
    ∙ rw (eq-eqb (length (fields tail) % 2) 0 r.0) refl
named-fault name tail BadField r =
    let odd : eqb (length (fields tail) % 2) 0 ≡ false =
    ne_eqb (length (fields tail) % 2) 0 (λ z. omega (arith, r.0)) in
    let some : eqb (length (fields tail)) 0 ≡ false =
    ne_eqb (length (fields tail)) 0 (λ z. omega (arith, r.0, ap (λ k. k % 2) z)) in
    rw (some, odd) (bad_numbers name (fields tail) (all_numbers (fields tail)) refl r.0 r.1)
named-fault name tail ExtraField r = absurd r
named-fault name tail NotInterpreted r = absurd r
named-fault name tail NotRaw r = absurd r
named-fault name tail BadVersion r = absurd r
