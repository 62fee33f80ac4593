-- The lines of numbers: what is read is read so and what is refused is refused so, and the other way round.
use Rattle.std.proofs.Common.{◌≡◌, ℕ, List, [], ◌∷◌, Option, Some, None, Result, Ok, Err, MatchResult, refl, ap, arith}
use Rattle.hp_num.specs.ParsedHex.{parsed_hex}
use Rattle.ht_lines.specs.declared.item.Malformed.{Malformed}
use Rattle.ht_lines.specs.declared.item.Malformed.TheVariants.{BadField, MissingField, ExtraField, NotInterpreted}
use Rattle.ht_lines.specs.declared.item.Malformed.TheVariants.{NotRaw, BadVersion}
use Rattle.ht_lines.specs.declared.item.Form.TheVariants.{Raw, Interpreted}
use Rattle.ht_lines.specs.Fields.{AreNumbers}
use Rattle.ht_lines.specs.Refuses.{AreNoNumbers, RefusesNumbers, RefusesAllocation}
use Rattle.ht_lines.specs.Reading.{with_number, one_number, two_numbers, info_number, three_numbers}
use Rattle.ht_lines.proofs.NumberLemmas.{not_all-AreNoNumbers}

-- one number

one_field : (f : List ℕ) (o : Option ℕ) → parsed_hex f ≡ o
    → MatchResult (with_number {X = ℕ} o Ok) (λ n. AreNumbers (f ∷ []) (n ∷ []))
    (λ fault. RefusesNumbers 1 (f ∷ []) fault)
one_field f None e = (refl, not_all-AreNoNumbers (f ∷ []) (rw e refl))
one_field f (Some n) e = ap (λ o. o ∷ []) e

pub one_number-sound : (fs : List (List ℕ))
    → MatchResult (one_number fs) (λ n. AreNumbers fs (n ∷ [])) (λ fault. RefusesNumbers 1 fs fault)
one_number-sound [] = omega arith
one_number-sound (a ∷ []) = one_field a (parsed_hex a) refl
one_number-sound (a ∷ b ∷ more) = omega arith

pub one_number-item : (fs : List (List ℕ)) (n : ℕ) → AreNumbers fs (n ∷ []) → one_number fs ≡ Ok n
one_number-item [] n e = absurd (cc)
one_number-item (a ∷ []) n e = let is : parsed_hex a ≡ Some n = cc in rw is refl
one_number-item (a ∷ b ∷ more) n e = absurd (cc)

pub one_number-fault : (fs : List (List ℕ)) (fault : Malformed) → RefusesNumbers 1 fs fault → one_number fs ≡ Err fault
one_number-fault [] MissingField r = refl
one_number-fault [] ExtraField r = absurd (omega arith)
one_number-fault [] BadField r = absurd (omega (arith, r.0))
one_number-fault (a ∷ []) MissingField r = absurd (omega arith)
one_number-fault (a ∷ []) ExtraField r = absurd (omega arith)
one_number-fault (a ∷ []) BadField r = either (parsed_hex a) refl
  where
    either : (o : Option ℕ) → parsed_hex a ≡ o → with_number {X = ℕ} o Ok ≡ Err BadField
    either None e = refl
    either (Some n) e = absurd (r.1 (n ∷ []) (ap (λ o. o ∷ []) e))
one_number-fault (a ∷ b ∷ more) MissingField r = absurd (omega arith)
one_number-fault (a ∷ b ∷ more) ExtraField r = refl
one_number-fault (a ∷ b ∷ more) BadField r = absurd (omega (arith, r.0))
one_number-fault fs NotInterpreted r = absurd r
one_number-fault fs NotRaw r = absurd r
one_number-fault fs BadVersion r = absurd r

-- two numbers

two_fields : (f g : List ℕ) (o p : Option ℕ) → parsed_hex f ≡ o → parsed_hex g ≡ p
    → MatchResult (with_number {X = ℕ × ℕ} o (λ m. with_number p (λ n. Ok (m, n))))
    (λ x. AreNumbers (f ∷ g ∷ []) (x.0 ∷ x.1 ∷ [])) (λ fault. RefusesNumbers 2 (f ∷ g ∷ []) fault)
two_fields f g None p d e = (refl, not_all-AreNoNumbers (f ∷ g ∷ []) (rw d refl))
two_fields f g (Some m) None d e = (refl, not_all-AreNoNumbers (f ∷ g ∷ []) (rw (d, e) refl))
two_fields f g (Some m) (Some n) d e = λ i. d i ∷ e i ∷ []

pub two_numbers-sound : (fs : List (List ℕ))
    → MatchResult (two_numbers fs) (λ x. AreNumbers fs (x.0 ∷ x.1 ∷ [])) (λ fault. RefusesNumbers 2 fs fault)
two_numbers-sound [] = omega arith
two_numbers-sound (a ∷ []) = omega arith
two_numbers-sound (a ∷ b ∷ []) = two_fields a b (parsed_hex a) (parsed_hex b) refl refl
two_numbers-sound (a ∷ b ∷ c ∷ more) = omega arith

pub two_numbers-item : (fs : List (List ℕ)) (m n : ℕ) → AreNumbers fs (m ∷ n ∷ []) → two_numbers fs ≡ Ok (m, n)
two_numbers-item [] m n e = absurd (cc)
two_numbers-item (a ∷ []) m n e = absurd (cc)
two_numbers-item (a ∷ b ∷ []) m n e =
    let first : parsed_hex a ≡ Some m = cc in
    let second : parsed_hex b ≡ Some n = cc in
    rw (first, second) refl
two_numbers-item (a ∷ b ∷ c ∷ more) m n e = absurd (cc)

two_fault : (f g : List ℕ) (o p : Option ℕ) → parsed_hex f ≡ o → parsed_hex g ≡ p → AreNoNumbers (f ∷ g ∷ [])
    → with_number {X = ℕ × ℕ} o (λ m. with_number p (λ n. Ok (m, n))) ≡ Err BadField
two_fault f g None p d e never = refl
two_fault f g (Some m) None d e never = refl
two_fault f g (Some m) (Some n) d e never = absurd (never (m ∷ n ∷ []) (λ i. d i ∷ e i ∷ []))

pub two_numbers-fault : (fs : List (List ℕ)) (fault : Malformed) → RefusesNumbers 2 fs fault
    → two_numbers fs ≡ Err fault
two_numbers-fault [] MissingField r = refl
two_numbers-fault [] ExtraField r = absurd (omega arith)
two_numbers-fault [] BadField r = absurd (omega (arith, r.0))
two_numbers-fault (a ∷ []) MissingField r = refl
two_numbers-fault (a ∷ []) ExtraField r = absurd (omega arith)
two_numbers-fault (a ∷ []) BadField r = absurd (omega (arith, r.0))
two_numbers-fault (a ∷ b ∷ []) MissingField r = absurd (omega arith)
two_numbers-fault (a ∷ b ∷ []) ExtraField r = absurd (omega arith)
two_numbers-fault (a ∷ b ∷ []) BadField r = two_fault a b (parsed_hex a) (parsed_hex b) refl refl r.1
two_numbers-fault (a ∷ b ∷ c ∷ more) MissingField r = absurd (omega arith)
two_numbers-fault (a ∷ b ∷ c ∷ more) ExtraField r = refl
two_numbers-fault (a ∷ b ∷ c ∷ more) BadField r = absurd (omega (arith, r.0))
two_numbers-fault fs NotInterpreted r = absurd r
two_numbers-fault fs NotRaw r = absurd r
two_numbers-fault fs BadVersion r = absurd r

-- one number, and three fields are those of a raw trace

info_field : (f : List ℕ) (o : Option ℕ) → parsed_hex f ≡ o
    → MatchResult (with_number {X = ℕ} o Ok) (λ n. AreNumbers (f ∷ []) (n ∷ []))
    (λ fault. RefusesAllocation Interpreted (f ∷ []) fault)
info_field f None e = (refl, not_all-AreNoNumbers (f ∷ []) (rw e refl))
info_field f (Some n) e = ap (λ o. o ∷ []) e

pub info_number-sound : (fs : List (List ℕ))
    → MatchResult (info_number fs) (λ n. AreNumbers fs (n ∷ [])) (λ fault. RefusesAllocation Interpreted fs fault)
info_number-sound [] = refl
info_number-sound (a ∷ []) = info_field a (parsed_hex a) refl
info_number-sound (a ∷ b ∷ []) = (omega arith, λ e. omega arith)
info_number-sound (a ∷ b ∷ c ∷ []) = refl
info_number-sound (a ∷ b ∷ c ∷ d ∷ more) = (omega arith, λ e. omega arith)

pub info_number-item : (fs : List (List ℕ)) (n : ℕ) → AreNumbers fs (n ∷ []) → info_number fs ≡ Ok n
info_number-item [] n e = absurd (cc)
info_number-item (a ∷ []) n e = let is : parsed_hex a ≡ Some n = cc in rw is refl
info_number-item (a ∷ b ∷ more) n e = absurd (cc)

info_fault : (f : List ℕ) (o : Option ℕ) → parsed_hex f ≡ o → AreNoNumbers (f ∷ [])
    → with_number {X = ℕ} o Ok ≡ Err BadField
info_fault f None e never = refl
info_fault f (Some n) e never = absurd (never (n ∷ []) (ap (λ o. o ∷ []) e))

pub info_number-fault : (fs : List (List ℕ)) (fault : Malformed) → RefusesAllocation Interpreted fs fault
    → info_number fs ≡ Err fault
info_number-fault [] MissingField r = refl
info_number-fault [] ExtraField r = absurd (omega (arith, r.0))
info_number-fault [] BadField r = absurd (omega (arith, r.0))
info_number-fault [] NotInterpreted r = absurd (omega arith)
info_number-fault (a ∷ []) MissingField r = absurd (omega arith)
info_number-fault (a ∷ []) ExtraField r = absurd (omega (arith, r.0))
info_number-fault (a ∷ []) BadField r = info_fault a (parsed_hex a) refl r.1
info_number-fault (a ∷ []) NotInterpreted r = absurd (omega arith)
info_number-fault (a ∷ b ∷ []) MissingField r = absurd (omega arith)
info_number-fault (a ∷ b ∷ []) ExtraField r = refl
info_number-fault (a ∷ b ∷ []) BadField r = absurd (omega (arith, r.0))
info_number-fault (a ∷ b ∷ []) NotInterpreted r = absurd (omega arith)
info_number-fault (a ∷ b ∷ c ∷ []) MissingField r = absurd (omega arith)
info_number-fault (a ∷ b ∷ c ∷ []) ExtraField r = absurd (r.1 refl)
info_number-fault (a ∷ b ∷ c ∷ []) BadField r = absurd (omega (arith, r.0))
info_number-fault (a ∷ b ∷ c ∷ []) NotInterpreted r = refl
info_number-fault (a ∷ b ∷ c ∷ d ∷ more) MissingField r = absurd (omega arith)
info_number-fault (a ∷ b ∷ c ∷ d ∷ more) ExtraField r = refl
info_number-fault (a ∷ b ∷ c ∷ d ∷ more) BadField r = absurd (omega (arith, r.0))
info_number-fault (a ∷ b ∷ c ∷ d ∷ more) NotInterpreted r = absurd (omega arith)
info_number-fault fs NotRaw r = absurd r
info_number-fault fs BadVersion r = absurd r

-- three numbers, and one field is that of an interpreted trace

abbrev three_of : Option ℕ → Option ℕ → Option ℕ → Result (ℕ × ℕ × ℕ) Malformed
three_of o p q = with_number o (λ l. with_number p (λ m. with_number q (λ n. Ok (l, m, n))))

three_fields : (f g h : List ℕ) (o p q : Option ℕ) → parsed_hex f ≡ o → parsed_hex g ≡ p → parsed_hex h ≡ q
    → MatchResult (three_of o p q) (λ x. AreNumbers (f ∷ g ∷ h ∷ []) (x.0 ∷ x.1 ∷ x.2 ∷ []))
    (λ fault. RefusesAllocation Raw (f ∷ g ∷ h ∷ []) fault)
three_fields f g h None p q d e i = (refl, not_all-AreNoNumbers (f ∷ g ∷ h ∷ []) (rw d refl))
three_fields f g h (Some l) None q d e i = (refl, not_all-AreNoNumbers (f ∷ g ∷ h ∷ []) (rw (d, e) refl))
three_fields f g h (Some l) (Some m) None d e i = (refl, not_all-AreNoNumbers (f ∷ g ∷ h ∷ []) (rw (d, e, i) refl))
three_fields f g h (Some l) (Some m) (Some n) d e i = λ k. d k ∷ e k ∷ i k ∷ []

pub three_numbers-sound : (fs : List (List ℕ))
    → MatchResult (three_numbers fs) (λ x. AreNumbers fs (x.0 ∷ x.1 ∷ x.2 ∷ []))
    (λ fault. RefusesAllocation Raw fs fault)
three_numbers-sound [] = (omega arith, λ e. omega arith)
three_numbers-sound (a ∷ []) = refl
three_numbers-sound (a ∷ b ∷ []) = (omega arith, λ e. omega arith)
three_numbers-sound (a ∷ b ∷ c ∷ []) = three_fields a b c (parsed_hex a) (parsed_hex b) (parsed_hex c) refl refl refl
three_numbers-sound (a ∷ b ∷ c ∷ d ∷ more) = omega arith

pub three_numbers-item : (fs : List (List ℕ)) (l m n : ℕ) → AreNumbers fs (l ∷ m ∷ n ∷ [])
    → three_numbers fs ≡ Ok (l, m, n)
three_numbers-item [] l m n e = absurd (cc)
three_numbers-item (a ∷ []) l m n e = absurd (cc)
three_numbers-item (a ∷ b ∷ []) l m n e = absurd (cc)
three_numbers-item (a ∷ b ∷ c ∷ []) l m n e =
    let first : parsed_hex a ≡ Some l = cc in
    let second : parsed_hex b ≡ Some m = cc in
    let third : parsed_hex c ≡ Some n = cc in
    rw (first, second, third) refl
three_numbers-item (a ∷ b ∷ c ∷ d ∷ more) l m n e = absurd (cc)

three_fault : (f g h : List ℕ) (o p q : Option ℕ) → parsed_hex f ≡ o → parsed_hex g ≡ p → parsed_hex h ≡ q
    → AreNoNumbers (f ∷ g ∷ h ∷ []) → three_of o p q ≡ Err BadField
three_fault f g h None p q d e i never = refl
three_fault f g h (Some l) None q d e i never = refl
three_fault f g h (Some l) (Some m) None d e i never = refl
three_fault f g h (Some l) (Some m) (Some n) d e i never = absurd (never (l ∷ m ∷ n ∷ []) (λ k. d k ∷ e k ∷ i k ∷ []))

pub three_numbers-fault : (fs : List (List ℕ)) (fault : Malformed) → RefusesAllocation Raw fs fault
    → three_numbers fs ≡ Err fault
three_numbers-fault [] MissingField r = refl
three_numbers-fault [] ExtraField r = absurd (omega arith)
three_numbers-fault [] BadField r = absurd (omega (arith, r.0))
three_numbers-fault [] NotRaw r = absurd (omega arith)
three_numbers-fault (a ∷ []) MissingField r = absurd (r.1 refl)
three_numbers-fault (a ∷ []) ExtraField r = absurd (omega arith)
three_numbers-fault (a ∷ []) BadField r = absurd (omega (arith, r.0))
three_numbers-fault (a ∷ []) NotRaw r = refl
three_numbers-fault (a ∷ b ∷ []) MissingField r = refl
three_numbers-fault (a ∷ b ∷ []) ExtraField r = absurd (omega arith)
three_numbers-fault (a ∷ b ∷ []) BadField r = absurd (omega (arith, r.0))
three_numbers-fault (a ∷ b ∷ []) NotRaw r = absurd (omega arith)
three_numbers-fault (a ∷ b ∷ c ∷ []) MissingField r = absurd (omega (arith, r.0))
three_numbers-fault (a ∷ b ∷ c ∷ []) ExtraField r = absurd (omega arith)
three_numbers-fault (a ∷ b ∷ c ∷ []) BadField r =
    three_fault a b c (parsed_hex a) (parsed_hex b) (parsed_hex c) refl refl refl r.1
three_numbers-fault (a ∷ b ∷ c ∷ []) NotRaw r = absurd (omega arith)
three_numbers-fault (a ∷ b ∷ c ∷ d ∷ more) MissingField r = absurd (omega (arith, r.0))
three_numbers-fault (a ∷ b ∷ c ∷ d ∷ more) ExtraField r = refl
three_numbers-fault (a ∷ b ∷ c ∷ d ∷ more) BadField r = absurd (omega (arith, r.0))
three_numbers-fault (a ∷ b ∷ c ∷ d ∷ more) NotRaw r = absurd (omega arith)
three_numbers-fault fs NotInterpreted r = absurd r
three_numbers-fault fs BadVersion r = absurd r
