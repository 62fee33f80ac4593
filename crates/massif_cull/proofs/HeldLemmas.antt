-- What stands at places, before and after a snapshot comes or goes.
use Rattle.std.proofs.Common.{◌≡◌, ◌≢◌, ℕ, ◌<◌, ◌≤◌, zero, suc, List, [], ◌∷◌, ◌++◌, length, map, take, drop, set}
use Rattle.std.proofs.Common.{Option, refl, sym, ap, subst, ◌∙◌, arith}
use Rattle.std.specs.Prelude.{slice_get, remove, Some, None, IsSome}
use Rattle.std.specs.List.{cons_option}
use Rattle.std.specs.Option.{option_map}
use Rattle.std.proofs.lemmas.List.{get_or-set_same, get_or-set_other}
use Rattle.std.proofs.lemmas.List.Elements.{filter_map-append}
use Rattle.std.proofs.lemmas.Option.{same_Some}
use Rattle.std.proofs.lemmas.Grind.{common_steps}
use Rattle.massif_cull.specs.declared.linked.Held.{Held}
use Rattle.massif_cull.specs.Linked.{EachOf, IsOutside, AreDifferent}
use Rattle.massif_cull.specs.Held.{held_at, held_in, ended}
use Rattle.massif_cull.proofs.Linking.{each-at}

-- a value that is there
pub some-of : {X : Type 0} (o : Option X) → IsSome o → (x : X) × (o ≡ Some x)
some-of None is = absurd cc
some-of (Some x) is = (x, refl)

-- each element is written
pub written-all : {X : Type 0} (f : X → X) (xs ys : List X) (i : ℕ) → length xs ≤ i
    → ys ≡ map f (take i xs) ++ drop i xs → ys ≡ map f xs
written-all f xs ys i end e = e ∙ grind (arith, common_steps)

-- something stands at each of the places
abbrev pub AreTaken : {T : Type 0} → List (Option (Held T)) → List ℕ → Type 0
AreTaken slots places = EachOf (λ place. IsSome (held_at slots place)) places

-- one more at the front
held-cons : {T : Type 0} (slots : List (Option (Held T))) (p : ℕ) (ps : List ℕ) (held : Held T)
    → held_at slots p ≡ Some held → held_in slots (p ∷ ps) ≡ held ∷ held_in slots ps
held-cons {T} slots p ps held is = ap (λ (o : Option (Held T)). cons_option o (held_in slots ps)) is

-- as many stand there as there are places
pub length-held : {T : Type 0} (slots : List (Option (Held T))) (places : List ℕ) → AreTaken slots places
    → length (held_in slots places) ≡ length places
length-held slots [] taken = refl
length-held slots (p ∷ ps) taken =
    let first = some-of (held_at slots p) taken.0 in
    ap length (held-cons slots p ps first.0 first.1) ∙ ap suc (length-held slots ps taken.1)

-- what stands at one of the places
pub held-at : {T : Type 0} (slots : List (Option (Held T))) (places : List ℕ) (k p : ℕ) → AreTaken slots places
    → slice_get places k ≡ Some p → slice_get (held_in slots places) k ≡ held_at slots p
held-at slots [] k p taken e = absurd cc
held-at {T} slots (q ∷ qs) zero p taken e =
    let first = some-of (held_at slots q) taken.0 in
    ap (λ (hs : List (Held T)). slice_get hs 0) (held-cons slots q qs first.0 first.1) ∙ sym first.1
    ∙ ap (held_at slots) (same_Some q p e)
held-at {T} slots (q ∷ qs) (suc k) p taken e =
    let first = some-of (held_at slots q) taken.0 in
    ap (λ (hs : List (Held T)). slice_get hs (suc k)) (held-cons slots q qs first.0 first.1)
    ∙ held-at slots qs k p taken.1 e

-- a place elsewhere makes no difference
pub held-elsewhere : {T : Type 0} (slots : List (Option (Held T))) (p : ℕ) (o : Option (Held T)) (places : List ℕ)
    → IsOutside p places → held_in (set slots p o) places ≡ held_in slots places
held-elsewhere slots p o [] out = refl
held-elsewhere {T} slots p o (q ∷ qs) out =
    ap (λ (h : Option (Held T)). cons_option h (held_in (set slots p o) qs))
    (get_or-set_other slots p q o None (λ e. out.0 (sym e)))
    ∙ ap (cons_option (held_at slots q)) (held-elsewhere slots p o qs out.1)

pub taken-elsewhere : {T : Type 0} (slots : List (Option (Held T))) (p : ℕ) (o : Option (Held T)) (places : List ℕ)
    → IsOutside p places → AreTaken slots places → AreTaken (set slots p o) places
taken-elsewhere slots p o [] out taken = tt
taken-elsewhere {T} slots p o (q ∷ qs) out taken = (
  subst (λ (h : Option (Held T)). IsSome h) (sym (get_or-set_other slots p q o None (λ e. out.0 (sym e)))) taken.0,
  taken-elsewhere slots p o qs out.1 taken.1,
)

-- one more at the end
pub held-push : {T : Type 0} (slots : List (Option (Held T))) (places : List ℕ) (p : ℕ) (held : Held T)
    → IsOutside p places → p < length slots
    → held_in (set slots p (Some held)) (places ++ p ∷ []) ≡ held_in slots places ++ held ∷ []
held-push {T} slots places p held out inside =
    let after = set slots p (Some held) in
    filter_map-append (held_at after) places (p ∷ [])
    ∙ ap (λ (hs : List (Held T)). held_in after places ++ hs)
    (held-cons after p [] held (get_or-set_same slots p (Some held) None inside))
    ∙ ap (λ (hs : List (Held T)). hs ++ held ∷ []) (held-elsewhere slots p (Some held) places out)

pub taken-push : {T : Type 0} (slots : List (Option (Held T))) (places : List ℕ) (p : ℕ) (held : Held T)
    → IsOutside p places → p < length slots → AreTaken slots places
    → AreTaken (set slots p (Some held)) (places ++ p ∷ [])
taken-push {T} slots [] p held out inside taken =
    (subst (λ (h : Option (Held T)). IsSome h) (sym (get_or-set_same slots p (Some held) None inside)) refl, tt)
taken-push {T} slots (q ∷ qs) p held out inside taken = (
  subst (λ (h : Option (Held T)). IsSome h) (sym (get_or-set_other slots p q (Some held) None (λ e. out.0 (sym e))))
      taken.0,
  taken-push slots qs p held out.1 inside taken.1,
)

-- one fewer
pub held-remove :
    {T : Type 0} (slots : List (Option (Held T))) (places : List ℕ) (k p : ℕ)
    → slice_get places k ≡ Some p
    → AreDifferent places
    → AreTaken slots places
    → held_in (set slots p None) (remove places k) ≡ remove (held_in slots places) k
held-remove slots [] k p e different taken = absurd cc
held-remove {T} slots (q ∷ qs) zero p e different taken =
    let first = some-of (held_at slots q) taken.0 in
    held-elsewhere slots p None qs (subst (λ (x : ℕ). IsOutside x qs) (same_Some q p e) different.0)
    ∙ ap (λ (hs : List (Held T)). remove hs 0) (sym (held-cons slots q qs first.0 first.1))
held-remove {T} slots (q ∷ qs) (suc k) p e different taken =
    let first = some-of (held_at slots q) taken.0 in
    let apart : q ≢ p = each-at (λ y. q ≢ y) qs k p e different.0 in
    held-cons (set slots p None) q (remove qs k) first.0 (get_or-set_other slots p q None None apart ∙ first.1)
    ∙ ap (λ (hs : List (Held T)). first.0 ∷ hs) (held-remove slots qs k p e different.1 taken.1)
    ∙ ap (λ (hs : List (Held T)). remove hs (suc k)) (sym (held-cons slots q qs first.0 first.1))

pub taken-remove :
    {T : Type 0} (slots : List (Option (Held T))) (places : List ℕ) (k p : ℕ)
    → slice_get places k ≡ Some p
    → AreDifferent places
    → AreTaken slots places
    → AreTaken (set slots p None) (remove places k)
taken-remove slots [] k p e different taken = absurd cc
taken-remove {T} slots (q ∷ qs) zero p e different taken =
    taken-elsewhere slots p None qs (subst (λ (x : ℕ). IsOutside x qs) (same_Some q p e) different.0) taken.1
taken-remove {T} slots (q ∷ qs) (suc k) p e different taken =
    let apart : q ≢ p = each-at (λ y. q ≢ y) qs k p e different.0 in (
      subst (λ (h : Option (Held T)). IsSome h) (sym (get_or-set_other slots p q None None apart)) taken.0,
      taken-remove slots qs k p e different.1 taken.1,
    )

-- ---- a later peak

-- what stands at each of the places is ended
abbrev pub AreEnded : {T : Type 0} → List (Option (Held T)) → List (Option (Held T)) → List ℕ → Type 0
AreEnded slots after places = EachOf (λ place. held_at after place ≡ option_map ended (held_at slots place)) places

pub held-ended : {T : Type 0} (slots after : List (Option (Held T))) (places : List ℕ) → AreEnded slots after places
    → held_in after places ≡ map ended (held_in slots places)
held-ended slots after [] are = refl
held-ended {T} slots after (p ∷ ps) are =
    ap (λ (o : Option (Held T)). cons_option o (held_in after ps)) are.0
    ∙ ap (cons_option (option_map ended (held_at slots p))) (held-ended slots after ps are.1)
    ∙ mapped (held_at slots p)
  where
    mapped : (o : Option (Held T))
        → cons_option (option_map ended o) (map ended (held_in slots ps)) ≡ map ended (cons_option o (held_in slots ps))
    mapped None = refl
    mapped (Some h) = refl

pub taken-ended : {T : Type 0} (slots after : List (Option (Held T))) (places : List ℕ) → AreEnded slots after places
    → AreTaken slots places → AreTaken after places
taken-ended slots after [] are taken = tt
taken-ended {T} slots after (p ∷ ps) are taken =
    let first = some-of (held_at slots p) taken.0 in (
      subst (λ (o : Option (Held T)). IsSome o) (sym (are.0 ∙ ap (option_map ended) first.1)) refl,
      taken-ended slots after ps are.1 taken.1,
    )
