-- Lines of instructions: both sides, and both ways.
use Rattle.std.proofs.Common.{◌≡◌, ◌≢◌, ℕ, ◌%◌, Bool, true, false, cond, eqb, ◌||◌, List, [], ◌∷◌, length, map, Result}
use Rattle.std.proofs.Common.{Ok, Err, MatchResult, refl, ap, inl, inr, arith, ◌⊎◌}
use Rattle.std.proofs.lemmas.Bool.Decides.{eqb_tells}
use borrow.Author.Tests.{eq-eqb, ne_eqb}
use Rattle.ht_lines.specs.declared.item.Malformed.{Malformed}
use Rattle.ht_lines.specs.declared.item.Malformed.TheVariants.{BadField, MissingField, ExtraField, NotInterpreted}
use Rattle.ht_lines.specs.declared.item.Malformed.TheVariants.{NotRaw, BadVersion}
use Rattle.ht_lines.specs.Content.{Content, instruction_line}
use Rattle.ht_lines.specs.Fields.{AreNumbers, all_numbers, number}
use Rattle.ht_lines.specs.Refuses.{RefusesInstruction}
use Rattle.ht_lines.specs.Reading.{instruction_of, instruction_from}
use Rattle.ht_lines.proofs.NumberLemmas.{AreNumbers-all, all-AreNumbers, AreNumbers-number, not_all-AreNoNumbers}
use Rattle.ht_lines.proofs.NumberLemmas.{AreNoNumbers-not_all, AreNumbers-length}

-- as many fields as an instruction has
abbrev pub IsInstructionCount : ℕ → Type 0
IsInstructionCount n = (n % 3 ≡ 0) ⊎ (n % 3 ≡ 2)

abbrev pub SaysInstruction : List (List ℕ) → Content → Type 0
SaysInstruction fs said =
    (ip module_string : ℕ) × (frames : List ℕ) × (said ≡ instruction_line ip module_string frames)
    × AreNumbers fs (ip ∷ module_string ∷ frames) × IsInstructionCount (length fs)

abbrev InstructionSides : List (List ℕ) → Result Content Malformed → Type 0
InstructionSides fs r = MatchResult r (λ said. SaysInstruction fs said) (λ fault. RefusesInstruction fs fault)

abbrev Tells : ℕ → ℕ → Type 0
Tells a b = ((eqb a b ≡ true) × (a ≡ b)) ⊎ ((eqb a b ≡ false) × (a ≢ b))

count_of : (n : ℕ) → n % 3 ≢ 1 → IsInstructionCount n
count_of n h = by (eqb_tells (n % 3) 0)
  where
    by : Tells (n % 3) 0 → IsInstructionCount n
    by (inl w) = inl w.1
    by (inr w) = inr (omega (arith, w.1, h))

instruction_numbers : (fs : List (List ℕ)) (ns : List ℕ) → AreNumbers fs ns → length fs ≢ 0 → length fs % 3 ≢ 1
    → InstructionSides fs (instruction_from ns)
instruction_numbers fs [] a some count = absurd (some (AreNumbers-length fs [] a))
instruction_numbers fs (n ∷ []) a some count = absurd (count (ap (λ k. k % 3) (AreNumbers-length fs (n ∷ []) a)))
instruction_numbers fs (ip ∷ m ∷ frames) a some count = (ip, m, frames, refl, a, count_of (length fs) count)

instruction_test : (fs : List (List ℕ)) (t : Bool) → all_numbers fs ≡ t → length fs ≢ 0 → length fs % 3 ≢ 1
    → InstructionSides fs (cond t (instruction_from (map number fs)) (Err BadField))
instruction_test fs true e some count = instruction_numbers fs (map number fs) (all-AreNumbers fs e) some count
instruction_test fs false e some count = (omega (arith, some), count, not_all-AreNoNumbers fs e)

counted : (fs : List (List ℕ)) → Tells (length fs) 0 → Tells (length fs % 3) 1 → InstructionSides fs (instruction_of fs)
unfolding instruction_of
counted fs (inl z) w = rw z.0 (inl z.1)
counted fs (inr z) (inl w) = rw (z.0, w.0) (inr w.1)
counted fs (inr z) (inr w) = rw (z.0, w.0) (instruction_test fs (all_numbers fs) refl z.1 w.1)

pub instruction-sound : (fs : List (List ℕ)) → InstructionSides fs (instruction_of fs)
instruction-sound fs = counted fs (eqb_tells (length fs) 0) (eqb_tells (length fs % 3) 1)

not_one : (n : ℕ) → IsInstructionCount n → n % 3 ≢ 1
not_one n (inl e) z = omega arith
not_one n (inr e) z = omega arith

pub instruction-item : (fs : List (List ℕ)) (ip module_string : ℕ) (frames : List ℕ)
    → AreNumbers fs (ip ∷ module_string ∷ frames) → IsInstructionCount (length fs)
    → instruction_of fs ≡ Ok (instruction_line ip module_string frames)
unfolding instruction_of
instruction-item fs ip m frames a count =
    let some : eqb (length fs) 0 ≡ false =
    ne_eqb (length fs) 0 (λ z. omega (arith, AreNumbers-length fs (ip ∷ m ∷ frames) a)) in
    let three : eqb (length fs % 3) 1 ≡ false = ne_eqb (length fs % 3) 1 (not_one (length fs) count) in
    rw (some, three, AreNumbers-all fs (ip ∷ m ∷ frames) a, AreNumbers-number fs (ip ∷ m ∷ frames) a) refl

missing : (fs : List (List ℕ)) (s t : Bool) → (s ≡ true) ⊎ (t ≡ true)
    → cond (s || t) (Err MissingField) (cond (all_numbers fs) (instruction_from (map number fs)) (Err BadField))
    ≡ Err MissingField
missing fs true t w = refl
missing fs false true w = refl
missing fs false false (inl e) = absurd (cc)
missing fs false false (inr e) = absurd (cc)

pub instruction-fault : (fs : List (List ℕ)) (fault : Malformed) → RefusesInstruction fs fault
    → instruction_of fs ≡ Err fault
unfolding instruction_of
instruction-fault fs MissingField (inl z) = missing fs _ _ (inl (eq-eqb (length fs) 0 z))
instruction-fault fs MissingField (inr w) = missing fs _ _ (inr (eq-eqb (length fs % 3) 1 w))
instruction-fault fs BadField r =
    let some : eqb (length fs) 0 ≡ false = ne_eqb (length fs) 0 (λ z. omega (arith, r.0)) in
    let three : eqb (length fs % 3) 1 ≡ false = ne_eqb (length fs % 3) 1 r.1 in
    rw (some, three, AreNoNumbers-not_all fs r.2) refl
instruction-fault fs ExtraField r = absurd r
instruction-fault fs NotInterpreted r = absurd r
instruction-fault fs NotRaw r = absurd r
instruction-fault fs BadVersion r = absurd r
