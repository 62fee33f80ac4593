-- Places without a block, of which those of one class have changed.
use Rattle.std.proofs.Common.{◌≡◌, ℕ, ◌==◌, ◌&&◌, Bool, true, false, cond, Option, None, Some, refl, ap, ◌∙◌, arith}
use Rattle.std.specs.Prelude.{IfNone, Result, Ok, Err, OnErr}
use Rattle.std.proofs.lemmas.Bool.Decides.{nat_tests}
use Rattle.record_book.specs.declared.free_addresses.FreeAddresses.{FreeAddresses}
use Rattle.record_book.specs.HeapState.{is_among}

-- one address of the class is put in, or taken out
pub class-changed : (f g : ℕ → Option FreeAddresses) (class address : ℕ) (to : Bool) (after : FreeAddresses)
    → ((q : ℕ) → g q ≡ cond (class == q) (Some after) (f q))
    → ((a : ℕ) → is_among (Some after) a ≡ cond (address == a) to (is_among (f class) a))
    → (c a : ℕ) → is_among (g c) a ≡ cond (class == c && address == a) to (is_among (f c) a)
class-changed f g class address to after puts is c a =
    ap (λ (found : Option FreeAddresses). is_among found a) (puts c) ∙ by (class == c) refl
  where
    by : (b : Bool) → (class == c) ≡ b
        → is_among (cond b (Some after) (f c)) a ≡ cond (b && address == a) to (is_among (f c) a)
    by true p =
        let same : class ≡ c = grind (arith, nat_tests, p) in
        is a ∙ ap (λ (k : ℕ). cond (address == a) to (is_among (f k) a)) same
    by false p = refl

-- the class has the addresses that it had
pub class-same : (f g : ℕ → Option FreeAddresses) (class : ℕ) (after : FreeAddresses)
    → ((q : ℕ) → g q ≡ cond (class == q) (Some after) (f q))
    → ((a : ℕ) → is_among (Some after) a ≡ is_among (f class) a)
    → (c a : ℕ) → is_among (g c) a ≡ is_among (f c) a
class-same f g class after puts is c a =
    ap (λ (found : Option FreeAddresses). is_among found a) (puts c) ∙ by (class == c) refl
  where
    by : (b : Bool) → (class == c) ≡ b → is_among (cond b (Some after) (f c)) a ≡ is_among (f c) a
    by true p =
        let same : class ≡ c = grind (arith, nat_tests, p) in
        is a ∙ ap (λ (k : ℕ). is_among (f k) a) same
    by false p = refl

pub none-then : {X : Type 0} (found : Option X) (P Q : Type 0) → (P → Q) → IfNone found P → IfNone found Q
none-then None P Q f p = f p
none-then (Some x) P Q f p = tt

pub err-then : {X E : Type 0} (r : Result X E) (P Q : Type 0) → (P → Q) → OnErr r P → OnErr r Q
err-then (Ok x) P Q f p = tt
err-then (Err e) P Q f p = f p
