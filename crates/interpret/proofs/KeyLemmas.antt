-- The order of keys of a module and a start.
use Rattle.std.proofs.Common.{◌≡◌, ◌≢◌, ◌⊎◌, inl, inr, ℕ, ◌≤◌, Bool, true, false, cond, ltb, eqb, Option, Some, None}
use Rattle.std.proofs.Common.{refl, arith, true≢false}
use Rattle.std.specs.Prelude.{IsSome}
use Rattle.std.specs.Ordering.{nat_cmp, ordering_then, is_eq, is_gt, is_lt}
use Rattle.std.specs.declared.cmp.Ordering.{Ordering}
use Rattle.std.specs.declared.cmp.Ordering.TheVariants.{Less, Equal, Greater}
use Rattle.std.proofs.lemmas.Bool.Decides.{nat_tests}
use Rattle.interpret.specs.SymbolEntries.{key_cmp}

abbrev ordering : Bool → Bool → Ordering
ordering less equal = cond {A = Ordering} less Less (cond {A = Ordering} equal Equal Greater)

-- two keys of one module stand as their starts
pub key-upto : (number start offset : ℕ) → start ≤ offset → is_gt (key_cmp (number, start) (number, offset)) ≡ false
key-upto number start offset upto =
    by (ltb number number) (eqb number number) (ltb start offset) (eqb start offset) refl refl refl refl
  where
    by : (a b l e : Bool) → ltb number number ≡ a → eqb number number ≡ b → ltb start offset ≡ l → eqb start offset ≡ e
        → is_gt (ordering_then (ordering a b) (ordering l e)) ≡ false
    by true b l e p q r s = refl
    by false true true e p q r s = refl
    by false true false true p q r s = refl
    by false true false false p q r s = absurd (grind (arith, nat_tests, r, s))
    by false false l e p q r s = absurd (grind (arith, nat_tests, q))

pub key-not_below : (number start other : ℕ) → is_lt (key_cmp (number, start) (number, other)) ≡ false → other ≤ start
key-not_below number start other not =
    by (ltb number number) (eqb number number) (ltb start other) (eqb start other) refl refl refl refl not
  where
    by : (a b l e : Bool) → ltb number number ≡ a → eqb number number ≡ b → ltb start other ≡ l → eqb start other ≡ e
        → is_lt (ordering_then (ordering a b) (ordering l e)) ≡ false → other ≤ start
    by true b l e p q r s not = absurd (grind (arith, nat_tests, p))
    by false true true e p q r s not = absurd (true≢false not)
    by false true false e p q r s not = grind (arith, nat_tests, r)
    by false false l e p q r s not = absurd (grind (arith, nat_tests, q))

-- a key of another module that isn't above a key is below all of its module
pub key-below : (m n a b c : ℕ) → is_gt (key_cmp (m, a) (n, b)) ≡ false → m ≢ n → is_lt (key_cmp (m, a) (n, c)) ≡ true
key-below m n a b c upto apart = by (ltb m n) (eqb m n) refl upto
  where
    by : (l e : Bool) → eqb m n ≡ e → is_gt (ordering_then (ordering l e) (nat_cmp a b)) ≡ false
        → is_lt (ordering_then (ordering l e) (nat_cmp a c)) ≡ true
    by true e p upto = refl
    by false true p upto = absurd (apart (grind (arith, nat_tests, p)))
    by false false p upto = absurd (true≢false upto)

pub key-apart : (m s n o : ℕ) → (n ≢ m) ⊎ (o ≢ s) → is_eq (key_cmp (m, s) (n, o)) ≡ false
key-apart m s n o apart = by (ltb m n) (eqb m n) (ltb s o) (eqb s o) refl refl
  where
    by : (a b l e : Bool) → eqb m n ≡ b → eqb s o ≡ e → is_eq (ordering_then (ordering a b) (ordering l e)) ≡ false
    by true b l e p q = refl
    by false true true e p q = refl
    by false true false true p q =
        elim apart [
          | inl other ↦ absurd (other (grind (arith, nat_tests, p)))
          | inr other ↦ absurd
              (other (grind (arith, nat_tests, q)))
        ]
    by false true false false p q = refl
    by false false l e p q = refl

pub none-where : {X : Type 0} (o : Option X) → (IsSome o → ⊥) → o ≡ None
none-where None none = refl
none-where (Some x) none = absurd (none refl)

pub some-where : {X : Type 0} (o : Option X) (x : X) → o ≡ Some x → IsSome o
some-where None x is = absurd (grind (arith, is))
some-where (Some y) x is = refl
