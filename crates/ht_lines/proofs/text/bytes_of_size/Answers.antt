use Rattle.std.proofs.Common.{◌≡◌, ◌<◌, ◌≤◌, ◌-◌, ◌∙◌, ℕ, true, false, List, [], ◌∷◌, length, take, drop, take_all}
use Rattle.std.proofs.Common.{None, Some, arith, refl, sym, ap}
use Rattle.std.specs.Prelude.{nat_le}
use Rattle.std.proofs.lemmas.Bool.{le-leb}
use Rattle.std.proofs.lemmas.Bool.Decides.{nat_tests}
use Rattle.ht_lines.specs.Fields.{field_ends}
use Rattle.ht_lines.specs.ModuleName.{of_size_in}
use Rattle.ht_lines.proofs.text.bytes_of_size.Goals as goal

-- what follows the first byte
abbrev behind : List ℕ → List ℕ
behind after = take (length after - 1) (drop 1 after)

no_bytes : (n : ℕ) (after : List ℕ) → length after < 1 → None ≡ of_size_in (Some n) after
no_bytes n [] few = refl
no_bytes n (b ∷ bytes) few = absurd (omega arith)

too_few : (n : ℕ) (after : List ℕ) → 1 ≤ length after → length (behind after) < n → None ≡ of_size_in (Some n) after
too_few n [] some few = absurd (omega arith)
too_few n (b ∷ bytes) some few =
    let whole : take (length (b ∷ bytes) - 1) bytes ≡ bytes = take_all (length (b ∷ bytes) - 1) bytes (omega arith) in
    let less : length bytes < n = omega (arith, ap length whole) in
    let test : nat_le n (length bytes) ≡ false = grind (arith, nat_tests) in
    rw test refl

module _ (n : ℕ) (b : ℕ) (bytes name tail : List ℕ) (enough : n ≤ length (behind (b ∷ bytes)))
    (front : name ≡ take n (behind (b ∷ bytes))) (back : tail ≡ drop n (behind (b ∷ bytes))) where
  whole : behind (b ∷ bytes) ≡ bytes
  whole = take_all (length (b ∷ bytes) - 1) bytes (omega arith)

  held : nat_le n (length bytes) ≡ true
  held = le-leb n (length bytes) (omega (arith, ap length whole))

  tail_is : tail ≡ drop n bytes
  tail_is = back ∙ ap (drop n) whole

  at_end : field_ends tail ≡ true → Some (name, tail) ≡ of_size_in (Some n) (b ∷ bytes)
  at_end ends = rw (held, ap field_ends (sym tail_is) ∙ ends, front ∙ ap (take n) whole, tail_is) refl

  goes_on : field_ends tail ≡ false → None ≡ of_size_in (Some n) (b ∷ bytes)
  goes_on ends = rw (held, ap field_ends (sym tail_is) ∙ ends) refl

ended : (n : ℕ) (after name tail : List ℕ) → 1 ≤ length after → n ≤ length (behind after) → name ≡ take n (behind after)
    → tail ≡ drop n (behind after) → field_ends tail ≡ true
    → Some (name, tail) ≡ of_size_in (Some n) after
ended n [] name tail some enough front back ends = absurd (omega arith)
ended n (b ∷ bytes) name tail some enough front back ends = at_end n b bytes name tail enough front back ends

not_ended : (n : ℕ) (after name tail : List ℕ) → 1 ≤ length after → n ≤ length (behind after)
    → name ≡ take n (behind after) → tail ≡ drop n (behind after) → field_ends tail ≡ false
    → None ≡ of_size_in (Some n) after
not_ended n [] name tail some enough front back ends = absurd (omega arith)
not_ended n (b ∷ bytes) name tail some enough front back ends = goes_on n b bytes name tail enough front back ends

pub returns-in_default-clause-exact : goal.returns-in_default-clause-exact
returns-in_default-clause-exact c = no_bytes c.args.size c.args.after.now c.in_default.len_below

pub returns-then-size-bytes-clause-exact : goal.returns-then-size-bytes-clause-exact
returns-then-size-bytes-clause-exact c =
    too_few c.args.size c.args.after.now c.in-len1-up.len_at_least c.if-size-bytes.true

pub returns-then-field_ends-clause-exact : goal.returns-then-field_ends-clause-exact
returns-then-field_ends-clause-exact c =
    ended c.args.size c.args.after.now c.split_at.result.0.now c.split_at.result.1.now c.in-len1-up.len_at_least
    c.if-size-bytes.false c.split_at.ensures.front c.split_at.ensures.back
    (sym c.field_ends.ensures ∙ c.if-field_ends.true)

pub returns-else-field_ends-clause-exact : goal.returns-else-field_ends-clause-exact
returns-else-field_ends-clause-exact c =
    not_ended c.args.size c.args.after.now c.split_at.result.0.now c.split_at.result.1.now c.in-len1-up.len_at_least
    c.if-size-bytes.false c.split_at.ensures.front c.split_at.ensures.back
    (sym c.field_ends.ensures ∙ c.if-field_ends.false)
