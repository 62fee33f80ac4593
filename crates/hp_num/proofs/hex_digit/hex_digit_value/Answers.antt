-- The table has the value of each byte that is a digit, and 255 for the others.
use Rattle.std.proofs.Common.{◌≡◌, ℕ, ◌<◌, ◌≤◌, Bool, true, false, map, cond, ltb, get_or, refl, ap, ◌∙◌, arith}
use Rattle.std.proofs.Common.{ltb-true, ltb-false}
use Rattle.std.proofs.lemmas.Bool.Decides.{nat_tests}
use Rattle.std.proofs.lemmas.List.FromFn.{get_or-map-range_with_len}
use Rattle.std.specs.Char.{digit_value}
use Rattle.std.specs.List.{range_with_len}
use Rattle.hp_num.specs.declared.hex_digit.TheConstants.{DIGIT_VALUES}
use Rattle.hp_num.proofs.hex_digit.hex_digit_value.Goals as goal

abbrev entry : ℕ → ℕ
entry b = cond (ltb (digit_value b) 16) (digit_value b) 255

table_is : DIGIT_VALUES ≡ map entry (range_with_len 0 256)
table_is = refl

read : (b : ℕ) → b < 256 → get_or DIGIT_VALUES b 0 ≡ entry b
read b h = ap (λ t. get_or t b 0) table_is ∙ get_or-map-range_with_len entry 0 256 b b 0 h (omega arith)

digit : (b : ℕ) (t : Bool) → ltb (digit_value b) 16 ≡ t → cond t (digit_value b) 255 < 16
    → (digit_value b < 16) × (cond t (digit_value b) 255 ≡ digit_value b)
digit b true e h = (ltb-true _ _ e, refl)
digit b false e h = absurd (omega arith)

no_digit : (b : ℕ) (t : Bool) → ltb (digit_value b) 16 ≡ t → 16 ≤ cond t (digit_value b) 255 → 16 ≤ digit_value b
no_digit b true e h = absurd (omega (arith, ltb-true _ _ e))
no_digit b false e h = ltb-false _ _ e

digit_read : (b : ℕ) → b < 256 → get_or DIGIT_VALUES b 0 < 16
    → (digit_value b < 16) × (get_or DIGIT_VALUES b 0 ≡ digit_value b)
digit_read b h small =
    let same = read b h in
    let both = digit b (ltb (digit_value b) 16) refl (omega arith) in
    (both.0, same ∙ both.1)

digit_refused : (b : ℕ) → b < 256 → 16 ≤ get_or DIGIT_VALUES b 0 → 16 ≤ digit_value b
digit_refused b h big = let same = read b h in no_digit b (ltb (digit_value b) 16) refl (omega arith)

pub returns-then-value-lt16 : goal.returns-then-value-lt16
returns-then-value-lt16 c =
    let small : get_or DIGIT_VALUES c.from.result 0 < 16 = grind (arith, nat_tests) in
    rw c.from.ensures (digit_read c.args.byte (omega arith) (rw c.from.ensures at small))

pub returns-else-value-lt16 : goal.returns-else-value-lt16
returns-else-value-lt16 c =
    let big : 16 ≤ get_or DIGIT_VALUES c.from.result 0 = grind (arith, nat_tests) in
    let none = digit_refused c.args.byte (omega arith) (rw c.from.ensures at big) in
    λ small. absurd (omega arith)
