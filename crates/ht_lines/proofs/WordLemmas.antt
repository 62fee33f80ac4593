-- What is parsed as a hexadecimal number fits 64 bits.
use Rattle.std.proofs.Common.{◌≡◌, ℕ, suc, ◌+◌, ◌*◌, ◌^◌, ◌<◌, ◌≤◌, Bool, true, false, cond, leb, ltb, ◌&&◌, List, []}
use Rattle.std.proofs.Common.{◌∷◌, length, map, Some, None, refl, sym, ap, ◌∙◌, arith}
use Rattle.std.specs.List.{list_all}
use Rattle.std.specs.Char.{is_digit, digit_value}
use Rattle.std.specs.Str.Parse.{digits_value, digits_value_after}
use Rattle.std.proofs.lemmas.Bool.{ltb-true, leb-true}
use Rattle.std.proofs.Math.Nat.{pow-suc, pow-le-pow_right, mul-le-mul_right, mul_assoc, mul_comm}
use Rattle.hp_num.specs.Numeral.{is_numeral}
use Rattle.hp_num.specs.ParsedHex.{parsed_hex}
use Rattle.ht_lines.specs.Fields.{AreNumbers}
use Rattle.ht_lines.specs.Written.{AreWords}
use Rattle.hp_num.proofs.Laws.{and-true}

below_step : (n d k m v : ℕ) → d < 16 → m ≡ k * 16 → v < (n * 16 + d + 1) * k → v < (n + 1) * m
below_step n d k m v small e h =
    let step : (n * 16 + d + 1) * k ≤ ((n + 1) * 16) * k = mul-le-mul_right k (omega arith) in
    let same : ((n + 1) * 16) * k ≡ (n + 1) * m =
    mul_assoc (n + 1) 16 k ∙ ap (λ x. (n + 1) * x) (mul_comm 16 k ∙ sym e) in
    omega arith

-- so many digits are below that power of 16
value_below : (n : ℕ) (ds : List ℕ) → list_all (λ b. is_digit b 16) ds ≡ true
    → digits_value_after 16 n ds < (n + 1) * 16 ^ length ds
value_below n [] e = omega arith
value_below n (d ∷ ds) e =
    let both = and-true (is_digit d 16) (list_all (λ b. is_digit b 16) ds) e in
    let small = ltb-true (digit_value d) 16 both.0 in
    let rest = value_below (n * 16 + digit_value d) ds both.1 in
    below_step n (digit_value d) (16 ^ length ds) (16 ^ suc (length ds))
    (digits_value_after 16 (n * 16 + digit_value d) ds) small (pow-suc 16 (length ds)) rest

is_numeral-digits : (text : List ℕ) → is_numeral 16 16 text ≡ true → list_all (λ b. is_digit b 16) text ≡ true
is_numeral-digits text e = (and-true _ (list_all (λ b. is_digit b 16) text) e).1

is_numeral-size : (text : List ℕ) → is_numeral 16 16 text ≡ true → length text ≤ 16
is_numeral-size text e =
    let front = (and-true (ltb 0 (length text) && leb (length text) 16) (list_all (λ b. is_digit b 16) text) e).0 in
    leb-true (length text) 16 (and-true (ltb 0 (length text)) (leb (length text) 16) front).1

taken : (t : Bool) (n m : ℕ) → cond t (Some n) None ≡ Some m → (t ≡ true) × (n ≡ m)
taken true n m e = (refl, cc)
taken false n m e = absurd (cc)

pub parsed_hex-fits : (text : List ℕ) (n : ℕ) → parsed_hex text ≡ Some n → n < 2 ^ 64
unfolding parsed_hex
parsed_hex-fits text n e =
    let w = taken (is_numeral 16 16 text) (digits_value 16 text) n e in
    let size = is_numeral-size text w.0 in
    let below = value_below 0 text (is_numeral-digits text w.0) in
    let most : 16 ^ length text ≤ 16 ^ 16 = pow-le-pow_right {n = 16} (omega arith) size in
    omega (arith, w.1)

-- so do the numbers of fields
pub AreNumbers-AreWords : (fs : List (List ℕ)) (ns : List ℕ) → AreNumbers fs ns → AreWords ns
AreNumbers-AreWords [] [] e = tt
AreNumbers-AreWords [] (n ∷ ns) e = absurd (cc)
AreNumbers-AreWords (f ∷ fs) [] e = absurd (cc)
AreNumbers-AreWords (f ∷ fs) (n ∷ ns) e =
    let head : parsed_hex f ≡ Some n = cc in
    let tail : map parsed_hex fs ≡ map Some ns = cc in
    (parsed_hex-fits f n head, AreNumbers-AreWords fs ns tail)
