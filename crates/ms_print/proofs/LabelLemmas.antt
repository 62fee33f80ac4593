-- Lemmas on powers of a factor.
use Rattle.std.proofs.Common.{◌≡◌, ℕ, zero, suc, ◌-◌, ◌^◌, ◌<◌, ◌≤◌, Bool, true, false, cond, leb, refl, sym, ap, ◌∙◌}
use Rattle.std.proofs.Common.{arith}
use Rattle.std.proofs.Math.Nat.{pow-le-pow_left, pow-le-pow_right}
use Rattle.std.proofs.lemmas.Bool.Decides.{nat_tests}
use Rattle.ms_print.specs.Labels.{power_up_to}

-- a power that is too great is passed over
pub power-down : (factor value power : ℕ) → 0 < power → value < factor ^ power
    → power_up_to (power - 1) factor value ≡ power_up_to power factor value
power-down factor value zero some above = absurd (omega arith)
power-down factor value (suc power) some above =
    ap (λ (k : ℕ). power_up_to k factor value) {x = suc power - 1} {y = power} (omega arith)
    ∙ sym (ap (λ (b : Bool). cond b (suc power) (power_up_to power factor value))
    (let off : leb (factor ^ suc power) value ≡ false = grind (arith, nat_tests) in off))

-- a power that isn't is the greatest
pub power-here : (factor value power : ℕ) → factor ^ power ≤ value → power_up_to power factor value ≡ power
power-here factor value zero below = refl
power-here factor value (suc power) below =
    ap (λ (b : Bool). cond b (suc power) (power_up_to power factor value))
    (let on : leb (factor ^ suc power) value ≡ true = grind (arith, nat_tests) in on)

-- powers of a factor of at most 1,024 up to the fourth are small
pub power-small : (factor power : ℕ) → 0 < factor → factor ≤ 1024 → power ≤ 4 → factor ^ power ≤ 1024 ^ 4
power-small factor power some small low =
    let left = pow-le-pow_left small power in
    let right : 1024 ^ power ≤ 1024 ^ 4 = pow-le-pow_right (omega arith) low in
    omega arith
