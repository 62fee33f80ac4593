-- A size that is rounded up.
use Rattle.std.proofs.Common.{◌≡◌, ℕ, ◌+◌, ◌-◌, ◌*◌, ◌/◌, ◌%◌, ◌<◌, ◌≤◌, ◌⊎◌, inl, inr, refl, arith}
use Rattle.std.proofs.Math.Nat.{div-add-mod, mod-lt, mul-le-mul_right, mul_comm}
use Rattle.std.proofs.lemmas.Bool.{cases_lt}
use Rattle.massif_sample.specs.Gross.{rounded_up}
use Rattle.massif_sample.specs.LeastMultiple.{IsLeastMultiple}

-- it is the least multiple of the alignment that is no less than the size
pub rounded-least : (alignment size : ℕ) → 1 ≤ alignment → IsLeastMultiple alignment size (rounded_up alignment size)
rounded-least alignment size some = record {
  times = times;
  is = refl;
  above = omega (arith, whole, rest, turned, some);
  least = λ other enough. by other enough (cases_lt other times);
}
  where
    times : ℕ
    times = (size + (alignment - 1)) / alignment

    whole : alignment * ((size + (alignment - 1)) / alignment) + (size + (alignment - 1)) % alignment
        ≡ size + (alignment - 1)
    whole = div-add-mod (size + (alignment - 1)) alignment

    rest : (size + (alignment - 1)) % alignment < alignment
    rest = mod-lt (size + (alignment - 1)) some

    turned : alignment * ((size + (alignment - 1)) / alignment) ≡ (size + (alignment - 1)) / alignment * alignment
    turned = mul_comm alignment ((size + (alignment - 1)) / alignment)

    by : (other : ℕ) → size ≤ other * alignment
        → (other < (size + (alignment - 1)) / alignment) ⊎ ((size + (alignment - 1)) / alignment ≤ other)
        → (size + (alignment - 1)) / alignment * alignment ≤ other * alignment
    by other enough (inl less) =
        let more : (other + 1) * alignment ≤ (size + (alignment - 1)) / alignment * alignment =
        mul-le-mul_right alignment (omega (arith, less)) in
        let one : (other + 1) * alignment ≡ other * alignment + alignment = omega arith in
        absurd (omega (arith, more, one, whole, turned, enough, some))
    by other enough (inr few) = mul-le-mul_right alignment few
