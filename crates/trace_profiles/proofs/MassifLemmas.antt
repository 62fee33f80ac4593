-- The options of a profile.
use Rattle.std.proofs.Common.{◌≡◌, ℕ, suc, ◌+◌, ◌*◌, ◌-◌, ◌^◌, ◌<◌, ◌≤◌, true, refl, ap, sym, ◌∙◌, arith}
use Rattle.std.proofs.Math.Nat.{pow-suc}
use Rattle.std.proofs.lemmas.Bool.Decides.{nat_tests}
use Rattle.std.proofs.lemmas.Nat.{leading_top, ones_cat, ones_le_self, zero_from_ones}
use Rattle.std.specs.Int.{IsPowerOfTwo, is_power_of_two}
use Rattle.std.specs.Int.RustNames.{count_ones}
use Rattle.massif_sample.specs.declared.options.MassifOptions.{MassifOptions}
use Rattle.massif_sample.specs.Options.{AreInRange}
use Rattle.massif_sample.specs.AreWithin.{AreWithin}

one-bit : count_ones 1 ≡ 1
unfolding count_ones
one-bit = refl

-- of a number with one bit set nothing is left without its highest one
nothing-left : (n power : ℕ) → count_ones n ≡ 1 → power ≤ n → count_ones n ≡ count_ones 1 + count_ones (n - power)
    → n ≡ power
nothing-left n power one most split =
    let rest : n - power ≡ 0 = zero_from_ones (n - power) (omega (arith, split, one, one-bit)) in
    omega (arith, rest, most)

-- a number with one bit set is a power of two
power-of : (n : ℕ) → n ≤ 4096 → is_power_of_two n ≡ true → IsPowerOfTwo n
power-of n most is =
    let one : count_ones n ≡ 1 = grind (arith, nat_tests, is) in
    let some : 0 < n = omega (arith, one, ones_le_self n) in
    let top = leading_top 13 n some (omega (arith, most)) in
    let whole : 1 * 2 ^ top.0 + (n - 2 ^ top.0) ≡ n = omega (arith, top.2) in
    let twice : 2 ^ suc top.0 ≡ 2 ^ top.0 * 2 = pow-suc 2 top.0 in
    let below : n - 2 ^ top.0 < 2 ^ top.0 = omega (arith, top.2, top.3, twice) in
    (top.0, nothing-left n (2 ^ top.0) one top.2 (ap count_ones (sym whole) ∙ ones_cat top.0 1 (n - 2 ^ top.0) below))

-- the ranges of the words are those that a sampler wants
pub in-range : (options : MassifOptions) → AreWithin options → AreInRange options
in-range options within =
    let power = power-of options.alignment within.alignment_most within.alignment in
    record {
      threshold = within.threshold;
      inaccuracy = within.inaccuracy;
      detailed_freq_least = within.detailed_freq_least;
      detailed_freq_most = within.detailed_freq_most;
      max_least = within.max_least;
      max_most = within.max_most;
      depth_least = within.depth_least;
      depth_most = within.depth_most;
      admin = within.admin;
      exponent = power.0;
      alignment = power.1;
      alignment_most = within.alignment_most;
      unit = within.unit;
    }
