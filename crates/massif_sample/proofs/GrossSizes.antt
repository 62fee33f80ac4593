-- The gross size of a block.
use Rattle.std.proofs.Common.{◌≡◌, ℕ, ◌+◌, ◌-◌, ◌*◌, ◌/◌, ◌^◌, ◌≤◌, ap, sym, ◌∙◌, arith}
use Rattle.std.specs.Prelude.{bit_and}
use Rattle.std.proofs.lemmas.Nat.{and_mask, pow_pos}
use Rattle.std.proofs.Math.Nat.{mod-add-div'}
use Rattle.massif_sample.specs.declared.options.MassifOptions.{MassifOptions}
use Rattle.massif_sample.specs.Gross.{gross}
use Rattle.massif_sample.specs.Options.{AreInRange}

-- the gross size is no less than the size
pub gross-least : (options : MassifOptions) (size : ℕ) → 1 ≤ options.alignment → size ≤ gross options size
gross-least options size least = grind arith

pub some-alignment : (options : MassifOptions) → AreInRange options → 1 ≤ options.alignment
some-alignment options range = let is = range.alignment in let some = pow_pos range.exponent in omega arith

pub gross-most : (options : MassifOptions) (size : ℕ) → AreInRange options → gross options size ≤ size + 5120
gross-most options size range =
    let some = some-alignment options range in
    let alignment = range.alignment_most in
    let admin = range.admin in
    let parts = mod-add-div' (size + (options.alignment - 1)) options.alignment in
    omega arith

-- what a number is over a multiple of a power of two is in its lower bits
multiple : (n k : ℕ) → n - bit_and n (2 ^ k - 1) ≡ n / 2 ^ k * 2 ^ k
multiple n k =
    let low = and_mask n k in
    let parts = mod-add-div' n (2 ^ k) in
    omega arith

-- a size that is rounded up by bits
pub gross-by_bits : (options : MassifOptions) (size : ℕ) → AreInRange options
    → (size + (options.alignment - 1)) - bit_and (size + (options.alignment - 1)) (options.alignment - 1)
    + options.admin
    ≡ gross options size
gross-by_bits options size range =
    let rounded : ℕ → ℕ = λ a. (size + (a - 1)) - bit_and (size + (a - 1)) (a - 1) in
    let multiples : ℕ → ℕ = λ a. (size + (a - 1)) / a * a in
    ap (λ (a : ℕ). rounded a + options.admin) range.alignment
    ∙ ap (λ (n : ℕ). n + options.admin) (multiple (size + (2 ^ range.exponent - 1)) range.exponent)
    ∙ sym (ap (λ (a : ℕ). multiples a + options.admin) range.alignment)
