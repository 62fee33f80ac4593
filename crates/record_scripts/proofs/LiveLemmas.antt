-- A table of IDs none of which is live.
use Rattle.std.proofs.Common.{◌≡◌, ℕ, zero, suc, Bool, true, false, cond, List, length, get_or, replicate, refl, ap}
use Rattle.std.proofs.Common.{◌∙◌}
use Rattle.std.specs.Prelude.{nat_lt}
use Rattle.record_scripts.specs.LiveIds.{is_held}

pub none-held : (low : List Bool) (n : ℕ) (high : ℕ → Bool) → low ≡ replicate n false
    → ((q : ℕ) → high q ≡ false) → (q : ℕ) → is_held low high q ≡ false
none-held low n high empty none q =
    by (nat_lt q (length low)) (ap (λ (all : List Bool). get_or all q false) empty ∙ each n q)
  where
    each : (n q : ℕ) → get_or (replicate n false) q false ≡ false
    each zero q = refl
    each (suc n) zero = refl
    each (suc n) (suc q) = each n q

    by : (b : Bool) → get_or low q false ≡ false → cond b (get_or low q false) (high q) ≡ false
    by true here = here
    by false here = none q
