-- What numbers a numeral writes.
use Rattle.std.proofs.Common.{◌≡◌, Bool, true, false, cond, Some, None, option_and_then, refl}
use Rattle.std.specs.Prelude.{◌&&◌, ◌^◌, nat_lt, nat_le}
use Rattle.std.specs.Float.{binary64, float_is_finite}
use Rattle.fast_float.specs.Text.{Parts, digits_of, nearest, with_sign}
use Rattle.serde_json.specs.Data.{negative, float}
use Rattle.serde_json.specs.Find.{as_u64}
use Rattle.serde_json.specs.Read.{number_from, float_of, is_integer}

no_float : (p : Parts) (b : Bool) → option_and_then as_u64 (cond b (Some (float (nearest binary64 true p))) None) ≡ None
no_float p true = refl
no_float p false = refl

no_negative : (p : Parts) (b : Bool)
    → option_and_then as_u64 (cond b (Some (negative (with_sign true (digits_of p)))) (float_of true p)) ≡ None
no_negative p true = refl
no_negative p false = no_float p (float_is_finite (nearest binary64 true p))

-- a number with a sign is no whole one
pub no_whole : (p : Parts) → option_and_then as_u64 (number_from true p) ≡ None
no_whole p = no_negative p (is_integer p && nat_lt 0 (digits_of p) && nat_le (digits_of p) (2 ^ 63))
