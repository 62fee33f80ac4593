use Rattle.std.proofs.Common.{◌≡◌, ◌<◌, ℕ, Bool, true, false, List, Option, None, Some, MatchOption, length, refl}
use Rattle.std.proofs.Common.{arith}
use Rattle.std.proofs.lemmas.List.Sums.{position_or_len_is}
use Rattle.std.specs.List.{position_or_len}
use Rattle.memchr.specs.Find.{IsFirstByte, is_byte}
use Rattle.hp_outside.specs.Lines.{is_line_feed}
use Rattle.hp_outside.proofs.line_end.line_end.Goals as goal

-- a test that is not true is false
not_true : (b : Bool) → ¬ (b ≡ true) → b ≡ false
not_true true h = absurd (h refl)
not_true false h = refl

-- the first byte that is a line feed stands behind all bytes that are none
first_place : (bytes : List ℕ) (place : Option ℕ) → IsFirstByte (is_byte 10) bytes place
    → MatchOption place (position_or_len is_line_feed bytes ≡ length bytes)
    (λ end. (end < length bytes) × (position_or_len is_line_feed bytes ≡ end))
first_place bytes None none =
    position_or_len_is is_line_feed bytes (length bytes) 0 (omega arith) (λ k h. not_true _ (none k (omega arith) h))
    (λ h. absurd (omega arith))
first_place bytes (Some place) first = (
  first.0.high,
  position_or_len_is is_line_feed bytes place 0 (omega (arith, first.0.high))
      (λ k h. not_true _ (first.0.before k (omega arith) h)) (λ h. first.1),
)

pub returns : goal.returns
returns c = first_place _ _ c.memchr.ensures
