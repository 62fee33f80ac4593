-- What it means for a file that its last line ended with its line feed.
use Rattle.std.proofs.Common.{◌≡◌, ℕ, ◌+◌, ◌≤◌, Bool, true, false, cond, List, [], ◌∷◌, length, refl, ap, ap₂}
use Rattle.std.proofs.Common.{length-append, arith}
use Rattle.std.proofs.lemmas.Bool.{eqb-true, le-leb, leb-true}
use Rattle.std.proofs.lemmas.List.Sums.{sum_by-cons}
use Rattle.hp_outside.specs.Lines.{is_line_feed, lines_of, put_first}
use Rattle.hp_outside.specs.WholeLines.{text_of_lines}
use Rattle.command_frame.specs.FirstFault.{bytes_of_lines, is_ended}

-- lines have so many bytes, each with its line feed
text_bytes : (lines : List (List ℕ)) → length (text_of_lines lines) ≡ bytes_of_lines lines
text_bytes [] = refl
text_bytes (line ∷ lines) =
    omega (
      arith,
      length-append line (10 ∷ text_of_lines lines),
      text_bytes lines,
      sum_by-cons (λ each. length each + 1) line lines,
    )

-- bytes that have room for a line feed behind each of their lines have these
whole_by_length : (bytes : List ℕ) → length (text_of_lines (lines_of bytes)) ≤ length bytes
    → bytes ≡ text_of_lines (lines_of bytes)
whole_by_length [] room = refl
whole_by_length (b ∷ bytes) room = by (is_line_feed b) refl (lines_of bytes) (whole_by_length bytes) room
  where
    by : (t : Bool) → is_line_feed b ≡ t → (lines : List (List ℕ))
        → (length (text_of_lines lines) ≤ length bytes → bytes ≡ text_of_lines lines)
        → length (text_of_lines (cond t ([] ∷ lines) (put_first b lines))) ≤ length (b ∷ bytes)
        → b ∷ bytes ≡ text_of_lines (cond t ([] ∷ lines) (put_first b lines))
    by true is lines whole room = ap₂ (λ x xs. x ∷ xs) (eqb-true b 10 is) (whole (omega (arith, room)))
    by false is [] whole room = absurd (omega (arith, room, ap length (whole (omega arith))))
    by false is (line ∷ lines) whole room = ap (λ rest. b ∷ rest) (whole (omega (arith, room)))

-- the last line ended with its line feed exactly where the bytes are the lines, each with its own
pub ended_text : (bytes : List ℕ) → is_ended (length bytes) (lines_of bytes) ≡ true
    → bytes ≡ text_of_lines (lines_of bytes)
ended_text bytes ended =
    let room : bytes_of_lines (lines_of bytes) ≤ length bytes = leb-true _ _ ended in
    whole_by_length bytes (omega (arith, room, text_bytes (lines_of bytes)))

pub text_ended : (bytes : List ℕ) → bytes ≡ text_of_lines (lines_of bytes)
    → is_ended (length bytes) (lines_of bytes) ≡ true
text_ended bytes is = le-leb _ _ (omega (arith, ap length is, text_bytes (lines_of bytes)))
