-- The next line of a file, and what stands behind it.
use Rattle.std.proofs.Common.{◌≡◌, ◌≢◌, ℕ, ◌+◌, ◌<◌, ◌≤◌, ◌⊎◌, inl, inr, true, false, List, [], ◌∷◌, ◌++◌, length}
use Rattle.std.proofs.Common.{get_or, ap, ◌∙◌, subst, arith, length-append, length-take}
use Rattle.std.specs.List.{position_or_len}
use Rattle.std.proofs.lemmas.Bool.{cases_lt}
use Rattle.std.proofs.lemmas.Bool.Decides.{nat_tests}
use Rattle.std.proofs.lemmas.List.{drop_all, take_all}
use Rattle.std.proofs.lemmas.List.Sums.{passes_at_first, split_at_first}
use Rattle.hp_outside.specs.Lines.{after_line, first_line, is_line_feed}
use Rattle.hp_outside.specs.NextLine.{has_line_feed}
use Rattle.hp_outside.specs.WholeLines.{text_of_lines}
use Rattle.order_check.specs.LengthFaults.{HasNoLengthFault, InputTooLongAt, LineTooLongAt}
use Rattle.order_check.proofs.LineTexts.{text-push}

-- a line with its line feed, and one without
pub with-feed : (rest : List ℕ) → has_line_feed rest ≡ true → rest ≡ first_line rest ++ (10 ∷ after_line rest)
with-feed rest is =
    let shorter : length (first_line rest) < length rest = grind (arith, nat_tests, is) in
    let within : position_or_len is_line_feed rest < length rest =
    omega (arith, shorter, length-take (position_or_len is_line_feed rest) rest) in
    let passes = passes_at_first is_line_feed rest 0 within in
    let feed : get_or rest (position_or_len is_line_feed rest) 0 ≡ 10 = grind (arith, nat_tests, passes) in
    split_at_first is_line_feed rest 0 within ∙ ap (λ (b : ℕ). first_line rest ++ (b ∷ after_line rest)) feed

pub without-feed : (rest : List ℕ) → has_line_feed rest ≡ false → (first_line rest ≡ rest) × (after_line rest ≡ [])
without-feed rest is =
    let longer : length rest ≤ length (first_line rest) = grind (arith, nat_tests, is) in
    let past : length rest ≤ position_or_len is_line_feed rest =
    omega (arith, longer, length-take (position_or_len is_line_feed rest) rest) in (
      take_all (position_or_len is_line_feed rest) rest past,
      drop_all (position_or_len is_line_feed rest + 1) rest (omega (arith, past)),
    )

-- a text of lines is longer than the same without its last line feed
pub cut-text : (lines : List (List ℕ)) (line bytes : List ℕ) → bytes ≡ text_of_lines lines ++ line
    → bytes ≢ text_of_lines (lines ++ line ∷ [])
cut-text lines line bytes is same =
    let whole : text_of_lines (lines ++ line ∷ []) ++ [] ≡ text_of_lines lines ++ (line ++ 10 ∷ []) =
    text-push lines line [] in
    omega (
      arith,
      ap length is,
      ap length same,
      ap length whole,
      length-append (text_of_lines (lines ++ line ∷ [])) [],
      length-append (text_of_lines lines) line,
      length-append (text_of_lines lines) (line ++ 10 ∷ []),
      length-append line (10 ∷ []),
    )

-- one line more without a fault of its length
pub lengths-more : (input line : ℕ) (bytes : List ℕ) (count : ℕ) → HasNoLengthFault input line bytes count
    → ¬ (LineTooLongAt input line bytes count) → ¬ (InputTooLongAt input line bytes count)
    → HasNoLengthFault input line bytes (count + 1)
lengths-more input line bytes count good short within before less = by (cases_lt before count)
  where
    by : (before < count) ⊎ (count ≤ before)
        → ¬ (LineTooLongAt input line bytes before) × ¬ (InputTooLongAt input line bytes before)
    by (inl below) = good before below
    by (inr past) =
        let same : count ≡ before = omega (arith, less, past) in
        subst (λ (n : ℕ). ¬ (LineTooLongAt input line bytes n) × ¬ (InputTooLongAt input line bytes n)) same
        (short, within)
