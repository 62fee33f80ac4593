-- The line of an instruction as a line of numbers.
use Rattle.std.proofs.Common.{◌≡◌, ◌≢◌, ℕ, ◌+◌, ◌<◌, ◌≤◌, false, All, List, [], ◌∷◌, ◌++◌, length, ap, ◌∙◌, inl, inr}
use Rattle.std.proofs.Common.{append-nil, length-append, arith}
use Rattle.std.proofs.lemmas.Fmt.{hex_one_digit}
use Rattle.std.proofs.lemmas.List.Elements.{All-append, All-cons, All-weaker}
use Rattle.hp_num.specs.Digits.{IsLowerHexDigit}
use Rattle.hp_num.specs.Hexadecimal.{hexadecimal}
use Rattle.hp_num.specs.Spelled.{spelled}
use Rattle.hp_outside.specs.WholeLines.{IsLineText}
use Rattle.trace_gen.specs.GeneratedTrace.{instruction_line}
use Rattle.trace_gen.specs.PutLine.{PutsLine}

-- digits have no line feed
digits_text : (text : List ℕ) → All IsLowerHexDigit text → IsLineText text
digits_text text digits = All-weaker IsLowerHexDigit (λ b. b ≢ 10) by text digits
  where
    by : (b : ℕ) → IsLowerHexDigit b → b ≢ 10
    by b (inl digit) is = absurd (omega (arith, digit.0, is))
    by b (inr letter) is = absurd (omega (arith, letter.0, is))

-- a byte above the line feed, and others
more_text : (b : ℕ) (text : List ℕ) → 10 < b → IsLineText text → IsLineText (b ∷ text)
more_text b text above rest = All-cons (λ c. c ≢ 10) b text (λ is. absurd (omega (arith, above, is))) rest

-- the 1 between both numbers is one digit
pub instruction_put : (before now : List ℕ) (number : ℕ) → All IsLowerHexDigit (hexadecimal (number + 1))
    → All IsLowerHexDigit (hexadecimal (number + 2))
    → length (hexadecimal (number + 1)) ≤ 16 → length (hexadecimal (number + 2)) ≤ 16
    → now ≡ before ++ (105 ∷ (spelled ((number + 1) ∷ 1 ∷ (number + 2) ∷ []) ++ (10 ∷ [])))
    → PutsLine before now (instruction_line number)
instruction_put before now number first_digits second_digits few_first few_second is =
    let first : List ℕ = hexadecimal (number + 1) in
    let second : List ℕ = hexadecimal (number + 2) in
    let one : hexadecimal 1 ≡ 49 ∷ [] = hex_one_digit false 1 (omega arith) in
    let tail : IsLineText (32 ∷ 49 ∷ 32 ∷ second) =
    more_text 32 (49 ∷ 32 ∷ second) (omega arith)
    (more_text 49 (32 ∷ second) (omega arith)
    (more_text 32 second (omega arith) (digits_text second second_digits))) in
    record {
      text =
          is
          ∙ (ap (λ end. before ++ (105 ∷ 32 ∷ ((first ++ (32 ∷ (hexadecimal 1 ++ (32 ∷ end)))) ++ (10 ∷ []))))
          (append-nil second)
          ∙ ap (λ mid. before ++ (105 ∷ 32 ∷ ((first ++ (32 ∷ (mid ++ (32 ∷ second)))) ++ (10 ∷ [])))) one);
      one_line =
          more_text 105 (32 ∷ (first ++ (32 ∷ 49 ∷ 32 ∷ second))) (omega arith)
          (more_text 32 (first ++ (32 ∷ 49 ∷ 32 ∷ second)) (omega arith)
          (All-append (λ c. c ≢ 10) first (32 ∷ 49 ∷ 32 ∷ second) (digits_text first first_digits) tail));
      short = omega (arith, few_first, few_second, length-append first (32 ∷ 49 ∷ 32 ∷ second));
    }
