-- Whole lines in front of other bytes are the first lines of them all.
use Rattle.std.proofs.Common.{◌≡◌, ◌≢◌, ℕ, suc, Bool, true, false, cond, not, if◌then◌else◌, ◌+◌, ◌≤◌, List, [], ◌∷◌}
use Rattle.std.proofs.Common.{◌++◌, Option, IfSome, None, Some, length, take, drop, refl, sym, ap, subst, ◌∙◌, arith}
use Rattle.std.proofs.Common.{append_assoc, length-append, length-take, ne_eqb, All}
use Rattle.std.proofs.lemmas.List.{take-append-drop}
use Rattle.std.proofs.lemmas.Bool.Decides.{nat_tests}
use Rattle.std.proofs.lemmas.List.Elements.{All-cons, All-head, All-nil, All-tail}
use Rattle.std.proofs.Math.Seq.{take-length}
use Rattle.std.specs.List.{position_or_len}
use Rattle.std.specs.Io.KnownBytes.{prepend_known}
use Rattle.hp_outside.specs.Lines.{is_line_feed, lines_of}
use Rattle.hp_outside.specs.declared.span.Span.{Span}
use Rattle.hp_outside.specs.WholeLines.{IsLineText, IsWholeLines, text_of_lines}
use Rattle.hp_outside.proofs.Known.{prepend_known-append}

-- one line with its line feed
lines_of-line : (line rest : List ℕ) → IsLineText line → lines_of (line ++ (10 ∷ rest)) ≡ line ∷ lines_of rest
lines_of-line [] rest text = refl
lines_of-line (byte ∷ line) rest text =
    let other : byte ≢ 10 = All-head (λ b. b ≢ 10) byte line text in
    rw (ne_eqb byte 10 other, lines_of-line line rest (All-tail (λ b. b ≢ 10) byte line text))

-- all of them
pub lines_of-text : (lines : List (List ℕ)) (rest : List ℕ) → All IsLineText lines
    → lines_of (text_of_lines lines ++ rest) ≡ lines ++ lines_of rest
lines_of-text [] rest texts = refl
lines_of-text (line ∷ lines) rest texts =
    ap lines_of (append_assoc line (10 ∷ text_of_lines lines) rest)
    ∙ (lines_of-line line (text_of_lines lines ++ rest) (All-head IsLineText line lines texts)
    ∙ ap (λ l. line ∷ l) (lines_of-text lines rest (All-tail IsLineText line lines texts)))

-- what stands behind them is left
pub lines_passed : (kept new_kept : List ℕ) (count : ℕ) (lines : List (List ℕ)) (left : List ℕ)
    → new_kept ≡ drop count kept → All IsLineText lines → take count kept ≡ text_of_lines lines
    → lines_of (kept ++ left) ≡ lines ++ lines_of (new_kept ++ left)
lines_passed kept new_kept count lines left dropped texts is =
    let whole : text_of_lines lines ++ new_kept ≡ kept =
    ap (λ l. l ++ new_kept) (sym is) ∙ (ap (λ l. take count kept ++ l) dropped ∙ take-append-drop count kept) in
    ap (λ l. lines_of (l ++ left)) (sym whole)
    ∙ (ap lines_of (append_assoc (text_of_lines lines) new_kept left) ∙ lines_of-text lines (new_kept ++ left) texts)

-- the rest of the file, with the bytes that were passed in front
pub rest_passed : (kept new_kept : List ℕ) (count : ℕ) (left : Option (List ℕ)) → new_kept ≡ drop count kept
    → prepend_known (take count kept) (prepend_known new_kept left) ≡ prepend_known kept left
rest_passed kept new_kept count left dropped =
    prepend_known-append left (take count kept) new_kept
    ∙ ap (λ l. prepend_known l left) (ap (λ l. take count kept ++ l) dropped ∙ take-append-drop count kept)

-- a line has a byte at least
lines_within : (lines : List (List ℕ)) → length lines ≤ length (text_of_lines lines)
lines_within [] = omega arith
lines_within (line ∷ lines) = omega (arith, lines_within lines, length-append line (10 ∷ text_of_lines lines))

-- so a front has no more lines than bytes
pub few_lines : (kept : List ℕ) (count number : ℕ) → IsWholeLines (take count kept) number → number ≤ count
few_lines kept count number whole =
    omega (arith, lines_within whole.lines, whole.count, ap length whole.text, length-take count kept)

-- what was given grows by what is passed
pub given_passed : (line_ended : Bool) (passed count : ℕ)
    → (if line_ended then passed + count else passed + count + 1) ≡ (if line_ended then passed else passed + 1) + count
given_passed true passed count = refl
given_passed false passed count = omega arith

-- and is one byte more than what was passed at most
pub given_within : (line_ended : Bool) (passed : ℕ) → (if line_ended then passed else passed + 1) ≤ passed + 1
given_within true passed = omega arith
given_within false passed = omega arith

-- no line feed stands before the first one
before-feed : (bytes : List ℕ) → IsLineText (take (position_or_len is_line_feed bytes) bytes)
before-feed [] = All-nil (λ b. b ≢ 10)
before-feed (byte ∷ bytes) = by (is_line_feed byte) refl (before-feed bytes)
  where
    by : (t : Bool) → is_line_feed byte ≡ t → IsLineText (take (position_or_len is_line_feed bytes) bytes)
        → IsLineText (take (cond (not t) (1 + position_or_len is_line_feed bytes) 0) (byte ∷ bytes))
    by true is rest = All-nil (λ b. b ≢ 10)
    by false is rest =
        let one : suc (position_or_len is_line_feed bytes) ≡ 1 + position_or_len is_line_feed bytes = omega arith in
        subst (λ n. IsLineText (take n (byte ∷ bytes))) one
        (All-cons (λ b. b ≢ 10) byte (take (position_or_len is_line_feed bytes) bytes) (grind (arith, nat_tests, is))
        rest)

-- a line before the first line feed has none, nor has one in bytes that have none
pub line-one : (kept line : List ℕ) (count : ℕ) → position_or_len is_line_feed kept ≡ count → line ≡ take count kept
    → IsLineText line
line-one kept line count place is = subst IsLineText (ap (λ n. take n kept) place ∙ sym is) (before-feed kept)

pub last-one : (kept line : List ℕ) (place : Option Span) → position_or_len is_line_feed kept ≡ length kept
    → IfSome place (λ span. line ≡ kept) → IfSome place (λ span. IsLineText line)
last-one kept line None none is = tt
last-one kept line (Some span) none is = line-one kept line (length kept) none (is ∙ sym (take-length kept))
