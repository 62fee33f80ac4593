-- Bytes are so many whole lines where they are those lines, none of which holds a line feed, each
-- with one behind it.
use Rattle.std.specs.Prelude.{◌≡◌, ◌≢◌, ℕ, List, [], ◌∷◌, ◌++◌, length, All}

-- no line feed stands in it
abbrev pub IsLineText : List ℕ → Type 0
IsLineText line = All (λ byte. byte ≢ 10) line

-- the bytes of lines, each with a line feed behind it
abbrev pub text_of_lines : List (List ℕ) → List ℕ
text_of_lines [] = []
text_of_lines (line ∷ lines) = line ++ (10 ∷ text_of_lines lines)

-- bytes that are so many whole lines
pub record IsWholeLines (bytes : List ℕ) (number : ℕ) : Type 0 where
  pub lines : List (List ℕ)
  pub texts : All IsLineText lines
  pub text : bytes ≡ text_of_lines lines
  pub count : length lines ≡ number
