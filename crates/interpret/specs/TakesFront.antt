-- What an interpreter does with a line at the front of some bytes.
use Rattle.std.specs.Prelude.{◌≡◌, ℕ, ◌+◌, ◌≤◌, List, ◌∷◌, ◌++◌, length}
use Rattle.ht_lines.specs.OneLine.{IsOneLine}
use Rattle.interpret.specs.InterpreterState.{InterpreterState}
use Rattle.interpret.specs.NextLine.{AddsLine}

-- the first line of these bytes has so many bytes with its line feed, 53 at most, and it was taken
pub record TakesFront (old new : InterpreterState) (ready : List ℕ) (bytes : ℕ)
    (before after : List ℕ) : Type 0 where
  pub line : List ℕ
  pub rest : List ℕ
  pub one_line : IsOneLine line
  pub short : length line ≤ 52
  pub split : ready ≡ line ++ (10 ∷ rest)
  pub size : bytes ≡ length line + 1
  pub adds : AddsLine old new line before after
