-- What is made of the lines of a file: the fault of each and of the end, the bytes that each gives,
-- and what all of them give.
use Rattle.std.specs.Prelude.{ℕ, Bool, List, [], ◌∷◌, ◌++◌, Option}
use Rattle.command_frame.specs.Told.{Told}

-- what is made of all lines: the rest of the output, or a fault without a line
pub data Verdict : Type 0 where
  Writes : List ℕ → Verdict
  Refuses : Told → Verdict

pub record Report : Type 0 where
  -- the fault of what a line says after earlier lines
  pub line_fault : List (List ℕ) → List ℕ → Option Told
  -- the fault of the end of a file with these lines, the last of which ended with its line feed or didn't
  pub end_fault : List (List ℕ) → Bool → Option Told
  -- the bytes that a line after earlier lines gives to standard output
  pub gains : List (List ℕ) → List ℕ → List ℕ
  -- what is made of all lines
  pub verdict : List (List ℕ) → Verdict

-- the bytes that lines after earlier lines give
abbrev pub gains_from : Report → List (List ℕ) → List (List ℕ) → List ℕ
gains_from report earlier [] = []
gains_from report earlier (line ∷ lines) = report.gains earlier line
    ++ gains_from report (earlier ++ line ∷ []) lines

-- the bytes that lines give
abbrev pub written : Report → List (List ℕ) → List ℕ
written report lines = gains_from report [] lines
