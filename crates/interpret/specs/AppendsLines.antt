-- How lines, and the numbers in them, are appended to an output, for private clauses.
use Rattle.std.specs.Prelude.{◌≡◌, ℕ, List, ◌++◌, map}
use Rattle.std.specs.Global.{Vec}
use Rattle.ht_lines.specs.Content.{Content}
use Rattle.ht_lines.specs.Written.{spelled, written}
use Rattle.interpret.specs.Interpreted.{text_of}

-- the lines that say this in a file version stand at the end of what was written
abbrev pub AppendsLines : ℕ → List Content → Vec ℕ → Vec ℕ → Type 0
AppendsLines version said before after =
    after.items ≡ before.items ++ text_of (map (written version) said)

-- the same in every file version
abbrev pub AppendsInEach : List Content → Vec ℕ → Vec ℕ → Type 0
AppendsInEach said before after = (version : ℕ) → AppendsLines version said before after

-- numbers are, each behind a blank
abbrev pub AppendsNumbers : List ℕ → Vec ℕ → Vec ℕ → Type 0
AppendsNumbers numbers before after = after.items ≡ before.items ++ spelled numbers
