-- Bytes to the right of a width have blanks before them up to it; longer ones stand whole.
use Rattle.std.specs.Prelude.{ℕ, ◌-◌, List, ◌++◌, length, replicate}

-- blanks up to the width, and the bytes; bytes that are longer stand whole
abbrev pub right_aligned : ℕ → List ℕ → List ℕ
right_aligned width bytes = replicate (width - length bytes) 32 ++ bytes
