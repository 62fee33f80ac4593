-- Plans that write nothing before all files were read.
use Rattle.std.specs.Prelude.{◌≡◌, ℕ, List, []}
use Rattle.command_frame.specs.Plan.{Plan, Document, Ends, Lines, Pieces}

abbrev pub IsSilent : Plan → Type 0
IsSilent (Ends verdict) = Unit {0}
IsSilent (Pieces text) = ⊥
IsSilent (Lines name report next)
    = ((earlier : List (List ℕ)) (line : List ℕ) → report.gains earlier line ≡ [])
    × ((lines : List (List ℕ)) → IsSilent (next lines))
IsSilent (Document name next) = (bytes : List ℕ) → IsSilent (next bytes)
