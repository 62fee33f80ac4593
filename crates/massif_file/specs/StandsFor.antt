-- A reader stands for lines where its progress is theirs and none of them was refused.
use Rattle.std.specs.Prelude.{◌≡◌, ℕ, List, None}
use Rattle.massif_file.specs.Progress.{Progress, progress_of, fault_in}

-- A reader that is so far was given these lines and has refused none.
pub record StandsFor (reader : Progress) (lines : List (List ℕ)) : Type 0 where
  pub progress : reader ≡ progress_of lines
  pub taken : fault_in (progress_of lines) ≡ None
