-- The few orders of which one begins with given lines, where any does. A front begins the recording
-- of the order that it spells, with at most two entries of one thread more.
use Rattle.std.specs.Prelude.{◌≡◌, ◌⊎◌, ℕ, List, [], ◌∷◌, ◌++◌}
use Rattle.record_scripts.specs.Job.{Job}
use Rattle.record_book.specs.Orders.{IsUnder}
use Rattle.record_book.specs.Spelled.{spelled_by}
use Rattle.order_check.specs.Fronts.{Begins}

-- at most two entries, both of this thread
abbrev pub AreFew : ℕ → List ℕ → Type 0
AreFew thread entries = (entries ≡ []) ⊎ (entries ≡ thread ∷ []) ⊎ (entries ≡ thread ∷ thread ∷ [])

-- the recording of the order that the lines spell, with at most two entries of one thread more, begins with them
pub record BeginsAsSpelled (job : Job) (lines : List (List ℕ)) : Type 0 where
  pub thread : ℕ
  pub few : List ℕ
  pub are_few : AreFew thread few
  pub under : IsUnder job.scripts (spelled_by 0 lines ++ few)
  pub begins : Begins job (spelled_by 0 lines ++ few) lines
