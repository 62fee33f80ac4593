-- Files were read to their ends where there is a moment behind each at which it was opened and
-- nothing of it is left, with no failed call before, and the next one was opened behind that.
use Rattle.std.specs.Prelude.{◌≡◌, ℕ, true, List, [], ◌∷◌, Option, IsSome}
use Rattle.hp_outside.specs.Folder.{Folder, file_of}
use Rattle.hp_outside.specs.Taken.{WhereTold}
use Rattle.command_frame.specs.Moment.{Moment, Opened}

-- a file of this name was opened, no call failed, and nothing of it is left
pub record IsReadToEnd (files : Option Folder) (name : List ℕ) (before now : Moment) : Type 0 where
  pub found : WhereTold files (λ folder. IsSome (file_of folder name))
  pub opened : Opened before now true
  pub sound : now.faults ≡ before.faults
  pub ended : WhereTold now.left (λ left. left ≡ [])

-- each file of these names was, before the next one was opened, and behind the last nothing more was called
abbrev pub AreReadToEnd : Option Folder → List (List ℕ) → Moment → Moment → Type 0
AreReadToEnd files [] before now = now ≡ before
AreReadToEnd files (name ∷ names) before now =
    (mid : Moment) × IsReadToEnd files name before mid × AreReadToEnd files names mid now
