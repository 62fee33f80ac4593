-- What is to be recorded: how many events there may be, the text of the modules, and a script for
-- each thread. Two jobs are the same work where their scripts and modules are the same.
use Rattle.std.specs.Prelude.{◌≡◌, ℕ, List, [], ◌∷◌, ◌++◌}
use Rattle.record_scripts.specs.Turns.{Turn}

-- how many events all scripts may have together, the text of the modules, and the script of each thread, from thread 0
pub record Job : Type 0 where
  pub limit : ℕ
  pub modules : List ℕ
  pub scripts : List (List Turn)

-- two jobs have the same scripts and modules, however many events there may be
pub record IsSameWork (one other : Job) : Type 0 where
  pub same_scripts : one.scripts ≡ other.scripts
  pub same_modules : one.modules ≡ other.modules

-- the script that was begun last
abbrev pub last_script : List (List Turn) → List Turn
last_script [] = []
last_script (script ∷ []) = script
last_script (script ∷ next ∷ more) = last_script (next ∷ more)

-- the scripts with one turn more in the last of them
abbrev pub in_last : List (List Turn) → Turn → List (List Turn)
in_last [] turn = []
in_last (script ∷ []) turn = (script ++ turn ∷ []) ∷ []
in_last (script ∷ next ∷ more) turn = script ∷ in_last (next ∷ more) turn
