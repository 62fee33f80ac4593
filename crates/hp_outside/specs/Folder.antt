-- A folder is a finite map from names to bytes. A store may tell its folder or not.
use Rattle.std.specs.Prelude.{◌≡◌, ◌≢◌, ℕ, List, Option}
use Rattle.std.specs.Ordering.{nat_cmp}
use Rattle.std.specs.Cmp.Lexicographic.{slice_cmp}
use Rattle.std.specs.FinMap.{FinMap, get}

-- a folder: a finite map from names, as lists of bytes, to files, as lists of bytes
abbrev pub Folder : Type 0
Folder = FinMap (slice_cmp nat_cmp) (List ℕ)

-- the file of a name, if the folder has the name
abbrev pub file_of : Folder → List ℕ → Option (List ℕ)
file_of folder name = get folder name

-- every other name has the file that it had
abbrev pub KeepsOthers : Folder → Folder → List ℕ → Type 0
KeepsOthers old new name = (other : List ℕ) → other ≢ name → file_of new other ≡ file_of old other
