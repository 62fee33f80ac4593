-- How many snapshots a page has, and which of them have a tree.
use Rattle.std.specs.Prelude.{ℕ, suc, Bool, true, false, if◌then◌else◌, List, [], ◌∷◌, ◌++◌, codes, decimal, length}
use Rattle.std.specs.List.{join_by}
use Rattle.massif_file.specs.declared.profile.HeapTree.{HeapTree}
use Rattle.massif_file.specs.declared.profile.HeapTree.TheVariants.{Empty, Detailed, Peak}
use Rattle.massif_file.specs.declared.profile.Snap.{Snap}

-- the number of a snapshot, and whether it is the peak
abbrev pub marked_number : ℕ → HeapTree → List ℕ
marked_number n Empty = decimal n
marked_number n Detailed = decimal n
marked_number n Peak = decimal n ++ codes " (peak)"

-- a snapshot with this mark has a tree
abbrev pub has_tree : HeapTree → Bool
has_tree Empty = false
has_tree Detailed = true
has_tree Peak = true

-- the number of a snapshot that has a tree
abbrev pub number_text : ℕ → HeapTree → List (List ℕ)
number_text n mark = if has_tree mark then marked_number n mark ∷ [] else []

-- these numbers of snapshots that are numbered from this one on
abbrev pub number_texts : ℕ → List Snap → List (List ℕ)
number_texts n [] = []
number_texts n (snap ∷ snaps) = number_text n snap.mark ++ number_texts (suc n) snaps

-- them, with a comma between each two
unfoldable pub numbers_text : List Snap → List ℕ
numbers_text snaps = join_by (λ text. text) (codes ", ") (number_texts 0 snaps)

unfoldable pub snapshots_text : List Snap → List ℕ
snapshots_text snaps =
    codes "Number of snapshots: "
    ++ (decimal (length snaps)
    ++ (codes "\n Detailed snapshots: [" ++ (numbers_text snaps ++ codes "]\n\n")))
