-- The table of a page: a row for each snapshot, and its tree.
use Rattle.std.specs.Prelude.{ℕ, suc, nat_eq, if◌then◌else◌, List, [], ◌∷◌, ◌++◌, codes, decimal, length, replicate}
use Rattle.hp_num.specs.Commas.{decimal_with_commas}
use Rattle.hp_num.specs.Right.{right_aligned}
use Rattle.massif_file.specs.declared.profile.TimeUnit.{TimeUnit}
use Rattle.massif_file.specs.declared.profile.TimeUnit.TheVariants.{Instructions, Milliseconds, Bytes, Events}
use Rattle.massif_file.specs.declared.profile.HeapTree.{HeapTree}
use Rattle.massif_file.specs.declared.profile.HeapTree.TheVariants.{Empty, Detailed, Peak}
use Rattle.massif_file.specs.declared.profile.Snap.{Snap}
use Rattle.ms_print.specs.Sums.{sum_of}
use Rattle.ms_print.specs.TreeText.{tree_text}

-- a line of 80 dashes
unfoldable pub rule_line : List ℕ
rule_line = replicate 80 45 ++ codes "\n"

-- the head of the column of times
abbrev pub time_head : TimeUnit → List ℕ
time_head Instructions = codes "time(i)"
time_head Milliseconds = codes "time(ms)"
time_head Bytes = codes "time(B)"
time_head Events = codes "time(e)"

-- the heads of the columns, between two rules
unfoldable pub head_text : TimeUnit → List ℕ
head_text unit =
    rule_line
    ++ (codes "  n "
    ++ (right_aligned 14 (time_head unit)
    ++ (codes "         total(B)   useful-heap(B) extra-heap(B)    stacks(B)\n" ++ rule_line)))

-- a number after a blank, in a column of this width
unfoldable pub column_text : ℕ → ℕ → List ℕ
column_text width n = codes " " ++ right_aligned width (decimal_with_commas n)

-- the number of a snapshot in the first column
abbrev pub number_column : ℕ → List ℕ
number_column n = right_aligned 3 (decimal n)

-- the row of a snapshot with its number
unfoldable pub snap_row : ℕ → Snap → List ℕ
snap_row n snap =
    number_column n
    ++ (column_text 14 snap.time
    ++ (column_text 16 (sum_of snap)
    ++ (column_text 16 snap.heap
    ++ (column_text 13 snap.extra ++ (column_text 12 snap.stacks ++ codes "\n")))))

-- the head stands again where rows follow
unfoldable pub head_before : TimeUnit → ℕ → List ℕ
head_before unit later = if nat_eq later 0 then [] else head_text unit

-- the tree of a snapshot, and an empty line
unfoldable pub snap_tree : ℕ → Snap → List ℕ
snap_tree threshold snap = tree_text (record { sum = sum_of snap; threshold = threshold }) snap.tree
    ++ codes "\n"

-- what stands below the row of a snapshot with this mark, where so many rows follow: its tree, and the head again
abbrev pub below_row : ℕ → TimeUnit → Snap → HeapTree → ℕ → List ℕ
below_row threshold unit snap Empty later = []
below_row threshold unit snap Detailed later = snap_tree threshold snap ++ head_before unit later
below_row threshold unit snap Peak later = snap_tree threshold snap ++ head_before unit later

-- the rows of snapshots, which are numbered from this one on, each with what stands below it
abbrev pub snap_rows : ℕ → TimeUnit → ℕ → List Snap → List ℕ
snap_rows threshold unit n [] = []
snap_rows threshold unit n (snap ∷ snaps) = snap_row n snap
    ++ (below_row threshold unit snap snap.mark (length snaps)
    ++ snap_rows threshold unit (suc n) snaps)

unfoldable pub table_text : ℕ → TimeUnit → List Snap → List ℕ
table_text threshold unit snaps = head_text unit ++ snap_rows threshold unit 0 snaps
