-- The bars of a graph. A column shows its last peak, else its last detailed snapshot, else its last
-- other one.
use Rattle.std.specs.Prelude.{ℕ, suc, zero, Bool, true, false, ◌&&◌, nat_eq, if◌then◌else◌, List, [], ◌∷◌, Option, Some}
use Rattle.std.specs.Prelude.{None, option_map}
use Rattle.std.specs.Option.{option_or}
use Rattle.massif_file.specs.declared.profile.HeapTree.{HeapTree}
use Rattle.massif_file.specs.declared.profile.HeapTree.TheVariants.{Empty, Detailed, Peak}
use Rattle.massif_file.specs.declared.profile.Snap.{Snap}
use Rattle.ms_print.specs.declared.bars.Bar.{Bar}
use Rattle.ms_print.specs.declared.plot.Plot.{Plot}
use Rattle.ms_print.specs.Plots.{column_at, height_at}
use Rattle.ms_print.specs.Sums.{sum_of}

-- the bar of a snapshot
abbrev pub bar_for : Plot → Snap → Bar
bar_for plot snap = record { height = height_at plot (sum_of snap); mark = snap.mark }

-- the last of the elements that passes
abbrev pub last_such : {X : Type 0} → (X → Bool) → List X → Option X
last_such passes [] = None
last_such passes (x ∷ xs) = option_or (last_such passes xs) (if passes x then Some x else None)

-- the same mark
abbrev pub same_mark : HeapTree → HeapTree → Bool
same_mark Empty Empty = true
same_mark Detailed Detailed = true
same_mark Peak Peak = true
same_mark _ _ = false

-- the snapshot has this mark, and stands in column x
abbrev pub stands_in : Plot → ℕ → HeapTree → Snap → Bool
stands_in plot x mark snap = same_mark mark snap.mark && nat_eq (column_at plot snap.time) x

-- The snapshot that column x shows: the last peak that stands there, where there is none the last
-- detailed one, and where there is none of these the last one without a tree.
unfoldable pub shown_in : Plot → List Snap → ℕ → Option Snap
shown_in plot snaps x =
    option_or (last_such (stands_in plot x Peak) snaps)
    (option_or (last_such (stands_in plot x Detailed) snaps)
    (last_such (stands_in plot x Empty) snaps))

-- the bar of column x, where it has one
abbrev pub bar_in : Plot → List Snap → ℕ → Option Bar
bar_in plot snaps x = option_map (bar_for plot) (shown_in plot snaps x)

-- the bar of column x, and where it has none the nearest one to the left
abbrev pub nearest_bar : Plot → List Snap → ℕ → Option Bar
nearest_bar plot snaps zero = None
nearest_bar plot snaps (suc x) = option_or (bar_in plot snaps (suc x)) (nearest_bar plot snaps x)
