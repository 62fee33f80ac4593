-- How the bar of a column goes on with one snapshot more, for private clauses.
use Rattle.std.specs.Prelude.{◌≡◌, ℕ, ◌+◌, ◌<◌, ◌≤◌, nat_lt, if◌then◌else◌, List, length, slice_index_or, Option, Some}
use Rattle.std.specs.Prelude.{None}
use Rattle.massif_file.specs.declared.profile.HeapTree.{HeapTree}
use Rattle.massif_file.specs.declared.profile.HeapTree.TheVariants.{Empty, Detailed, Peak}
use Rattle.massif_file.specs.declared.profile.Snap.{Snap}
use Rattle.massif_file.specs.IsWritable.{IsWritableSnap}
use Rattle.ms_print.specs.declared.bars.Bar.{Bar}
use Rattle.ms_print.specs.declared.plot.Plot.{Plot}
use Rattle.ms_print.specs.Bars.{bar_in}
use Rattle.ms_print.specs.Sums.{sum_of}

-- the snapshot's numbers fit, and it stands in the graph
pub record IsPlotted (plot : Plot) (snap : Snap) : Type 0 where
  pub numbers : IsWritableSnap snap
  pub in_time : snap.time ≤ plot.last
  pub below_peak : sum_of snap ≤ plot.peak

abbrev pub rank_of : HeapTree → ℕ
rank_of Empty = 0
rank_of Detailed = 1
rank_of Peak = 2

abbrev pub better : Option Bar → Bar → Bar
better None later = later
better (Some bar) later = if nat_lt (rank_of later.mark) (rank_of bar.mark) then bar else later

-- the bars of all columns, from the first on
pub record AreBars (plot : Plot) (snaps : List Snap) (bars : List (Option Bar)) : Type 0 where
  pub count : length bars ≡ plot.width
  pub each : (k : ℕ) → k < plot.width → slice_index_or bars k None ≡ bar_in plot snaps (k + 1)
