-- The cells of a graph. A cell has the sign of its column's bar up to the bar's height; where the
-- column has none, that of the nearest bar to the left at that bar's height alone.
use Rattle.std.specs.Prelude.{ℕ, nat_le, nat_eq, if◌then◌else◌, List, Option, Some, None}
use Rattle.massif_file.specs.declared.profile.HeapTree.{HeapTree}
use Rattle.massif_file.specs.declared.profile.HeapTree.TheVariants.{Empty, Detailed, Peak}
use Rattle.massif_file.specs.declared.profile.Snap.{Snap}
use Rattle.ms_print.specs.declared.bars.Bar.{Bar}
use Rattle.ms_print.specs.declared.plot.Plot.{Plot}
use Rattle.ms_print.specs.Bars.{bar_in, nearest_bar}
use Rattle.ms_print.specs.declared.options.PageOptions.{PageOptions}
use Rattle.ms_print.specs.Plots.{plot_of}

-- '#' for a peak, '@' for a detailed snapshot, ':' for another
abbrev pub sign_of : HeapTree → ℕ
sign_of Peak = 35
sign_of Detailed = 64
sign_of Empty = 58

-- The cell in row y, from the bar of its column and the nearest one at it or to the left: a bar
-- fills its column up to its height, and goes on at its height to the right, as far as no column
-- has a bar.
unfoldable pub cell_of : Option Bar → Option Bar → ℕ → ℕ
cell_of (Some bar) nearest y = if nat_le y bar.height then sign_of bar.mark else 32
cell_of None (Some left) y = if nat_eq y left.height then sign_of left.mark else 32
cell_of None None y = 32

-- the cell in column x and row y, both from 1
abbrev pub cell_at : Plot → List Snap → ℕ → ℕ → ℕ
cell_at plot snaps x y = cell_of (bar_in plot snaps x) (nearest_bar plot snaps x) y

-- of the graph that a page with these options has of the snapshots
abbrev pub page_cell : PageOptions → List Snap → ℕ → ℕ → ℕ
page_cell options snaps x y = cell_at (plot_of options.x options.y snaps) snaps x y
