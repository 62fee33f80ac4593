-- Where a snapshot stands in a graph, and how high. A snapshot's column is its share of the end,
-- from column 1 on, and its height its share of the peak, rounded down.
use Rattle.std.specs.Prelude.{ℕ, ◌+◌, ◌-◌, ◌*◌, ◌/◌, nat_eq, if◌then◌else◌, List}
use Rattle.massif_file.specs.declared.profile.Snap.{Snap}
use Rattle.massif_file.specs.LastTime.{last_time}
use Rattle.ms_print.specs.declared.plot.Plot.{Plot}
use Rattle.ms_print.specs.Sums.{greatest_sum}

-- the graph of some snapshots with so many columns and rows: up to the last time, and up to the greatest sum
abbrev pub plot_of : ℕ → ℕ → List Snap → Plot
plot_of width height snaps
    = record { width = width; height = height; last = last_time snaps; peak = greatest_sum snaps }

-- the column of a time, from 1 at time 0 to the last one at the last time
unfoldable pub column_at : Plot → ℕ → ℕ
column_at plot time = if nat_eq plot.last 0 then 1 else 1 + time * (plot.width - 1) / plot.last

-- how many rows a sum fills, all at the greatest one
unfoldable pub height_at : Plot → ℕ → ℕ
height_at plot sum = if nat_eq plot.peak 0 then 0 else sum * plot.height / plot.peak
