-- The graph, the list of detailed snapshots, the table and the page.
use Rattle.std.specs.Prelude.{ℕ, zero, suc, ◌+◌, ◌-◌, nat_eq, if◌then◌else◌, List, [], ◌++◌, codes, map, replicate}
use Rattle.std.specs.List.{range_with_len}
use Rattle.hp_num.specs.Right.{right_aligned}
use Rattle.massif_file.specs.declared.profile.TimeUnit.{TimeUnit}
use Rattle.massif_file.specs.declared.profile.TimeUnit.TheVariants.{Bytes}
use Rattle.massif_file.specs.declared.profile.Snap.{Snap}
use Rattle.ms_print.specs.declared.plot.Plot.{Plot}
use Rattle.ms_print.specs.Cells.{cell_at}
use Rattle.ms_print.specs.Labels.{label_text, unit_label}

-- what stands before the cells of row y: the label of the greatest sum before the top row
unfoldable pub edge_text : Plot → ℕ → List ℕ
edge_text plot y = if nat_eq y plot.height
    then right_aligned 5 (label_text Bytes plot.peak) ++ codes "^" else codes "     |"

-- the cells of row y
unfoldable pub row_cells : Plot → List Snap → ℕ → List ℕ
row_cells plot snaps y = map (λ k. cell_at plot snaps (k + 1) y) (range_with_len 0 plot.width)

unfoldable pub row_text : Plot → List Snap → ℕ → List ℕ
row_text plot snaps y = edge_text plot y ++ (row_cells plot snaps y ++ codes "\n")

-- the rows from row y down to row 1
abbrev pub rows_text : Plot → List Snap → ℕ → List ℕ
rows_text plot snaps zero = []
rows_text plot snaps (suc y) = row_text plot snaps (suc y) ++ rows_text plot snaps y

-- the line below the rows, and its labels
unfoldable pub axis_text : TimeUnit → Plot → List ℕ
axis_text unit plot =
    codes "   0 +"
    ++ (replicate (plot.width - 1) 45
    ++ (codes ">" ++ (unit_label unit plot.last
    ++ (codes "\n     0"
    ++ (right_aligned (plot.width - 1) (label_text unit plot.last) ++ codes "\n\n")))))

-- the unit of the greatest sum, the rows from the top, and the line below them
unfoldable pub graph_text : TimeUnit → Plot → List Snap → List ℕ
graph_text unit plot snaps = codes "    "
    ++ (unit_label Bytes plot.peak
    ++ (codes "\n" ++ (rows_text plot snaps plot.height ++ axis_text unit plot)))
