use Rattle.std.proofs.Common.{◌≡◌, ◌+◌, ◌++◌, map}
use Rattle.std.specs.List.{range_with_len}
use Rattle.ms_print.specs.Bars.{nearest_bar}
use Rattle.ms_print.specs.Cells.{cell_at}
use Rattle.ms_print.proofs.graph.put_cells.Given as goal

abbrev pub invariant-each_column : goal.invariant-each_column
invariant-each_column l = record {
  nearest : l.nearest ≡ nearest_bar l.fn.plot l.snaps l.bar-index;
  written : l.out.items
      ≡ l.initial.out.items ++ map (λ k. cell_at l.fn.plot l.snaps (k + 1) l.y) (range_with_len 0 l.bar-index);
}
