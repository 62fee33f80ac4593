use Rattle.std.proofs.Common.{◌≡◌, ◌++◌}
use Rattle.hp_num.specs.Extends.{Extends}
use Rattle.ms_print.specs.GraphText.{rows_text}
use Rattle.ms_print.proofs.graph.put_rows.Given as goal

abbrev pub invariant-each_row : goal.invariant-each_row
invariant-each_row l = record {
  kept : Extends l.initial.out.items l.out.items;
  written : l.out.items ++ rows_text l.plot l.snaps l.below
      ≡ l.initial.out.items ++ rows_text l.plot l.snaps l.plot.height;
}
