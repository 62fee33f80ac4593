use Rattle.std.proofs.Common.{◌≡◌, ◌++◌, drop}
use Rattle.hp_num.specs.Extends.{Extends}
use Rattle.ms_print.specs.TableText.{snap_rows, table_text}
use Rattle.ms_print.proofs.table.put_table.Given as goal

abbrev pub invariant-each_snap : goal.invariant-each_snap
invariant-each_snap l = record {
  kept : Extends l.fn.out.items l.out.items;
  written : l.out.items ++ snap_rows l.threshold l.unit l.place (drop l.place l.snaps)
      ≡ l.fn.out.items ++ table_text l.threshold l.unit l.snaps;
}
