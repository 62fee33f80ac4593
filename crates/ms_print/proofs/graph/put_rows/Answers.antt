use Rattle.std.proofs.Common.{◌+◌, ◌-◌, arith}
use Rattle.hp_num.proofs.Laws.{extends_trans}
use Rattle.ms_print.specs.GraphText.{row_text, rows_text}
use Rattle.ms_print.proofs.Appends.{left-appended}
use Rattle.ms_print.proofs.RowLemmas.{rows-top}
use Rattle.ms_print.proofs.graph.put_rows.Goals as goal

pub each_row-preserved : goal.each_row-preserved
each_row-preserved c = record {
  kept =
      extends_trans c.args.out.now.items c.each_row.out.items c.put_row.new.out.items c.each_row.invariant.kept
      c.put_row.ensures.kept;
  written =
      left-appended c.each_row.out.items c.put_row.new.out.items
      (row_text c.args.plot c.args.snaps.now (c.each_row.below - 1 + 1))
      (rows_text c.args.plot c.args.snaps.now (c.each_row.below - 1))
      (rows_text c.args.plot c.args.snaps.now c.each_row.below) _
      c.in_ok-put_row.ensures.appended (rows-top c.args.plot c.args.snaps.now c.each_row.below (omega arith))
      c.each_row.invariant.written;
}

pub returns-in_err-put_row-clause-kept : goal.returns-in_err-put_row-clause-kept
returns-in_err-put_row-clause-kept c =
    extends_trans c.args.out.now.items c.each_row.out.items c.put_row.new.out.items c.each_row.invariant.kept
    c.put_row.ensures.kept

pub returns-clause-kept : goal.returns-clause-kept
returns-clause-kept c = c.each_row.invariant.kept
