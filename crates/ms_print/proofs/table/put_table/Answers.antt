use Rattle.std.proofs.Common.{◌++◌, ◌+◌, ◌-◌, ℕ, length, drop, ap, ◌∙◌}
use Rattle.hp_num.proofs.Laws.{extends_trans}
use Rattle.ms_print.specs.TableText.{below_row, snap_row, snap_rows}
use Rattle.ms_print.proofs.Appends.{left-appended, two-appended}
use Rattle.ms_print.proofs.RowLemmas.{rows-next}
use Rattle.ms_print.proofs.table.put_table.Goals as goal

pub each_snap-preserved : goal.each_snap-preserved
each_snap-preserved c =
    let snaps = c.args.snaps.now in
    let place = c.each_snap.place in
    let snap = c.at-snap.result.now in
    let below = below_row c.args.threshold c.args.unit snap snap.mark (length snaps - place - 1) in
    record {
      kept =
          extends_trans c.args.out.now.items c.put_row.new.out.items c.put_below.new.out.items
          (extends_trans c.args.out.now.items c.each_snap.out.items c.put_row.new.out.items c.each_snap.invariant.kept
          c.put_row.ensures.kept)
          c.put_below.ensures.kept;
      written =
          left-appended c.each_snap.out.items c.put_below.new.out.items (snap_row place snap ++ below)
          (snap_rows c.args.threshold c.args.unit (place + 1) (drop (place + 1) snaps))
          (snap_rows c.args.threshold c.args.unit place (drop place snaps)) _
          (two-appended c.each_snap.out.items c.put_row.new.out.items c.put_below.new.out.items (snap_row place snap)
          below c.in_ok-put_row.ensures.appended
          (c.in_ok-put_below.ensures.appended
          ∙ ap
          (λ (n : ℕ). c.put_row.new.out.items
          ++ below_row c.args.threshold c.args.unit snap snap.mark (n - place - 1))
          c.len.ensures.length))
          (rows-next c.args.threshold c.args.unit snaps place snap c.at-snap.ensures.item)
          c.each_snap.invariant.written;
    }

pub returns-in_err-put_row-clause-kept : goal.returns-in_err-put_row-clause-kept
returns-in_err-put_row-clause-kept c =
    extends_trans c.args.out.now.items c.each_snap.out.items c.put_row.new.out.items c.each_snap.invariant.kept
    c.put_row.ensures.kept

pub returns-in_err-put_below-clause-kept : goal.returns-in_err-put_below-clause-kept
returns-in_err-put_below-clause-kept c =
    extends_trans c.args.out.now.items c.put_row.new.out.items c.put_below.new.out.items
    (extends_trans c.args.out.now.items c.each_snap.out.items c.put_row.new.out.items c.each_snap.invariant.kept
    c.put_row.ensures.kept)
    c.put_below.ensures.kept

pub returns-clause-kept : goal.returns-clause-kept
returns-clause-kept c = c.each_snap.invariant.kept
