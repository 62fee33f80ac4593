use Rattle.std.proofs.Common.{◌++◌, ℕ, ap, ◌∙◌}
use Rattle.std.specs.Prelude.{codes}
use Rattle.std.proofs.lemmas.Result.{on_ok_weaker}
use Rattle.ms_print.specs.Sums.{sum_of}
use Rattle.ms_print.specs.TableText.{column_text, number_column, snap_row}
use Rattle.hp_num.proofs.Laws.{extends_put, extends_trans}
use Rattle.ms_print.proofs.Appends.{five-kept, four-kept, seven-appended, three-kept}
use Rattle.ms_print.proofs.table.put_row.Goals as goal

pub returns-clause-appended : goal.returns-clause-appended
unfolding snap_row
returns-clause-appended c =
    let snap = c.args.snap.now in
    on_ok_weaker c.put_bytes.result
    (λ added. seven-appended c.args.out.now.items c.put_number.new.out.items c.put_column.new.out.items
    c.put_column-2.new.out.items c.put_column-3.new.out.items c.put_column-4.new.out.items
    c.put_column-5.new.out.items c.put_bytes.new.out.items
    (number_column c.args.n) (column_text 14 snap.time) (column_text 16 (sum_of snap)) (column_text 16 snap.heap)
    (column_text 13 snap.extra) (column_text 12 snap.stacks) (codes "\n")
    c.in_ok-put_number.ensures.appended c.in_ok-put_column.ensures.appended
    (c.in_ok-put_column-2.ensures.appended
    ∙ ap (λ (n : ℕ). c.put_column.new.out.items ++ column_text 16 n) c.sum_of.ensures)
    c.in_ok-put_column-3.ensures.appended c.in_ok-put_column-4.ensures.appended c.in_ok-put_column-5.ensures.appended
    added)
    c.put_bytes.ensures.appended

pub returns-in_err-put_column-2-clause-kept : goal.returns-in_err-put_column-2-clause-kept
returns-in_err-put_column-2-clause-kept c =
    three-kept _ _ _ _ c.put_number.ensures.kept c.put_column.ensures.kept c.put_column-2.ensures.kept

pub returns-in_err-put_column-3-clause-kept : goal.returns-in_err-put_column-3-clause-kept
returns-in_err-put_column-3-clause-kept c =
    four-kept _ _ _ _ _ c.put_number.ensures.kept c.put_column.ensures.kept c.put_column-2.ensures.kept
    c.put_column-3.ensures.kept

pub returns-in_err-put_column-4-clause-kept : goal.returns-in_err-put_column-4-clause-kept
returns-in_err-put_column-4-clause-kept c =
    five-kept _ _ _ _ _ _ c.put_number.ensures.kept c.put_column.ensures.kept c.put_column-2.ensures.kept
    c.put_column-3.ensures.kept c.put_column-4.ensures.kept

pub returns-in_err-put_column-5-clause-kept : goal.returns-in_err-put_column-5-clause-kept
returns-in_err-put_column-5-clause-kept c =
    extends_trans _ _ _
    (five-kept _ _ _ _ _ _ c.put_number.ensures.kept c.put_column.ensures.kept c.put_column-2.ensures.kept
    c.put_column-3.ensures.kept c.put_column-4.ensures.kept)
    c.put_column-5.ensures.kept

pub returns-clause-kept : goal.returns-clause-kept
returns-clause-kept c =
    three-kept _ _ _ _
    (five-kept _ _ _ _ _ _ c.put_number.ensures.kept c.put_column.ensures.kept c.put_column-2.ensures.kept
    c.put_column-3.ensures.kept c.put_column-4.ensures.kept)
    c.put_column-5.ensures.kept
    (extends_put c.put_bytes.result _ _ _ c.put_bytes.ensures.appended c.put_bytes.ensures.unchanged)
