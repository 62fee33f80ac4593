use Rattle.hp_num.proofs.Laws.{extends_more, extends_put, extends_trans}
use Rattle.ms_print.proofs.table.put_column.Goals as goal

pub returns-clause-kept : goal.returns-clause-kept
returns-clause-kept c =
    extends_trans _ _ _ (extends_more _ _ _ c.in_ok-put_bytes.ensures.appended)
    (extends_put c.put_right.result _ _ _ c.put_right.ensures.appended c.put_right.ensures.unchanged)
