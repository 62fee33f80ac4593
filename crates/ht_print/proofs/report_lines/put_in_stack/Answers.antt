use Rattle.hp_num.proofs.Laws.{extends_more, extends_put, extends_same, extends_trans}
use Rattle.ht_print.proofs.report_lines.put_in_stack.Goals as goal

pub returns-in_err-put_dec-clause-kept : goal.returns-in_err-put_dec-clause-kept
returns-in_err-put_dec-clause-kept c =
    extends_trans _ _ _ (extends_more _ _ _ c.in_ok-put_bytes.ensures.appended)
    (extends_same _ _ c.in_err-put_dec.ensures.unchanged)

pub returns-clause-kept : goal.returns-clause-kept
returns-clause-kept c =
    extends_trans _ _ _
    (extends_trans _ _ _ (extends_more _ _ _ c.in_ok-put_bytes.ensures.appended)
    (extends_more _ _ _ c.in_ok-put_dec.ensures.appended))
    (extends_put c.put_bytes-2.result _ _ _ c.put_bytes-2.ensures.appended c.put_bytes-2.ensures.unchanged)
