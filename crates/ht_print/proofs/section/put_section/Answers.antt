use Rattle.hp_num.proofs.Laws.{extends_more, extends_put, extends_trans}
use Rattle.ht_print.proofs.section.put_section.Goals as goal

pub returns-in_err-put_body-clause-kept : goal.returns-in_err-put_body-clause-kept
returns-in_err-put_body-clause-kept c =
    extends_trans _ _ _ (extends_more _ _ _ c.in_ok-put_bytes.ensures.appended) c.put_body.ensures.kept

pub returns-clause-kept : goal.returns-clause-kept
returns-clause-kept c =
    extends_trans _ _ _
    (extends_trans _ _ _ (extends_more _ _ _ c.in_ok-put_bytes.ensures.appended) c.put_body.ensures.kept)
    (extends_put c.put_bytes-2.result _ _ _ c.put_bytes-2.ensures.appended c.put_bytes-2.ensures.unchanged)
