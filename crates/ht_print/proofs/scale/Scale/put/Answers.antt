use Rattle.hp_num.proofs.Laws.{extends_more, extends_put, extends_same, extends_trans}
use Rattle.ht_print.proofs.ReportLemmas.{four-kept, three-kept}
use Rattle.ht_print.proofs.scale.Scale.put.Goals as goal

pub returns-in_err-put_bytes-2-clause-kept : goal.returns-in_err-put_bytes-2-clause-kept
returns-in_err-put_bytes-2-clause-kept c =
    three-kept _ _ _ _ (extends_more _ _ _ c.in_ok-put_dec.ensures.appended)
    (extends_more _ _ _ c.in_ok-put_bytes.ensures.appended) (extends_same _ _ c.in_err-put_bytes-2.ensures.unchanged)

pub returns-in_err-put_bytes-3-clause-kept : goal.returns-in_err-put_bytes-3-clause-kept
returns-in_err-put_bytes-3-clause-kept c =
    four-kept _ _ _ _ _ (extends_more _ _ _ c.in_ok-put_dec.ensures.appended)
    (extends_more _ _ _ c.in_ok-put_bytes.ensures.appended) (extends_more _ _ _ c.in_ok-put_bytes-2.ensures.appended)
    (extends_same _ _ c.in_err-put_bytes-3.ensures.unchanged)

pub returns-in_err-put_percent-clause-kept : goal.returns-in_err-put_percent-clause-kept
returns-in_err-put_percent-clause-kept c =
    extends_trans _ _ _
    (four-kept _ _ _ _ _ (extends_more _ _ _ c.in_ok-put_dec.ensures.appended)
    (extends_more _ _ _ c.in_ok-put_bytes.ensures.appended) (extends_more _ _ _ c.in_ok-put_bytes-2.ensures.appended)
    (extends_more _ _ _ c.in_ok-put_bytes-3.ensures.appended))
    (extends_same _ _ c.in_err-put_percent.ensures.unchanged)

pub returns-clause-kept : goal.returns-clause-kept
returns-clause-kept c =
    three-kept _ _ _ _
    (four-kept _ _ _ _ _ (extends_more _ _ _ c.in_ok-put_dec.ensures.appended)
    (extends_more _ _ _ c.in_ok-put_bytes.ensures.appended) (extends_more _ _ _ c.in_ok-put_bytes-2.ensures.appended)
    (extends_more _ _ _ c.in_ok-put_bytes-3.ensures.appended))
    (extends_more _ _ _ c.in_ok-put_percent.ensures.appended)
    (extends_put c.put_bytes-4.result _ _ _ c.put_bytes-4.ensures.appended c.put_bytes-4.ensures.unchanged)
