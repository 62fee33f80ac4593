use Rattle.hp_num.proofs.Laws.{extends_more, extends_put, extends_same}
use Rattle.ms_print.proofs.Appends.{four-kept, three-kept}
use Rattle.ms_print.proofs.entry.put_share.Goals as goal

pub returns-in_err-put_commas-clause-kept : goal.returns-in_err-put_commas-clause-kept
returns-in_err-put_commas-clause-kept c =
    three-kept _ _ _ _ (extends_more _ _ _ c.in_ok-put_percent.ensures.appended)
    (extends_more _ _ _ c.in_ok-put_bytes.ensures.appended) (extends_same _ _ c.in_err-put_commas.ensures.unchanged)

pub returns-clause-kept : goal.returns-clause-kept
returns-clause-kept c =
    four-kept _ _ _ _ _ (extends_more _ _ _ c.in_ok-put_percent.ensures.appended)
    (extends_more _ _ _ c.in_ok-put_bytes.ensures.appended) (extends_more _ _ _ c.in_ok-put_commas.ensures.appended)
    (extends_put c.put_bytes-2.result _ _ _ c.put_bytes-2.ensures.appended c.put_bytes-2.ensures.unchanged)
