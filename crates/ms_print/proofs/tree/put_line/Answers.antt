use Rattle.hp_num.proofs.Laws.{extends_more, extends_put}
use Rattle.ms_print.proofs.Appends.{four-kept, three-kept}
use Rattle.ms_print.proofs.tree.put_line.Goals as goal

pub returns-in_err-put_what-clause-kept : goal.returns-in_err-put_what-clause-kept
returns-in_err-put_what-clause-kept c =
    three-kept _ _ _ _ (extends_more _ _ _ c.in_ok-put_bytes.ensures.appended)
    (extends_more _ _ _ c.in_ok-put_bytes-2.ensures.appended) c.put_what.ensures.kept

pub returns-clause-kept : goal.returns-clause-kept
returns-clause-kept c =
    four-kept _ _ _ _ _ (extends_more _ _ _ c.in_ok-put_bytes.ensures.appended)
    (extends_more _ _ _ c.in_ok-put_bytes-2.ensures.appended) c.put_what.ensures.kept
    (extends_put c.put_bytes-3.result _ _ _ c.put_bytes-3.ensures.appended c.put_bytes-3.ensures.unchanged)
