use Rattle.hp_num.proofs.Laws.{extends_more, extends_same}
use Rattle.ms_print.proofs.Appends.{five-kept, four-kept, three-kept}
use Rattle.ms_print.proofs.graph.put_graph.Goals as goal

pub returns-in_err-put_bytes-3-clause-kept : goal.returns-in_err-put_bytes-3-clause-kept
returns-in_err-put_bytes-3-clause-kept c =
    three-kept _ _ _ _ (extends_more _ _ _ c.in_ok-put_bytes.ensures.appended)
    (extends_more _ _ _ c.in_ok-put_bytes-2.ensures.appended) (extends_same _ _ c.in_err-put_bytes-3.ensures.unchanged)

pub returns-in_err-put_rows-clause-kept : goal.returns-in_err-put_rows-clause-kept
returns-in_err-put_rows-clause-kept c =
    four-kept _ _ _ _ _ (extends_more _ _ _ c.in_ok-put_bytes.ensures.appended)
    (extends_more _ _ _ c.in_ok-put_bytes-2.ensures.appended) (extends_more _ _ _ c.in_ok-put_bytes-3.ensures.appended)
    c.put_rows.ensures.kept

pub returns-clause-kept : goal.returns-clause-kept
returns-clause-kept c =
    five-kept _ _ _ _ _ _ (extends_more _ _ _ c.in_ok-put_bytes.ensures.appended)
    (extends_more _ _ _ c.in_ok-put_bytes-2.ensures.appended) (extends_more _ _ _ c.in_ok-put_bytes-3.ensures.appended)
    c.put_rows.ensures.kept c.put_axis.ensures.kept
