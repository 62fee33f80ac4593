use Rattle.hp_num.proofs.Laws.{extends_put, extends_trans}
use Rattle.ms_print.proofs.graph.put_row.Goals as goal

pub returns-clause-kept : goal.returns-clause-kept
returns-clause-kept c =
    extends_trans _ _ _ (extends_trans _ _ _ c.put_edge.ensures.kept c.put_cells.ensures.kept)
    (extends_put c.put_bytes.result _ _ _ c.put_bytes.ensures.appended c.put_bytes.ensures.unchanged)
