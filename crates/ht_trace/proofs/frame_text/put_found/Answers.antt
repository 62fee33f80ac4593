use Rattle.hp_num.proofs.Laws.{extends_trans}
use Rattle.ht_trace.proofs.frame_text.put_found.Goals as goal

pub returns-in_err-put_name-clause-kept : goal.returns-in_err-put_name-clause-kept
returns-in_err-put_name-clause-kept c =
    extends_trans _ _ _ c.put_address.ensures.kept c.put_name.ensures.kept

pub returns-clause-kept : goal.returns-clause-kept
returns-clause-kept c =
    extends_trans _ _ _ (extends_trans _ _ _ c.put_address.ensures.kept c.put_name.ensures.kept)
    c.put_place.ensures.kept
