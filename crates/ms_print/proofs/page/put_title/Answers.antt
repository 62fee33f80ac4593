use Rattle.hp_num.proofs.Laws.{extends_put, extends_trans}
use Rattle.ms_print.proofs.page.put_title.Goals as goal

pub returns-in_err-put_asked-clause-kept : goal.returns-in_err-put_asked-clause-kept
returns-in_err-put_asked-clause-kept c =
    extends_trans c.args.out.now.items c.put_rule.new.out.items c.put_asked.new.out.items c.put_rule.ensures.kept
    c.put_asked.ensures.kept

pub returns-in_err-put_rule-2-clause-kept : goal.returns-in_err-put_rule-2-clause-kept
returns-in_err-put_rule-2-clause-kept c =
    extends_trans c.args.out.now.items c.put_asked.new.out.items c.put_rule-2.new.out.items
    (extends_trans c.args.out.now.items c.put_rule.new.out.items c.put_asked.new.out.items c.put_rule.ensures.kept
    c.put_asked.ensures.kept)
    c.put_rule-2.ensures.kept

pub returns-clause-kept : goal.returns-clause-kept
returns-clause-kept c =
    extends_trans _ _ _
    (extends_trans _ _ _ (extends_trans _ _ _ c.put_rule.ensures.kept c.put_asked.ensures.kept)
    c.put_rule-2.ensures.kept)
    (extends_put c.put_bytes.result _ _ _ c.put_bytes.ensures.appended c.put_bytes.ensures.unchanged)
