use Rattle.std.proofs.Common.{◌++◌, ℕ, List, ap, ◌∙◌}
use Rattle.std.specs.Prelude.{codes}
use Rattle.std.proofs.lemmas.Result.{on_ok_weaker}
use Rattle.hp_num.specs.Right.{right_aligned}
use Rattle.hp_num.proofs.Laws.{extends_more, extends_same, extends_trans}
use Rattle.ms_print.specs.TableText.{head_text, rule_line, time_head}
use Rattle.ms_print.proofs.Appends.{five-appended, four-appended, four-kept, three-kept}
use Rattle.ms_print.proofs.table.put_head.Goals as goal

pub returns-clause-appended : goal.returns-clause-appended
unfolding head_text
returns-clause-appended c =
    on_ok_weaker c.put_rule-2.result
    (λ added. five-appended c.args.out.now.items c.put_rule.new.out.items c.put_bytes.new.out.items
    c.put_right.new.out.items c.put_bytes-2.new.out.items c.put_rule-2.new.out.items
    rule_line (codes "  n ") (right_aligned 14 (time_head c.args.unit))
    (codes "         total(B)   useful-heap(B) extra-heap(B)    stacks(B)\n") rule_line
    c.in_ok-put_rule.ensures.appended c.in_ok-put_bytes.ensures.appended
    (c.in_ok-put_right.ensures.appended
    ∙ ap (λ (head : List ℕ). c.put_bytes.new.out.items ++ right_aligned 14 head) c.time_head.ensures)
    c.in_ok-put_bytes-2.ensures.appended added)
    c.put_rule-2.ensures.appended

pub returns-clause-kept : goal.returns-clause-kept
returns-clause-kept c =
    extends_trans c.args.out.now.items c.put_bytes-2.new.out.items c.put_rule-2.new.out.items
    (extends_more c.args.out.now.items c.put_bytes-2.new.out.items _
    (four-appended c.args.out.now.items c.put_rule.new.out.items c.put_bytes.new.out.items c.put_right.new.out.items
    c.put_bytes-2.new.out.items _ _ _ _
    c.in_ok-put_rule.ensures.appended c.in_ok-put_bytes.ensures.appended c.in_ok-put_right.ensures.appended
    c.in_ok-put_bytes-2.ensures.appended))
    c.put_rule-2.ensures.kept

pub returns-in_err-put_right-clause-kept : goal.returns-in_err-put_right-clause-kept
returns-in_err-put_right-clause-kept c =
    three-kept _ _ _ _ c.put_rule.ensures.kept (extends_more _ _ _ c.in_ok-put_bytes.ensures.appended)
    (extends_same _ _ c.in_err-put_right.ensures.unchanged)

pub returns-in_err-put_bytes-2-clause-kept : goal.returns-in_err-put_bytes-2-clause-kept
returns-in_err-put_bytes-2-clause-kept c =
    four-kept _ _ _ _ _ c.put_rule.ensures.kept (extends_more _ _ _ c.in_ok-put_bytes.ensures.appended)
    (extends_more _ _ _ c.in_ok-put_right.ensures.appended) (extends_same _ _ c.in_err-put_bytes-2.ensures.unchanged)
