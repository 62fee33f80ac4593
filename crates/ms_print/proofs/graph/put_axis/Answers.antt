use Rattle.std.proofs.Common.{◌-◌, ◌++◌, ◌∙◌, ap}
use Rattle.hp_num.specs.Right.{right_aligned}
use Rattle.ms_print.specs.GraphText.{axis_text}
use Rattle.std.proofs.lemmas.Result.{on_ok_weaker}
use Rattle.hp_num.proofs.Laws.{extends_more, extends_put, extends_same, extends_trans}
use Rattle.ms_print.proofs.Appends.{five-kept, four-kept, seven-appended, three-kept}
use Rattle.ms_print.proofs.graph.put_axis.Goals as goal

pub returns-in_err-put_bytes-2-clause-kept : goal.returns-in_err-put_bytes-2-clause-kept
returns-in_err-put_bytes-2-clause-kept c =
    three-kept _ _ _ _ (extends_more _ _ _ c.in_ok-put_bytes.ensures.appended) c.put_dashes.ensures.kept
    (extends_same _ _ c.in_err-put_bytes-2.ensures.unchanged)

pub returns-in_err-put_bytes-3-clause-kept : goal.returns-in_err-put_bytes-3-clause-kept
returns-in_err-put_bytes-3-clause-kept c =
    four-kept _ _ _ _ _ (extends_more _ _ _ c.in_ok-put_bytes.ensures.appended) c.put_dashes.ensures.kept
    (extends_more _ _ _ c.in_ok-put_bytes-2.ensures.appended) (extends_same _ _ c.in_err-put_bytes-3.ensures.unchanged)

pub returns-in_err-put_bytes-4-clause-kept : goal.returns-in_err-put_bytes-4-clause-kept
returns-in_err-put_bytes-4-clause-kept c =
    five-kept _ _ _ _ _ _ (extends_more _ _ _ c.in_ok-put_bytes.ensures.appended) c.put_dashes.ensures.kept
    (extends_more _ _ _ c.in_ok-put_bytes-2.ensures.appended) (extends_more _ _ _ c.in_ok-put_bytes-3.ensures.appended)
    (extends_same _ _ c.in_err-put_bytes-4.ensures.unchanged)

pub returns-in_err-put_right-clause-kept : goal.returns-in_err-put_right-clause-kept
returns-in_err-put_right-clause-kept c =
    extends_trans _ _ _
    (five-kept _ _ _ _ _ _ (extends_more _ _ _ c.in_ok-put_bytes.ensures.appended) c.put_dashes.ensures.kept
    (extends_more _ _ _ c.in_ok-put_bytes-2.ensures.appended) (extends_more _ _ _ c.in_ok-put_bytes-3.ensures.appended)
    (extends_more _ _ _ c.in_ok-put_bytes-4.ensures.appended))
    (extends_same _ _ c.in_err-put_right.ensures.unchanged)

pub returns-clause-appended : goal.returns-clause-appended
unfolding axis_text
returns-clause-appended c =
    let unit =
    c.in_ok-put_bytes-3.ensures.appended ∙ ap (λ text. c.put_bytes-2.new.out.items ++ text) c.unit_label.ensures in
    let last =
    c.in_ok-put_right.ensures.appended
    ∙ ap (λ text. c.put_bytes-4.new.out.items ++ right_aligned (c.args.plot.width - 1) text)
    (c.deref.ensures.value ∙ c.in_ok-label_of.ensures.text) in
    on_ok_weaker c.put_bytes-5.result
    (seven-appended _ _ _ _ _ _ _ _ _ _ _ _ _ _ _ c.in_ok-put_bytes.ensures.appended
    c.in_ok-put_dashes.ensures.appended c.in_ok-put_bytes-2.ensures.appended unit
    c.in_ok-put_bytes-4.ensures.appended last)
    c.put_bytes-5.ensures.appended

pub returns-in_err-label_of-clause-kept : goal.returns-in_err-label_of-clause-kept
returns-in_err-label_of-clause-kept c =
    five-kept _ _ _ _ _ _ (extends_more _ _ _ c.in_ok-put_bytes.ensures.appended) c.put_dashes.ensures.kept
    (extends_more _ _ _ c.in_ok-put_bytes-2.ensures.appended) (extends_more _ _ _ c.in_ok-put_bytes-3.ensures.appended)
    (extends_more _ _ _ c.in_ok-put_bytes-4.ensures.appended)

pub returns-clause-kept : goal.returns-clause-kept
returns-clause-kept c =
    three-kept _ _ _ _
    (five-kept _ _ _ _ _ _ (extends_more _ _ _ c.in_ok-put_bytes.ensures.appended) c.put_dashes.ensures.kept
    (extends_more _ _ _ c.in_ok-put_bytes-2.ensures.appended) (extends_more _ _ _ c.in_ok-put_bytes-3.ensures.appended)
    (extends_more _ _ _ c.in_ok-put_bytes-4.ensures.appended))
    (extends_more _ _ _ c.in_ok-put_right.ensures.appended)
    (extends_put c.put_bytes-5.result _ _ _ c.put_bytes-5.ensures.appended c.put_bytes-5.ensures.unchanged)
