use Rattle.std.proofs.Common.{◌*◌, ℕ, [], ◌++◌, ap, ◌∙◌}
use Rattle.std.specs.Prelude.{codes}
use Rattle.std.proofs.lemmas.Result.{on_ok_weaker}
use Rattle.hp_num.specs.Commas.{decimal_with_commas}
use Rattle.hp_num.specs.Hundredths.{hundredths_of}
use Rattle.hp_num.specs.Percent.{percent}
use Rattle.hp_num.specs.Right.{right_aligned}
use Rattle.hp_num.proofs.Laws.{extends_more, extends_put, extends_same, extends_trans}
use Rattle.dhat_view.specs.Lines.{share_text}
use Rattle.dhat_view.proofs.Appends.{five-appended}
use Rattle.dhat_view.proofs.lines.put_share.Goals as goal

pub returns-clause-appended : goal.returns-clause-appended
unfolding share_text
returns-clause-appended c =
    on_ok_weaker c.put_bytes-2.result
    (λ added. five-appended c.args.out.now.items c.put_right.new.out.items c.put_percent.new.out.items
    c.put_bytes.new.out.items c.put_commas.new.out.items c.put_bytes-2.new.out.items
    (right_aligned (2 * c.args.level) []) (percent (hundredths_of c.args.cost c.args.scale.total)) (codes " (")
    (decimal_with_commas c.args.cost) (codes ") ")
    c.in_ok-put_right.ensures.appended
    (c.in_ok-put_percent.ensures.appended
    ∙ ap (λ (h : ℕ). c.put_right.new.out.items ++ percent h) c.hundredths.ensures.value)
    c.in_ok-put_bytes.ensures.appended
    c.in_ok-put_commas.ensures.appended
    added)
    c.put_bytes-2.ensures.appended

pub returns-in_err-put_percent-clause-kept : goal.returns-in_err-put_percent-clause-kept
returns-in_err-put_percent-clause-kept c =
    extends_trans _ _ _ (extends_more _ _ _ c.in_ok-put_right.ensures.appended)
    (extends_same _ _ c.in_err-put_percent.ensures.unchanged)

pub returns-in_err-put_bytes-clause-kept : goal.returns-in_err-put_bytes-clause-kept
returns-in_err-put_bytes-clause-kept c =
    extends_trans _ _ _
    (extends_trans _ _ _ (extends_more _ _ _ c.in_ok-put_right.ensures.appended)
    (extends_more _ _ _ c.in_ok-put_percent.ensures.appended))
    (extends_same _ _ c.in_err-put_bytes.ensures.unchanged)

pub returns-in_err-put_commas-clause-kept : goal.returns-in_err-put_commas-clause-kept
returns-in_err-put_commas-clause-kept c =
    extends_trans _ _ _
    (extends_trans _ _ _
    (extends_trans _ _ _ (extends_more _ _ _ c.in_ok-put_right.ensures.appended)
    (extends_more _ _ _ c.in_ok-put_percent.ensures.appended))
    (extends_more _ _ _ c.in_ok-put_bytes.ensures.appended))
    (extends_same _ _ c.in_err-put_commas.ensures.unchanged)

pub returns-clause-kept : goal.returns-clause-kept
returns-clause-kept c =
    extends_trans _ _ _
    (extends_trans _ _ _
    (extends_trans _ _ _
    (extends_trans _ _ _ (extends_more _ _ _ c.in_ok-put_right.ensures.appended)
    (extends_more _ _ _ c.in_ok-put_percent.ensures.appended))
    (extends_more _ _ _ c.in_ok-put_bytes.ensures.appended))
    (extends_more _ _ _ c.in_ok-put_commas.ensures.appended))
    (extends_put c.put_bytes-2.result _ _ _ c.put_bytes-2.ensures.appended c.put_bytes-2.ensures.unchanged)
