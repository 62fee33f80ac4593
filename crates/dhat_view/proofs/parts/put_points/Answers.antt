use Rattle.std.proofs.Common.{ℕ, List, ◌++◌, length, ap, ◌∙◌}
use Rattle.std.specs.Prelude.{codes, decimal}
use Rattle.std.proofs.lemmas.Result.{on_ok_weaker}
use Rattle.dhat_json.specs.Shown.{shown}
use Rattle.hp_num.proofs.Laws.{extends_more, extends_put, extends_same, extends_trans}
use Rattle.dhat_view.specs.ViewText.{points_text}
use Rattle.dhat_view.proofs.Appends.{five-appended}
use Rattle.dhat_view.proofs.parts.put_points.Goals as goal

pub returns-clause-appended : goal.returns-clause-appended
unfolding points_text
returns-clause-appended c =
    on_ok_weaker c.put_bytes-3.result
    (λ added. five-appended c.args.out.now.items c.put_bytes.new.out.items c.put_shown.new.out.items
    c.put_bytes-2.new.out.items c.put_dec.new.out.items c.put_bytes-3.new.out.items
    (codes "command: ") (shown c.args.dhat.now.cmd) (codes "\npoints: ") (decimal (length c.args.dhat.now.pps))
    (codes "\n")
    c.in_ok-put_bytes.ensures.appended
    (c.in_ok-put_shown.ensures.appended
    ∙ ap (λ (text : List ℕ). c.put_bytes.new.out.items ++ shown text) c.bytes.ensures.content)
    c.in_ok-put_bytes-2.ensures.appended
    (c.in_ok-put_dec.ensures.appended ∙ ap (λ (n : ℕ). c.put_bytes-2.new.out.items ++ decimal n) c.len.ensures.length)
    added)
    c.put_bytes-3.ensures.appended

pub returns-in_err-put_shown-clause-kept : goal.returns-in_err-put_shown-clause-kept
returns-in_err-put_shown-clause-kept c =
    extends_trans _ _ _ (extends_more _ _ _ c.in_ok-put_bytes.ensures.appended)
    (extends_same _ _ c.in_err-put_shown.ensures.unchanged)

pub returns-in_err-put_bytes-2-clause-kept : goal.returns-in_err-put_bytes-2-clause-kept
returns-in_err-put_bytes-2-clause-kept c =
    extends_trans _ _ _
    (extends_trans _ _ _ (extends_more _ _ _ c.in_ok-put_bytes.ensures.appended)
    (extends_more _ _ _ c.in_ok-put_shown.ensures.appended))
    (extends_same _ _ c.in_err-put_bytes-2.ensures.unchanged)

pub returns-in_err-put_dec-clause-kept : goal.returns-in_err-put_dec-clause-kept
returns-in_err-put_dec-clause-kept c =
    extends_trans _ _ _
    (extends_trans _ _ _
    (extends_trans _ _ _ (extends_more _ _ _ c.in_ok-put_bytes.ensures.appended)
    (extends_more _ _ _ c.in_ok-put_shown.ensures.appended))
    (extends_more _ _ _ c.in_ok-put_bytes-2.ensures.appended))
    (extends_same _ _ c.in_err-put_dec.ensures.unchanged)

pub returns-clause-kept : goal.returns-clause-kept
returns-clause-kept c =
    extends_trans _ _ _
    (extends_trans _ _ _
    (extends_trans _ _ _
    (extends_trans _ _ _ (extends_more _ _ _ c.in_ok-put_bytes.ensures.appended)
    (extends_more _ _ _ c.in_ok-put_shown.ensures.appended))
    (extends_more _ _ _ c.in_ok-put_bytes-2.ensures.appended))
    (extends_more _ _ _ c.in_ok-put_dec.ensures.appended))
    (extends_put c.put_bytes-3.result _ _ _ c.put_bytes-3.ensures.appended c.put_bytes-3.ensures.unchanged)
