use Rattle.std.specs.Prelude.{codes}
use Rattle.std.proofs.lemmas.Result.{on_ok_weaker}
use Rattle.hp_num.proofs.Laws.{extends_more, extends_put, extends_same, extends_trans}
use Rattle.dhat_view.specs.Lines.{share_text, view_line}
use Rattle.dhat_view.proofs.Appends.{three-appended}
use Rattle.dhat_view.proofs.lines.put_line.Goals as goal

pub returns-clause-appended : goal.returns-clause-appended
unfolding view_line
returns-clause-appended c =
    on_ok_weaker c.put_bytes-2.result
    (λ added. three-appended c.args.out.now.items c.put_share.new.out.items c.put_bytes.new.out.items
    c.put_bytes-2.new.out.items
    (share_text c.args.scale c.args.level c.args.cost) c.args.text.now (codes "\n")
    c.in_ok-put_share.ensures.appended c.in_ok-put_bytes.ensures.appended added)
    c.put_bytes-2.ensures.appended

pub returns-in_err-put_bytes-clause-kept : goal.returns-in_err-put_bytes-clause-kept
returns-in_err-put_bytes-clause-kept c =
    extends_trans _ _ _ c.put_share.ensures.kept (extends_same _ _ c.in_err-put_bytes.ensures.unchanged)

pub returns-clause-kept : goal.returns-clause-kept
returns-clause-kept c =
    extends_trans _ _ _
    (extends_trans _ _ _ c.put_share.ensures.kept (extends_more _ _ _ c.in_ok-put_bytes.ensures.appended))
    (extends_put c.put_bytes-2.result _ _ _ c.put_bytes-2.ensures.appended c.put_bytes-2.ensures.unchanged)
