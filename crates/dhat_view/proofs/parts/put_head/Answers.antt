use Rattle.std.proofs.lemmas.Result.{on_ok_weaker}
use Rattle.dhat_view.specs.ViewText.{head_text, points_text, total_text}
use Rattle.dhat_view.proofs.Appends.{two-appended}
use Rattle.dhat_view.proofs.parts.put_head.Goals as goal

pub returns-clause-appended : goal.returns-clause-appended
unfolding head_text
returns-clause-appended c =
    on_ok_weaker c.put_total.result
    (λ added. two-appended c.args.out.now.items c.put_points.new.out.items c.put_total.new.out.items
    (points_text c.args.dhat.now) (total_text c.args.key c.args.total) c.in_ok-put_points.ensures.appended added)
    c.put_total.ensures.appended
