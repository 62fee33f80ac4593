use Rattle.std.specs.Prelude.{codes}
use Rattle.std.proofs.lemmas.Result.{on_ok_weaker}
use Rattle.hp_num.specs.Percent.{percent}
use Rattle.hp_num.proofs.Laws.{extends_more, extends_put, extends_same, extends_trans}
use Rattle.dhat_view.specs.Lines.{gathered_line, places_text, share_text}
use Rattle.dhat_view.proofs.Appends.{four-appended}
use Rattle.dhat_view.proofs.lines.put_gathered.Goals as goal

pub returns-clause-appended : goal.returns-clause-appended
unfolding gathered_line
returns-clause-appended c =
    on_ok_weaker c.put_bytes.result
    (λ added. four-appended c.args.out.now.items c.put_share.new.out.items c.put_places.new.out.items
    c.put_percent.new.out.items c.put_bytes.new.out.items
    (share_text c.args.scale c.args.level c.args.cost) (places_text c.args.places) (percent c.args.scale.threshold)
    (codes "\n")
    c.in_ok-put_share.ensures.appended c.in_ok-put_places.ensures.appended c.in_ok-put_percent.ensures.appended added)
    c.put_bytes.ensures.appended

pub returns-in_err-put_places-clause-kept : goal.returns-in_err-put_places-clause-kept
returns-in_err-put_places-clause-kept c =
    extends_trans _ _ _ c.put_share.ensures.kept c.put_places.ensures.kept

pub returns-in_err-put_percent-clause-kept : goal.returns-in_err-put_percent-clause-kept
returns-in_err-put_percent-clause-kept c =
    extends_trans _ _ _ (extends_trans _ _ _ c.put_share.ensures.kept c.put_places.ensures.kept)
    (extends_same _ _ c.in_err-put_percent.ensures.unchanged)

pub returns-clause-kept : goal.returns-clause-kept
returns-clause-kept c =
    extends_trans _ _ _
    (extends_trans _ _ _ (extends_trans _ _ _ c.put_share.ensures.kept c.put_places.ensures.kept)
    (extends_more _ _ _ c.in_ok-put_percent.ensures.appended))
    (extends_put c.put_bytes.result _ _ _ c.put_bytes.ensures.appended c.put_bytes.ensures.unchanged)
