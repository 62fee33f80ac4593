use Rattle.std.proofs.Common.{ℕ, List, ◌++◌, ap, ◌∙◌}
use Rattle.std.specs.Prelude.{codes, decimal}
use Rattle.std.proofs.lemmas.Result.{on_ok_weaker}
use Rattle.dhat_json.specs.declared.key.Key.{Key}
use Rattle.dhat_json.specs.Figure.{figure_key}
use Rattle.dhat_json.specs.KeyName.{key_name}
use Rattle.hp_num.proofs.Laws.{extends_more, extends_put, extends_same, extends_trans}
use Rattle.dhat_view.specs.ViewText.{total_text}
use Rattle.dhat_view.proofs.Appends.{four-appended}
use Rattle.dhat_view.proofs.parts.put_total.Goals as goal

pub returns-clause-appended : goal.returns-clause-appended
unfolding total_text
returns-clause-appended c =
    on_ok_weaker c.put_bytes-3.result
    (λ added. four-appended c.args.out.now.items c.put_bytes.new.out.items c.put_bytes-2.new.out.items
    c.put_dec.new.out.items c.put_bytes-3.new.out.items
    (key_name (figure_key c.args.key)) (codes ": ") (decimal c.args.total) (codes "\n\n")
    (c.in_ok-put_bytes.ensures.appended
    ∙ ap (λ (text : List ℕ). c.args.out.now.items ++ text)
    (c.as_bytes.ensures.value ∙ (c.name.ensures.name ∙ ap (λ (k : Key). key_name k) c.key.ensures.key)))
    c.in_ok-put_bytes-2.ensures.appended
    c.in_ok-put_dec.ensures.appended
    added)
    c.put_bytes-3.ensures.appended

pub returns-in_err-put_bytes-2-clause-kept : goal.returns-in_err-put_bytes-2-clause-kept
returns-in_err-put_bytes-2-clause-kept c =
    extends_trans _ _ _ (extends_more _ _ _ c.in_ok-put_bytes.ensures.appended)
    (extends_same _ _ c.in_err-put_bytes-2.ensures.unchanged)

pub returns-in_err-put_dec-clause-kept : goal.returns-in_err-put_dec-clause-kept
returns-in_err-put_dec-clause-kept c =
    extends_trans _ _ _
    (extends_trans _ _ _ (extends_more _ _ _ c.in_ok-put_bytes.ensures.appended)
    (extends_more _ _ _ c.in_ok-put_bytes-2.ensures.appended))
    (extends_same _ _ c.in_err-put_dec.ensures.unchanged)

pub returns-clause-kept : goal.returns-clause-kept
returns-clause-kept c =
    extends_trans _ _ _
    (extends_trans _ _ _
    (extends_trans _ _ _ (extends_more _ _ _ c.in_ok-put_bytes.ensures.appended)
    (extends_more _ _ _ c.in_ok-put_bytes-2.ensures.appended))
    (extends_more _ _ _ c.in_ok-put_dec.ensures.appended))
    (extends_put c.put_bytes-3.result _ _ _ c.put_bytes-3.ensures.appended c.put_bytes-3.ensures.unchanged)
