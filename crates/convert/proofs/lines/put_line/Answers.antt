use Rattle.std.specs.Prelude.{codes, decimal}
use Rattle.std.proofs.lemmas.Result.{on_ok_weaker}
use Rattle.hp_num.proofs.Laws.{extends_more, extends_put, extends_same, extends_trans}
use Rattle.convert.specs.Folded.{folded_line, folded_path}
use Rattle.cost_tree.specs.Texts.{texts_of}
use Rattle.convert.proofs.Appends.{four-appended}
use Rattle.convert.proofs.lines.put_line.Goals as goal

pub returns-clause-appended : goal.returns-clause-appended
unfolding folded_line
returns-clause-appended c =
    on_ok_weaker c.put_bytes-2.result
    (λ added. four-appended c.args.out.now.items c.put_path.new.out.items c.put_bytes.new.out.items
    c.put_dec.new.out.items c.put_bytes-2.new.out.items
    (folded_path (texts_of c.args.names.now c.args.list.now)) (codes " ") (decimal c.args.sum) (codes "\n")
    c.in_ok-put_path.ensures.appended c.in_ok-put_bytes.ensures.appended c.in_ok-put_dec.ensures.appended added)
    c.put_bytes-2.ensures.appended

pub returns-in_err-put_bytes-clause-kept : goal.returns-in_err-put_bytes-clause-kept
returns-in_err-put_bytes-clause-kept c =
    extends_trans _ _ _ c.put_path.ensures.kept (extends_same _ _ c.in_err-put_bytes.ensures.unchanged)

pub returns-in_err-put_dec-clause-kept : goal.returns-in_err-put_dec-clause-kept
returns-in_err-put_dec-clause-kept c =
    extends_trans _ _ _
    (extends_trans _ _ _ c.put_path.ensures.kept (extends_more _ _ _ c.in_ok-put_bytes.ensures.appended))
    (extends_same _ _ c.in_err-put_dec.ensures.unchanged)

pub returns-clause-kept : goal.returns-clause-kept
returns-clause-kept c =
    extends_trans _ _ _
    (extends_trans _ _ _
    (extends_trans _ _ _ c.put_path.ensures.kept (extends_more _ _ _ c.in_ok-put_bytes.ensures.appended))
    (extends_more _ _ _ c.in_ok-put_dec.ensures.appended))
    (extends_put c.put_bytes-2.result _ _ _ c.put_bytes-2.ensures.appended c.put_bytes-2.ensures.unchanged)
