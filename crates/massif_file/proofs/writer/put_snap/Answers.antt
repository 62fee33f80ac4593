-- The lines of the parts, one part after another.
use Rattle.std.proofs.Common.{arith}
use Rattle.std.proofs.lemmas.Result.{on_ok_weaker}
use Rattle.massif_file.specs.MassifText.{head_lines, mark_lines, size_lines}
use Rattle.massif_file.proofs.WrittenLemmas.{kept_on, text_3}
use Rattle.massif_file.proofs.writer.put_snap.Goals as goal

pub returns-clause-appended : goal.returns-clause-appended
returns-clause-appended c =
    on_ok_weaker c.put_marked_tree.result
    (λ h. text_3 _ _ _ _ (head_lines c.args.n c.args.snap.now.time) (size_lines c.args.snap.now)
    (mark_lines c.args.snap.now)
    c.in_ok-put_head.ensures.appended c.in_ok-put_sizes.ensures.appended h)
    c.put_marked_tree.ensures.appended

pub returns-in_err-put_sizes-clause-kept : goal.returns-in_err-put_sizes-clause-kept
returns-in_err-put_sizes-clause-kept c =
    kept_on _ _ _ _ _ (omega arith) (omega arith) c.put_head.ensures.kept c.put_sizes.ensures.kept

pub returns-clause-kept : goal.returns-clause-kept
returns-clause-kept c =
    kept_on _ _ _ _ _ (omega arith) (omega arith)
    (kept_on _ _ _ _ _ (omega arith) (omega arith) c.put_head.ensures.kept c.put_sizes.ensures.kept)
    c.put_marked_tree.ensures.kept
