-- Three lines, one after another.
use Rattle.std.proofs.Common.{arith, [], ◌∷◌, ◌++◌, decimal}
use Rattle.std.specs.Prelude.{codes}
use Rattle.std.proofs.lemmas.Result.{on_ok_weaker}
use Rattle.massif_file.proofs.WrittenLemmas.{kept_on, text_3}
use Rattle.massif_file.proofs.writer.put_sizes.Goals as goal

pub returns-clause-appended : goal.returns-clause-appended
returns-clause-appended c =
    on_ok_weaker c.put_number-3.result
    (λ h. text_3 _ _ _ _ ((codes "mem_heap_B=" ++ decimal c.args.snap.now.heap) ∷ [])
    ((codes "mem_heap_extra_B=" ++ decimal c.args.snap.now.extra) ∷ [])
    ((codes "mem_stacks_B=" ++ decimal c.args.snap.now.stacks) ∷ [])
    c.in_ok-put_number.ensures.appended c.in_ok-put_number-2.ensures.appended h)
    c.put_number-3.ensures.appended

pub returns-in_err-put_number-2-clause-kept : goal.returns-in_err-put_number-2-clause-kept
returns-in_err-put_number-2-clause-kept c =
    kept_on _ _ _ _ _ (omega arith) (omega arith) c.put_number.ensures.kept c.put_number-2.ensures.kept

pub returns-clause-kept : goal.returns-clause-kept
returns-clause-kept c =
    kept_on _ _ _ _ _ (omega arith) (omega arith)
    (kept_on _ _ _ _ _ (omega arith) (omega arith) c.put_number.ensures.kept c.put_number-2.ensures.kept)
    c.put_number-3.ensures.kept
