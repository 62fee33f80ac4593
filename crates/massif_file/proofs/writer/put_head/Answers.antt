-- Two numbers, each behind a separator.
use Rattle.std.proofs.Common.{arith, [], ◌∷◌, ◌++◌, decimal}
use Rattle.std.specs.Prelude.{codes}
use Rattle.std.proofs.lemmas.Result.{on_ok_weaker}
use Rattle.massif_file.specs.MassifText.{separator}
use Rattle.massif_file.proofs.WrittenLemmas.{text_2, kept_on}
use Rattle.massif_file.proofs.writer.put_head.Goals as goal

pub returns-clause-appended : goal.returns-clause-appended
returns-clause-appended c =
    on_ok_weaker c.put_separated-2.result
    (λ h. text_2 _ _ _ (separator ∷ (codes "snapshot=" ++ decimal c.args.n) ∷ [])
    (separator ∷ (codes "time=" ++ decimal c.args.time) ∷ []) c.in_ok-put_separated.ensures.appended h)
    c.put_separated-2.ensures.appended

pub returns-clause-kept : goal.returns-clause-kept
returns-clause-kept c =
    kept_on _ _ _ _ _ (omega arith) (omega arith) c.put_separated.ensures.kept c.put_separated-2.ensures.kept
