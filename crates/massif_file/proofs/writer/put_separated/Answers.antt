use Rattle.std.proofs.Common.{arith, [], ◌∷◌, ◌++◌, decimal}
use Rattle.std.proofs.lemmas.Result.{on_ok_weaker}
use Rattle.massif_file.specs.MassifText.{separator}
use Rattle.massif_file.proofs.WrittenLemmas.{text_2, kept_more, kept_on}
use Rattle.massif_file.proofs.writer.put_separated.Goals as goal

pub returns-clause-appended : goal.returns-clause-appended
returns-clause-appended c =
    on_ok_weaker c.put_number.result
    (λ h. text_2 _ _ _ (separator ∷ []) ((c.args.key.now ++ decimal c.args.n) ∷ []) c.in_ok-put_bytes.ensures.appended
    h)
    c.put_number.ensures.appended

pub returns-clause-kept : goal.returns-clause-kept
returns-clause-kept c =
    kept_on _ _ _ _ _ (omega arith) (omega arith) (kept_more _ _ _ _ (omega arith) c.in_ok-put_bytes.ensures.appended)
    c.put_number.ensures.kept
