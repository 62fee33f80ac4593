use Rattle.std.proofs.Common.{string_bytes}
use Rattle.std.proofs.lemmas.Result.{IfOk-weaker}
use Rattle.dhat_json.proofs.ProfileTexts.{text_reads_back}
use Rattle.dhat_json.proofs.point_writer.PointWriter.finish.Goals as goal

pub ended-text-requires : goal.ended-text-requires
ended-text-requires c = record {
  texts = c.requires.begun.1.texts;
  alone = c.requires.begun.1.begun.before;
}

pub returns-clause-text : goal.returns-clause-text
returns-clause-text c =
    IfOk-weaker c.ended-text.result _ _ (λ text is. λ dhat has. (is dhat has.begun has.times).same) c.ended-text.ensures

pub returns-clause-value : goal.returns-clause-value
returns-clause-value c =
    IfOk-weaker c.ended-text.result _ _ (λ text is. λ dhat has. (is dhat has.begun has.times).value)
    c.ended-text.ensures

pub returns-clause-reads_back : goal.returns-clause-reads_back
returns-clause-reads_back c =
    IfOk-weaker c.ended-text.result _ _
    (λ text is. λ dhat has sound. text_reads_back dhat (string_bytes text) (is dhat has.begun has.times) sound)
    c.ended-text.ensures
