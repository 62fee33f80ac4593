use Rattle.std.proofs.Common.{refl, string_bytes}
use Rattle.std.proofs.lemmas.Result.{IfOk-weaker}
use Rattle.dhat_json.specs.Begun.{HasBegun}
use Rattle.dhat_json.proofs.BegunTexts.{begun_all}
use Rattle.dhat_json.proofs.ProfileTexts.{text_reads_back}
use Rattle.dhat_json.proofs.writer.profile_text.Goals as goal
use Rattle.dhat_json.proofs.writer.profile_text.Goals.{After-ended}

-- all points are written
has : (c : After-ended) → HasBegun c.put_points.new.out c.args.dhat.now
has c =
    begun_all _ _ c.args.dhat.now c.as_slice.result.now c.as_slice.ensures.content c.in_ok-out.ensures
    c.in_ok-put_points.ensures

pub ended-requires-clause-alone : goal.ended-requires-clause-alone
ended-requires-clause-alone c =
    (begun_all _ _ c.args.dhat.now c.as_slice.result.now c.as_slice.ensures.content c.in_ok-out.ensures
    c.in_ok-put_points.ensures).before

pub returns-clause-text : goal.returns-clause-text
returns-clause-text c =
    IfOk-weaker c.ended.result _ _ (λ text is. (is c.args.dhat.now (has c) refl).same) c.ended.ensures

pub returns-clause-value : goal.returns-clause-value
returns-clause-value c =
    IfOk-weaker c.ended.result _ _ (λ text is. (is c.args.dhat.now (has c) refl).value) c.ended.ensures

pub returns-clause-reads_back : goal.returns-clause-reads_back
returns-clause-reads_back c =
    IfOk-weaker c.ended.result _ _
    (λ text is. text_reads_back c.args.dhat.now (string_bytes text) (is c.args.dhat.now (has c) refl)
    c.requires.sound)
    c.ended.ensures
