use Rattle.std.proofs.Common.{◌≡◌, Option, sym, ap, ◌∙◌, subst}
use Rattle.std.specs.Prelude.{IfSome}
use Rattle.std.proofs.lemmas.Result.{err_from_is_err_and, IfOk-at_ok}
use Rattle.json.specs.Value.{members_view}
use Rattle.json.specs.declared.value.Value.{Object}
use Rattle.json.proofs.Trees.{view-Object}
use Rattle.serde_json.specs.Data.{Data, object, no_members}
use Rattle.dhat_json.specs.DataOf.{data_of, json_data, members_data}
use Rattle.dhat_json.specs.declared.gathered.Gathered.{Gathered}
use Rattle.dhat_json.specs.declared.key.Key.TheVariants.{Pps}
use Rattle.dhat_json.specs.declared.shape.Shape.{Shape}
use Rattle.dhat_json.specs.DhatFault.{first_of}
use Rattle.dhat_json.specs.Document.{dhat_in_some}
use Rattle.dhat_json.specs.Front.{HasFrontTexts}
use Rattle.dhat_json.specs.Gathered.{HasGathered}
use Rattle.dhat_json.specs.Outline.{IsOutline}
use Rattle.dhat_json.specs.ProfileIn.{list_at}
use Rattle.dhat_json.specs.Survey.{outline_of}
use Rattle.dhat_json.proofs.Findings.{fault_follows, read_as, refused_as}
use Rattle.dhat_json.proofs.OutlineLemmas.{findings_same, front_same}
use Rattle.dhat_json.proofs.ProfileFindings.{refused_in_front}
use Rattle.dhat_json.proofs.reader.read_once.Goals as goal
use Rattle.dhat_json.proofs.reader.read_once.Goals.{After-into_parts-members}

-- what was taken for the members is the outline of the text's value
outline-is : (c : After-into_parts-members)
    → IsOutline (data_of (Object c.into_parts-members.result.0)) (object c.in_ok-survey.ensures.surveyed.found)
outline-is c =
    let same : data_of (Object c.into_parts-members.result.0) ≡ outline_of c.in_ok-survey.survey =
    ap json_data (view-Object c.into_parts-members.result.0)
    ∙ ap (λ p. object (members_data (members_view p.0.items) no_members)) c.into_parts-members.ensures in
    subst (λ (o : Data). IsOutline o (object c.in_ok-survey.ensures.surveyed.found)) (sym same)
    c.in_ok-survey.ensures.surveyed.met.outline

pub returns-in_err-gathered-clause-fault : goal.returns-in_err-gathered-clause-fault
returns-in_err-gathered-clause-fault c =
    let is = outline-is (goal.at.returns-in_err-gathered-clause-fault c).After-into_parts-members in
    let surveyed = c.in_ok-survey.ensures.surveyed in
    let p = err_from_is_err_and c.from_residual-in_err-gathered.result c.from_residual-in_err-gathered.ensures.1 in
    rw (p.1, p.2)
    (fault_follows _ _ c.in_err-gathered.field-0.0
    (refused_as _ _ _ _ c.in_err-gathered.ensures.err c.read_front-front.ensures.read)
    (λ e. ap dhat_in_some surveyed.is
    ∙ refused_in_front (object surveyed.found) _ (ap first_of (sym (findings_same _ _ is)) ∙ e)))

pub returns-clause-read : goal.returns-clause-read
returns-clause-read c =
    let is = outline-is (goal.at.returns-clause-read c).After-into_parts-members in
    let survey = c.in_ok-survey.survey in
    let surveyed = c.in_ok-survey.ensures.surveyed in
    let d = object surveyed.found in
    let both = c.in_ok-gathered in
    let front = read_as c.read_front-front.result both.front _ _ both.ensures.ok.0 c.read_front-front.ensures.read in
    let gathered : both.gathered ≡ survey.gathered =
    both.ensures.ok.1 ∙ ap (λ p. p.1) c.into_parts-members.ensures in
    let shape =
    subst (λ (given : Option Shape). IfSome given (λ shape. survey.gathered.shape ≡ shape))
    c.in_ok-survey.ensures.given surveyed.met.shape in record {
      value = d;
      is = surveyed.is;
      says = record { none = ap first_of (sym (findings_same _ d is)) ∙ front.0; says = front.1 ∙ front_same _ d is };
      texts = IfOk-at_ok HasFrontTexts both.ensures.ok.0 c.read_front-front.ensures.utf8;
      points = subst (λ (g : Gathered). HasGathered g (list_at Pps d)) (sym gathered) surveyed.met.points;
      shape = subst (λ (g : Gathered). IfSome c.args.given (λ shape. g.shape ≡ shape)) (sym gathered) shape;
    }
