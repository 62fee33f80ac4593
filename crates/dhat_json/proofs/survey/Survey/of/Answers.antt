use Rattle.std.proofs.Common.{◌≡◌, [], ◌∷◌, true, false, Some, Err, sym, ap, ◌∙◌, arith, rules}
use Rattle.std.proofs.lemmas.Result.{err_from_is_err_and}
use Rattle.json.specs.Json.{value}
use Rattle.json.specs.Lex.{tokens}
use Rattle.json.specs.Reads.{token_of}
use Rattle.dhat_json.specs.Document.{dhat_in_some}
use Rattle.dhat_json.specs.Opening.{begins_object}
use Rattle.dhat_json.proofs.AheadTurns.{whole}
use Rattle.dhat_json.proofs.Findings.{fault_follows}
use Rattle.dhat_json.proofs.SurveyLemmas.{empty_text, none_left, object_and_more, object_read, object_refused, one_left}
use Rattle.dhat_json.proofs.SurveyLemmas.{other_text}
use Rattle.dhat_json.proofs.survey.Survey.of.Goals as goal
use Rattle.dhat_json.proofs.survey.Survey.of.Goals.{In_ok-first}

pub returns-in_err-first-clause-fault : goal.returns-in_err-first-clause-fault
returns-in_err-first-clause-fault c =
    let empty : c.in-Ok.reader ≡ [] = grind arith in
    let p = err_from_is_err_and c.from_residual.result c.from_residual.ensures.1 in
    rw (p.1, p.2) (ap (λ ts. dhat_in_some (whole (value 127 ts))) (sym c.in-Ok.ensures.ok ∙ empty) ∙ empty_text)

-- the text begins with the token that was read
opened : (c : In_ok-first) → tokens c.args.text.now ≡ token_of c.in_ok-first.first ∷ c.next.new.self
opened c =
    let first : c.in-Ok.reader ≡ token_of c.in_ok-first.first ∷ c.next.new.self = grind arith in
    sym c.in-Ok.ensures.ok ∙ first

pub returns-then-not-begins_object-clause-fault : goal.returns-then-not-begins_object-clause-fault
returns-then-not-begins_object-clause-fault c =
    let is = opened (goal.at.returns-then-not-begins_object-clause-fault c).In_ok-first in
    let other : begins_object (token_of c.in_ok-first.first) ≡ false = search rules in
    ap (λ ts. dhat_in_some (whole (value 127 ts))) is ∙ other_text _ c.next.new.self other

pub returns-in-Err-clause-fault : goal.returns-in-Err-clause-fault
returns-in-Err-clause-fault c =
    let is = opened (goal.at.returns-in-Err-clause-fault c).In_ok-first in
    let begins : begins_object (token_of c.in_ok-first.first) ≡ true = search rules in
    fault_follows _ _ c.in-Err.fault c.in-Err.ensures.fault
    (λ e. object_refused c.args.text.now _ c.next.new.self is begins e.1 ∙ ap Err (sym e.0))

pub returns-then-is_some-clause-fault : goal.returns-then-is_some-clause-fault
returns-then-is_some-clause-fault c =
    let is = opened (goal.at.returns-then-is_some-clause-fault c).In_ok-first in
    let begins : begins_object (token_of c.in_ok-first.first) ≡ true = search rules in
    let more =
    one_left c.take_members.new.reader c.next-2.new.self c.next-2.result c.next-2.ensures.value
    (sym c.is_some.ensures ∙ c.if-is_some.true) in
    let met = c.in_default-take_members.ensures.met in
    object_and_more c.args.text.now _ more.0 c.next.new.self c.next-2.new.self met.0 is begins
    (met.1 ∙ ap (λ r. Some (met.0, r)) more.1)

pub returns-clause-surveyed : goal.returns-clause-surveyed
returns-clause-surveyed c =
    let begins : begins_object (token_of c.in_ok-first.first) ≡ true = search rules in
    let met = c.in_default-take_members.ensures.met in
    let none =
    none_left c.take_members.new.reader c.next-2.new.self c.next-2.result c.next-2.ensures.value
    (sym c.is_some.ensures ∙ c.if-is_some.false) in record {
      found = met.0;
      is =
          object_read c.args.text.now _ c.next.new.self met.0 (opened (goal.at.returns-clause-surveyed c).In_ok-first)
          begins (met.1 ∙ ap (λ r. Some (met.0, r)) none);
      met = met.2 c.new-survey.ensures.none;
    }
