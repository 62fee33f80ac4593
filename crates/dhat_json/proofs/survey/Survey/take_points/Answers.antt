use Rattle.std.proofs.Common.{◌≡◌, [], ◌∷◌, true, false, refl, sym, ap, ◌∙◌, subst, arith, rules}
use Rattle.std.specs.Prelude.{IfSome, unwrap_or}
use Rattle.std.proofs.lemmas.Result.{err_from_is_err_and}
use Rattle.json.specs.Json.{parse_map}
use Rattle.json.specs.Reads.{token_of}
use Rattle.json.specs.declared.value.Value.{Array}
use Rattle.serde_json.specs.Data.{array}
use Rattle.dhat_json.specs.Ahead.{value_ahead}
use Rattle.dhat_json.specs.DataOf.{data_of}
use Rattle.dhat_json.specs.declared.gathered.Gathered.{Gathered}
use Rattle.dhat_json.specs.declared.shape.Shape.{Shape}
use Rattle.dhat_json.specs.Gathered.{HasGathered}
use Rattle.dhat_json.specs.Kinds.{as_list, list_of}
use Rattle.dhat_json.specs.Opening.{begins_list}
use Rattle.dhat_json.specs.Outline.{hollow}
use Rattle.dhat_json.proofs.AheadLemmas.{array_ahead, empty_list, nothing_ahead}
use Rattle.dhat_json.proofs.Findings.{fault_follows}
use Rattle.dhat_json.proofs.OutlineLemmas.{hollow_twice}
use Rattle.dhat_json.proofs.SurveyLemmas.{hollow_is, is_begin_array, lists_nothing, points_met}
use Rattle.dhat_json.proofs.survey.Survey.take_points.Goals as goal

pub returns-in_err-token-clause-fault : goal.returns-in_err-token-clause-fault
returns-in_err-token-clause-fault c =
    let empty : c.args.reader.now ≡ [] = grind arith in
    let p = err_from_is_err_and c.from_residual.result c.from_residual.ensures.1 in
    rw (p.1, p.2) (refl, ap (value_ahead 126) empty ∙ nothing_ahead 126)

pub returns-in_err-take_items-clause-fault : goal.returns-in_err-take_items-clause-fault
returns-in_err-take_items-clause-fault c =
    let t = token_of c.in_ok-token.token in
    let ts = c.next.new.self in
    let first : c.args.reader.now ≡ t ∷ ts = grind arith in
    let begins : begins_list t ≡ true = search rules in
    let p = err_from_is_err_and c.from_residual-in_err-take_items.result c.from_residual-in_err-take_items.ensures.1 in
    let fault = c.in_err-take_items.field-0.0 in
    rw (p.1, p.2) (fault_follows _ _ fault c.in_err-take_items.ensures.fault (λ e. (
      e.0,
      ap (value_ahead 126) (first ∙ ap (λ u. u ∷ ts) (is_begin_array t begins)) ∙ array_ahead 126 ts (omega arith)
          ∙ ap (parse_map array) e.1,
    )))

pub returns-then-begins_list-clause-met : goal.returns-then-begins_list-clause-met
returns-then-begins_list-clause-met c =
    let old = c.args.self.now in
    let new = c.keep.new.self in
    let t = token_of c.in_ok-token.token in
    let ts = c.next.new.self in
    let first : c.args.reader.now ≡ t ∷ ts = grind arith in
    let begins : begins_list t ≡ true = search rules in
    let taken = c.in_ok-take_items.ensures.taken in
    let list = c.new-then-begins_list in
    let gathered : HasGathered c.take_items.new.self (list_of taken.0) = taken.2 c.new.ensures.none in
    let shape = c.take_items.ensures.shape ∙ c.new.ensures.shape in
    let given : IfSome old.given (λ shape. c.take_items.new.self.shape ≡ shape) =
    subst (λ (s : Shape). IfSome old.given (λ shape. s ≡ shape)) (sym shape) c.shape_of.ensures in record {
      value = array taken.0;
      is =
          ap (value_ahead 126) (first ∙ ap (λ u. u ∷ ts) (is_begin_array t begins)) ∙ array_ahead 126 ts (omega arith)
          ∙ ap (parse_map array) taken.1;
      met =
          λ found met. points_met old new c.args.name (Array list.result) found c.in_ok-keep.ensures.kept
          c.keep.ensures.given (array taken.0) c.requires (ap hollow (empty_list list.result list.ensures.items))
          (subst (λ (g : Gathered). HasGathered g (list_of taken.0)) (sym c.keep.ensures.points) gathered)
          (subst (λ (g : Gathered). IfSome old.given (λ shape. g.shape ≡ shape)) (sym c.keep.ensures.points) given) met;
    }

pub returns-clause-met : goal.returns-clause-met
returns-clause-met c =
    let old = c.args.self.now in
    let new = c.keep-2.new.self in
    let v = c.in_ok-outline.outline in
    let t = token_of c.in_ok-token.token in
    let ts = c.next.new.self in
    let first : c.args.reader.now ≡ t ∷ ts = grind arith in
    let other : begins_list t ≡ false = search rules in
    let is =
    hollow_is (value_ahead 126 (t ∷ ts)) (data_of v) c.outline_from.new.reader c.in_ok-outline.ensures.outlined in
    let given : IfSome old.given (λ shape. c.new.result.shape ≡ shape) =
    subst (λ (s : Shape). IfSome old.given (λ shape. s ≡ shape)) (sym c.new.ensures.shape) c.shape_of.ensures in
    let gathered : HasGathered c.new.result (unwrap_or (as_list is.0) []) =
    subst (HasGathered c.new.result) (sym (lists_nothing t ts c.outline_from.new.reader is.0 other is.1))
    c.new.ensures.none in record {
      value = is.0;
      is = ap (value_ahead 126) first ∙ is.1;
      met =
          λ found met. points_met old new c.args.name v found c.in_ok-keep-2.ensures.kept c.keep-2.ensures.given is.0
          c.requires (ap hollow is.2 ∙ hollow_twice is.0)
          (subst (λ (g : Gathered). HasGathered g (unwrap_or (as_list is.0) [])) (sym c.keep-2.ensures.points) gathered)
          (subst (λ (g : Gathered). IfSome old.given (λ shape. g.shape ≡ shape)) (sym c.keep-2.ensures.points) given)
          met;
    }
