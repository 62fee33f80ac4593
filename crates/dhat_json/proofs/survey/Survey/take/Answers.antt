use Rattle.std.proofs.Common.{◌≡◌, [], ◌∷◌, codes, true≢false, refl, sym, ap, ◌∙◌, arith}
use Rattle.std.proofs.lemmas.Result.{err_from_is_err_and}
use Rattle.std.proofs.lemmas.Slice.Eq.{bytes_eq-Decides}
use Rattle.json.specs.Reads.{token_of}
use Rattle.dhat_json.specs.Ahead.{value_ahead}
use Rattle.dhat_json.specs.DataOf.{data_of}
use Rattle.dhat_json.specs.Outline.{hollow}
use Rattle.dhat_json.proofs.AheadLemmas.{nothing_ahead}
use Rattle.dhat_json.proofs.OutlineLemmas.{hollow_twice}
use Rattle.dhat_json.proofs.SurveyLemmas.{differ, hollow_is, other_met}
use Rattle.dhat_json.proofs.survey.Survey.take.Goals as goal

pub returns-then-eq-clause-met : goal.returns-then-eq-clause-met
returns-then-eq-clause-met c =
    let old = c.args.self.now in
    let name = c.args.name in
    let v = c.in_ok-table.table in
    let d = data_of v in
    let is : name.now ≡ codes "ftbl" =
    (bytes_eq-Decides name.now (codes "ftbl")).0 (sym c.eq.ensures ∙ c.if-eq.true) in record {
      value = d;
      is = c.in_ok-table.ensures.read;
      met =
          λ found met. other_met old c.keep.new.self name v found c.in_ok-keep.ensures.kept c.keep.ensures.given d
          c.keep.ensures.points refl (λ table. refl) (λ points. differ (sym is ∙ points)) met;
    }

pub returns-in_err-token-clause-fault : goal.returns-in_err-token-clause-fault
returns-in_err-token-clause-fault c =
    let empty : c.args.reader.now ≡ [] = grind arith in
    let p = err_from_is_err_and c.from_residual-in_err-token.result c.from_residual-in_err-token.ensures.1 in
    rw (p.1, p.2) (refl, ap (value_ahead 126) empty ∙ nothing_ahead 126)

pub returns-clause-met : goal.returns-clause-met
returns-clause-met c =
    let old = c.args.self.now in
    let name = c.args.name in
    let v = c.in_ok-outline.outline in
    let first : c.args.reader.now ≡ token_of c.in_ok-token.token ∷ c.next.new.self = grind arith in
    let is =
    hollow_is (value_ahead 126 (token_of c.in_ok-token.token ∷ c.next.new.self)) (data_of v) c.outline_from.new.reader
    c.in_ok-outline.ensures.outlined in
    let no_table : name.now ≡ codes "ftbl" → ⊥ =
    λ e. true≢false (sym ((bytes_eq-Decides name.now (codes "ftbl")).1 e) ∙ sym c.eq.ensures ∙ c.if-eq.false) in
    let no_points : name.now ≡ codes "pps" → ⊥ =
    λ e. true≢false
    (sym ((bytes_eq-Decides name.now (codes "pps")).1 e) ∙ sym c.eq-2.ensures ∙ c.if-eq-2.false) in record {
      value = is.0;
      is = ap (value_ahead 126) first ∙ is.1;
      met =
          λ found met. other_met old c.keep-2.new.self name v found c.in_ok-keep-2.ensures.kept c.keep-2.ensures.given
          is.0 c.keep-2.ensures.points (ap hollow is.2 ∙ hollow_twice is.0) (λ e. absurd (no_table e)) no_points met;
    }
