use Rattle.std.proofs.Common.{◌≡◌, ◌-◌, length, Some, refl, ◌∙◌, arith}
use Rattle.std.proofs.lemmas.Result.{err_from_is_err_and}
use Rattle.json.specs.Json.{read_key, value}
use Rattle.json.proofs.Grammar.{read_key-shorter}
use Rattle.serde_json.specs.Data.{no_members, put}
use Rattle.dhat_json.proofs.AheadTurns.{member_read, member_refused, key_refused, members_over}
use Rattle.dhat_json.proofs.Findings.{fault_follows}
use Rattle.dhat_json.proofs.survey.Survey.take_members.Goals as goal

pub members-init : goal.members-init
members-init c = (length c.args.reader.now, omega arith, no_members, refl, (λ met. met), refl)

pub members-preserved : goal.members-preserved
members-preserved c =
    let p = value 126 in
    let l = c.members in
    let n = l.invariant.0 in
    let k = c.in-Some.name.now in
    let s = c.next_key.new.self in
    let named : read_key l.reader ≡ Some (Some k, s) = grind arith in
    let less = read_key-shorter l.reader (Some k) s named in
    let lesser = c.in_ok-take.ensures.shorter in
    let met = c.in_ok-take.ensures.met in (
      n - 1,
      omega (arith, l.invariant.1),
      put k met.value l.invariant.2,
      l.invariant.3
          ∙ member_read p l.invariant.2 n k l.reader s _ met.value (omega (arith, l.invariant.1)) named met.is,
      (λ before. met.met l.invariant.2 (l.invariant.4 before)),
      c.take.ensures.given ∙ l.invariant.5,
    )

pub returns-in_err-name-clause-fault : goal.returns-in_err-name-clause-fault
returns-in_err-name-clause-fault c =
    let l = c.members in
    let p = err_from_is_err_and c.from_residual.result c.from_residual.ensures.1 in
    rw (p.1, p.2)
    (refl, l.invariant.3 ∙ key_refused (value 126) l.invariant.2 l.invariant.0 l.reader c.in_err-name.ensures.value)

pub returns-in_err-take-clause-fault : goal.returns-in_err-take-clause-fault
returns-in_err-take-clause-fault c =
    let l = c.members in
    let k = c.in-Some.name.now in
    let s = c.next_key.new.self in
    let named : read_key l.reader ≡ Some (Some k, s) = grind arith in
    let p = err_from_is_err_and c.from_residual-in_err-take.result c.from_residual-in_err-take.ensures.1 in
    let fault = c.in_err-take.field-0.0 in
    rw (p.1, p.2)
    (fault_follows _ _ fault c.in_err-take.ensures.fault
    (λ e. (e.0, l.invariant.3 ∙ member_refused (value 126) l.invariant.2 l.invariant.0 k l.reader s named e.1)))

pub returns-clause-met : goal.returns-clause-met
returns-clause-met c =
    let l = c.members in (
      l.invariant.2,
      l.invariant.3
          ∙ members_over (value 126) l.invariant.2 l.invariant.0 l.reader c.next_key.new.self l.invariant.1
          (grind arith),
      l.invariant.4,
    )
