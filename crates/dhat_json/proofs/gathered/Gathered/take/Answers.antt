use Rattle.std.proofs.Common.{inl, inr, ◌∷◌, [], ◌++◌, refl, sym, ap, ◌∙◌}
use Rattle.dhat_json.specs.DataOf.{data_of}
use Rattle.dhat_json.specs.declared.profile.Point.{Point}
use Rattle.dhat_json.proofs.GatheredLemmas.{fault_found, fault_kept, is_few, is_none, point_taken, which}
use Rattle.dhat_json.proofs.gathered.Gathered.take.Goals as goal

pub returns-then-is_some-clause-taken : goal.returns-then-is_some-clause-taken
returns-then-is_some-clause-taken c values h =
    let old = c.args.self.now in
    let fault = which old.fault (sym c.is_some.ensures ∙ c.if-is_some.true) in
    fault_kept old _ values (data_of c.args.item.now) (is_few old values c.if-self.false h) refl refl h fault.0 fault.1
    fault.1

pub returns-in-Ok-clause-taken : goal.returns-in-Ok-clause-taken
returns-in-Ok-clause-taken c values h =
    let old = c.args.self.now in
    let new = c.push.new.self in
    let d = data_of c.args.item.now in
    let few = is_few old values c.if-self.false h in
    let none = is_none old.fault (sym c.is_some.ensures ∙ c.if-is_some.false) in
    let read = c.in-Ok.ensures in
    elim c.push.ensures.pushed [
      | inl is ↦ point_taken old new values d few (ap (λ g. g.count) is) (ap (λ g. g.shape) is) h none
          (ap (λ g. g.fault) is ∙ none) read.0
          (ap (λ g. g.points) is ∙ ap (λ (point : Point). old.points ++ point ∷ []) read.1)
      | inr is ↦ fault_found old new values d few (ap (λ g. g.count) is) (ap (λ g. g.shape) is) h _ none
          (ap (λ g. g.fault) is) tt
    ]

pub returns-in-Err-clause-taken : goal.returns-in-Err-clause-taken
returns-in-Err-clause-taken c values h =
    let old = c.args.self.now in
    let none = is_none old.fault (sym c.is_some.ensures ∙ c.if-is_some.false) in
    fault_found old _ values (data_of c.args.item.now) (is_few old values c.if-self.false h) refl refl h c.in-Err.fault
    none refl c.in-Err.ensures
