use Rattle.std.proofs.Common.{ℕ, List, [], ◌∷◌, ◌++◌, sym, ap, ◌∙◌, subst}
use Rattle.dhat_json.specs.Shown.{shown}
use Rattle.dhat_view.specs.Numbers.{AreNumbers}
use Rattle.dhat_view.proofs.Numbering.{kept, named, pushed}
use Rattle.dhat_view.proofs.texts.ShownTexts.push.Goals as goal

pub returns-clause-numbers : goal.returns-clause-numbers
returns-clause-numbers c = λ texts are.
    let text : List ℕ = shown c.args.text.now in
    let new = c.intern.new.self in
    let is = c.in_ok-number.ensures in
    let name =
    named new c.in_ok-number.number _ is.name ∙ c.deref.ensures.value ∙ c.in_ok-put_shown.ensures.appended
    ∙ ap (λ (bs : List ℕ). bs ++ text) c.clear.ensures.items in
    let after = kept c.args.self.now.names new is.names_stay is.none_lost c.args.self.now.numbers.items texts are in
    subst (λ (ns : List ℕ). AreNumbers new ns (texts ++ text ∷ [])) (sym c.in_ok-push.ensures.items)
    (pushed new c.args.self.now.numbers.items texts c.in_ok-number.number text after is.within name)
