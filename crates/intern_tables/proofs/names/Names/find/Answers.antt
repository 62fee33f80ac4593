use Rattle.std.proofs.Common.{refl, sym, ◌∙◌}
use Rattle.std.proofs.lemmas.Bool.{false≢true}
use Rattle.intern_tables.proofs.Tables.{number_of-place, number_of-none, IsNumberOf-keys, Contains-any, none-Contains}
use Rattle.intern_tables.proofs.Tables.{list_any-names}
use Rattle.intern_tables.proofs.names.Names.find.Goals as goal

pub returns-in_err-place-clause-number : goal.returns-in_err-place-clause-number
returns-in_err-place-clause-number c =
    let none =
    list_any-names c.self.inside.names.keys c.args.self.now c.args.bytes.now c.self.view_is
    ∙ sym c.in_err-place.ensures.found in
    c.from_residual.ensures ∙ sym (number_of-none c.args.self.now c.args.bytes.now none)

pub returns-in_err-place-clause-found : goal.returns-in_err-place-clause-found
returns-in_err-place-clause-found c =
    let none =
    list_any-names c.self.inside.names.keys c.args.self.now c.args.bytes.now c.self.view_is
    ∙ sym c.in_err-place.ensures.found in
    rw c.from_residual.ensures
    ((λ some. absurd (false≢true some)), (λ held. absurd (none-Contains c.args.self.now c.args.bytes.now none held)))

pub returns-clause-number : goal.returns-clause-number
returns-clause-number c =
    sym (number_of-place c.self.inside.names.keys c.args.self.now c.args.bytes.now c.in_ok-place.place c.self.view_is
    (sym c.in_ok-place.ensures.index))

pub returns-clause-found : goal.returns-clause-found
returns-clause-found c =
    let any =
    list_any-names c.self.inside.names.keys c.args.self.now c.args.bytes.now c.self.view_is
    ∙ sym c.in_ok-place.ensures.found in
    ((λ _. Contains-any c.args.self.now c.args.bytes.now any), (λ _. refl))

pub returns-clause-name : goal.returns-clause-name
returns-clause-name c =
    let is =
    IsNumberOf-keys c.self.inside.names.keys c.args.self.now c.args.bytes.now c.in_ok-place.place c.self.view_is
    (sym c.in_ok-place.ensures.index) in
    is.name
