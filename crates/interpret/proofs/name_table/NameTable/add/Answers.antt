use Rattle.std.proofs.Common.{◌≡◌, ℕ, Bool, true, false, not, List, [], ◌∷◌, ◌++◌, length, Option, Some, ap, sym, ◌∙◌}
use Rattle.std.proofs.Common.{subst}
use Rattle.std.specs.Prelude.{IfNone}
use Rattle.std.specs.List.{list_any}
use Rattle.std.specs.Option.{is_some}
use Rattle.std.specs.Str.{bytes_eq}
use Rattle.intern_tables.specs.Numbers.{number_of}
use Rattle.ht_trace.specs.declared.error.LineError.TheVariants.{TooMany}
use Rattle.ht_trace.specs.LineFault.{most_entries}
use Rattle.interpret.specs.FirstAppearances.{over_fault, with_new}
use Rattle.interpret.proofs.FirstLemmas.{named-any, none-of, over-absent, with-absent, with-held}
use Rattle.interpret.proofs.name_table.NameTable.add.Goals as goal

there : (c : goal.Then-is_some) → list_any (bytes_eq c.args.name.now) c.args.self.now ≡ true
there c =
    sym (named-any c.args.self.now c.args.name.now)
    ∙ ap (λ (names : List (List ℕ)). is_some (number_of names c.args.name.now)) (sym c.self.view_is)
    ∙ sym (c.is_some.ensures ∙ ap is_some c.find.ensures.number) ∙ c.if-is_some.true

absent : (names : List (List ℕ)) (name : List ℕ) (found : Bool) → found ≡ is_some (number_of names name) → found ≡ false
    → list_any (bytes_eq name) names ≡ false
absent names name found is none = sym (named-any names name) ∙ sym is ∙ none

pub returns-then-is_some-clause-added : goal.returns-then-is_some-clause-added
returns-then-is_some-clause-added c = sym (with-held bytes_eq c.args.self.now c.args.name.now (there c))

pub returns-then-is_some-clause-is_new : goal.returns-then-is_some-clause-is_new
returns-then-is_some-clause-is_new c = sym (ap not (there c))

pub returns-then-len-eq-MAX_NAMES-clause-fault : goal.returns-then-len-eq-MAX_NAMES-clause-fault
returns-then-len-eq-MAX_NAMES-clause-fault c = λ other.
    let none =
    absent c.self.inside.names c.args.name.now c.is_some.result (c.is_some.ensures ∙ ap is_some c.find.ensures.number)
    c.if-is_some.false in
    subst (λ (names : List (List ℕ)). over_fault most_entries (length (with_new bytes_eq names c.args.name.now))
    ≡ Some TooMany) c.self.view_is
    (over-absent bytes_eq c.self.inside.names c.args.name.now most_entries none
    (sym c.len.ensures.count ∙ c.if-len-eq-MAX_NAMES.true))

pub returns-clause-added : goal.returns-clause-added
returns-clause-added c =
    let none =
    absent c.self.inside.names c.args.name.now c.is_some.result (c.is_some.ensures ∙ ap is_some c.find.ensures.number)
    c.if-is_some.false in
    let unnumbered =
    none-of (number_of c.self.inside.names c.args.name.now) (named-any c.self.inside.names c.args.name.now ∙ none) in
    let added =
    subst (λ (o : Option ℕ). IfNone o (c.intern.new.self ≡ c.self.inside.names ++ c.args.name.now ∷ [])) unnumbered
    c.in_ok-intern.ensures.added in
    subst (λ (names : List (List ℕ)). c.intern.new.self ≡ with_new bytes_eq names c.args.name.now) c.self.view_is
    (added ∙ sym (with-absent bytes_eq c.self.inside.names c.args.name.now none))

pub returns-clause-is_new : goal.returns-clause-is_new
returns-clause-is_new c =
    let none =
    absent c.self.inside.names c.args.name.now c.is_some.result (c.is_some.ensures ∙ ap is_some c.find.ensures.number)
    c.if-is_some.false in
    subst (λ (names : List (List ℕ)). true ≡ not (list_any (bytes_eq c.args.name.now) names)) c.self.view_is
    (sym (ap not none))
