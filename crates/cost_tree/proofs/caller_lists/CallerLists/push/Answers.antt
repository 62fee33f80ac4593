use Rattle.std.proofs.Common.{ℕ, ◌<◌, List, length, sym, ap, ◌∙◌, subst, arith}
use Rattle.std.proofs.lemmas.List.{length-map}
use Rattle.cost_tree.specs.declared.list_step.ListStep.{ListStep}
use Rattle.cost_tree.specs.declared.list_step.ListStep.TheVariants.{Push}
use Rattle.cost_tree.specs.Texts.{lists_of, texts_of}
use Rattle.cost_tree.specs.Told.{AreTold, after, told}
use Rattle.cost_tree.proofs.Listing.{as-many-lists, lists-kept, lists-last, texts-grown, texts-last}
use Rattle.cost_tree.proofs.Telling.{AreTold-more, AreTold-names, pushed-count, pushed-gains, told-more}
use Rattle.cost_tree.proofs.caller_lists.CallerLists.push.Goals as goal
use Rattle.cost_tree.proofs.caller_lists.CallerLists.push.Goals.{In_ok-number}

-- there is a last list
begun : (c : In_ok-number) → 0 < length (told c.self.inside.steps.items)
begun c =
    let count = as-many-lists c.self.inside.names (told c.self.inside.steps.items) c.args.self.now c.self.view_is in
    omega (arith, c.requires.begun)

pub invariant_of-self-2 : goal.invariant_of-self-2
invariant_of-self-2 c =
    let new = c.intern.new.self in
    let steps : List ListStep = c.self.inside.steps.items in
    let number : ℕ = c.in_ok-number.number in
    let is = c.in_ok-number.ensures in
    let some = begun (goal.at.invariant_of-self-2 c).In_ok-number in
    let grown = texts-grown c.self.inside.names new (told steps) is.none_lost c.self.invariant.texts in
    subst (λ (ss : List ListStep). AreTold new ss) (sym c.in_ok-push.ensures.items)
    (AreTold-more new steps (Push number) (AreTold-names c.self.inside.names new steps is.none_lost c.self.invariant)
    some
    (texts-last new (told steps) (after (told steps) (Push number)) number some grown is.within
    (pushed-gains (told steps) number)))

pub returns-clause-appended : goal.returns-clause-appended
returns-clause-appended c = λ earlier last front.
    let new = c.intern.new.self in
    let steps : List ListStep = c.self.inside.steps.items in
    let number : ℕ = c.in_ok-number.number in
    ap (λ (ss : List ListStep). lists_of new (told ss)) c.in_ok-push.ensures.items
    ∙ ap (λ (lists : List (List ℕ)). lists_of new lists) (told-more steps (Push number))
    ∙ lists-last new (told steps) (after (told steps) (Push number)) number c.args.text.now earlier last
    (begun (goal.at.returns-clause-appended c).In_ok-number) c.in_ok-number.ensures.name
    (pushed-gains (told steps) number)
    (lists-kept c.self.inside.names new (told steps) c.in_ok-number.ensures.names_stay c.self.invariant.texts
    ∙ c.self.view_is
    ∙ front)

pub returns-clause-count : goal.returns-clause-count
returns-clause-count c =
    let names = c.self.inside.names in
    let new = c.intern.new.self in
    let steps : List ListStep = c.self.inside.steps.items in
    let number : ℕ = c.in_ok-number.number in
    ap (λ (ss : List ListStep). length (lists_of new (told ss))) c.in_ok-push.ensures.items
    ∙ ap (λ (lists : List (List ℕ)). length (lists_of new lists)) (told-more steps (Push number))
    ∙ length-map (after (told steps) (Push number)) (texts_of new)
    ∙ pushed-count (told steps) number (begun (goal.at.returns-clause-count c).In_ok-number)
    ∙ as-many-lists names (told steps) c.args.self.now c.self.view_is
