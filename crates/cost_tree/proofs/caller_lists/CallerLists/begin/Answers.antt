use Rattle.std.proofs.Common.{◌≢◌, ℕ, ◌<◌, ◌∷◌, ◌++◌, List, [], length, sym, ap, ◌∙◌, subst, arith}
use Rattle.cost_tree.specs.declared.list_step.ListStep.{ListStep}
use Rattle.cost_tree.specs.declared.list_step.ListStep.TheVariants.{Begin}
use Rattle.cost_tree.specs.GrowingLists.{caller_list}
use Rattle.cost_tree.specs.Texts.{lists_of}
use Rattle.cost_tree.specs.Told.{AreTold, told}
use Rattle.cost_tree.proofs.Listing.{as-many-lists}
use Rattle.cost_tree.proofs.Telling.{AreTold-more, begun-held, begun-texts, told-more}
use Rattle.cost_tree.proofs.caller_lists.CallerLists.begin.Goals as goal
use Rattle.cost_tree.proofs.caller_lists.CallerLists.begin.Goals.{In_ok-push}

-- the caller has a list
held : (c : In_ok-push) → c.args.caller ≢ 0 → c.args.caller < length (told c.self.inside.steps.items)
held c some =
    let count = as-many-lists c.self.inside.names (told c.self.inside.steps.items) c.args.self.now c.self.view_is in
    omega (arith, c.requires.held some)

pub invariant_of-self-2 : goal.invariant_of-self-2
invariant_of-self-2 c =
    let names = c.self.inside.names in
    let steps : List ListStep = c.self.inside.steps.items in
    let count = as-many-lists names (told steps) c.args.self.now c.self.view_is in
    let caller_held = held (goal.at.invariant_of-self-2 c).In_ok-push in
    subst (λ (ss : List ListStep). AreTold names ss) (sym c.in_ok-push.ensures.items)
    (AreTold-more names steps (Begin c.args.caller) c.self.invariant (caller_held, omega (arith, c.requires.few))
    (begun-held names (told steps) c.args.caller caller_held c.self.invariant.texts))

pub returns : goal.returns
returns c =
    let names = c.self.inside.names in
    let steps : List ListStep = c.self.inside.steps.items in
    let caller : ℕ = c.args.caller in
    record {
      appended = ap (λ (ss : List ListStep). lists_of names (told ss)) c.in_ok-push.ensures.items
          ∙ ap (λ (lists : List (List ℕ)). lists_of names lists) (told-more steps (Begin caller))
          ∙ begun-texts names (told steps) caller (held (goal.at.returns c).In_ok-push)
          ∙ ap (λ (lists : List (List (List ℕ))). lists ++ caller_list lists caller ∷ []) c.self.view_is;
    }
