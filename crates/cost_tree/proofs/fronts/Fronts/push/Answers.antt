use Rattle.std.proofs.Common.{◌≡◌, ℕ, ◌<◌, List, length, ap, ◌∙◌, arith}
use Rattle.std.proofs.lemmas.Result.{on_err_weaker, on_ok_weaker}
use Rattle.cost_tree.specs.Texts.{lists_of}
use Rattle.cost_tree.proofs.Listing.{as-many-lists, lists-kept, lists-last, texts-grown, texts-pushed}
use Rattle.cost_tree.proofs.fronts.Fronts.push.Goals as goal
use Rattle.cost_tree.proofs.fronts.Fronts.push.Goals.{In_ok-number}

-- there is a last list
begun : (c : In_ok-number) → 0 < length c.self.inside.shape
begun c =
    let count = as-many-lists c.self.inside.names c.self.inside.shape c.args.self.now c.self.view_is in
    omega (arith, c.requires.begun)

-- the lists stay while the name is added
kept : (c : In_ok-number) → lists_of c.intern.new.self c.self.inside.shape ≡ c.args.self.now
kept c =
    lists-kept c.self.inside.names c.intern.new.self c.self.inside.shape c.in_ok-number.ensures.names_stay
    c.self.invariant
    ∙ c.self.view_is

pub invariant_of-self-2 : goal.invariant_of-self-2
invariant_of-self-2 c =
    let new = c.intern.new.self in
    let is = c.in_ok-number.ensures in
    texts-pushed c.push.result new c.self.inside.shape c.push.new.self c.in_ok-number.number
    (texts-grown c.self.inside.names new c.self.inside.shape is.none_lost c.self.invariant) is.within
    (begun (goal.at.invariant_of-self-2 c).In_ok-number) c.push.ensures.appended c.push.ensures.unchanged

pub returns-clause-appended : goal.returns-clause-appended
returns-clause-appended c =
    let shared = (goal.at.returns-clause-appended c).In_ok-number in
    on_ok_weaker c.push.result
    (λ gains earlier last front.
    lists-last c.intern.new.self c.self.inside.shape c.push.new.self c.in_ok-number.number c.args.text.now earlier last
    (begun shared) c.in_ok-number.ensures.name gains (kept shared ∙ front))
    c.push.ensures.appended

pub returns-clause-unchanged : goal.returns-clause-unchanged
returns-clause-unchanged c =
    on_err_weaker c.push.result
    (λ same. ap (λ (lists : List (List ℕ)). lists_of c.intern.new.self lists) same
    ∙ kept (goal.at.returns-clause-unchanged c).In_ok-number)
    c.push.ensures.unchanged
