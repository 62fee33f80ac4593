-- Each line of fronts stands on the level of its front's length.
use Rattle.std.proofs.Common.{ℕ, zero, suc, ◌+◌, List, [], ◌∷◌, ◌++◌, length, refl}
use Rattle.std.specs.Prelude.{All}
use Rattle.std.specs.List.{flat_map}
use Rattle.std.proofs.lemmas.List.Elements.{All-append, All-cons, All-nil}
use Rattle.cost_tree.specs.declared.scale.Scale.{Scale}
use Rattle.cost_tree.specs.Costed.{Costed}
use Rattle.cost_tree.specs.CostLines.{FrontLine, cost_lines, front_line, front_lines, gathered_lines, kept_fronts}
use Rattle.cost_tree.specs.CostLines.{small_fronts}
use Rattle.cost_tree.specs.IsShownAs.{IsLevelled}
use Rattle.cost_tree.proofs.Lists.{All-flat}

gathered-levelled : (stacks : List Costed) (level : ℕ) (fronts : List (List (List ℕ)))
    → All IsLevelled (gathered_lines stacks level fronts)
unfolding gathered_lines
gathered-levelled stacks level [] = All-nil IsLevelled
gathered-levelled stacks level (next ∷ more) = All-cons IsLevelled _ [] tt (All-nil IsLevelled)

front-levelled : (more : ℕ) (scale : Scale) (stacks : List Costed) (front : List (List ℕ))
    → All IsLevelled (front_lines more scale stacks front)
unfolding front_lines
front-levelled zero scale stacks front = All-cons IsLevelled (front_line 0 stacks front) [] refl (All-nil IsLevelled)
front-levelled (suc more) scale stacks front =
    let kept : List (List (List ℕ)) = kept_fronts scale stacks front in
    let few : List FrontLine = gathered_lines stacks (length front + 1) (small_fronts scale stacks front) in
    All-cons IsLevelled (front_line (length kept + length few) stacks front)
    (flat_map (front_lines more scale stacks) kept ++ few) refl
    (All-append IsLevelled (flat_map (front_lines more scale stacks) kept) few
    (All-flat IsLevelled (front_lines more scale stacks) kept (λ k next within. front-levelled more scale stacks _))
    (gathered-levelled stacks (length front + 1) (small_fronts scale stacks front)))

pub lines-levelled : (depth : ℕ) (scale : Scale) (stacks : List Costed) → All IsLevelled (cost_lines depth scale stacks)
unfolding cost_lines
lines-levelled depth scale stacks = front-levelled depth scale stacks []
