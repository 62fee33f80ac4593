-- That the tree of a profile's parts may be viewed, and which view they give.
use Rattle.std.proofs.Common.{◌≡◌, ℕ, List, ◌++◌, length, sym, ap, ◌∙◌}
use Rattle.std.specs.Prelude.{sum}
use Rattle.cost_tree.specs.Costed.{costed}
use Rattle.cost_tree.specs.TreeLines.{HasLines}
use Rattle.cost_tree.specs.TreeState.{TreeState}
use Rattle.cost_tree.proofs.Laws.{costed-sum}
use Rattle.dhat_json.specs.declared.profile.Dhat.{Dhat}
use Rattle.dhat_view.specs.declared.options.ViewOptions.{ViewOptions}
use Rattle.dhat_view.specs.declared.parts.ViewParts.{ViewParts}
use Rattle.dhat_view.specs.ArePartsOf.{AreParts, ArePartsOf}
use Rattle.dhat_view.specs.LinesIn.{IsViewed}
use Rattle.dhat_view.specs.PointCosts.{point_costs}
use Rattle.dhat_view.specs.PointFronts.{point_fronts}
use Rattle.dhat_view.specs.TreeText.{scale_of, tree_text}
use Rattle.dhat_view.specs.ViewText.{head_text, view_by, view_text}
use Rattle.dhat_view.proofs.Costs.{costs-count, fronts-count}

-- there are as many fronts as points
pub as-many : (parts : ViewParts) → AreParts parts → length parts.costs.items ≡ length parts.fronts
as-many parts (options, dhat, are) =
    ap (λ (costs : List ℕ). length costs) are.costs ∙ costs-count options.key dhat ∙ sym (fronts-count dhat)
    ∙ sym (ap (λ (fronts : List (List (List ℕ))). length fronts) are.fronts)

-- the sum of the costs
pub costs-sum : (parts : ViewParts) → AreParts parts → sum parts.costs.items ≡ parts.total
costs-sum parts (options, dhat, are) = ap (λ (costs : List ℕ). sum costs) are.costs ∙ sym are.total

pub viewed : (parts : ViewParts) (tree : TreeState) (depth : ℕ) → AreParts parts
    → HasLines tree (costed parts.fronts parts.costs.items) depth
    → IsViewed parts.total tree (costed parts.fronts parts.costs.items) depth
viewed parts tree depth are lines = record {
  lines = lines;
  total_is = costed-sum parts.fronts parts.costs.items (as-many parts are) ∙ costs-sum parts are;
}

-- the view that the parts give is that of the profile
pub view-of-parts : (parts : ViewParts) (options : ViewOptions) (dhat : Dhat) → ArePartsOf options dhat parts
    → parts.head.items
    ++ tree_text parts.options.depth (scale_of parts.total parts.options.threshold)
    (costed parts.fronts parts.costs.items)
    ≡ view_by options dhat
unfolding view_text
view-of-parts parts options dhat are =
    ap
    (λ (o : ViewOptions). parts.head.items
    ++ tree_text o.depth (scale_of parts.total o.threshold) (costed parts.fronts parts.costs.items)) are.options_are
    ∙ ap
    (λ (fronts : List (List (List ℕ))). parts.head.items
    ++ tree_text options.depth (scale_of parts.total options.threshold) (costed fronts parts.costs.items)) are.fronts
    ∙ ap
    (λ (costs : List ℕ). parts.head.items
    ++ tree_text options.depth (scale_of parts.total options.threshold) (costed (point_fronts dhat) costs)) are.costs
    ∙ ap
    (λ (head : List ℕ). head
    ++ tree_text options.depth (scale_of parts.total options.threshold)
    (costed (point_fronts dhat) (point_costs options.key dhat))) are.head
    ∙ ap
    (λ (total : ℕ). head_text options.key dhat total
    ++ tree_text options.depth (scale_of total options.threshold)
    (costed (point_fronts dhat) (point_costs options.key dhat))) are.total
