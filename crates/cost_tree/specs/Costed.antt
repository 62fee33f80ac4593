-- Stacks with their costs. A stack is a list of texts, of which the first stands next to the root,
-- and a cost.
use Rattle.std.specs.Prelude.{ℕ, List, [], ◌∷◌}

-- a stack: its texts, of which the first stands next to the root of a tree, and its cost
pub record Costed : Type 0 where
  pub texts : List (List ℕ)
  pub cost : ℕ

-- the stacks with these lists of texts and these costs, in their order
unfoldable pub costed : List (List (List ℕ)) → List ℕ → List Costed
costed [] costs = []
costed (texts ∷ lists) [] = []
costed (texts ∷ lists) (cost ∷ costs) = record { texts = texts; cost = cost } ∷ costed lists costs
