-- What is told of the children of a node, for private clauses.
use Rattle.std.specs.Prelude.{◌≡◌, ℕ, List, [], ◌∷◌}
use Rattle.cost_tree.specs.declared.child_nodes.ChildNodes.{ChildNodes}
use Rattle.cost_tree.specs.declared.child_nodes.ChildNodes.TheVariants.{None, One, Several}

-- that there are none, or which one there is; that there are several says nothing more
abbrev pub AreChildNodes : ChildNodes → List ℕ → Type 0
AreChildNodes None children = children ≡ []
AreChildNodes (One child) children = children ≡ child ∷ []
AreChildNodes Several children = Unit {0}
