-- What of a tree still has no line, for private clauses.
use Rattle.std.specs.Prelude.{◌≡◌, ℕ, ◌+◌, ◌-◌, ◌^◌, ◌<◌, if◌then◌else◌, nat_lt, List, [], ◌∷◌, ◌++◌, length, map}
use Rattle.std.specs.Prelude.{reverse}
use Rattle.cost_tree.specs.declared.children.Child.{Child}
use Rattle.cost_tree.specs.declared.children.Gathered as several
use Rattle.cost_tree.specs.declared.line.CostLine.{CostLine}
use Rattle.cost_tree.specs.declared.line.Place.TheVariants.{Node, Gathered}
use Rattle.cost_tree.specs.declared.lines.Pending.{Pending}
use Rattle.cost_tree.specs.declared.lines.Pending.TheVariants.{Below, Line}
use Rattle.cost_tree.specs.declared.scale.Scale.{Scale}
use Rattle.cost_tree.specs.Children.{children_of}
use Rattle.cost_tree.specs.Costed.{Costed}
use Rattle.cost_tree.specs.CostLines.{FrontLine, front_lines}
use Rattle.cost_tree.specs.Shares.{cost_at, gathered_in, is_small_at, kept_children, small_children}
use Rattle.cost_tree.specs.TreeLines.{IsLineOf, front_at, line_at}
use Rattle.cost_tree.specs.TreeState.{TreeState}

-- a node is held, and stands on the level of its front, which fits
abbrev pub IsPending : TreeState → Pending → Type 0
IsPending tree (Below level node) = (node < length tree.nodes)
    × (level ≡ length (front_at tree node)) × (level < 2 ^ 32)
IsPending tree (Line line) = Unit {0}

-- a line that is whole is one of the tree
abbrev pub IsLeft : TreeState → List Costed → ℕ → Pending → Type 0
IsLeft tree stacks depth (Below level node) = Unit {0}
IsLeft tree stacks depth (Line line) = IsLineOf tree stacks depth line

-- the line of nodes that are gathered
abbrev pub gathered_line : ℕ → several.Gathered → CostLine
gathered_line level few
    = record { level = level; children = 0; cost = few.cost; place = Gathered few.places }

-- where there are some
abbrev pub pending_gathered : ℕ → several.Gathered → List Pending
pending_gathered level few = if nat_lt 0 few.places then Line (gathered_line level few) ∷ [] else []

abbrev pub pending_child : ℕ → Child → Pending
pending_child level child = Below level child.node

-- of so many children, the first one last
abbrev pub pending_of : ℕ → List Child → List Pending
pending_of level children = reverse (map (pending_child level) children)

-- the children of a node, which stand on this level, the first one last
abbrev pub pending_children : Scale → TreeState → ℕ → ℕ → List Pending
pending_children scale tree level n =
    pending_gathered level (gathered_in tree (small_children scale tree n))
    ++ reverse (map (Below level) (kept_children scale tree n))

-- the children of a node are added behind what is pending
abbrev pub AddsChildren : Scale → TreeState → ℕ → ℕ → List Pending → List Pending → Type 0
AddsChildren scale tree level n old new = new ≡ old ++ pending_children scale tree level n

-- and so many they are
abbrev pub child_lines : Scale → TreeState → ℕ → ℕ → ℕ
child_lines scale tree level n = length (pending_children scale tree level n)

-- what is pending of a child that has no siblings
abbrev pub pending_alone : Scale → TreeState → ℕ → ℕ → Pending
pending_alone scale tree level child =
    if is_small_at scale tree child
    then Line (gathered_line level (record { places = 1; cost = cost_at tree child }))
    else Below level child

-- the line of a node with so many children
abbrev pub node_line : TreeState → ℕ → ℕ → ℕ → CostLine
node_line tree level n children
    = record { level = level; children = children; cost = cost_at tree n; place = Node n }

-- the line that is made next
abbrev pub pending_line : Scale → TreeState → Pending → CostLine
pending_line scale tree (Below level node) = node_line tree level node
    (length (pending_children scale tree (level + 1) node))
pending_line scale tree (Line line) = line

-- it, and the lines below it
abbrev pub pending_lines : ℕ → Scale → TreeState → List Costed → Pending → List FrontLine
pending_lines depth scale tree stacks (Below level node) = front_lines
    (depth - length (front_at tree node)) scale stacks (front_at tree node)
pending_lines depth scale tree stacks (Line line) = line_at tree line ∷ []

-- what stands below the line of what is pending, the first one last
abbrev pub pending_below : Scale → TreeState → Pending → List Pending
pending_below scale tree (Below level node) = pending_children scale tree (level + 1) node
pending_below scale tree (Line line) = []

-- the nodes below it
abbrev pub children_below : TreeState → Pending → List ℕ
children_below tree (Below level node) = children_of tree.nodes node
children_below tree (Line line) = []
