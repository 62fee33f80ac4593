-- What is kept of a tree while it grows along a shape.
use Rattle.std.specs.Prelude.{◌≡◌, ℕ, ◌+◌, ◌-◌, ◌<◌, ◌≤◌, All, List, [], ◌∷◌, ◌++◌, length, map, replicate, take, Some}
use Rattle.std.specs.Prelude.{slice_get, slice_index, slice_set, sum_by}
use Rattle.cost_tree.specs.declared.branches.Branches.{Branches}
use Rattle.cost_tree.specs.declared.edge.Edge.{Edge}
use Rattle.cost_tree.specs.Costed.{Costed}
use Rattle.cost_tree.specs.Growth.{AreBranches, IsGrown, weight}
use Rattle.cost_tree.specs.Shapes.{list_at}
use Rattle.cost_tree.specs.Texts.{AreNames, fronts_of, texts_of}
use Rattle.cost_tree.specs.Children.{AreBehindParents}

-- the lists are of the lengths that they should have, and their numbers are of nodes that are held
pub record IsBuilt (shape : List Edge) (tree : Branches) : Type 0 where
  pub nodes_count : length tree.nodes.items ≡ length tree.edges.items + 1
  pub levels_count : length tree.levels.items ≡ length tree.nodes.items
  pub numbered_count : length tree.numbered.items ≡ length shape + 1
  pub numbers : All (λ number. number ≤ length tree.nodes.items) tree.numbered.items
  pub root : slice_index tree.numbered.items 0 ≡ 1
  pub lower : AreBehindParents tree.nodes.items

-- node 0 alone, along a shape with so many edges
pub record IsStarted (edges : ℕ) (tree : Branches) : Type 0 where
  pub edges_are : tree.edges.items ≡ []
  pub nodes_are : tree.nodes.items ≡ record { parent = 0; cost = 0; own = 0; first = 0 } ∷ []
  pub levels_are : tree.levels.items ≡ 0 ∷ []
  pub numbered_are : tree.numbered.items ≡ slice_set (replicate (edges + 1) 0) 0 1

-- a node more
pub record IsMade (shape : List Edge) (parent place list : ℕ) (old new : Branches) (n : ℕ) : Type
    0 where
  pub edge : Edge
  pub at : slice_get shape (place - 1) ≡ Some edge
  pub number : n ≡ length old.edges.items + 1
  pub edges_are : new.edges.items
      ≡ old.edges.items ++ record { parent = parent; text = edge.text } ∷ []
  pub nodes_are : new.nodes.items
      ≡ old.nodes.items ++ record { parent = parent; cost = 0; own = 0; first = list } ∷ []
  pub levels_are : new.levels.items
      ≡ old.levels.items ++ (slice_index old.levels.items parent + 1) ∷ []
  pub numbered_are : new.numbered.items ≡ slice_set old.numbered.items place (n + 1)
  pub path_is : new.path.items ≡ old.path.items

-- the numbers lead from the nodes of a shape to those of a tree with the same fronts
pub record IsNumbering (shape_fronts fronts : List (List (List ℕ))) (numbered : List ℕ) : Type
    0 where
  pub held : (node n : ℕ) (front : List (List ℕ)) → slice_get numbered node ≡ Some (n + 1)
      → slice_get shape_fronts node ≡ Some front → slice_get fronts n ≡ Some front
  pub all : (node n : ℕ) (front : List (List ℕ)) → slice_get shape_fronts node ≡ Some front
      → slice_get fronts n ≡ Some front → slice_get numbered node ≡ Some (n + 1)

-- the tree is that of the stacks, by the names of the shape's numbers
pub record IsGrowth (names : List (List ℕ)) (shape : List Edge) (tree : Branches)
    (stacks done : List Costed) (depth : ℕ) : Type 0 where
  pub branches : AreBranches names tree.edges.items tree.nodes.items
      (fronts_of names tree.edges.items)
  pub numbering : IsNumbering (fronts_of names shape) (fronts_of names tree.edges.items)
      tree.numbered.items
  pub levels : tree.levels.items ≡ map length (fronts_of names tree.edges.items)
  pub grown : IsGrown (fronts_of names tree.edges.items) tree.nodes.items stacks done depth

-- a stack of these texts and this cost behind those before it
abbrev pub with_stack : List Costed → List (List ℕ) → ℕ → List Costed
with_stack before texts cost = before ++ record { texts = texts; cost = cost } ∷ []

-- a stack's first j texts are in the tree, and the node is that of their front
pub record IsStage (names : List (List ℕ)) (shape : List Edge) (tree : Branches)
    (before : List Costed) (texts : List (List ℕ)) (cost depth n j : ℕ) : Type 0 where
  pub growth : IsGrowth names shape tree (with_stack before (take j texts) cost) before depth
  pub at : slice_get (fronts_of names tree.edges.items) n ≡ Some (take j texts)

-- and no further ones are to be: all are in it where nothing is left of its way, and else as many as a front may have
pub record IsReached (names : List (List ℕ)) (shape : List Edge) (tree : Branches)
    (before : List Costed) (texts : List (List ℕ)) (cost depth n : ℕ) : Type 0 where
  pub count : ℕ
  pub stage : IsStage names shape tree before texts cost depth n count
  pub whole : length tree.path.items ≡ 0 → count ≡ length texts
  pub cut : 0 < length tree.path.items → (count ≡ depth) × (depth < length texts)

-- for all names and all stacks before
abbrev pub AreReached : List Edge → ℕ → ℕ → ℕ → Branches → Branches → ℕ → Type 0
AreReached shape end list depth old new n =
    (names : List (List ℕ)) (before : List Costed) (cost : ℕ) → AreNames names shape
    → length before ≡ list → 0 < cost
    → IsGrowth names shape old (with_stack before [] cost) before depth
    → IsReached names shape new before (texts_of names (list_at shape end)) cost depth n

-- the stack of a list is added
abbrev pub GrowsBy : List Edge → ℕ → ℕ → ℕ → ℕ → Branches → Branches → Type 0
GrowsBy shape end list cost depth old new =
    (names : List (List ℕ)) (before : List Costed) → AreNames names shape → length before ≡ list
    → IsGrowth names shape old before before depth
    → IsGrowth names shape new (with_stack before (texts_of names (list_at shape end)) cost)
    (with_stack before (texts_of names (list_at shape end)) cost) depth

-- it is built as before, with the same figures
pub record StaysBuilt (shape : List Edge) (old new : Branches) : Type 0 where
  pub built : IsBuilt shape new
  pub weight : sum_by weight new.nodes.items ≡ sum_by weight old.nodes.items
