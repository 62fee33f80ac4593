-- The text of a front, as it goes from one node's to another's, for private clauses.
use Rattle.std.specs.Prelude.{◌≡◌, ◌≢◌, ℕ, ◌<◌, ◌≤◌, List, ◌++◌, All, length, map, reverse, vec_capacity, vec_len}
use Rattle.cost_tree.specs.TreeState.{TreeState}
use Rattle.ht_print.specs.declared.front_text.Between.{Between}
use Rattle.ht_print.specs.declared.front_text.FrontText.{FrontText}
use Rattle.ht_print.specs.FlameText.{flame_rest}
use Rattle.ht_print.specs.FlameWalk.{IsBelowRoot, IsRooted, front_at, last_text}

-- the text is that of its node's front
pub record IsTextOf (tree : TreeState) (front : FrontText) : Type 0 where
  pub within : front.node < length tree.nodes
  pub text : front.text.items ≡ flame_rest (front_at tree front.node)

-- the text is that of a node's front, and the path leads from another node to node n
pub record IsBetween (tree : TreeState) (n : ℕ) (text path : List ℕ) (between : Between) : Type 0
  where
    pub at_held : between.at < length tree.nodes
    pub above_held : between.above < length tree.nodes
    pub text_of : text ≡ flame_rest (front_at tree between.at)
    pub path_to : front_at tree between.above ++ map (last_text tree) (reverse path)
        ≡ front_at tree n
    pub path_held : All (IsBelowRoot tree) path

-- the text is that of a front, which the path's nodes lengthen to that of node n
pub record LeadsTo (tree : TreeState) (n : ℕ) (text path : List ℕ) : Type 0 where
  pub front : List (List ℕ)
  pub text_of : text ≡ flame_rest front
  pub path_to : front ++ map (last_text tree) path ≡ front_at tree n
  pub path_held : All (IsBelowRoot tree) path

-- there is room for the texts of all fronts, and for the nodes on the ways to them
pub record HasRoom (tree : TreeState) (front : FrontText) : Type 0 where
  pub text : All (λ texts. length (flame_rest texts) ≤ vec_capacity front.text) tree.fronts
  pub path : All (λ texts. length texts ≤ vec_capacity front.path) tree.fronts

-- the room is what it was
pub record KeepsRoom (old new : FrontText) : Type 0 where
  pub text : vec_capacity new.text ≡ vec_capacity old.text
  pub path : vec_capacity new.path ≡ vec_capacity old.path

-- what going to node n asks for: the node is held, and the text is that of a front, with room for each
pub record CanGoTo (tree : TreeState) (n : ℕ) (front : FrontText) : Type 0 where
  pub held : n < length tree.nodes
  pub tree_is : IsRooted tree
  pub text : IsTextOf tree front
  pub room : HasRoom tree front

-- what going up asks for: the nodes are different ones that are held, and there is room for the later one
pub record CanClimb (tree : TreeState) (front : FrontText) (between : Between) : Type 0 where
  pub tree_is : IsRooted tree
  pub apart : between.at ≢ between.above
  pub held : between.at < length tree.nodes
  pub held_above : between.above < length tree.nodes
  pub room : between.at < between.above → vec_len front.path < vec_capacity front.path

-- whichever node they are between, they still are
abbrev pub StillBetween : TreeState → FrontText → Between → FrontText → Between → Type 0
StillBetween tree old before new after = (n : ℕ)
    → IsBetween tree n old.text.items old.path.items before
    → IsBetween tree n new.text.items new.path.items after

-- the last texts of nodes, with a semicolon before each
abbrev pub rest_text : TreeState → List ℕ → List ℕ
rest_text tree nodes = flame_rest (map (last_text tree) nodes)
