-- What is still to be given of flame stacks: the text of the nodes that have a line, in their order,
-- behind those that were given; no line is longer than the longest front and 22 bytes.
use Rattle.std.specs.Prelude.{◌≡◌, ◌≢◌, ℕ, ◌+◌, ◌<◌, ◌≤◌, ◌++◌, All, List, Vec, drop, length, slice_get}
use Rattle.std.specs.List.{flat_map}
use Rattle.std.specs.Option.{option_map_or}
use Rattle.cost_tree.specs.declared.node.CostNode.{CostNode}
use Rattle.cost_tree.specs.TreeState.{TreeState}
use Rattle.ht_print.specs.declared.front_text.FrontText.{FrontText}
use Rattle.ht_print.specs.FlameText.{flame_line, flame_rest}
use Rattle.ht_print.specs.FlameWalk.{IsRooted, front_at}
use Rattle.ht_print.specs.FrontText.{HasRoom, IsTextOf}

-- what contracts see of them: their text, how many they are at most, and how many bytes one has at most
pub record FlameState : Type 0 where
  pub rest : List ℕ
  pub left : ℕ
  pub longest : ℕ

-- the most bytes of a line behind its front: a blank, the digits of a number, and a line feed
abbrev pub figure_bytes : ℕ
figure_bytes = 22

-- a front's text with room for the rest of its line
abbrev pub line_bytes : List (List ℕ) → ℕ
line_bytes front = length (flame_rest front) + figure_bytes

-- node n's own cost, and its line
abbrev pub own_at : TreeState → ℕ → ℕ
own_at tree n = option_map_or (λ (node : CostNode). node.own) (slice_get tree.nodes n) 0

abbrev pub line_at : TreeState → ℕ → List ℕ
line_at tree n = flame_line (front_at tree n) (own_at tree n)

-- a node that has a line
pub record HasLine (tree : TreeState) (n : ℕ) : Type 0 where
  pub within : n < length tree.nodes
  pub own : own_at tree n ≢ 0

-- the lines of nodes; those of the new ones are those of the old ones and that of node n; and they
-- have lines where the old ones do
abbrev pub lines_at : TreeState → List ℕ → List ℕ
lines_at tree nodes = flat_map (line_at tree) nodes

abbrev pub AddsLineOf : TreeState → ℕ → List ℕ → List ℕ → Type 0
AddsLineOf tree n old new = lines_at tree new ≡ lines_at tree old ++ line_at tree n

abbrev pub StillHaveLines : TreeState → List ℕ → List ℕ → Type 0
StillHaveLines tree old new = All (HasLine tree) old → All (HasLine tree) new

-- the nodes have lines, there is room for the text of each front, and no line is longer than the longest
pub record AreLines {Z : Type 0} (tree : TreeState) (nodes : Vec ℕ Z) (front : FrontText)
    (longest : ℕ)
    : Type 0 where
  pub rooted : IsRooted tree
  pub lines : All (HasLine tree) nodes.items
  pub text : IsTextOf tree front
  pub room : HasRoom tree front
  pub bounded : All (λ texts. line_bytes texts ≤ longest) tree.fronts

-- the lines behind the first so many
abbrev pub lines_behind : TreeState → List ℕ → ℕ → ℕ → FlameState
lines_behind tree nodes given longest = record {
  rest = flat_map (line_at tree) (drop given nodes);
  left = length (drop given nodes);
  longest = longest;
}

-- some bytes were given of a text, behind what stood there
pub record HasGiven (old new before after : List ℕ) : Type 0 where
  pub given : List ℕ
  pub appended : after ≡ before ++ given
  pub left : old ≡ given ++ new
