-- What the lines of a tree stand for, where lists go on alone behind its fronts, for private
-- clauses.
use Rattle.std.specs.Prelude.{ℕ, List, Option, None, Some, slice_get, ◌≡◌, [], ◌++◌, All, map}
use Rattle.std.specs.Option.{option_map_or}
use Rattle.cost_tree.specs.declared.line.CostLine.{CostLine}
use Rattle.cost_tree.specs.declared.line.Place.{Place}
use Rattle.cost_tree.specs.declared.line.Place.TheVariants.{Node, Gathered}
use Rattle.cost_tree.specs.CostLines.{FrontLine}
use Rattle.cost_tree.specs.Tails.{tailed, going_on, tail_lines, with_tail}
use Rattle.cost_tree.specs.TreeLines.{line_at}
use Rattle.cost_tree.specs.TreeState.{TreeState}
use Rattle.std.specs.List.{flat_map}
use Rattle.cost_tree.specs.declared.scale.Scale.{Scale}
use Rattle.cost_tree.specs.declared.shown_line.ShownLine.{ShownLine}
use Rattle.cost_tree.specs.declared.tails.CutLists.{CutLists}
use Rattle.cost_tree.specs.AreLinesOf.{AreLinesOf}
use Rattle.cost_tree.specs.IsShownAs.{IsLevelled, IsShownAs}
use Rattle.cost_tree.specs.Texts.{lists_of, texts_of}

-- the first stack of a place's front
abbrev pub first_at : TreeState → Place → Option ℕ
first_at tree (Node n) = Some (option_map_or (λ node. node.first) (slice_get tree.nodes n) 0)
first_at tree (Gathered places) = None

-- the line of fronts that a line stands for, and those of the list that goes on alone from there
abbrev pub tailed_at : ℕ → List (List (List ℕ)) → List ℕ → TreeState → CostLine → List FrontLine
tailed_at depth lists counts tree line =
    tailed depth lists counts (first_at tree line.place) (line_at tree line)

-- of lists that are cut, the one that goes on alone from the front of a line, if one does
abbrev pub list_behind : CutLists → TreeState → CostLine → Option ℕ
list_behind lists tree line =
    going_on lists.depth lists.whole.now lists.counts.now (first_at tree line.place) line.level

-- the lines of a tree, each with those of the list that goes on alone from there
abbrev pub tailed_lines : CutLists → TreeState → List CostLine → List FrontLine
tailed_lines lists tree lines = flat_map
    (tailed_at lists.depth (lists_of lists.names.now lists.whole.now) lists.counts.now tree) lines

-- a taker takes them behind the texts, where the tree has the texts of the lists and fronts stand on their levels
abbrev pub TakesTailed : {X : Type 0} → (List (List ℕ) → X → List FrontLine → X → Type 0)
    → TreeState → CutLists → X → List CostLine → X → Type 0
TakesTailed {X} takes tree lists old lines new = (first : X) → tree.names ≡ lists.names.now
    → takes lists.names.now first [] old → All IsLevelled (map (line_at tree) lines)
    → takes lists.names.now first (tailed_lines lists tree lines) new

-- all lines of the tree
abbrev pub TakesAllTailed : {X : Type 0} → (List (List ℕ) → X → List FrontLine → X → Type 0)
    → Scale → TreeState → CutLists → X → X → Type 0
TakesAllTailed takes scale tree lists old new = (lines : List CostLine)
    × AreLinesOf scale tree lines × TakesTailed takes tree lists old lines new

-- a taker takes a line and those of a list behind it
abbrev pub TakesWithTail : {X : Type 0} → (List (List ℕ) → X → List FrontLine → X → Type 0)
    → CutLists → ℕ → ShownLine → X → X → Type 0
TakesWithTail {X} takes lists list shown old new = (line : FrontLine) (first : X)
    (lines : List FrontLine) → IsShownAs lists.names.now shown line
    → takes lists.names.now first lines old
    → takes lists.names.now first
    (lines ++ with_tail lists.depth (lists_of lists.names.now lists.whole.now) (Some list) line) new

-- the lines of more than `count` of the texts with these numbers
abbrev pub TakesTail : {X : Type 0} → (List (List ℕ) → X → List FrontLine → X → Type 0)
    → List (List ℕ) → List ℕ → ℕ → ℕ → X → X → Type 0
TakesTail {X} takes names numbers cost count old new = (first : X) (lines : List FrontLine)
    → takes names first lines old
    → takes names first (lines ++ tail_lines (texts_of names numbers) cost count) new
