-- A line of fronts is shown with its level, how many lines belong to it, its cost, and its front's
-- last text and the number of that or how many fronts are gathered; a front stands on the level of
-- its length.
use Rattle.std.specs.Prelude.{◌≡◌, ℕ, List, length, ◌++◌, ◌∷◌, []}
use Rattle.cost_tree.specs.declared.shown_line.ShownLine.{ShownLine}
use Rattle.cost_tree.specs.declared.shown_line.ShownPlace.{ShownPlace}
use Rattle.cost_tree.specs.declared.shown_line.ShownPlace.TheVariants.{Front, Gathered}
use Rattle.cost_tree.specs.CostLines.{FrontLine, Shown, a_front, gathered, last_of, cost_lines}
use Rattle.cost_tree.specs.Texts.{text_of}
use Rattle.cost_tree.specs.declared.scale.Scale.{Scale}
use Rattle.cost_tree.specs.Costed.{costed}
use Rattle.cost_tree.specs.TreeLines.{line_at}
use Rattle.cost_tree.specs.TreeState.{TreeState}
use Rattle.cost_tree.specs.declared.line.CostLine.{CostLine}

-- a front is shown by its last text and the number of that among these texts, and fronts that are
-- gathered by how many they are
abbrev pub IsPlaceOf : List (List ℕ) → ShownPlace → Shown → Type 0
IsPlaceOf names (Front text number) (a_front front) = (text.now ≡ last_of front)
    × (text_of names number ≡ last_of front)
IsPlaceOf names (Front text number) (gathered places) = ⊥
IsPlaceOf names (Gathered places) (a_front front) = ⊥
IsPlaceOf names (Gathered places) (gathered fronts) = places ≡ fronts

-- a front stands on the level of its length
abbrev pub IsLevelOf : ℕ → Shown → Type 0
IsLevelOf level (a_front front) = level ≡ length front
IsLevelOf level (gathered places) = Unit {0}

abbrev pub IsLevelled : FrontLine → Type 0
IsLevelled line = IsLevelOf line.level line.shown

-- the line is that of a front or of some that are gathered, and all that is shown of it is its own
pub record IsShownAs (names : List (List ℕ)) (shown : ShownLine) (line : FrontLine) : Type
    0 where
  pub levelled : IsLevelled line
  pub level : shown.level ≡ line.level
  pub children : shown.children ≡ line.children
  pub cost : shown.cost ≡ line.cost
  pub place : IsPlaceOf names shown.shown line.shown

-- a line of a tree is shown, where its front stands on its level
abbrev pub IsShownIn : TreeState → CostLine → ShownLine → Type 0
IsShownIn tree line shown = IsLevelled (line_at tree line)
    → IsShownAs tree.names shown (line_at tree line)

-- a taker takes what is shown of a line behind the lines that it has taken, whichever texts its numbers are those of
abbrev pub TakesShown : {X : Type 0} → (List (List ℕ) → X → List FrontLine → X → Type 0)
    → ShownLine → X → X → Type 0
TakesShown {X} takes shown old new = (names : List (List ℕ)) (line : FrontLine) (first : X)
    (lines : List FrontLine) → IsShownAs names shown line → takes names first lines old
    → takes names first (lines ++ line ∷ []) new

-- by some texts, the lines of these lists with their costs
abbrev pub TakesCosted : {X : Type 0} → (List (List ℕ) → X → List FrontLine → X → Type 0)
    → ℕ → Scale → List (List (List ℕ)) → List ℕ → X → X → Type 0
TakesCosted takes depth scale lists costs old new = (names : List (List ℕ))
    × takes names old (cost_lines depth scale (costed lists costs)) new

-- whichever costs a costing has
abbrev pub TakesStated : {X : Type 0} → (List (List ℕ) → X → List FrontLine → X → Type 0)
    → (List ℕ → Type 0) → ℕ → Scale → List (List (List ℕ)) → X → X → Type 0
TakesStated takes are_costs depth scale lists old new = (costs : List ℕ) → are_costs costs
    → TakesCosted takes depth scale lists costs old new
