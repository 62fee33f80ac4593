-- Stacks that begin with a text have no line below the root's where all that begin with it cost too
-- little together: they are only counted, and stand in the root's gathered line. So the lines of
-- stacks are made of those of the same stacks where these cost nothing: the root's line says what
-- all cost, and has the gathered line, which stands behind all others.
use Rattle.std.specs.Prelude.{ℕ, ◌+◌, ◌&&◌, Bool, nat_lt, if◌then◌else◌, List, [], ◌∷◌, ◌++◌, length, map, take}
use Rattle.std.specs.Prelude.{◌≡◌, suc}
use Rattle.cost_tree.specs.declared.scale.Scale.{Scale}
use Rattle.cost_tree.specs.Costed.{Costed}
use Rattle.cost_tree.specs.CostLines.{FrontLine, cost_lines, cost_of, gathered_lines, is_small, small_fronts}

-- whether there is a first text, and what the stacks cost that begin with it is too small for a line
abbrev pub begins_small : Scale → List Costed → List (List ℕ) → Bool
begins_small scale stacks texts =
    nat_lt 0 (length texts) && is_small scale (cost_of stacks (take 1 texts))

-- a stack, which costs nothing where its first text is too small
abbrev pub unless_small : Scale → List Costed → Costed → Costed
unless_small scale stacks stack = record {
  texts = stack.texts;
  cost = if begins_small scale stacks stack.texts then 0 else stack.cost;
}

unfoldable pub without_small : Scale → List Costed → List Costed
without_small scale stacks = map (unless_small scale stacks) stacks

-- lines whose first one says this cost, with more lines of the level below it behind all others
abbrev pub with_gathered : List FrontLine → ℕ → List FrontLine → List FrontLine
with_gathered [] cost gathered = gathered
with_gathered (root ∷ lines) cost gathered =
    record {
      level = root.level;
      children = root.children + length gathered;
      cost = cost;
      shown = root.shown;
    } ∷ (lines ++ gathered)

-- the lines to fronts of some texts, made of those without what is too small
abbrev pub AreMadeWithSmall : ℕ → Scale → List Costed → Type 0
AreMadeWithSmall more scale stacks = cost_lines (suc more) scale stacks
    ≡ with_gathered (cost_lines (suc more) scale (without_small scale stacks))
    (cost_of stacks []) (gathered_lines stacks 1 (small_fronts scale stacks []))
