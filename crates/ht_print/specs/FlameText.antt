-- The flame stacks of a front are its line, where the stacks that are it have a sum other than 0,
-- and then those of each of its next fronts. A line is the front's texts with `;` between them and
-- `:` for each `;` in them, a blank, the sum and a line feed.
use Rattle.std.specs.Prelude.{◌≡◌, ℕ, zero, suc, ◌==◌, if◌then◌else◌, List, [], ◌∷◌, ◌++◌, codes, ◌+◌, decimal, length}
use Rattle.std.specs.Prelude.{map}
use Rattle.std.specs.List.{flat_map}
use Rattle.stack_table.specs.Stack.{most_frames}
use Rattle.cost_tree.specs.Costed.{Costed, costed}
use Rattle.cost_tree.specs.Inclusive.{own}
use Rattle.cost_tree.specs.NextFronts.{next_fronts}
use Rattle.stack_trees.specs.declared.direction.Direction.TheVariants.{FromRoot}
use Rattle.stack_trees.specs.StackTexts.{lists_towards}
use Rattle.ht_trace.specs.declared.frame.Style.TheVariants.{Plain}
use Rattle.ht_trace.specs.TableState.{TableState}
use Rattle.live_ledger.specs.declared.event.Event.{Event}
use Rattle.ht_print.specs.declared.flame.FlameCost.{FlameCost}
use Rattle.ht_print.specs.FlameCosts.{trace_costs}

-- a colon for a semicolon, since semicolons stand between texts
abbrev pub flame_byte : ℕ → ℕ
flame_byte byte = if byte == 59 then 58 else byte

-- a text with a colon for each semicolon
unfoldable pub flame_name : List ℕ → List ℕ
flame_name text = map flame_byte text

-- texts with a semicolon before each
unfoldable pub flame_rest : List (List ℕ) → List ℕ
flame_rest texts = flat_map (λ text. codes ";" ++ flame_name text) texts

-- the texts of a front with semicolons between them
unfoldable pub flame_path : List (List ℕ) → List ℕ
flame_path [] = []
flame_path (text ∷ more) = flame_name text ++ flame_rest more

-- the path is that of any front of which this is the rest, which has a semicolon more
abbrev pub IsPathOf : List ℕ → List ℕ → Type 0
IsPathOf rest path = (front : List (List ℕ)) → rest ≡ flame_rest front → path ≡ flame_path front

-- a line of a path and a figure
abbrev pub figure_line : List ℕ → ℕ → List ℕ
figure_line path figure = path ++ (codes " " ++ (decimal figure ++ codes "\n"))

-- the line of a front with its own sum, where that isn't 0
unfoldable pub flame_line : List (List ℕ) → ℕ → List ℕ
flame_line front sum = if sum == 0 then [] else figure_line (flame_path front) sum

-- the line of a front, and then the lines of the fronts that begin with it and have up to so many texts more, those of
-- one with a lower least stack first
unfoldable pub flame_of : ℕ → List Costed → List (List ℕ) → List ℕ
flame_of zero stacks front = flame_line front (own front stacks)
flame_of (suc more) stacks front = flame_line front (own front stacks)
    ++ flat_map (λ next. flame_of more stacks next) (next_fronts front stacks)

-- the lines of lists of texts with these costs
unfoldable pub flame_of_lists : List (List (List ℕ)) → List ℕ → List ℕ
flame_of_lists lists costs = flame_of most_frames (costed lists costs) []

-- the lines of the stacks of a trace, whose texts are read from the outermost frame on
abbrev pub flame_text : TableState → List ℕ → List ℕ
flame_text tables costs = flame_of_lists (lists_towards FromRoot Plain tables) costs

-- the lines of a trace with these tables and events
abbrev pub flame_of_trace : FlameCost → TableState → List Event → List ℕ
flame_of_trace cost tables events = flame_text tables
    (trace_costs cost (length tables.nodes + 1) events)
