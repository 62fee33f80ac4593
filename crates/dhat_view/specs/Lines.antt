-- The lines of a view. A line is two blanks for each level behind the first, the share, the cost
-- with commas in brackets, and the front's last text, or of gathered places their number and the
-- threshold.
use Rattle.std.specs.Prelude.{ℕ, ◌-◌, ◌*◌, ◌==◌, if◌then◌else◌, List, [], ◌++◌, codes, decimal}
use Rattle.cost_tree.specs.declared.scale.Scale.{Scale}
use Rattle.cost_tree.specs.CostLines.{FrontLine, Shown, a_front, gathered, last_of}
use Rattle.hp_num.specs.Commas.{decimal_with_commas}
use Rattle.hp_num.specs.Hundredths.{hundredths_of}
use Rattle.hp_num.specs.Percent.{percent}
use Rattle.hp_num.specs.Right.{right_aligned}

-- what stands before a line's text: two blanks for each level, the share of the total, and the cost with commas
unfoldable pub share_text : Scale → ℕ → ℕ → List ℕ
share_text scale level cost =
    right_aligned (2 * level) []
    ++ (percent (hundredths_of cost scale.total)
    ++ (codes " (" ++ (decimal_with_commas cost ++ codes ") ")))

-- the line of a cost on a level with a text
unfoldable pub view_line : Scale → ℕ → ℕ → List ℕ → List ℕ
view_line scale level cost text = share_text scale level cost ++ (text ++ codes "\n")

-- how many places are gathered
unfoldable pub places_text : ℕ → List ℕ
places_text places = if places == 1 then codes "in 1 place below "
    else codes "in " ++ (decimal places ++ codes " places below ")

-- the line of so many places that are gathered
unfoldable pub gathered_line : Scale → ℕ → ℕ → ℕ → List ℕ
gathered_line scale level cost places = share_text scale level cost
    ++ (places_text places ++ (percent scale.threshold ++ codes "\n"))

-- the line of a cost on a level, by what is shown: a front by its last text
abbrev pub shown_line : Scale → ℕ → ℕ → Shown → List ℕ
shown_line scale level cost (a_front front) = view_line scale level cost (last_of front)
shown_line scale level cost (gathered places) = gathered_line scale level cost places

-- a line of a tree, whose first level is that of the fronts of one text
abbrev pub line_text : Scale → FrontLine → List ℕ
line_text scale line = shown_line scale (line.level - 1) line.cost line.shown
