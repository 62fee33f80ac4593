-- The lines of a report's stacks and groups. A figure is told with its unit and its share of the
-- sum of the section's figures over all stacks, in hundredths of a percent. A section shows the
-- first groups up to a limit, each with its first stacks up to another one, or the first stacks by
-- themselves; and says how many are left, where some are. Of a stack it writes the frames behind
-- the innermost one.
use Rattle.std.specs.Prelude.{ℕ, ◌==◌, ◌-◌, List, [], ◌++◌, codes, decimal, length, map, take, if◌then◌else◌}
use Rattle.std.specs.List.{flat_map}
use Rattle.stack_trees.specs.StackTexts.{stack_texts}
use Rattle.hp_num.specs.Hundredths.{hundredths_of}
use Rattle.hp_num.specs.Percent.{percent}
use Rattle.ht_trace.specs.declared.frame.FrameAt.{FrameAt}
use Rattle.ht_trace.specs.declared.frame.Style.TheVariants.{Plain}
use Rattle.ht_trace.specs.FrameText.{frame_text}
use Rattle.ht_trace.specs.TableState.{TableState}
use Rattle.ht_print.specs.declared.entry.Entry.{Entry}
use Rattle.ht_print.specs.declared.scale.Scale.{Scale}
use Rattle.ht_print.specs.declared.scale.Unit.{Unit}
use Rattle.ht_print.specs.declared.scale.Unit.TheVariants.{Calls, Bytes, Temporary}
use Rattle.ht_print.specs.ReportGroups.{innermost, ordered_groups, others, place_of, stacks_at}

abbrev pub unit_text : Unit → List ℕ
unit_text Calls = codes "calls"
unit_text Bytes = codes "bytes"
unit_text Temporary = codes "temporary"

-- a figure, its unit, and its share of the whole
unfoldable pub figure_text : Scale → ℕ → List ℕ
figure_text scale figure =
    decimal figure ++ (codes " "
    ++ (unit_text scale.unit
    ++ (codes " (" ++ (percent (hundredths_of figure scale.total) ++ codes ")"))))

-- a line for each text, with blanks before it; the texts of frames
unfoldable pub frame_lines : List ℕ → List (List ℕ) → List ℕ
frame_lines blanks texts = flat_map (λ text. blanks ++ (text ++ codes "\n")) texts

abbrev pub texts_of : TableState → List FrameAt → List (List ℕ)
texts_of tables frames = map (frame_text Plain tables) frames

-- how many entries are left, where some are
unfoldable pub left_line : List ℕ → ℕ → List ℕ
left_line label left = if left == 0 then [] else label ++ (decimal left ++ codes "\n")

-- the number of a stack, at the end of a line
unfoldable pub in_stack : ℕ → List ℕ
in_stack stack = codes " in stack " ++ (decimal stack ++ codes "\n")

-- a stack that stands by itself, with the texts of its frames
unfoldable pub stack_lines : Scale → List (List ℕ) → Entry → List ℕ
stack_lines scale texts entry =
    figure_text scale entry.figure ++
    (codes " at " ++
    (innermost texts ++
    (in_stack entry.stack ++
    frame_lines (codes "  ") (others texts))))

abbrev pub stack_at : TableState → Scale → Entry → List ℕ
stack_at tables scale entry = stack_lines scale (stack_texts Plain tables entry.stack) entry

-- a stack of a group
unfoldable pub member_lines : Scale → List (List ℕ) → Entry → List ℕ
member_lines scale texts entry =
    codes "  " ++
    (figure_text scale entry.figure ++
    (in_stack entry.stack ++
    frame_lines (codes "    ") (others texts)))

abbrev pub member_at : TableState → Scale → Entry → List ℕ
member_at tables scale entry = member_lines scale (stack_texts Plain tables entry.stack) entry

-- the first so many stacks of a group, and how many are left
unfoldable pub members_lines : TableState → Scale → ℕ → List Entry → List ℕ
members_lines tables scale limit members =
    flat_map (member_at tables scale) (take limit members) ++
    left_line (codes "  more stacks: ") (length members - limit)

-- the line of a group: its figure, and its place
unfoldable pub place_line : Scale → List ℕ → ℕ → List ℕ
place_line scale place figure = figure_text scale figure ++ (codes " at " ++ (place ++ codes "\n"))

abbrev pub place_at : TableState → Scale → Entry → List ℕ
place_at tables scale group = place_line scale (place_of tables group.stack) group.figure

-- a group of this place with these members
unfoldable pub group_lines : TableState → Scale → ℕ → List ℕ → List Entry → ℕ → List ℕ
group_lines tables scale limit place members figure = place_line scale place figure
    ++ members_lines tables scale limit members

-- the group of an entry among stacks that are in order
abbrev pub group_at : TableState → Scale → ℕ → List Entry → Entry → List ℕ
group_at tables scale limit stacks group =
    group_lines tables scale limit (place_of tables group.stack)
    (stacks_at tables stacks (place_of tables group.stack)) group.figure

-- the first so many groups of the stacks, each with so many stacks, and how many groups are left
unfoldable pub merged_lines : TableState → Scale → ℕ → ℕ → List Entry → List ℕ
merged_lines tables scale limit sub_limit stacks =
    flat_map (group_at tables scale sub_limit stacks) (take limit (ordered_groups tables stacks)) ++
    left_line (codes "more places: ") (length (ordered_groups tables stacks) - limit)

-- the first so many stacks, and how many are left
unfoldable pub unmerged_lines : TableState → Scale → ℕ → List Entry → List ℕ
unmerged_lines tables scale limit stacks =
    flat_map (stack_at tables scale) (take limit stacks) ++
    left_line (codes "more stacks: ") (length stacks - limit)
