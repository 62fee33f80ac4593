-- The trace of a seed: so many names, instructions, stacks of one frame more or less and infos, and
-- then the events. The lines of a generated trace, and its text.
use Rattle.std.specs.Prelude.{ℕ, ◌+◌, List, ◌∷◌, ◌++◌, codes, decimal, map, if◌then◌else◌}
use Rattle.std.specs.List.{range_with_len}
use Rattle.hp_num.specs.Hexadecimal.{hexadecimal}
use Rattle.hp_outside.specs.WholeLines.{text_of_lines}
use Rattle.trace_gen.specs.Sizes.{Sizes}
use Rattle.trace_gen.specs.Draws.{draw}
use Rattle.trace_gen.specs.Moves.{Move, moves, next_move}

-- the line of a name, an instruction, a node and an info behind so many others of its kind
abbrev pub name_line : ℕ → List ℕ
name_line before = codes "s f" ++ decimal (before + 1)

abbrev pub instruction_line : ℕ → List ℕ
instruction_line before = codes "i "
    ++ (hexadecimal (before + 1) ++ (codes " 1 " ++ hexadecimal (before + 2)))

abbrev pub node_line : Sizes → ℕ → List ℕ
node_line sizes before = codes "t "
    ++ (hexadecimal (before + 1)
    ++ (codes " " ++ hexadecimal (draw sizes.seed before (before + 1))))

abbrev pub info_line : Sizes → ℕ → List ℕ
info_line sizes before = codes "a "
    ++ (hexadecimal (draw sizes.seed (sizes.stacks + before) 4096 + 1)
    ++ (codes " " ++ hexadecimal (before + 1)))

-- the line of an event
abbrev pub move_line : Move → List ℕ
move_line move = (if move.frees then codes "- " else codes "+ ") ++ hexadecimal move.info

abbrev pub event_line : Sizes → ℕ → List ℕ
event_line sizes before = move_line (next_move sizes before (moves sizes before))

-- the lines behind some number of lines of a kind, up to so many
abbrev pub lines_from : (ℕ → List ℕ) → ℕ → ℕ → List (List ℕ)
lines_from line first number = map line (range_with_len first number)

-- all lines
abbrev pub generated_lines : Sizes → List (List ℕ)
generated_lines sizes =
    codes "v 10500 2" ∷ codes "X gen" ∷ codes "s m" ∷
    (lines_from name_line 0 sizes.stacks
    ++ (lines_from instruction_line 0 sizes.stacks
    ++ (lines_from (node_line sizes) 0 sizes.stacks
    ++ (lines_from (info_line sizes) 0 sizes.stacks
    ++ lines_from (event_line sizes) 0 sizes.events))))

-- the text of the trace
abbrev pub generated_text : Sizes → List ℕ
generated_text sizes = text_of_lines (generated_lines sizes)
