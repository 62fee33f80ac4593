-- The first fault of a file of lines: that of a line's length comes before that of what it says,
-- and that of the end stands at the line after the last. The end's depends on whether the last line
-- ended with its line feed: each line fits into the file's bytes with one.
use Rattle.std.specs.Prelude.{ℕ, Bool, ◌+◌, ◌&&◌, nat_le, nat_lt, if◌then◌else◌, List, [], ◌∷◌, ◌++◌, length, sum_by}
use Rattle.std.specs.Prelude.{Option, Some, None}
use Rattle.std.specs.Option.{option_map, option_or}
use Rattle.hp_outside.specs.FaultTexts.{line_text}
use Rattle.hp_outside.specs.Lines.{lines_of}
use Rattle.hp_outside.specs.declared.span.LineFault.TheVariants.{LineTooLong, InputTooLong}
use Rattle.hp_outside.specs.declared.limits.Limits.{Limits}
use Rattle.command_frame.specs.declared.fault.FaultStatus.TheVariants.{PastLimit}
use Rattle.command_frame.specs.Told.{Told}
use Rattle.command_frame.specs.Report.{Report}

-- the most bytes of a file and of one line
pub record Bounds : Type 0 where
  pub input : ℕ
  pub line : ℕ

abbrev pub bounds_of : Limits → Bounds
bounds_of limits = record { input = limits.input; line = limits.line }

-- a line with more bytes than the limit, and a file
abbrev pub line_too_long : Told
line_too_long = record { text = line_text LineTooLong; status = PastLimit }

abbrev pub input_too_long : Told
input_too_long = record { text = line_text InputTooLong; status = PastLimit }

-- the bytes of lines that each end with a line feed
abbrev pub bytes_of_lines : List (List ℕ) → ℕ
bytes_of_lines lines = sum_by (λ line. length line + 1) lines

-- the fault of a line's length, in a file of so many bytes, of which so many stand before the line: its first bytes
-- up to one more than a line may have stand within the bytes that a file may have, or the file has more than those
-- and the line with its line feed doesn't end within them
abbrev pub length_fault : Bounds → ℕ → ℕ → ℕ → Option Told
length_fault bounds total before line =
    if nat_lt bounds.line line && nat_le (before + bounds.line + 1) bounds.input
    then Some line_too_long
    else if nat_lt bounds.input total && nat_le bounds.input (before + line)
    then Some input_too_long
    else None

-- the fault of a line after earlier lines, in a file of so many bytes, if it has one: the length is judged first
abbrev pub line_fault : Bounds → Report → ℕ → List (List ℕ) → List ℕ → Option Told
line_fault bounds report total earlier line =
    option_or (length_fault bounds total (bytes_of_lines earlier) (length line))
    (report.line_fault earlier line)

-- the fault of each line after those before it
abbrev pub line_faults : Bounds → Report → ℕ → List (List ℕ) → List (List ℕ) → List (Option Told)
line_faults bounds report total earlier [] = []
line_faults bounds report total earlier (line ∷ lines) =
    line_fault bounds report total earlier line
    ∷ line_faults bounds report total (earlier ++ line ∷ []) lines

-- a fault at the line of a number, from 1
pub record Refusal : Type 0 where
  pub number : ℕ
  pub told : Told

-- the first fault of these, the first of which stands at the line of this number
abbrev pub first_fault : ℕ → List (Option Told) → Option Refusal
first_fault number [] = None
first_fault number (None ∷ faults) = first_fault (number + 1) faults
first_fault number (Some told ∷ faults) = Some (record { number = number; told = told })

-- whether each of the lines of a file of so many bytes ended with its line feed, which only the last one may lack
abbrev pub is_ended : ℕ → List (List ℕ) → Bool
is_ended total lines = nat_le (bytes_of_lines lines) total

-- the fault of the end of a file of so many bytes with these lines, which stands at the line after the last
abbrev pub end_refusal : Report → ℕ → List (List ℕ) → Option Refusal
end_refusal report total lines =
    option_map (λ told. record { number = length lines + 1; told = told })
    (report.end_fault lines (is_ended total lines))

-- the refusal of a file of so many bytes with these lines: that of its first faulty line, or of its end
abbrev pub refusal_of_lines : Bounds → Report → ℕ → List (List ℕ) → Option Refusal
refusal_of_lines bounds report total lines =
    option_or (first_fault 1 (line_faults bounds report total [] lines))
    (end_refusal report total lines)

-- the refusal of a file of these bytes, if it has a fault
abbrev pub file_fault : Bounds → Report → List ℕ → Option Refusal
file_fault bounds report bytes = refusal_of_lines bounds report (length bytes) (lines_of bytes)
