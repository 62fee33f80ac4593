-- The text of a frame is its function's name, then its file and line, or else its module; the
-- address stands in front in the addressed style.
use Rattle.std.specs.Prelude.{◌≡◌, ℕ, ◌==◌, ◌-◌, if◌then◌else◌, List, [], ◌++◌, codes, decimal, Option, Some, None}
use Rattle.std.specs.Prelude.{option_and_then, slice_get, unwrap_or}
use Rattle.std.specs.Option.{option_map}
use Rattle.hp_num.specs.Hexadecimal.{hexadecimal}
use Rattle.ht_trace.specs.declared.frame.FrameAt.{FrameAt}
use Rattle.ht_trace.specs.declared.frame.FrameFound.{FrameFound}
use Rattle.ht_trace.specs.declared.frame.Style.{Style}
use Rattle.ht_trace.specs.declared.frame.Style.TheVariants.{Plain, Addressed}
use Rattle.ht_trace.specs.Instruction.{Instruction}
use Rattle.ht_trace.specs.TableState.{TableState}

-- the string with the number n; numbers begin at 1
abbrev pub string_at : List (List ℕ) → ℕ → Option (List ℕ)
string_at strings n = if n == 0 then None else slice_get strings (n - 1)

-- its text; every number that an instruction names is that of a string, or 0
abbrev pub text_at : List (List ℕ) → ℕ → List ℕ
text_at strings n = unwrap_or (string_at strings n) []

-- the frame at a place of an instruction
abbrev pub frame_of : Instruction → ℕ → Option FrameFound
frame_of instruction index =
    option_map (λ frame.
    record { ip = instruction.ip; module_string = instruction.module_string; frame = frame })
    (slice_get instruction.frames index)

-- the frame at a place: none at instruction 0, which stands for none
abbrev pub frame_at : List Instruction → FrameAt → Option FrameFound
frame_at held at =
    if at.instruction == 0 then None
    else option_and_then (λ instruction. frame_of instruction at.index)
    (slice_get held (at.instruction - 1))

-- a name for a function that has none
abbrev pub no_name : Style → ℕ → List ℕ
no_name Plain ip = codes "0x" ++ hexadecimal ip
no_name Addressed ip = codes "???"

abbrev pub in_module : Style → List ℕ → List ℕ
in_module Plain name = codes " in " ++ name
in_module Addressed name = codes " (in " ++ (name ++ codes ")")

-- the address in front, in the addressed style
abbrev pub address_text : Style → ℕ → List ℕ
address_text Plain ip = []
address_text Addressed ip = codes "0x" ++ (hexadecimal ip ++ codes ": ")

-- the function's name, with the texts of the strings
abbrev pub name_text : Style → List (List ℕ) → FrameFound → List ℕ
name_text style strings found =
    if found.frame.function == 0 then no_name style found.ip
    else text_at strings found.frame.function

-- its file and line, or else its module, or else nothing
abbrev pub place_text : Style → List (List ℕ) → FrameFound → List ℕ
place_text style strings found =
    if found.frame.file == 0
    then (if found.module_string == 0 then []
    else in_module style (text_at strings found.module_string))
    else codes " (" ++ (text_at strings found.frame.file
    ++ (codes ":" ++ (decimal found.frame.line ++ codes ")")))

abbrev pub found_text : Style → List (List ℕ) → FrameFound → List ℕ
found_text style strings found = address_text style found.ip
    ++ (name_text style strings found ++ place_text style strings found)

-- the frames of instruction 0 and of stack 0 have texts of their own
abbrev pub text_of : Style → List (List ℕ) → ℕ → Option FrameFound → List ℕ
text_of style strings index None = if index == 0 then codes "??" else codes "(no stack)"
text_of style strings index (Some found) = found_text style strings found

-- the text of a frame
unfoldable pub frame_text : Style → TableState → FrameAt → List ℕ
frame_text style tables at = text_of style tables.strings at.index (frame_at tables.instructions at)

-- the name of a frame's function, where it has one
unfoldable pub function_at : TableState → FrameAt → Option (List ℕ)
function_at tables at = option_and_then (λ found. string_at tables.strings found.frame.function)
    (frame_at tables.instructions at)

-- the frame's function is 0, or the frame is that of stack 0 or of instruction 0
abbrev pub HasNoFunctionAt : Option FrameFound → Type 0
HasNoFunctionAt None = Unit {0}
HasNoFunctionAt (Some found) = found.frame.function ≡ 0

abbrev pub HasNoFunction : TableState → FrameAt → Type 0
HasNoFunction tables at = HasNoFunctionAt (frame_at tables.instructions at)
