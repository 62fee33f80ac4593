-- The places that are frames of the tables. A place is a frame where its instruction is held and
-- has it; instruction 0 and stack 0 have one each.
use Rattle.std.specs.Prelude.{ℕ, ◌==◌, ◌<◌, if◌then◌else◌, List, unwrap_or}
use Rattle.ht_trace.specs.declared.frame.FrameAt.{FrameAt}
use Rattle.ht_trace.specs.Instruction.{Instruction, frame_count_of}
use Rattle.ht_trace.specs.TableState.{TableState}

-- how many places an instruction has: instruction 0 has its own frame and that of stack 0, one that isn't held none
abbrev pub place_count : List Instruction → ℕ → ℕ
place_count held n = if n == 0 then 2 else unwrap_or (frame_count_of held n) 0

-- the place is that of a frame of a held instruction, of instruction 0 or of stack 0
abbrev pub IsFrame : TableState → FrameAt → Type 0
IsFrame tables at = at.index < place_count tables.instructions at.instruction
