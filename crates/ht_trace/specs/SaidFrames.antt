-- What the numbers of an instruction line say of its frames, and the fault of these, for private
-- clauses.
use Rattle.std.specs.Prelude.{ℕ, List, length, Option}
use Rattle.ht_lines.specs.Content.{Content, instruction_line}
use Rattle.ht_lines.specs.Fields.{numbers}
use Rattle.ht_trace.specs.declared.error.LineError.{LineError}
use Rattle.ht_trace.specs.declared.frame.Frame.{Frame}
use Rattle.ht_trace.specs.declared.instructions.InstructionEntry.{InstructionEntry}
use Rattle.ht_trace.specs.declared.push_frames.FrameNumbers.{FrameNumbers}
use Rattle.ht_trace.specs.FramesSaid.{frames_said, triples}
use Rattle.ht_trace.specs.Instruction.{Instruction}
use Rattle.ht_trace.specs.LineFault.{append_fault, instruction_fault}

-- the frames that the numbers of a tail say
abbrev pub tail_frames : List ℕ → List Frame
tail_frames tail = frames_said (numbers tail)

-- those of its triples alone
abbrev pub tail_triples : List ℕ → List Frame
tail_triples tail = triples (numbers tail)

-- the frame that three numbers say
abbrev pub frame_said : FrameNumbers → Frame
frame_said said = record { function = said.function; file = said.file; line = said.line }

-- the instruction with this pointer, module and tail
abbrev pub tail_instruction : ℕ → ℕ → List ℕ → Instruction
tail_instruction ip module_string tail =
    record { ip = ip; module_string = module_string; frames = tail_frames tail }

-- the line that says so
abbrev pub tail_line : ℕ → ℕ → List ℕ → Content
tail_line ip module_string tail = instruction_line ip module_string (numbers tail)

-- its entry, where the frames of the tail stand behind these
abbrev pub tail_entry : InstructionEntry → List Frame → List ℕ → InstructionEntry
tail_entry front frames tail = record {
  ip = front.ip;
  start = length frames;
  count = length (tail_frames tail);
  module_string = front.module_string;
}

-- its fault, beside so many strings and instructions
abbrev pub tail_fault : ℕ → ℕ → ℕ → List ℕ → Option LineError
tail_fault strings count module_string tail =
    instruction_fault strings count module_string (tail_frames tail)

-- its fault where its module is held
abbrev pub frames_fault : ℕ → ℕ → List ℕ → Option LineError
frames_fault strings count tail = append_fault strings count (tail_frames tail)
