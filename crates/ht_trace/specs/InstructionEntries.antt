-- How the instructions are kept: the frames of all in one list, of which each has a part, for
-- private clauses.
use Rattle.std.specs.Prelude.{◌+◌, ◌-◌, ◌^◌, ◌≤◌, List, length, map, take, drop}
use Rattle.std.specs.List.{AllByRecursion}
use Rattle.ht_trace.specs.declared.frame.Frame.{Frame}
use Rattle.ht_trace.specs.declared.instructions.InstructionEntry.{InstructionEntry}
use Rattle.ht_trace.specs.Instruction.{Instruction}

-- the instruction of an entry
abbrev pub instruction_of : List Frame → InstructionEntry → Instruction
instruction_of frames entry = record {
  ip = entry.ip;
  module_string = entry.module_string;
  frames = take entry.count (drop entry.start frames);
}

abbrev pub instructions_of : List Frame → List InstructionEntry → List Instruction
instructions_of frames entries = map (instruction_of frames) entries

-- each part lies within the frames, and the instructions aren't too many
pub record AreInstructions (frames : List Frame) (entries : List InstructionEntry) : Type 0 where
  pub within : AllByRecursion (λ entry. entry.start + entry.count ≤ length frames) entries
  pub few : length entries ≤ 2 ^ 32 - 1
