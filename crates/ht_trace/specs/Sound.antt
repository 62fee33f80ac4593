-- What lists refer to is held: the strings of instructions, the instructions of nodes, and the
-- stacks of infos and of steps.
use Rattle.std.specs.Prelude.{◌≡◌, ℕ, ◌<◌, ◌≤◌, List, length, Option, unwrap_or}
use Rattle.std.specs.List.{AllByRecursion, flat_map}
use Rattle.live_ledger.specs.LedgerState.{HeldInfo}
use Rattle.stack_table.specs.Node.{Node}
use Rattle.stack_table.specs.Stack.{frame_count, most_frames, stack}
use Rattle.ht_trace.specs.Instruction.{Instruction}
use Rattle.ht_trace.specs.StackFrames.{frames_of}

-- an instruction has a frame, and the strings that it names are among so many, or 0 for none
pub record IsNamed (string_count : ℕ) (instruction : Instruction) : Type 0 where
  pub module_held : instruction.module_string ≤ string_count
  pub frames_held : AllByRecursion
      (λ frame. (frame.function ≤ string_count) × (frame.file ≤ string_count)) instruction.frames
  pub some_frame : 0 < length instruction.frames

-- the instructions of a stack are held, and it has as many frames as its nodes say, of which there are at most 4,096;
-- stack 0 alone is empty
pub record IsSoundStack (instructions : List Instruction) (nodes : List Node) (n : ℕ) : Type 0 where
  pub held : AllByRecursion (λ instruction. instruction ≤ length instructions) (stack nodes n)
  pub count : length (flat_map (frames_of instructions) (stack nodes n)) ≡ frame_count nodes n
  pub few : frame_count nodes n ≤ most_frames
  pub some : 0 < n → 0 < length (stack nodes n)

-- the file version is one that there is, and strings, instructions and stacks are held where they are referred to
pub record IsSound (version : Option ℕ) (string_count : ℕ) (instructions : List Instruction)
    (nodes : List Node) (infos : List HeldInfo) : Type 0 where
  pub low : 1 ≤ unwrap_or version 1
  pub high : unwrap_or version 1 ≤ 3
  pub named : AllByRecursion (IsNamed string_count) instructions
  pub stacks : (n : ℕ) → n ≤ length nodes → IsSoundStack instructions nodes n
  pub infos_held : AllByRecursion (λ info. info.stack ≤ length nodes) infos
