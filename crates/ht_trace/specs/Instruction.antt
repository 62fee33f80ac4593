-- The instructions of a trace, by their numbers. An instruction has its pointer, the number of its
-- module's string, and its frames from the innermost on.
use Rattle.std.specs.Prelude.{ℕ, ◌==◌, ◌-◌, if◌then◌else◌, List, length, Option, Some, slice_get}
use Rattle.std.specs.Option.{option_map}
use Rattle.ht_trace.specs.declared.frame.Frame.{Frame}

-- an instruction pointer, the number of its module's string, and its frames from the innermost on: each after the
-- first is the one into which the frame before it was inlined
pub record Instruction : Type 0 where
  pub ip : ℕ
  pub module_string : ℕ
  pub frames : List Frame

-- how many frames instruction n has, where it is held: instruction 0, which stands for none, has one
abbrev pub frame_count_of : List Instruction → ℕ → Option ℕ
frame_count_of instructions n =
    if n == 0 then Some 1
    else option_map (λ instruction. length instruction.frames) (slice_get instructions (n - 1))
