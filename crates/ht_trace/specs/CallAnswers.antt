-- What calls of the tables answer by the lists that they hold.
use Rattle.std.specs.Prelude.{◌≡◌, ℕ, List, ◌++◌, Option, slice_get}
use Rattle.std.specs.Option.{option_map}
use Rattle.std.specs.List.{flat_map}
use Rattle.live_ledger.specs.LedgerState.{HeldInfo}
use Rattle.stack_table.specs.Node.{Node}
use Rattle.stack_table.specs.Stack.{stack}
use Rattle.ht_trace.specs.declared.frame.FrameAt.{FrameAt}
use Rattle.ht_trace.specs.declared.frame.Style.{Style}
use Rattle.ht_trace.specs.FrameText.{frame_at, text_of}
use Rattle.ht_trace.specs.Instruction.{Instruction}
use Rattle.ht_trace.specs.StackFrames.{frames_of, outer_frames, stack_frames}
use Rattle.ht_trace.specs.TableState.{TableState}

-- size and stack of an info
abbrev pub info_answer : List HeldInfo → ℕ → Option (ℕ × ℕ)
info_answer infos n =
    option_map (λ info. record { 0 = info.size; 1 = info.stack }) (slice_get infos n)

-- a stack's frames are those of its own instruction, and then those of the stack that this is called from
abbrev pub IsCalledFrom : TableState → ℕ → ℕ × ℕ → Type 0
IsCalledFrom tables n node =
    stack_frames tables.instructions tables.nodes n
    ≡ frames_of tables.instructions node.0 ++ outer_frames tables.instructions tables.nodes node.1

-- the frames of the instructions of stack n
abbrev pub frames_along : List Instruction → List Node → ℕ → List FrameAt
frames_along instructions nodes n = flat_map (frames_of instructions) (stack nodes n)

-- the text of a frame of these instructions
abbrev pub text_among : Style → List (List ℕ) → List Instruction → FrameAt → List ℕ
text_among style strings instructions at =
    text_of style strings at.index (frame_at instructions at)
