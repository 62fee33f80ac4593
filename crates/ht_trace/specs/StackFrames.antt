-- The frames of a stack.
use Rattle.std.specs.Prelude.{ℕ, ◌==◌, if◌then◌else◌, List, [], ◌∷◌, map, unwrap_or}
use Rattle.std.specs.List.{flat_map, range_with_len}
use Rattle.stack_table.specs.Node.{Node}
use Rattle.stack_table.specs.Stack.{stack}
use Rattle.ht_trace.specs.declared.frame.FrameAt.{FrameAt}
use Rattle.ht_trace.specs.Contents.{contents}
use Rattle.ht_trace.specs.Instruction.{Instruction, frame_count_of}
use Rattle.ht_trace.specs.TraceLists.{instructions, nodes}

-- the frames of instruction n, by their places in it, from the innermost on
abbrev pub frames_of : List Instruction → ℕ → List FrameAt
frames_of held n =
    map (λ index. record { instruction = n; index = index })
    (range_with_len 0 (unwrap_or (frame_count_of held n) 0))

-- the frame of stack 0, apart from that of instruction 0
abbrev pub no_stack : FrameAt
no_stack = record { instruction = 0; index = 1 }

-- the frames of stack n, from the innermost on: those of its nodes' instructions, from node n outwards
abbrev pub stack_frames : List Instruction → List Node → ℕ → List FrameAt
stack_frames held nodes n = if n == 0 then no_stack ∷ []
    else flat_map (frames_of held) (stack nodes n)

-- the frames of the stack that a node is called from: none where that is stack 0
abbrev pub outer_frames : List Instruction → List Node → ℕ → List FrameAt
outer_frames held nodes parent = if parent == 0 then [] else stack_frames held nodes parent

-- the frames of stack n of a trace
abbrev pub frames : List (List ℕ) → ℕ → List FrameAt
frames lines n = stack_frames (instructions (contents lines)) (nodes (contents lines)) n
