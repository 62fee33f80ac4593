use Rattle.std.proofs.Common.{◌≡◌, ◌+◌, ◌≤◌, ◌++◌, length, vec_len, vec_capacity}
use Rattle.std.specs.List.{flat_map}
use Rattle.stack_table.specs.Stack.{stack}
use Rattle.ht_trace.specs.StackFrames.{frames_of}
use Rattle.ht_trace.proofs.stack_frames.push_stack.Given as goal

-- what is appended so far and what is left of the stack are the whole stack, and what is left fits
abbrev pub invariant-outwards : goal.invariant-outwards
invariant-outwards l = record {
  held : l.at ≤ length l.nodes;
  appended : l.out.items ++ flat_map (frames_of l.instructions) (stack l.nodes l.at)
      ≡ l.initial.out.items ++ flat_map (frames_of l.instructions) (stack l.nodes l.n);
  room : vec_len l.out + length (flat_map (frames_of l.instructions) (stack l.nodes l.at)) ≤ vec_capacity l.out;
}

abbrev pub decreases-outwards : goal.decreases-outwards
decreases-outwards l = l.at
