use Rattle.std.proofs.Common.{◌≡◌, ◌+◌, ◌*◌, ◌^◌, ◌≤◌, length}
use Rattle.std.specs.List.{flat_map}
use Rattle.stack_table.specs.Stack.{stack}
use Rattle.ht_trace.specs.StackFrames.{frames_of}
use Rattle.ht_trace.proofs.stack_frames.count_frames.Given as goal

-- what is counted so far and what is left of the stack are the whole stack
abbrev pub invariant-outwards : goal.invariant-outwards
invariant-outwards l = record {
  held : l.at ≤ length l.nodes;
  few : l.count + l.at * 2 ^ 32 ≤ l.n * 2 ^ 32;
  counted : l.count + length (flat_map (frames_of l.instructions) (stack l.nodes l.at))
      ≡ length (flat_map (frames_of l.instructions) (stack l.nodes l.n));
}

abbrev pub decreases-outwards : goal.decreases-outwards
decreases-outwards l = l.at
