use Rattle.std.proofs.Common.{◌≡◌, ◌+◌, ◌≤◌, ◌++◌, map, vec_len, vec_capacity}
use Rattle.std.specs.List.{range_with_len}
use Rattle.ht_trace.specs.declared.frame.FrameAt.{FrameAt}
use Rattle.ht_trace.proofs.stack_frames.push_instruction.Given as goal

-- the frames so far are appended, and those that are left fit
abbrev pub invariant-loop-index : goal.invariant-loop-index
invariant-loop-index l = record {
  appended : l.out.items
      ≡ l.initial.out.items
      ++ map (λ index. let at : FrameAt = record { instruction = l.fn.instruction; index = index } in at)
      (range_with_len 0 l.index);
  len : vec_len l.out ≡ vec_len l.initial.out + l.index;
  room : vec_len l.initial.out + l.count ≤ vec_capacity l.out;
  capacity : vec_capacity l.initial.out ≤ vec_capacity l.out;
}
