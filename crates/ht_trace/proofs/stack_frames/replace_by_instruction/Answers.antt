use Rattle.std.proofs.Common.{Option, ℕ, ap, arith}
use Rattle.std.specs.Prelude.{unwrap_or}
use Rattle.ht_trace.proofs.StackLemmas.{length-frames_of}
use Rattle.ht_trace.proofs.stack_frames.replace_by_instruction.Goals as goal

pub push_instruction-requires : goal.push_instruction-requires
push_instruction-requires c =
    let all = length-frames_of c.args.instructions.now c.from-instruction.result in
    let count = ap (λ (o : Option ℕ). unwrap_or o 0) c.frame_count.ensures.count in
    omega (
      arith,
      all,
      count,
      c.unwrap_or-count.ensures,
      c.saturating_sub.ensures,
      c.len.ensures,
      c.in_ok-reserve.ensures.ok,
      c.in_ok-reserve.ensures.len,
      c.in_ok-reserve.ensures.capacity,
      c.clear.ensures.capacity,
      c.clear.ensures.len,
    )
