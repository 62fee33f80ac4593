use Rattle.std.proofs.Common.{length, arith, ap}
use Rattle.std.proofs.lemmas.List.{length-append, length-map}
use Rattle.ht_lines.specs.Fields.{fields, number, numbers}
use Rattle.ht_trace.specs.FramesSaid.{frames_said}
use Rattle.ht_trace.proofs.FrameLemmas.{length-frames_said}
use Rattle.ht_trace.proofs.instructions.append.Goals as goal

pub overflow_cast-count : goal.overflow_cast-count
overflow_cast-count c =
    let all = ap length c.in_ok-push_frames.ensures.appended in
    let said = frames_said (numbers c.args.tail.now) in
    omega (
      arith,
      all,
      length-append c.args.frames.now.items said,
      length-frames_said (numbers c.args.tail.now),
      length-map (fields c.args.tail.now) number,
    )
