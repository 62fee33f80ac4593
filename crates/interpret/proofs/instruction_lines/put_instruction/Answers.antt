use Rattle.std.proofs.lemmas.Result.{MatchResult-weaker}
use Rattle.interpret.specs.Resolved.{instruction_said}
use Rattle.interpret.proofs.AddingLemmas.{put-line}
use Rattle.interpret.proofs.instruction_lines.put_instruction.Goals as goal

pub returns-clause-appended : goal.returns-clause-appended
unfolding instruction_said
returns-clause-appended c =
    MatchResult-weaker c.put_bytes-2.result c.put_bytes-2.ensures.appended
    (λ done last version. put-line _ _ _ _ _ _ _ _ _ c.in_ok-put_bytes.ensures.appended
    c.in_ok-put_number.ensures.appended (rw c.module_number.ensures at c.in_ok-put_number-2.ensures.appended)
    c.in_ok-put_frames.ensures.appended last)
    (λ error all. all)
