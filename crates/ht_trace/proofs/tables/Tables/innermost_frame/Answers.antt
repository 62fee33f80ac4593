use Rattle.std.proofs.Common.{List, ap, ◌∙◌}
use Rattle.std.specs.Prelude.{slice_get}
use Rattle.ht_trace.specs.declared.frame.FrameAt.{FrameAt}
use Rattle.ht_trace.proofs.SoundLemmas.{first-place, head-frame}
use Rattle.ht_trace.proofs.tables.Tables.innermost_frame.Goals as goal

pub returns-in-Some-clause-first : goal.returns-in-Some-clause-first
returns-in-Some-clause-first c =
    ap (λ (frames : List FrameAt). slice_get frames 0) c.in-Some.ensures.frames
    ∙ head-frame c.args.self.now.instructions c.in-Some.instruction _ c.in-Some.ensures.some_frame

pub returns-in-Some-clause-place : goal.returns-in-Some-clause-place
returns-in-Some-clause-place c =
    let tables = c.args.self.now in
    first-place tables.instructions tables.nodes c.args.stack
    (record { instruction = c.in-Some.instruction; index = 0 }) (returns-in-Some-clause-first c)
