use Rattle.std.proofs.Common.{◌≤◌, List, length, ap, arith, subst, sym}
use Rattle.std.specs.Prelude.{All}
use Rattle.std.proofs.lemmas.Result.{MatchResult-weaker}
use Rattle.ht_trace.specs.declared.frame.FrameAt.{FrameAt}
use Rattle.ht_trace.specs.IsFrame.{IsFrame}
use Rattle.ht_trace.specs.TableState.{TableState}
use Rattle.ht_trace.proofs.SoundLemmas.{place-frames, some-frames-of}
use Rattle.ht_trace.proofs.tables.Tables.instruction_frames_into.Goals as goal

pub returns-clause-places : goal.returns-clause-places
returns-clause-places c =
    MatchResult-weaker c.replace_by_instruction.result c.replace_by_instruction.ensures.frames
    (λ done is.
    subst (λ (t : TableState). All (λ (at : FrameAt). IsFrame t at) c.replace_by_instruction.new.out.items)
    c.self.view_is
    (rw is (place-frames c.self.inside.instructions c.args.instruction)))
    (λ error all. all)

pub returns-clause-some_frame : goal.returns-clause-some_frame
returns-clause-some_frame c =
    let table = c.self.inside in
    let held = subst (λ (t : TableState). c.args.instruction ≤ length t.instructions) (sym c.self.view_is) c.requires in
    let some =
    some-frames-of (length table.strings) table.instructions c.args.instruction c.self.invariant.named held in
    MatchResult-weaker c.replace_by_instruction.result c.replace_by_instruction.ensures.frames
    (λ done is. omega (arith, some, ap (λ (places : List FrameAt). length places) is))
    (λ error all. all)
