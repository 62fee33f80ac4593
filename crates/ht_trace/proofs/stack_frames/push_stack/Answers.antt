use Rattle.std.proofs.Common.{List, ◌++◌, sym, ap, ◌∙◌, append-nil}
use Rattle.std.proofs.lemmas.Bool.{false≢true}
use Rattle.ht_trace.specs.declared.frame.FrameAt.{FrameAt}
use Rattle.ht_trace.proofs.StackLemmas.{nothing_left, outermost}
use Rattle.ht_trace.proofs.stack_frames.push_stack.Goals as goal

pub returns-clause-appended : goal.returns-clause-appended
returns-clause-appended c =
    let last =
    outermost c.outwards.at _ (λ held. false≢true (c.in_default.ensures.found.1 held)) c.outwards.invariant.held in
    let left = nothing_left c.args.instructions.now c.args.nodes.now c.outwards.at last in
    sym (append-nil c.outwards.out.items) ∙ ap (λ (frames : List FrameAt). c.outwards.out.items ++ frames) (sym left)
    ∙ c.outwards.invariant.appended
