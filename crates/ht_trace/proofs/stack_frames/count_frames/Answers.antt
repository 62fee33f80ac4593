use Rattle.std.proofs.Common.{ℕ, ◌≡◌, Option, ◌∙◌, length, arith, ap}
use Rattle.std.specs.Prelude.{unwrap_or}
use Rattle.std.proofs.lemmas.Bool.{false≢true}
use Rattle.ht_trace.specs.Instruction.{frame_count_of}
use Rattle.ht_trace.proofs.StackLemmas.{steps_out, nothing_left, outermost}
use Rattle.ht_trace.proofs.stack_frames.count_frames.Goals as goal

pub outwards-preserved : goal.outwards-preserved
outwards-preserved c =
    let steps =
    steps_out c.args.instructions.now c.args.nodes.now c.outwards.at c.in-Some.instruction c.in-Some.parent
    c.in-Some.ensures.stack in
    let same : c.unwrap_or.result ≡ unwrap_or (frame_count_of c.args.instructions.now c.in-Some.instruction) 0 =
    c.unwrap_or.ensures ∙ ap (λ (o : Option ℕ). unwrap_or o 0) c.frame_count.ensures.count in
    record {
      held = omega (arith, c.in-Some.ensures.lower_parent);
      few = omega (arith, c.in-Some.ensures.lower_parent);
      counted = omega (arith, steps.count, same);
    }

pub returns : goal.returns
returns c =
    let last =
    outermost c.outwards.at _ (λ held. false≢true (c.in_default.ensures.found.1 held)) c.outwards.invariant.held in
    let left = ap length (nothing_left c.args.instructions.now c.args.nodes.now c.outwards.at last) in
    omega (arith, left, c.outwards.invariant.counted)
