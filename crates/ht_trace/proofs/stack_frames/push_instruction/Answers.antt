use Rattle.std.proofs.Common.{ℕ, ◌≡◌, ◌++◌, List, [], ◌∷◌, map, length, Option, arith, sym, ◌∙◌, ap, append-nil}
use Rattle.std.proofs.Common.{append_assoc}
use Rattle.std.specs.Prelude.{unwrap_or}
use Rattle.std.specs.List.{range_with_len}
use Rattle.std.proofs.lemmas.List.FromFn.{map-range_with_len_more}
use Rattle.ht_trace.specs.declared.frame.FrameAt.{FrameAt}
use Rattle.ht_trace.specs.StackFrames.{frames_of}
use Rattle.ht_trace.proofs.StackLemmas.{length-frames_of}
use Rattle.ht_trace.proofs.stack_frames.push_instruction.Goals as goal

pub loop-index-init : goal.loop-index-init
loop-index-init c =
    let has : length (frames_of c.args.instructions.now c.args.instruction) ≡ c.in-Some.count =
    length-frames_of c.args.instructions.now c.args.instruction
    ∙ ap (λ (o : Option ℕ). unwrap_or o 0) (sym c.in-Some.ensures.count) in
    record {
      appended = sym (append-nil _);
      len = omega arith;
      room = omega (arith, has, c.requires);
      capacity = omega arith;
    }

pub loop-index-preserved : goal.loop-index-preserved
loop-index-preserved c = record {
  appended =
      let at =
      λ (index : ℕ). let frame : FrameAt = record { instruction = c.args.instruction; index = index } in frame in
      c.in_ok-push.ensures.items
      ∙ ap (λ (all : List FrameAt). all ++ at c.loop-index.index ∷ []) c.loop-index.invariant.appended
      ∙ append_assoc c.args.out.now.items (map at (range_with_len 0 c.loop-index.index)) (at c.loop-index.index ∷ [])
      ∙ ap (λ (more : List FrameAt). c.args.out.now.items ++ more)
      (sym (map-range_with_len_more at 0 c.loop-index.index c.loop-index.index (omega arith)));
  len = omega (arith, c.in_ok-push.ensures.len);
  room = omega (arith, c.in_ok-push.ensures.capacity);
  capacity = omega (arith, c.in_ok-push.ensures.capacity);
}
