use Rattle.std.proofs.Common.{ℕ, List, ◌++◌, get_or, ap, ◌∙◌, arith}
use Rattle.ht_trace.specs.declared.frame.FrameAt.{FrameAt}
use Rattle.ht_trace.specs.FrameText.{frame_text}
use Rattle.stack_trees.proofs.Numbering.{numbered-more}
use Rattle.stack_trees.proofs.call_chains.number_frames.Goals as goal

pub each_frame-preserved : goal.each_frame-preserved
each_frame-preserved c =
    let is = c.in_ok-number.ensures in
    let nowhere : FrameAt = record { instruction = 0; index = 0 } in
    let before = c.each_frame.invariant.longer in
    record {
      stay = λ k within. is.names_stay k (omega (arith, within)) ∙ c.each_frame.invariant.stay k within;
      longer = omega (arith, is.none_lost);
      numbered =
          numbered-more (frame_text c.args.style c.args.tables.now) c.each_frame.names c.intern.new.self
          c.each_frame.numbers.items c.push.new.self.items c.in_ok-number.number
          c.args.frames.now c.each_frame.at-index nowhere c.deref.result.now (omega arith) is.none_lost is.names_stay
          c.each_frame.invariant.numbered is.within is.name
          (c.deref.ensures.value ∙ c.in_ok-put_frame.ensures.appended
          ∙ ap
          (λ (text : List ℕ). text
          ++ frame_text c.args.style c.args.tables.now (get_or c.args.frames.now c.each_frame.at-index nowhere))
          c.clear-in-each_frame.ensures.items)
          c.in_ok-push.ensures.items;
    }
