use Rattle.std.proofs.Common.{ℕ, List, take, sym, subst, arith}
use Rattle.std.specs.Prelude.{slice_index}
use Rattle.dhat_view.specs.Numbers.{LastGains, numbers_at}
use Rattle.dhat_view.proofs.Lists.{gains-more, map-next}
use Rattle.dhat_view.proofs.fronts.push_frames.Goals as goal

pub each_frame-preserved : goal.each_frame-preserved
each_frame-preserved c =
    let table = c.args.table.now in
    let frames = c.args.frames.now in
    let before : List ℕ = numbers_at table (take c.each_frame.place frames) in
    let number : ℕ = slice_index table c.at-frame.result.now in
    let numbers =
    map-next (λ (frame : ℕ). slice_index table frame) frames c.each_frame.place c.at-frame.result.now
    c.at-frame.ensures.item in
    let count = c.in_ok-push.ensures.count in
    record {
      begun = let begun = c.each_frame.invariant.begun in omega arith;
      count = let same = c.each_frame.invariant.count in omega arith;
      gained = subst (λ (ns : List ℕ). LastGains c.args.shape.now ns c.push.new.self) (sym numbers)
          (gains-more c.args.shape.now c.each_frame.shape c.push.new.self before number c.each_frame.invariant.gained
          c.in_ok-push.ensures.appended);
    }
