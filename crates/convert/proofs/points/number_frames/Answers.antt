use Rattle.std.proofs.Common.{ℕ, List, [], ◌∷◌, ◌++◌, ap, sym, ◌∙◌}
use Rattle.std.specs.Prelude.{slice_index}
use Rattle.convert.proofs.PointItems.{map-next}
use Rattle.convert.proofs.points.number_frames.Goals as goal

pub each_frame-preserved : goal.each_frame-preserved
each_frame-preserved c =
    let number : ℕ → ℕ = λ frame. slice_index c.args.numbers.now frame in
    c.in_ok-push.ensures.items
    ∙ ap (λ (ns : List ℕ). ns ++ number c.at-frame.result.now ∷ []) c.each_frame.invariant
    ∙ sym (map-next number c.args.frames.now c.each_frame.place c.at-frame.result.now c.at-frame.ensures.item)
