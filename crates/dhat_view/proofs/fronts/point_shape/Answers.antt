use Rattle.std.proofs.Common.{ℕ, ◌<◌, List, [], ◌∷◌, ◌++◌, length, take, sym, ap, ◌∙◌, arith}
use Rattle.std.specs.Prelude.{All}
use Rattle.std.proofs.lemmas.List.{length-map, length-take, take_all}
use Rattle.dhat_json.specs.declared.profile.Point.{Point}
use Rattle.dhat_view.specs.Numbers.{numbers_at, numbers_in}
use Rattle.dhat_view.proofs.Lists.{held-by, lists-more, map-next}
use Rattle.dhat_view.proofs.fronts.point_shape.Goals as goal

pub begin-requires : goal.begin-requires
begin-requires c =
    let so_far : List Point = take c.each_point.place c.args.points.now in
    let count = ap (λ (lists : List (List ℕ)). length lists) c.each_point.invariant ∙ length-map so_far _ in
    let few = length-take c.each_point.place c.args.points.now in
    record { few = omega arith }

pub push_frames-requires-clause-in_table : goal.push_frames-requires-clause-in_table
push_frames-requires-clause-in_table c =
    held-by (λ (point : Point). All (λ frame. frame < length c.args.table.now) point.fs) c.args.points.now
    c.each_point.place c.at.result.now c.at.ensures.item c.requires.in_table

pub each_point-preserved : goal.each_point-preserved
each_point-preserved c =
    let table = c.args.table.now in
    lists-more c.each_point.shape c.begin.new.self c.push_frames.new.shape (numbers_at table c.at.result.now.fs)
    c.in_ok-begin.ensures.appended c.in_ok-push_frames.ensures.gained
    ∙ ap (λ (lists : List (List ℕ)). lists ++ numbers_at table c.at.result.now.fs ∷ []) c.each_point.invariant
    ∙ sym (map-next (λ (point : Point). numbers_at table point.fs) c.args.points.now c.each_point.place c.at.result.now
    c.at.ensures.item)

pub returns : goal.returns
returns c = record {
  shape =
      c.each_point.invariant
      ∙ ap (λ (points : List Point). numbers_in c.args.table.now points)
      (take_all c.each_point.place c.args.points.now (omega arith));
}
