use Rattle.std.proofs.Common.{ℕ, ◌<◌, List, [], ◌∷◌, ◌++◌, length, take, sym, ap, ◌∙◌, arith}
use Rattle.std.specs.Prelude.{All}
use Rattle.std.proofs.lemmas.List.{length-map, length-take, take_all}
use Rattle.dhat_json.specs.declared.profile.Point.{Point}
use Rattle.dhat_view.specs.Numbers.{numbers_at, numbers_in}
use Rattle.convert.proofs.Lists.{held-by}
use Rattle.convert.proofs.PointItems.{map-next}
use Rattle.convert.proofs.point_lists.point_numbers.Goals as goal

pub number_frames-requires : goal.number_frames-requires
number_frames-requires c = record {
  in_table =
      held-by (λ (point : Point). All (λ frame. frame < length c.args.table.now) point.fs) c.args.points.now
      c.each_point.place c.at.result.now c.at.ensures.item c.requires.in_table;
}

pub push_list-requires : goal.push_list-requires
push_list-requires c =
    let so_far : List Point = take c.each_point.place c.args.points.now in
    let count = ap (λ (lists : List (List ℕ)). length lists) c.each_point.invariant ∙ length-map so_far _ in
    let few = length-take c.each_point.place c.args.points.now in
    record { few = omega arith }

pub each_point-preserved : goal.each_point-preserved
each_point-preserved c =
    let table = c.args.table.now in
    c.in_ok-push_list.ensures.appended
    ∙ ap (λ (numbers : List ℕ). c.each_point.lists ++ numbers ∷ [])
    (c.deref.ensures.value ∙ c.in_ok-number_frames.ensures.numbered)
    ∙ ap (λ (lists : List (List ℕ)). lists ++ numbers_at table c.at.result.now.fs ∷ []) c.each_point.invariant
    ∙ sym (map-next (λ (point : Point). numbers_at table point.fs) c.args.points.now c.each_point.place c.at.result.now
    c.at.ensures.item)

pub returns : goal.returns
returns c = record {
  numbers =
      c.each_point.invariant
      ∙ ap (λ (points : List Point). numbers_in c.args.table.now points)
      (take_all c.each_point.place c.args.points.now (omega arith));
}
