use Rattle.std.proofs.Common.{◌≡◌, ℕ, ◌^◌, ◌<◌, List, [], ◌∷◌, ◌++◌, length, map, take, ap, sym, ◌∙◌, subst, arith}
use Rattle.std.specs.Prelude.{All}
use Rattle.cost_tree.specs.Costed.{Costed}
use Rattle.dhat_json.specs.Shown.{shown}
use Rattle.dhat_view.specs.PointFronts as points
use Rattle.convert.specs.Items.{point_items}
use Rattle.cost_tree.specs.Texts.{IsText, texts_of}
use Rattle.dhat_view.specs.Numbers.{AreNumbers}
use Rattle.convert.specs.Numbers.{AreSums}
use Rattle.dhat_view.proofs.Laws.{frames-numbered, numbers-count}
use Rattle.convert.proofs.PointItems.{frames-held, item-at, items-all, items-next, items-sum, items-within, list-is}
use Rattle.convert.proofs.points.point_sums.Goals as goal

pub number_frames-requires : goal.number_frames-requires
number_frames-requires c =
    let fs : List ℕ = c.at.result.now.fs in
    record {
      in_table = subst (λ (ns : List ℕ). All (λ frame. frame < length ns) fs) (sym c.deref.ensures.value)
          (frames-held c.args.dhat.now c.each_point.sums.names c.in_ok-table.table.numbers.items c.each_point.place
          c.at.result.now c.requires.sound c.at.ensures.item c.each_point.invariant.numbers);
    }

pub add-requires-clause-sums : goal.add-requires-clause-sums
add-requires-clause-sums c =
    let items : List Costed = point_items c.args.key c.args.dhat.now in
    let item : Costed =
    record {
      texts = points.texts_at (map shown c.args.dhat.now.ftbl) c.at.result.now.fs;
      cost = c.figure_at.result;
    } in
    let at =
    item-at c.args.key c.args.dhat.now c.each_point.place c.at.result.now c.figure_at.result c.at.ensures.item
    c.figure_at.ensures.figure in
    let sum = items-sum c.args.key c.args.dhat.now in
    let within = c.requires.within in (
      take c.each_point.place items,
      c.each_point.invariant.sums,
      items-within items c.each_point.place item (2 ^ 62) at (omega arith),
    )

pub add-requires-clause-held : goal.add-requires-clause-held
add-requires-clause-held c =
    let names = c.each_point.sums.names in
    let numbers : List ℕ = c.in_ok-table.table.numbers.items in
    let fs : List ℕ = c.at.result.now.fs in
    let held =
    frames-held c.args.dhat.now names numbers c.each_point.place c.at.result.now c.requires.sound c.at.ensures.item
    c.each_point.invariant.numbers in
    let table : List (List ℕ) = map shown c.args.dhat.now.ftbl in
    let below =
    subst (λ (k : ℕ). All (λ frame. frame < k) fs) (numbers-count names numbers table c.each_point.invariant.numbers)
    held in
    let are = frames-numbered names numbers table fs c.each_point.invariant.numbers below in
    subst (All (IsText names))
    (sym (list-is numbers c.deref.result.now c.number_frames.new.list.items c.deref-in-each_point.result.now fs
    c.deref.ensures.value c.in_ok-number_frames.ensures.numbered c.deref-in-each_point.ensures.value))
    are.held

pub each_point-preserved : goal.each_point-preserved
each_point-preserved c =
    let names = c.each_point.sums.names in
    let numbers : List ℕ = c.in_ok-table.table.numbers.items in
    let fs : List ℕ = c.at.result.now.fs in
    let table : List (List ℕ) = map shown c.args.dhat.now.ftbl in
    let new = c.add.new.self in
    let place = c.each_point.place in
    let items : List Costed = point_items c.args.key c.args.dhat.now in
    let item : Costed = record { texts = points.texts_at table fs; cost = c.figure_at.result } in
    let at =
    item-at c.args.key c.args.dhat.now place c.at.result.now c.figure_at.result c.at.ensures.item
    c.figure_at.ensures.figure in
    let held =
    frames-held c.args.dhat.now names numbers place c.at.result.now c.requires.sound c.at.ensures.item
    c.each_point.invariant.numbers in
    let below =
    subst (λ (k : ℕ). All (λ frame. frame < k) fs) (numbers-count names numbers table c.each_point.invariant.numbers)
    held in
    let are = frames-numbered names numbers table fs c.each_point.invariant.numbers below in
    let list =
    list-is numbers c.deref.result.now c.number_frames.new.list.items c.deref-in-each_point.result.now fs
    c.deref.ensures.value c.in_ok-number_frames.ensures.numbered c.deref-in-each_point.ensures.value in
    let texts : texts_of names c.deref-in-each_point.result.now ≡ item.texts =
    ap (texts_of names) list ∙ are.texts_are in
    record {
      numbers =
          subst (λ (ns : List (List ℕ)). AreNumbers ns numbers table) (sym c.in_ok-add.ensures.names)
          c.each_point.invariant.numbers;
      sums = subst (AreSums new.names new.lists.keys new.sums.items)
          (ap (λ (ts : List (List ℕ)). take place items ++ record { texts = ts; cost = c.figure_at.result } ∷ []) texts
          ∙ sym (items-next c.args.key c.args.dhat.now place item at))
          (c.in_ok-add.ensures.added (take place items) c.each_point.invariant.sums);
    }

pub returns : goal.returns
returns c =
    let sums = c.each_point.sums in
    record {
      sums = subst (AreSums sums.names sums.lists.keys sums.sums.items)
          (items-all c.args.key c.args.dhat.now c.each_point.place (omega arith)) c.each_point.invariant.sums;
    }
