use Rattle.std.proofs.Common.{ℕ, List, map, take, sym, subst}
use Rattle.dhat_json.specs.Shown.{shown}
use Rattle.massif_file.specs.TreeLine.{TreeLine, line_of}
use Rattle.dhat_view.specs.Numbers.{AreNumbers}
use Rattle.convert.proofs.PointItems.{map-next}
use Rattle.convert.proofs.massif.shown_labels.Goals as goal

pub each_line-preserved : goal.each_line-preserved
each_line-preserved c =
    let new = c.push.new.self in
    let label : TreeLine → List ℕ = λ line. shown line.label in
    let before : List (List ℕ) = map label (take c.each_line.place c.args.tree.now) in
    let texts = sym (map-next label c.args.tree.now c.each_line.place (line_of c.at.result) c.at.ensures.item) in
    record {
      numbers =
          subst (AreNumbers new.names new.numbers.items) texts
          (c.in_ok-push.ensures.numbers before c.each_line.invariant.numbers);
      distinct = c.in_ok-push.ensures.distinct;
    }
