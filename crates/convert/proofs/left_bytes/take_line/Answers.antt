use Rattle.std.proofs.Common.{ℕ, ◌-◌, List, drop, reverse, take, ap, ◌∙◌}
use Rattle.std.specs.Prelude.{sum}
use Rattle.std.proofs.lemmas.List.{drop-drop}
use Rattle.convert.proofs.LeftBytes.{roots-next}
use Rattle.convert.proofs.left_bytes.take_line.Goals as goal

pub each_child-preserved : goal.each_child-preserved
each_child-preserved c =
    let roots : List ℕ = reverse c.args.roots.now.items in
    let k = c.each_child.counter in
    record {
      left = roots-next roots c.args.line.bytes c.each_child.left c.take_root-left.result k c.each_child.invariant.left
          (c.take_root-left.ensures.left
          ∙ ap (λ (rs : List ℕ). c.each_child.left - sum (take 1 rs)) c.each_child.invariant.roots);
      roots =
          c.take_root-left.ensures.roots ∙ ap (λ (rs : List ℕ). drop 1 rs) c.each_child.invariant.roots
          ∙ drop-drop 1 k roots;
    }
