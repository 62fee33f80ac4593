use Rattle.std.proofs.Common.{List, ◌++◌, map, ap, ◌∙◌}
use Rattle.cost_tree.specs.Costed.{costed}
use Rattle.cost_tree.specs.CostLines.{FrontLine, cost_lines}
use Rattle.massif_file.specs.TreeLine.{TreeLine}
use Rattle.massif_tree.specs.MassifTree.{massif_line, massif_tree, scale_of}
use Rattle.massif_tree.proofs.forked_tree.forked_lines.Goals as goal

pub returns : goal.returns
unfolding massif_tree
returns g c = record {
  lines = λ costs are.
      let options = c.args.options.now in
      let lines : List FrontLine =
      cost_lines options.depth (scale_of options c.args.total) (costed c.args.fronts.now costs) in
      let made = (c.in_ok-taken.ensures.taken costs are).1 c.new.ensures.no_labels in
      c.into_tree.ensures.lines ∙ made.2
      ∙ ap (λ (before : List TreeLine). before ++ map (massif_line options.threshold) lines) c.new.ensures.no_lines;
}
