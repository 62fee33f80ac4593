use Rattle.std.proofs.Common.{ℕ, List, ◌++◌, map, sym, ap, ◌∙◌}
use Rattle.std.proofs.lemmas.Simd.{map-map}
use Rattle.cost_tree.specs.CostLines.{FrontLine}
use Rattle.cost_tree.specs.TreeLines.{line_at}
use Rattle.massif_file.specs.TreeLine.{TreeLine}
use Rattle.massif_tree.specs.LabelsIn.{line_in}
use Rattle.massif_tree.specs.MassifTree.{massif_line, massif_tree}
use Rattle.massif_tree.proofs.lines.tree_lines.Goals as goal

pub returns : goal.returns
unfolding massif_tree
returns c =
    let tree = c.args.tree.now in
    let threshold = c.args.options.now.threshold in
    let depth = c.args.options.now.depth in
    let taken = c.in_ok-take_both_lines.ensures.taken in
    record {
      lines = λ stacks have.
          taken.2.1
          ∙ ap (λ (made : List TreeLine). made ++ map (line_in c.new-lines.result.threshold tree) taken.0)
          c.new-lines.ensures.none
          ∙ ap (λ (least : ℕ). map (line_in least tree) taken.0) c.new-lines.ensures.threshold
          ∙ sym (map-map (massif_line threshold) (line_at tree) taken.0)
          ∙ ap (λ (ls : List FrontLine). map (massif_line threshold) ls) (taken.1 stacks depth have);
    }
