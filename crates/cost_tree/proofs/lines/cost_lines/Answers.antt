use Rattle.std.proofs.Common.{List, ◌++◌, sym, ap, ◌∙◌, subst}
use Rattle.std.specs.Prelude.{All}
use Rattle.cost_tree.specs.declared.line.CostLine.{CostLine}
use Rattle.cost_tree.specs.TreeLines.{IsLineOf}
use Rattle.cost_tree.proofs.lines.cost_lines.Goals as goal

-- what the vector has is what it has taken
pub returns-clause-each : goal.returns-clause-each
returns-clause-each c = λ stacks depth has.
    let taken = c.in_ok-take_lines.ensures.taken in
    let kept = taken.2 ∙ ap (λ (ls : List CostLine). ls ++ taken.0) c.new-lines.ensures.items in
    subst (λ (ls : List CostLine). All (IsLineOf c.args.tree.now stacks depth) ls) (sym kept)
    (taken.1.each stacks depth has)
