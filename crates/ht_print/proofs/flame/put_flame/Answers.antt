use Rattle.std.proofs.Common.{ℕ, List, ◌++◌, ap, ◌∙◌}
use Rattle.std.proofs.lemmas.Result.{on_ok_weaker}
use Rattle.stack_trees.specs.declared.direction.Direction.TheVariants.{FromRoot}
use Rattle.stack_trees.specs.StackTexts.{lists_towards}
use Rattle.ht_trace.specs.declared.frame.Style.TheVariants.{Plain}
use Rattle.ht_print.specs.FlameCosts.{trace_costs}
use Rattle.ht_print.specs.FlameText.{flame_of_lists}
use Rattle.ht_print.proofs.flame.put_flame.Goals as goal

pub returns-clause-appended : goal.returns-clause-appended
returns-clause-appended c =
    on_ok_weaker c.put_flame_of_lists.result
    (λ added. added
    ∙ ap (λ (lists : List (List (List ℕ))). c.args.out.now.items ++ flame_of_lists lists c.in_ok-costs.costs.items)
    c.in_ok-lists.ensures.lists
    ∙ ap (λ (costs : List ℕ). c.args.out.now.items
    ++ flame_of_lists (lists_towards FromRoot Plain c.args.tables.now) costs) c.in_ok-costs.ensures.costs)
    c.put_flame_of_lists.ensures.appended

pub returns-clause-trace : goal.returns-clause-trace
returns-clause-trace c =
    on_ok_weaker c.put_flame_of_lists.result
    (λ added events stands. added
    ∙ ap (λ (lists : List (List (List ℕ))). c.args.out.now.items ++ flame_of_lists lists c.in_ok-costs.costs.items)
    c.in_ok-lists.ensures.lists
    ∙ ap (λ (costs : List ℕ). c.args.out.now.items
    ++ flame_of_lists (lists_towards FromRoot Plain c.args.tables.now) costs)
    (c.in_ok-costs.ensures.trace events stands
    ∙ ap (λ (stacks : ℕ). trace_costs c.args.cost stacks events) c.requires.as_many))
    c.put_flame_of_lists.ensures.appended
