use Rattle.std.proofs.Common.{◌≤◌, ◌^◌, ℕ, List, length, subst, sym, ◌∙◌, ap}
use Rattle.std.specs.Prelude.{sum}
use Rattle.std.proofs.lemmas.Result.{IfOk-weaker}
use Rattle.cost_tree.specs.Costed.{costed}
use Rattle.cost_tree.specs.IsTreeOf.{IsTreeOf}
use Rattle.stack_table.specs.Stack.{most_frames}
use Rattle.ht_print.specs.FlameText.{flame_of_lists}
use Rattle.ht_print.proofs.flame_lines.FlameLines.of_lists.Goals as goal

pub of_lists-requires-clause-as_many : goal.of_lists-requires-clause-as_many
of_lists-requires-clause-as_many c = ap (λ (costs : List ℕ). length costs) c.deref.ensures.value ∙ c.requires.as_many

pub of_lists-requires-clause-bound : goal.of_lists-requires-clause-bound
of_lists-requires-clause-bound c =
    subst (λ (costs : List ℕ). sum costs ≤ 2 ^ 62) (sym c.deref.ensures.value) c.requires.bound

pub returns : goal.returns
unfolding flame_of_lists
returns c =
    let tree =
    subst (λ (costs : List ℕ). IsTreeOf c.in_ok-tree.tree (costed c.args.lists costs) most_frames)
    c.deref.ensures.value c.in_ok-tree.ensures.tree in
    IfOk-weaker c.of_tree.result _ _ (λ lines given. given (costed c.args.lists c.args.costs.items) tree)
    c.of_tree.ensures
