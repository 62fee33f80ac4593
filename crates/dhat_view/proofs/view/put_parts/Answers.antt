use Rattle.std.proofs.Common.{ℕ, List, ◌++◌, length, ap, ◌∙◌, subst}
use Rattle.std.proofs.lemmas.Result.{on_ok_weaker}
use Rattle.cost_tree.specs.Costed.{Costed, costed}
use Rattle.cost_tree.specs.TreeLines.{HasLines}
use Rattle.hp_num.proofs.Laws.{extends_more, extends_trans}
use Rattle.dhat_view.specs.LinesIn.{IsViewed}
use Rattle.dhat_view.proofs.Appends.{two-appended}
use Rattle.dhat_view.proofs.Viewed.{as-many, view-of-parts, viewed}
use Rattle.dhat_view.proofs.view.put_parts.Goals as goal
use Rattle.dhat_view.proofs.view.put_parts.Goals.{In_ok-tree}

pub of_own-requires-clause-as_many : goal.of_own-requires-clause-as_many
of_own-requires-clause-as_many c =
    ap (λ (costs : List ℕ). length costs) c.deref-2.ensures.value ∙ as-many c.args.parts c.requires.parts

is-viewed : (c : In_ok-tree)
    → IsViewed c.args.parts.total c.in_ok-tree.tree (costed c.args.parts.fronts c.args.parts.costs.items)
    c.args.parts.options.depth
is-viewed c =
    viewed c.args.parts c.in_ok-tree.tree c.args.parts.options.depth c.requires.parts
    (subst (λ (costs : List ℕ). HasLines c.in_ok-tree.tree (costed c.args.parts.fronts costs) c.args.parts.options.depth)
    c.deref-2.ensures.value c.in_ok-tree.ensures.lines)

pub put_tree-requires : goal.put_tree-requires
put_tree-requires c = record {
  tree = (
    costed c.args.parts.fronts c.args.parts.costs.items,
    is-viewed (goal.at.put_tree-requires c).In_ok-tree,
  );
}

pub returns-clause-appended : goal.returns-clause-appended
returns-clause-appended c =
    let stacks : List Costed = costed c.args.parts.fronts c.args.parts.costs.items in
    let is = is-viewed (goal.at.returns-clause-appended c).In_ok-tree in
    on_ok_weaker c.put_tree.result
    (λ added options dhat are.
    two-appended c.args.out.now.items c.put_bytes.new.out.items c.put_tree.new.out.items c.args.parts.head.items _
    (c.in_ok-put_bytes.ensures.appended ∙ ap (λ (head : List ℕ). c.args.out.now.items ++ head) c.deref.ensures.value)
    (added stacks is)
    ∙ ap (λ (text : List ℕ). c.args.out.now.items ++ text) (view-of-parts c.args.parts options dhat are))
    c.put_tree.ensures.appended

pub returns-clause-kept : goal.returns-clause-kept
returns-clause-kept c =
    extends_trans _ _ _ (extends_more _ _ _ c.in_ok-put_bytes.ensures.appended) c.put_tree.ensures.kept
