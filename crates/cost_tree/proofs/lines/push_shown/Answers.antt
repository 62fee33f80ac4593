use Rattle.std.proofs.Common.{ℕ, ◌<◌, List, ◌++◌, length, map, filter, sym, ap, ◌∙◌, subst}
use Rattle.std.specs.Prelude.{All, AllPairs, Contains}
use Rattle.std.proofs.lemmas.List.Elements.{All-contains_itself, All-weaker}
use Rattle.std.proofs.lemmas.List.Kept.{AllPairs-filter}
use Rattle.std.proofs.lemmas.Option.{slice_get_within}
use Rattle.std.proofs.lemmas.Result.{on_ok_weaker}
use Rattle.cost_tree.specs.declared.children.Child.{Child}
use Rattle.cost_tree.specs.declared.lines.Pending.{Pending}
use Rattle.cost_tree.specs.Shares.{child_at, is_kept_at}
use Rattle.cost_tree.specs.Pendings.{pending_gathered}
use Rattle.cost_tree.proofs.Lists.{two-appended}
use Rattle.cost_tree.proofs.Pushing.{children-ascend, pushed-is}
use Rattle.cost_tree.proofs.lines.push_shown.Goals as goal

pub split_children-requires-clause-held : goal.split_children-requires-clause-held
split_children-requires-clause-held c =
    let nodes : List ℕ = c.children_into.new.out.items in
    let H : ℕ → Type 0 = λ m. m < length c.args.tree.now.nodes in
    subst (λ (ms : List ℕ). All H ms) (sym c.deref.ensures.value)
    (All-weaker (Contains nodes) H
    (λ m held. let child = c.in_ok-children_into.ensures.only m held in slice_get_within c.args.tree.now.nodes m
    child.0 child.2)
    nodes (All-contains_itself nodes))

pub sort_children-requires : goal.sort_children-requires
sort_children-requires c =
    let tree = c.args.tree.now in
    let up =
    subst (λ (ms : List ℕ). AllPairs (λ older younger. older < younger) ms) (sym c.deref.ensures.value)
    c.in_ok-children_into.ensures.order in
    let kept =
    c.in_ok-gathered.ensures.kept
    ∙ ap (λ (xs : List Child). xs ++ map (child_at tree) (filter (is_kept_at c.args.scale tree) c.deref.result.now))
    c.clear.ensures.items in
    record {
      ascending = subst (λ (xs : List Child). AllPairs (λ older younger. older.node < younger.node) xs) (sym kept)
          (children-ascend tree (filter (is_kept_at c.args.scale tree) c.deref.result.now)
          (AllPairs-filter (λ older younger. older < younger) (is_kept_at c.args.scale tree) c.deref.result.now up));
    }

pub returns : goal.returns
returns c =
    let tree = c.args.tree.now in
    let kept =
    c.in_ok-gathered.ensures.kept
    ∙ ap (λ (xs : List Child). xs ++ map (child_at tree) (filter (is_kept_at c.args.scale tree) c.deref.result.now))
    c.clear.ensures.items in
    let pushed =
    pushed-is c.args.scale tree c.args.level c.args.node c.deref.result.now c.split_children.new.kept.items
    c.sort_children.new.children.items c.in_ok-gathered.gathered
    (c.deref.ensures.value ∙ c.in_ok-children_into.ensures.children) kept c.sort_children.ensures.sorted
    c.in_ok-gathered.ensures.gathered in
    record {
      appended = on_ok_weaker c.push_kept.result
          (λ added. two-appended c.args.pending.now.items c.push_gathered.new.pending.items
          c.push_kept.new.pending.items
          (pending_gathered c.args.level c.in_ok-gathered.gathered) _ c.in_ok-push_gathered.ensures.appended added
          ∙ ap (λ (ps : List Pending). c.args.pending.now.items ++ ps) pushed)
          c.push_kept.ensures.appended;
    }
