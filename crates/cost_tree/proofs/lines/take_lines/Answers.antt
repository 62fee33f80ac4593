use Rattle.std.proofs.Common.{◌≡◌, List, [], ◌∷◌, ◌++◌, sym, ap, ◌∙◌, subst}
use Rattle.std.proofs.lemmas.Result.{on_ok_weaker}
use Rattle.cost_tree.specs.declared.lines.Pending.{Pending}
use Rattle.cost_tree.specs.declared.lines.Pending.TheVariants.{Below}
use Rattle.cost_tree.specs.WalkLines.{IsWalking}
use Rattle.cost_tree.proofs.Walking.{walking-root}
use Rattle.cost_tree.proofs.lines.take_lines.Goals as goal
use Rattle.cost_tree.proofs.lines.take_lines.Given.{Over}
use Rattle.cost_tree.proofs.lines.take_lines.Goals.{In_ok-push}

-- the root is pending
root : (g : Over) (c : In_ok-push g) → IsWalking c.args.scale c.args.tree.now [] c.push.new.self.items
root g c =
    let pushed : c.push.new.self.items ≡ Below 0 0 ∷ [] =
    c.in_ok-push.ensures.items ∙ ap (λ (ps : List Pending). ps ++ Below 0 0 ∷ []) c.new-pending.ensures.items in
    subst (λ (ps : List Pending). IsWalking c.args.scale c.args.tree.now [] ps) (sym pushed)
    (walking-root c.args.scale c.args.tree.now c.requires.tree.0 c.requires.tree.1 c.requires.tree.2)

pub take_left-requires-clause-walking : goal.take_left-requires-clause-walking
take_left-requires-clause-walking g c = ([], root g (goal.at.take_left-requires-clause-walking g c).In_ok-push)

pub returns : goal.returns
returns g c = record {
  taken = on_ok_weaker c.take_left.result
      (λ left. (
        left.rest,
        left.all [] (root g (goal.at.returns g c).In_ok-push),
        left.taken c.args.taker.now [] c.requires.none_yet,
      ))
      c.take_left.ensures.taken;
}
