use Rattle.std.proofs.Common.{◌≡◌, ℕ, ◌+◌, ◌<◌, ◌^◌, cond, List, [], ◌∷◌, ◌++◌, sym, ap, ◌∙◌, subst}
use Rattle.std.specs.Prelude.{nat_lt}
use Rattle.std.proofs.lemmas.Result.{on_ok_weaker}
use Rattle.cost_tree.specs.declared.line.CostLine.{CostLine}
use Rattle.cost_tree.specs.declared.lines.Pending.{Pending}
use Rattle.cost_tree.specs.declared.lines.Pending.TheVariants.{Below}
use Rattle.cost_tree.specs.Pendings.{pending_below}
use Rattle.cost_tree.specs.WalkLines.{IsWalking, few_lines, root_line}
use Rattle.cost_tree.proofs.BothLines.{both-lines, root-given, root-room, root-step, root_of}
use Rattle.cost_tree.proofs.lines.take_both_lines.Goals as goal
use Rattle.cost_tree.proofs.lines.take_both_lines.Given.{Over}
use Rattle.cost_tree.proofs.lines.take_both_lines.Goals.{In_ok-line}

pub take_pending-requires-clause-within : goal.take_pending-requires-clause-within
take_pending-requires-clause-within g c = (root-step c.args.scale c.args.tree.now _ _ c.requires.both.2.has).within

pub take_pending-requires-clause-few : goal.take_pending-requires-clause-few
take_pending-requires-clause-few g c = (root-step c.args.scale c.args.tree.now _ _ c.requires.both.2.has).few

pub with_gathered-requires-clause-children : goal.with_gathered-requires-clause-children
with_gathered-requires-clause-children g c =
    subst (λ (line : CostLine). line.children + cond {A = ℕ} (nat_lt 0 c.args.gathered.places) 1 0 < 2 ^ 32)
    (sym c.in_ok-line.ensures.line)
    (root-room c.args.scale c.args.tree.now c.args.gathered _ _ c.requires.both.2).children

pub with_gathered-requires-clause-cost : goal.with_gathered-requires-clause-cost
with_gathered-requires-clause-cost g c =
    subst (λ (line : CostLine). line.cost + c.args.gathered.cost < 2 ^ 64) (sym c.in_ok-line.ensures.line)
    (root-room c.args.scale c.args.tree.now c.args.gathered _ _ c.requires.both.2).cost

-- the root is given, and the nodes below it are pending
walk : (g : Over) (c : In_ok-line g)
    → IsWalking c.args.scale c.args.tree.now (root_of c.args.scale c.args.tree.now ∷ [])
    c.take_pending.new.pending.items
walk g c =
    let scale = c.args.scale in
    let tree = c.args.tree.now in
    let left : c.take_pending.new.pending.items ≡ pending_below scale tree (Below 0 0) =
    c.in_ok-line.ensures.below
    ∙ ap (λ (ps : List Pending). ps ++ pending_below scale tree (Below 0 0)) c.new-pending.ensures.items in
    subst (λ (ps : List Pending). IsWalking scale tree (root_of scale tree ∷ []) ps) (sym left)
    (root-given scale tree _ _ c.requires.both.2.has)

pub take_left-requires-clause-walking : goal.take_left-requires-clause-walking
take_left-requires-clause-walking g c = (
  root_of c.args.scale c.args.tree.now ∷ [],
  walk g (goal.at.take_left-requires-clause-walking g c).In_ok-line,
)

pub returns : goal.returns
returns g c =
    let scale = c.args.scale in
    let tree = c.args.tree.now in
    let few = c.args.gathered in
    let root : CostLine = root_line (root_of scale tree) few in
    let left = c.in_ok-take_left.ensures.taken in
    let first : c.with_gathered.result ≡ root =
    c.with_gathered.ensures ∙ ap (λ (line : CostLine). root_line line few) c.in_ok-line.ensures.line in
    let begun =
    subst (λ (line : CostLine). g.T.CostLineTaker.takes tree c.args.taker.now (line ∷ []) c.take_line.new.self) first
    (c.in_ok-take_line.ensures.taken c.args.taker.now [] c.requires.none_yet) in
    record {
      taken = on_ok_weaker c.take_gathered.result
          (λ last. (
            root ∷ (left.rest ++ few_lines few),
            (λ stacks depth have. both-lines scale tree few left.rest stacks depth
                (left.all (root_of scale tree ∷ []) (walk g (goal.at.returns g c).In_ok-line)) have),
            last c.args.taker.now (root ∷ left.rest) (left.taken c.args.taker.now (root ∷ []) begun),
          ))
          c.take_gathered.ensures.taken;
    }
