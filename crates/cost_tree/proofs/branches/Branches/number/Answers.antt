use Rattle.std.proofs.Common.{ℕ, ◌+◌, ◌<◌, List, length, refl, sym, ap, ◌∙◌, subst, arith, rules}
use Rattle.std.specs.Prelude.{slice_index}
use Rattle.std.proofs.lemmas.List.{get_or_read, length_push}
use Rattle.std.proofs.lemmas.Option.{get_or_from_slice_get, slice_get_within}
use Rattle.cost_tree.specs.declared.edge.Edge.{Edge}
use Rattle.cost_tree.specs.Shapes.{list_at}
use Rattle.cost_tree.specs.Paths.{IsPathUp}
use Rattle.cost_tree.proofs.Ascents.{IsLeft, IsLeft-set, free-above}
use Rattle.cost_tree.proofs.Lists.{get-push_new}
use Rattle.cost_tree.proofs.Stages.{AreReached-deep, AreStages, AreStages-made, IsStage-moved, IsStage-reached}
use Rattle.cost_tree.proofs.branches.Branches.number.Goals as goal

pub each_node-init : goal.each_node-init
each_node-init c =
    let keys = c.args.edges.now in
    let tree = c.args.self.now in
    let built = c.requires.built in
    let list : List ℕ = list_at keys c.args.end in
    let n : ℕ = c.in_ok-node.node in
    let up =
    subst (λ (ns : List ℕ). IsPathUp keys ns c.args.end c.climb.new.path.items n) c.deref.ensures.value
    c.in_ok-node.ensures.way in
    let inside = slice_get_within tree.numbered.items up.node (n + 1) up.number in
    let most = built.numbers up.node (n + 1) inside in
    let is = get_or_from_slice_get tree.numbered.items up.node (n + 1) (n + 1) up.number in
    record {
      built = search rules;
      held = omega arith;
      weight = refl;
      left = record { short = up.way.short; each = up.way.each };
      stages = λ names before cost named last above growth.
          IsStage-moved names keys tree _ before _ cost c.args.depth n _ refl refl refl refl
          (IsStage-reached names keys tree before list c.climb.new.path.items cost c.args.depth up.node n above growth
          up.way.front up.number);
    }

pub make-requires-clause-place : goal.make-requires-clause-place
make-requires-clause-place c =
    let keys = c.args.edges.now in
    let now = c.each_node.invariant in
    let numbered = c.each_node.self.numbered.items in
    let list : List ℕ = list_at keys c.args.end in
    let path = c.pop.new.self.items in
    let left = subst (λ (ps : List ℕ). IsLeft keys numbered list ps) c.in-Some.ensures.items now.left in
    let free = (left.each (length path) c.in-Some.place (get-push_new path c.in-Some.place)).free in
    let inside = slice_get_within numbered c.in-Some.place 0 free in
    (free-above numbered c.in-Some.place now.built.root free, omega (arith, now.built.numbered_count))

pub each_node-preserved : goal.each_node-preserved
each_node-preserved c =
    let keys = c.args.edges.now in
    let now = c.each_node.invariant in
    let tree = c.each_node.self in
    let new = c.make.new.self in
    let list : List ℕ = list_at keys c.args.end in
    let path = c.pop.new.self.items in
    let place : ℕ = c.in-Some.place in
    let n : ℕ = c.in_ok-node-2.node in
    let made = c.in_ok-node-2.ensures.made in
    let split = c.in-Some.ensures.items in
    let left = subst (λ (ps : List ℕ). IsLeft keys tree.numbered.items list ps) split now.left in
    let stages =
    subst (λ (ps : List ℕ). AreStages keys list c.args.list c.args.depth c.args.self.now tree ps c.each_node.node)
    split now.stages in
    let here = left.each (length path) place (get-push_new path place) in
    let level =
    get_or_read tree.levels.items c.each_node.node c.index.result.now
    (omega (arith, now.held, now.built.levels_count)) c.index.ensures 0 in
    let low : slice_index tree.levels.items c.each_node.node < c.args.depth = omega (arith, c.each_node-test.true) in
    let after =
    AreStages-made keys list c.args.list c.args.depth c.args.self.now tree _ new path c.each_node.node place n
    c.requires.steps now.built.root refl refl refl refl left low stages made in
    let edges =
    ap (λ (es : List Edge). length es) made.edges_are
    ∙ length_push tree.edges.items (record { parent = c.each_node.node; text = made.edge.text }) in
    let moved = IsLeft-set keys tree.numbered.items list path place (n + 1) left here in
    record {
      built = c.in_ok-node-2.ensures.built;
      held = omega (arith, made.number, c.in_ok-node-2.ensures.built.nodes_count);
      weight = c.in_ok-node-2.ensures.weight ∙ now.weight;
      left =
          subst (λ (ps : List ℕ). IsLeft keys new.numbered.items list ps) (sym made.path_is)
          (subst (λ (ns : List ℕ). IsLeft keys ns list path) (sym made.numbered_are) moved);
      stages =
          subst (λ (ps : List ℕ). AreStages keys list c.args.list c.args.depth c.args.self.now new ps n)
          (sym made.path_is) after;
    }

pub returns-clause-reached : goal.returns-clause-reached
returns-clause-reached c =
    let keys = c.args.edges.now in
    let now = c.each_node.invariant in
    let level =
    get_or_read c.each_node.self.levels.items c.each_node.node c.index.result.now
    (omega (arith, now.held, now.built.levels_count)) c.index.ensures 0 in
    AreReached-deep keys c.args.end c.args.list c.args.depth c.args.self.now c.each_node.self c.each_node.node
    now.left.short (omega (arith, c.each_node-test.false)) now.stages
