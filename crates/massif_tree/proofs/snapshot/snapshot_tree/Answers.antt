use Rattle.std.proofs.Common.{◌≡◌, ℕ, ◌^◌, ◌≤◌, List, length, sum, sym, ap, ◌∙◌, subst, arith}
use Rattle.std.proofs.lemmas.Result.{IfOk-weaker}
use Rattle.cost_tree.specs.Costed.{costed}
use Rattle.cost_tree.specs.CutState.{CutState}
use Rattle.cost_tree.specs.Gathering.{GathersSmall, HaveLines}
use Rattle.cost_tree.specs.TreeLines.{HasLines}
use Rattle.massif_tree.specs.MassifTree.{scale_of}
use Rattle.massif_tree.proofs.Gathering.{have-lines}
use Rattle.massif_tree.proofs.Trimming.{tree-first}
use Rattle.massif_tree.proofs.snapshot.snapshot_tree.Goals as goal
use Rattle.massif_tree.proofs.snapshot.snapshot_tree.Given.{Over}
use Rattle.massif_tree.proofs.snapshot.snapshot_tree.Goals.{In_ok-tree}

-- the tree, and what is gathered beside it, have the lines of the whole lists with these costs
have : (g : Over) (c : In_ok-tree g) (costs : List ℕ)
    → GathersSmall c.args.options.now.depth (scale_of c.args.options.now c.args.total) c.take_room-room.new.self.whole
    costs c.gather_small.new.room.costs.items c.in_ok-gathered.gathered
    → length costs ≡ c.args.costing.now.stacks → sum costs ≤ 2 ^ 62
    → HaveLines (scale_of c.args.options.now c.args.total) c.in_ok-tree.tree c.in_ok-gathered.gathered
    (costed c.args.fronts.now.whole costs) c.args.options.now.depth
have g c costs gathers count bound =
    let scale = scale_of c.args.options.now c.args.total in
    let depth = c.args.options.now.depth in
    let tree = c.in_ok-tree.tree in
    let few = c.in_ok-gathered.gathered in
    let new : List ℕ = c.gather_small.new.room.costs.items in
    let lists : CutState = c.lengthen.new.self in
    let whole : lists.whole ≡ c.args.fronts.now.whole =
    c.lengthen.ensures.whole ∙ ap (λ (s : CutState). s.whole) c.take_room-room.ensures.same in
    let most = c.len-count.type_inv in
    let held = c.len-count.ensures.whole in
    subst (λ (ls : List (List (List ℕ))). HaveLines scale tree few (costed ls costs) depth) whole
    (have-lines scale tree few lists costs new depth
    (subst (λ (cs : List ℕ). HasLines tree (costed lists.cut cs) depth) c.lengthen.ensures.costs
    c.in_ok-tree.ensures.lines)
    c.in_ok-lengthen.ensures.lines
    (subst (λ (ls : List (List (List ℕ))). GathersSmall depth scale ls costs new few) (sym c.lengthen.ensures.whole)
    gathers)
    (count ∙ c.requires.as_many ∙ sym (ap (λ (ls : List (List (List ℕ))). length ls) whole))
    (sym c.len-count.ensures.cut ∙ c.len-count.ensures.whole) (omega arith) bound)

pub tree_lines-lines-requires : goal.tree_lines-lines-requires
tree_lines-lines-requires g c =
    let costs : List ℕ = c.requires.stated.0 in
    let are = c.requires.stated.1 in
    record {
      both = (
        costed c.args.fronts.now.whole costs,
        have g (goal.at.tree_lines-lines-requires g c).In_ok-tree costs (c.in_ok-gathered.ensures.gathered costs are)
            are.count are.bound,
      );
    }

pub returns-clause-lines : goal.returns-clause-lines
returns-clause-lines g c =
    let whole = c.args.fronts.now.whole in
    IfOk-weaker c.tree_lines-lines.result _ _
    (λ lines are_lines. λ tables names costs are costs_are.
    are_lines (costed whole costs)
    (have g (goal.at.returns-clause-lines g c).In_ok-tree costs (c.in_ok-gathered.ensures.gathered costs costs_are)
    costs_are.count costs_are.bound)
    ∙ tree-first c.args.options.now c.args.total tables names (length whole) costs whole are)
    c.tree_lines-lines.ensures.lines
