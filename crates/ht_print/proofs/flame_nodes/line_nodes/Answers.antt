use Rattle.std.proofs.Common.{◌<◌, ◌++◌, [], List, ℕ, length, get_or, Some, sym, ap, ◌∙◌, arith}
use Rattle.std.specs.List.{flat_map}
use Rattle.std.specs.Option.{option_map_or}
use Rattle.std.proofs.lemmas.List.Elements.{All-pop}
use Rattle.std.proofs.lemmas.Option.{slice_get-get_or}
use Rattle.cost_tree.specs.declared.node.CostNode.{CostNode}
use Rattle.cost_tree.specs.Children.{children_of}
use Rattle.stack_table.specs.Stack.{most_frames}
use Rattle.cost_tree.proofs.Laws.{children-next, children-none}
use Rattle.ht_print.specs.FlameLines.{line_at}
use Rattle.ht_print.specs.FlameText.{flame_line}
use Rattle.ht_print.specs.FlameWalk.{flame_at, front_at}
use Rattle.ht_print.proofs.FlameNodes.{own-is}
use Rattle.ht_print.proofs.FlameWalks.{children-are, flame-step, left-held, left-smaller, left-step, size-step, size_at}
use Rattle.ht_print.proofs.flame_nodes.line_nodes.Goals as goal

pub each_node-smaller : goal.each_node-smaller
each_node-smaller c =
    let tree = c.args.tree.now in
    let stacks = c.requires.tree.0 in
    let is = c.requires.tree.1 in
    let n = c.in-Some.n in
    let held =
    All-pop (λ m. m < length tree.nodes) c.each_node.left.items c.pop.new.self.items (Some n) c.in-Some.ensures.items
    c.each_node.invariant.held in
    let within = held.1 in
    let count = is.count in
    let front_held = slice_get-get_or tree.fronts n [] (omega arith) in
    left-smaller (size_at most_frames tree) c.each_node.left.items c.pop.new.self.items c.push_children.new.left.items
    (children_of tree.nodes n) n
    c.in-Some.ensures.items c.in_ok-push_children.ensures.appended
    (size-step tree stacks most_frames n is
    (λ longest. children-none tree stacks most_frames n (front_at tree n) is front_held longest))

pub each_node-preserved : goal.each_node-preserved
each_node-preserved c =
    let tree = c.args.tree.now in
    let n = c.in-Some.n in
    let held =
    All-pop (λ m. m < length tree.nodes) c.each_node.left.items c.pop.new.self.items (Some n) c.in-Some.ensures.items
    c.each_node.invariant.held in
    let within = held.1 in
    let no_node : CostNode = record { parent = 0; cost = 0; own = 0; first = 0 } in
    let node : CostNode = get_or tree.nodes n no_node in
    let node_held = slice_get-get_or tree.nodes n no_node within in
    record {
      held =
          left-held tree c.pop.new.self.items c.push_children.new.left.items n held.0
          (children-are tree c.requires.tree.0 most_frames n c.requires.tree.1) c.in_ok-push_children.ensures.appended;
      lines = c.in_ok-push_node.ensures.lines c.each_node.invariant.lines;
      written = λ stacks is.
          let count = is.count in
          let front_held = slice_get-get_or tree.fronts n [] (omega arith) in
          left-step (flame_at most_frames tree stacks) c.each_node.left.items c.pop.new.self.items
          c.push_children.new.left.items (children_of tree.nodes n) n
          (flat_map (line_at tree) c.each_node.nodes.items) (flat_map (line_at tree) c.push_node.new.nodes.items)
          (line_at tree n) _
          c.in-Some.ensures.items c.in_ok-push_children.ensures.appended c.in_ok-push_node.ensures.text
          (flame-step tree stacks most_frames n node is node_held
          (λ shorter. children-next tree stacks most_frames n (front_at tree n) is front_held shorter)
          (λ longest. children-none tree stacks most_frames n (front_at tree n) is front_held longest)
          ∙ ap
          (λ (own : ℕ). flame_line (front_at tree n) own
          ++ flat_map (flame_at most_frames tree stacks) (children_of tree.nodes n))
          (sym (own-is tree n node node_held)))
          (c.each_node.invariant.written stacks is);
    }
