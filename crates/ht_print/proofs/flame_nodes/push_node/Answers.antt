use Rattle.std.proofs.Common.{arith, ◌∙◌}
use Rattle.std.specs.List.{flat_map}
use Rattle.ht_print.specs.FlameLines.{line_at, own_at}
use Rattle.ht_print.specs.FlameWalk.{front_at}
use Rattle.ht_print.proofs.FlameLemmas.{appended-none, flame_line-none}
use Rattle.ht_print.proofs.FlameNodes.{own-is}
use Rattle.ht_print.proofs.flame_nodes.push_node.Goals as goal

pub returns-then-node-eq0-clause-text : goal.returns-then-node-eq0-clause-text
returns-then-node-eq0-clause-text c =
    let tree = c.args.tree.now in
    let own = own-is tree c.args.n c.node.result c.node.ensures.node in
    let none = c.if-node-eq0.true in
    appended-none (flat_map (line_at tree) c.args.nodes.now.items) (line_at tree c.args.n)
    (flame_line-none (front_at tree c.args.n) (own_at tree c.args.n) (omega (arith, own, none)))
