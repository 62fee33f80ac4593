use Rattle.std.proofs.Common.{◌≡◌, ◌++◌, map, take, drop}
use Rattle.massif_cull.specs.Keys.{no_key}
use Rattle.massif_cull.proofs.gaps.clear_all.Given as goal

abbrev pub invariant-nodes : goal.invariant-nodes
invariant-nodes l =
    l.node-items ≡ map (λ _. no_key) (take l.node-index l.fn.nodes.items) ++ drop l.node-index l.fn.nodes.items
