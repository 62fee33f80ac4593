use Rattle.std.proofs.Common.{◌∙◌, arith}
use Rattle.massif_cull.proofs.Tournament.{gap-made, node-inside}
use Rattle.massif_cull.proofs.gaps.Gaps.set_gap.Goals as goal

pub index-requires : goal.index-requires
index-requires c =
    let inside = rw (← c.self.view_is) at c.requires.inside in
    omega (arith, node-inside c.self.inside _ c.self.invariant inside, c.self.inside.nodes.ok.0)

pub returns-clause-keys : goal.returns-clause-keys
returns-clause-keys c =
    let inside = rw (← c.self.view_is) at c.requires.inside in
    let node = node-inside c.self.inside _ c.self.invariant inside in
    rw (← c.self.view_is)
    (c.climb.ensures.keys c.self.inside.max (omega (arith, node, c.self.invariant.size))
    ∙ gap-made c.self.inside.nodes.items c.self.inside.max c.args.place c.args.gap c.index.result.now node
    c.index.ensures)
