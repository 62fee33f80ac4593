use Rattle.std.proofs.Common.{arith}
use Rattle.std.proofs.lemmas.List.{drop-set-add}
use Rattle.massif_cull.proofs.Tournament.{node-inside}
use Rattle.massif_cull.proofs.gaps.Gaps.put.Goals as goal

pub index_mut-requires : goal.index_mut-requires
index_mut-requires c =
    let inside = rw (← c.self.view_is) at c.requires in
    omega (arith, node-inside c.self.inside _ c.self.invariant inside, c.self.inside.nodes.ok.0)

pub returns : goal.returns
returns c = rw (← c.self.view_is) (drop-set-add c.self.inside.max c.self.inside.nodes.items c.args.place c.args.key)
