use Rattle.std.proofs.Common.{arith}
use Rattle.massif_cull.proofs.LinksLemmas.{contained-below, next-is, next-below}
use Rattle.massif_cull.proofs.links.Links.next.Goals as goal

pub index-requires : goal.index-requires
index-requires c =
    let held = rw (← c.self.view_is) at c.requires in
    omega (arith, contained-below c.self.inside c.args.place c.self.invariant held, c.self.invariant.next_length)

pub returns-clause-place : goal.returns-clause-place
returns-clause-place c =
    let held = rw (← c.self.view_is) at c.requires in
    rw (← c.self.view_is)
    (next-is c.self.inside c.args.place _ _ c.self.invariant held c.unless_end.ensures c.index.ensures)

pub returns-clause-below : goal.returns-clause-below
returns-clause-below c =
    let held = rw (← c.self.view_is) at c.requires in
    rw (← c.self.view_is)
    (next-below c.self.inside c.args.place _ _ c.self.invariant held c.unless_end.ensures c.index.ensures)
