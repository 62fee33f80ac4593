use Rattle.std.proofs.Common.{◌≡◌, length, arith}
use Rattle.massif_cull.proofs.LinksLemmas.{places-count, places-different, places-below}
use Rattle.massif_cull.proofs.links.Links.len.Goals as goal

pub returns-clause-length : goal.returns-clause-length
returns-clause-length c =
    let free : c.len.result ≡ length c.self.inside.free.items = omega (arith, c.len.ensures, c.self.inside.free.ok.0) in
    rw (← c.self.view_is) (omega (arith, places-count c.self.inside c.self.invariant))

pub returns-clause-different : goal.returns-clause-different
returns-clause-different c = rw (← c.self.view_is) (places-different c.self.inside c.self.invariant)

pub returns-clause-below : goal.returns-clause-below
returns-clause-below c = rw (← c.self.view_is) (places-below c.self.inside c.self.invariant)
