use Rattle.massif_cull.proofs.LinksLemmas.{last-is, last-below}
use Rattle.massif_cull.proofs.links.Links.last.Goals as goal

pub returns-clause-place : goal.returns-clause-place
returns-clause-place c =
    rw (← c.self.view_is) (last-is c.self.inside _ _ c.self.invariant c.index.ensures c.unless_end.ensures)

pub returns-clause-below : goal.returns-clause-below
returns-clause-below c =
    rw (← c.self.view_is) (last-below c.self.inside _ _ c.self.invariant c.index.ensures c.unless_end.ensures)
