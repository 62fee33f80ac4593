use Rattle.std.proofs.Common.{◌∙◌, sym}
use Rattle.massif_cull.proofs.SnapsLemmas.{are-placed, entries-beside, loads-beside}
use Rattle.massif_cull.proofs.linked.LinkedSnaps.len.Goals as goal

pub returns-clause-entries : goal.returns-clause-entries
returns-clause-entries g c =
    rw (← c.self.view_is) (c.len.ensures.length ∙ sym (entries-beside c.self.inside c.self.invariant))

pub returns-clause-loads : goal.returns-clause-loads
returns-clause-loads g c =
    rw (← c.self.view_is) (c.len.ensures.length ∙ sym (loads-beside c.self.inside c.self.invariant))

pub returns-clause-placed : goal.returns-clause-placed
returns-clause-placed g c = rw (← c.self.view_is) (are-placed c.self.inside c.self.invariant)
