use Rattle.std.proofs.Common.{arith}
use Rattle.massif_cull.proofs.SnapsLemmas.{some-inside, entries-beside}
use Rattle.massif_cull.proofs.linked.LinkedSnaps.first.Goals as goal

pub unwrap-place-requires : goal.unwrap-place-requires
unwrap-place-requires g c =
    let some = rw (← c.self.view_is) at c.requires in
    some-inside c.self.inside.links.places 0 _ c.first.ensures.place
    (omega (arith, some, entries-beside c.self.inside c.self.invariant))
