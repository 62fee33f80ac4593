use Rattle.std.proofs.Common.{arith}
use Rattle.dhat_trace.proofs.RangeLemmas.{ranges_set}
use Rattle.dhat_trace.proofs.known_places.KnownPlaces.set.Goals as goal

pub returns : goal.returns
returns c =
    let size = c.in_ok-extend_from_slice.ensures.len in
    rw (← c.self.view_is)
    (ranges_set c.self.inside.places.items c.args.places.now c.extend_from_slice.new.self.items
    c.self.inside.ranges.items c.args.number c.len-start.result c.len-end.result c.self.invariant
    c.in_ok-extend_from_slice.ensures.items (omega arith) (omega (arith, size)))
