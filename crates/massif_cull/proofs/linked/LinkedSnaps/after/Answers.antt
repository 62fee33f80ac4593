use Rattle.std.proofs.Common.{◌+◌, arith}
use Rattle.massif_cull.proofs.SnapsLemmas.{contains-at, some-inside, entries-beside}
use Rattle.massif_cull.proofs.linked.LinkedSnaps.after.Goals as goal

pub next-requires : goal.next-requires
next-requires g c =
    let here = rw (← c.self.view_is) at c.requires.snap_at in
    contains-at _ _ _ here

pub unwrap-place-requires : goal.unwrap-place-requires
unwrap-place-requires g c =
    let here = rw (← c.self.view_is) at c.requires.snap_at in
    let inside = rw (← c.self.view_is) at c.requires.inside in
    some-inside c.self.inside.links.places (c.args.snap_at.index + 1) _ (c.next.ensures.place c.args.snap_at.index here)
    (omega (arith, inside, entries-beside c.self.inside c.self.invariant))

pub overflow_add-result : goal.overflow_add-result
overflow_add-result g c =
    let inside = rw (← c.self.view_is) at c.requires.inside in
    omega (
      arith,
      inside,
      entries-beside c.self.inside c.self.invariant,
      c.self.invariant.most,
      c.self.invariant.max_most,
    )
