use Rattle.std.proofs.Common.{◌≡◌, ◌+◌, ◌-◌, ap, sym, ◌∙◌, arith}
use Rattle.std.specs.Prelude.{slice_get}
use Rattle.std.proofs.lemmas.Option.{slice_get_within}
use Rattle.massif_cull.proofs.SnapsLemmas.{some-inside}
use Rattle.massif_cull.proofs.linked.LinkedSnaps.before.Goals as goal

pub unwrap-place-requires : goal.unwrap-place-requires
unwrap-place-requires g c =
    let here = rw (← c.self.view_is) at c.requires.snap_at in
    let same : c.args.snap_at.index - 1 + 1 ≡ c.args.snap_at.index = omega (arith, c.requires.inside) in
    let within = slice_get_within c.self.inside.links.places c.args.snap_at.index c.args.snap_at.place here in
    some-inside c.self.inside.links.places (c.args.snap_at.index - 1) _
    (c.prev.ensures.place (c.args.snap_at.index - 1) (ap (slice_get c.self.inside.links.places) same ∙ here))
    (omega arith)

pub returns-clause-snap_at : goal.returns-clause-snap_at
returns-clause-snap_at g c =
    let here = rw (← c.self.view_is) at c.requires.snap_at in
    let same : c.args.snap_at.index - 1 + 1 ≡ c.args.snap_at.index = omega (arith, c.requires.inside) in
    rw (← c.self.view_is)
    (sym (c.prev.ensures.place (c.args.snap_at.index - 1) (ap (slice_get c.self.inside.links.places) same ∙ here))
    ∙ c.unwrap-place.ensures)
