use Rattle.std.proofs.Common.{◌≡◌, ◌-◌, length, ap, sym, ◌∙◌, arith}
use Rattle.std.specs.Prelude.{slice_get}
use Rattle.massif_cull.proofs.linked.LinkedSnaps.last.Goals as goal

pub returns : goal.returns
returns g c =
    let entries = c.args.self.now.entries in
    let index : c.in_ok-snap_at.snap_at.index ≡ length entries - 1 = omega (arith, c.in_ok-snap_at.ensures.last) in
    sym (ap (slice_get entries) (sym index) ∙ c.entry.ensures)
