use Rattle.std.proofs.Common.{◌≡◌, ◌∙◌, ℕ, suc, List, ap, arith}
use Rattle.std.specs.Prelude.{slice_get}
use Rattle.massif_cull.proofs.Removals.{get-remove_above}
use Rattle.massif_cull.proofs.linked.LinkedSnaps.remove_at.Goals as goal

pub returns-clause-snap_at : goal.returns-clause-snap_at
returns-clause-snap_at g c =
    let places = c.args.self.now.places in
    let index = c.args.snap_at.index in
    ap (λ (ps : List ℕ). slice_get ps index) c.remove.ensures.removes.places
    ∙ get-remove_above places index index (omega arith)
    ∙ ap (slice_get places)
    (let next : suc index ≡ c.after-next.result.index = omega (arith, c.after-next.ensures.index) in next)
    ∙ c.after-next.ensures.snap_at
