use Rattle.std.proofs.Common.{◌-◌, length, ap, sym, ◌∙◌, arith}
use Rattle.std.specs.Prelude.{slice_get}
use Rattle.std.proofs.lemmas.Option.{slice_get_within}
use Rattle.massif_cull.proofs.SnapsLemmas.{entries-beside, none-left}
use Rattle.massif_cull.proofs.linked.LinkedSnaps.last_spot.Goals as goal

pub returns-in_err-place-clause-none : goal.returns-in_err-place-clause-none
returns-in_err-place-clause-none g c = λ none.
    rw (← c.self.view_is) (none-left c.self.inside c.self.invariant c.in_err-place.ensures.place)

pub overflow_sub-index : goal.overflow_sub-index
overflow_sub-index g c =
    let within =
    slice_get_within c.self.inside.links.places (length c.self.inside.links.places - 1) c.in_ok-place.place
    (sym c.in_ok-place.ensures.place) in
    let count = rw (← c.self.view_is) at c.len-index.ensures.entries in
    omega (arith, within, count, entries-beside c.self.inside c.self.invariant)

pub returns-clause-snap_at : goal.returns-clause-snap_at
returns-clause-snap_at g c =
    let count = rw (← c.self.view_is) at c.len-index.ensures.entries in
    rw (← c.self.view_is)
    (ap (λ k. slice_get c.self.inside.links.places (k - 1)) (count ∙ entries-beside c.self.inside c.self.invariant)
    ∙ sym c.in_ok-place.ensures.place)
