use Rattle.std.proofs.Common.{ap, sym, ◌∙◌}
use Rattle.std.specs.Option.{option_copied}
use Rattle.massif_cull.proofs.SnapsLemmas.{place-inside, slot-there, holds-at}
use Rattle.massif_cull.proofs.linked.LinkedSnaps.held_at.Goals as goal

pub returns : goal.returns
returns g c k at =
    let here = rw (← c.self.view_is) at at in
    let there =
    slot-there _ _ _ (place-inside c.self.inside _ _ c.self.invariant here) c.index.ensures
    ∙ sym c.as_ref.ensures.value ∙ ap option_copied c.unwrap.ensures in
    rw (← c.self.view_is) (holds-at c.self.inside _ _ _ c.self.invariant here there)
