use Rattle.std.proofs.Common.{ℕ, ap}
use Rattle.massif_cull.specs.declared.gaps.Key.{Key}
use Rattle.massif_cull.proofs.SnapsLemmas.{contains-at}
use Rattle.massif_cull.proofs.linked.LinkedSnaps.key.Goals as goal

pub gap-requires-clause-held : goal.gap-requires-clause-held
gap-requires-clause-held g c = contains-at _ _ _ c.requires.snap_at

pub returns : goal.returns
returns g c =
    ap (λ (gap : ℕ). let key : Key = record { gap = gap; number = c.args.snap_at.index; place = c.args.snap_at.place }
    in key)
    (c.gap.ensures _ c.requires.snap_at)
