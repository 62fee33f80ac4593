use Rattle.std.proofs.Common.{ap, ◌∙◌}
use Rattle.std.specs.Prelude.{slice_get}
use Rattle.ht_print.specs.declared.flame.FlameCost.{FlameCost}
use Rattle.ht_print.specs.FlameCosts.{flame_costs}
use Rattle.ht_print.proofs.FlameFigures.{share-held}
use Rattle.ht_print.proofs.costs.cost_of.Goals as goal

pub returns-in-Peak : goal.returns-in-Peak
returns-in-Peak c =
    ap (λ (cost : FlameCost). slice_get (flame_costs cost c.args.peaks.now) c.args.stack) c.in-Peak.is
    ∙ share-held c.args.peaks.now c.args.stack c.peak_of.result c.requires.sound c.requires.held c.peak_of.ensures.value
