use Rattle.peak_costs.specs.PeakTotals.{StandsFor}
use Rattle.ht_print.proofs.SummaryLemmas.{appended-for}
use Rattle.ht_print.proofs.summary.put_totals_summary.Goals as goal

pub returns-clause-appended : goal.returns-clause-appended
returns-clause-appended c =
    appended-for (StandsFor c.args.totals.now) c.of_totals.result c.args.out.now c.put.new.out c.put.result
    c.of_totals.ensures c.put.ensures.appended
