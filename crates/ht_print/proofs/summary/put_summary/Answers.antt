use Rattle.peak_costs.specs.Peak.{StandsFor}
use Rattle.ht_print.proofs.SummaryLemmas.{appended-for}
use Rattle.ht_print.proofs.summary.put_summary.Goals as goal

pub returns-clause-appended : goal.returns-clause-appended
returns-clause-appended c =
    appended-for (StandsFor c.args.peaks.now) c.of_peaks.result c.args.out.now c.put.new.out c.put.result
    c.of_peaks.ensures c.put.ensures.appended
