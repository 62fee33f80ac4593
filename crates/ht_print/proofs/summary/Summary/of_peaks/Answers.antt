use Rattle.std.proofs.Common.{ap, sym, subst, ◌∙◌}
use Rattle.live_ledger.specs.StandsFor.{StandsFor}
use Rattle.peak_costs.specs.Peak.{total_after}
use Rattle.ht_print.proofs.SummaryLemmas.{summary_by}
use Rattle.ht_print.proofs.summary.Summary.of_peaks.Goals as goal

pub returns : goal.returns
returns c = λ events stands.
    summary_by c.totals.result c.peak_total.result c.peak_moment.result events
    (c.totals.ensures.figures events (subst (λ ledger. StandsFor ledger events) (sym c.ledger.ensures) stands.ledger))
    (c.peak_moment.ensures.peak events stands)
    (c.peak_total.ensures.total events stands
    ∙ ap (λ moment. total_after moment events) (sym c.peak_moment.ensures.value))
