use Rattle.std.proofs.Common.{◌≡◌, length, refl, ap, ◌∙◌, arith}
use Rattle.record_book.specs.Figures.{greatest_below, own_peak, sum_below}
use Rattle.record_book.proofs.SummaryLemmas.{summary-is}
use Rattle.record_book.proofs.summary.Summary.of.Goals as goal

pub returns : goal.returns
returns c =
    let scripts = c.args.job.now.scripts in
    let all : c.loop-thread.thread ≡ length scripts =
    omega (arith, c.loop-thread.auto.thread-end, c.loop-thread-test.false, c.threads-thread-end.ensures.count) in
    summary-is scripts c.args.order.now c.in_ok-tally.tally c.from.result (length c.args.order.now) c.loop-thread.low
    c.loop-thread.high c.in_ok-tally.ensures (c.from.ensures ∙ c.threads.ensures.count) refl
    (c.loop-thread.invariant.low_is ∙ ap (greatest_below (own_peak scripts)) all)
    (c.loop-thread.invariant.high_is ∙ ap (sum_below (own_peak scripts)) all)
