use Rattle.std.proofs.Common.{◌∙◌, ◌++◌, List, ℕ, ap}
use Rattle.std.proofs.lemmas.Result.{on_ok_weaker}
use Rattle.ht_print.proofs.Sizes.{histogram-at}
use Rattle.ht_print.proofs.histogram.put_histogram.Goals as goal

pub returns-else-is_err-clause-appended : goal.returns-else-is_err-clause-appended
returns-else-is_err-clause-appended c =
    on_ok_weaker c.put_ranges-put.result
    (λ put events stands. put
    ∙ ap (λ (text : List ℕ). c.args.out.now.items ++ text)
    (histogram-at c.args.ledger.now events (λ w. c.sums_by_info.ensures c.args.ledger.now events w stands)))
    c.put_ranges-put.ensures.appended
