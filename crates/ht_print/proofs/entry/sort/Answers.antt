use Rattle.std.proofs.Common.{◌≡◌, rules}
use Rattle.std.specs.Ordering.{is_lt}
use Rattle.std.proofs.lemmas.List.Sorted.{answers_always}
use Rattle.ht_print.specs.ReportOrder.{is_before}
use Rattle.ht_print.proofs.EntryOrder.{is-order, sorted-is}
use Rattle.ht_print.proofs.entry.sort.Goals as goal

pub returns : goal.returns
returns c = sorted-is _ _ c.sort_unstable_by.ensures.permutation
    (c.sort_unstable_by.ensures.sorted is_before is-order
    (answers_always _ (λ a r. is_lt r ≡ is_before a.0.now a.1.0.now) _ (λ f a r f' called. search rules)))
