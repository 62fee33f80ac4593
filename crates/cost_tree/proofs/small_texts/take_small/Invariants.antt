use Rattle.std.proofs.Common.{◌≡◌, length}
use Rattle.cost_tree.proofs.TakingSmall.{IsTaking}
use Rattle.cost_tree.proofs.small_texts.take_small.Given as goal

abbrev pub invariant-each_list : goal.invariant-each_list
invariant-each_list l = record {
  count : length l.sums ≡ length l.initial.sums;
  taking : IsTaking l.scale l.firsts l.initial.costs l.list l.sums l.costs l.gathered;
}
