use Rattle.cost_tree.proofs.NextSums.{next-whole}
use Rattle.cost_tree.proofs.sum_law.sums_of_fronts.Goals as goal

pub returns : goal.returns
returns c = next-whole
