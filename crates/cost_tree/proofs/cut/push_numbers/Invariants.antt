use Rattle.std.proofs.Common.{◌≡◌, ◌<◌, length, take}
use Rattle.cost_tree.specs.GrowingLists.{LastGains}
use Rattle.cost_tree.proofs.cut.push_numbers.Given as goal

abbrev pub invariant-each_number : goal.invariant-each_number
invariant-each_number l = record {
  begun : 0 < length l.shape;
  count : length l.shape ≡ length l.initial.shape;
  gained : LastGains l.initial.shape (take l.number-index l.numbers) l.shape;
}
