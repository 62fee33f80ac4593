-- What stands from the place so far on is the numbers from one on, each behind a blank, and the line feed.
use Rattle.std.proofs.Common.{◌≡◌, ◌+◌, ◌*◌, ◌≤◌, [], ◌∷◌, ◌++◌, length, drop}
use Rattle.hp_num.specs.Spelled.{spelled}
use Rattle.hp_num.proofs.number_line.put_number_line.Given as goal

abbrev pub invariant-numbers : goal.invariant-numbers
invariant-numbers l = record {
  sized : length l.buffer ≡ 53;
  left : l.left ≤ length l.fn.numbers;
  low : 17 * l.left + 1 ≤ l.start;
  high : l.start ≤ 52;
  same : drop l.start l.buffer ≡ spelled (drop l.left l.fn.numbers) ++ (10 ∷ []);
}

abbrev pub decreases-numbers : goal.decreases-numbers
decreases-numbers l = l.left
