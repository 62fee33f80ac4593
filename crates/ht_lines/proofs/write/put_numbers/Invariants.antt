use Rattle.std.proofs.Common.{◌≡◌, ◌++◌, length}
use Rattle.hp_num.specs.Extends.{Extends}
use Rattle.ht_lines.specs.Fields.{numbers}
use Rattle.ht_lines.specs.Written.{spelled}
use Rattle.ht_lines.proofs.write.put_numbers.Given as goal

-- what is written and what is left are all
abbrev pub invariant-numbers : goal.invariant-numbers
invariant-numbers l =
    (l.out.items ++ spelled (numbers l.rest) ≡ l.fn.out.items ++ spelled (numbers l.tail))
    × Extends l.fn.out.items l.out.items

abbrev pub decreases-numbers : goal.decreases-numbers
decreases-numbers l = length l.rest
