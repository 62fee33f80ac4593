use Rattle.std.proofs.Common.{map, drop}
use Rattle.dhat_json.specs.DhatValue.{whole}
use Rattle.dhat_json.proofs.Added.{Listed}
use Rattle.dhat_json.proofs.tokens.put_numbers.Given as goal

abbrev pub invariant-loop-n : goal.invariant-loop-n
invariant-loop-n l = Listed l.fn.out l.out (map whole l.numbers) (map whole (drop l.n-index l.numbers))
