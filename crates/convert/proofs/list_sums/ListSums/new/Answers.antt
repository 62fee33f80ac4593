use Rattle.std.proofs.Common.{ℕ, List, [], sym, subst}
use Rattle.std.specs.Global.{Vec}
use Rattle.convert.specs.Numbers.{AreSums}
use Rattle.convert.proofs.Sums.{none-added}
use Rattle.convert.proofs.list_sums.ListSums.new.Goals as goal

pub returns-clause-sums : goal.returns-clause-sums
returns-clause-sums c =
    let P : List (Vec ℕ) → List ℕ → Type 0 = λ keys sums. AreSums c.args.names keys sums [] in
    subst (λ keys. P keys c.new-2.result.items) (sym c.new.ensures.empty)
    (subst (P []) (sym c.new-2.ensures.items) (none-added c.args.names c.requires.distinct))
