use Rattle.std.proofs.Common.{sym, arith}
use Rattle.std.proofs.lemmas.Map.Keys.{ge_from_not_lt, le_from_not_gt}
use Rattle.interpret.proofs.HolderLemmas.{address-upto, holder-before, holder-last}
use Rattle.interpret.proofs.KeyLemmas.{none-where}
use Rattle.interpret.proofs.address_index.AddressIndex.holder.Goals as goal

pub returns-in_err-place : goal.returns-in_err-place
returns-in_err-place c =
    rw c.from_residual.ensures
    (sym (holder-before c.args.self.now c.args.ip
    (λ k within. (c.range.ensures.in_range tt).5 c.in_err-place.ensures.steps.0 k
    (tt, address-upto k c.args.ip within))))

pub returns : goal.returns
returns c =
    let from = c.in_ok-place.field-0-0.now in
    let found = (c.range.ensures.in_range tt).3 _ _ c.in_ok-place.ensures.steps in
    sym (holder-last c.args.self.now from c.args.ip c.in_ok-place.place.now (le_from_not_gt from c.args.ip found.0.1)
    found.1
    (λ k after within. none-where _ (λ some.
    let upto =
    ge_from_not_lt from k
    ((c.range.ensures.in_range tt).4 _ _ c.in_ok-place.ensures.steps k (tt, address-upto k c.args.ip within)
    some) in
    omega (arith, after, upto))))
