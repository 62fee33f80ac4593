use Rattle.std.proofs.Common.{◌≡◌, ◌≢◌, inl, inr, ℕ, ◌<◌, Some, ap, ◌∙◌, arith}
use Rattle.interpret.specs.Holders.{change_at}
use Rattle.interpret.proofs.HolderLemmas.{address-apart, holder-put}
use Rattle.interpret.proofs.address_index.AddressIndex.put.Goals as goal

-- no change comes or goes at another address
untouched : (c : goal.In_ok-insert-2) (k : ℕ) → c.args.range.begin ≢ k → c.args.range.end ≢ k
    → change_at (record { changes = c.insert-2.new.self }) k ≡ change_at c.remove_within.new.self k
untouched c k from to =
    c.in_ok-insert-2.ensures.updates.2 k (address-apart c.args.range.begin k from)
    ∙ c.in_ok-insert.ensures.updates.2 k (address-apart c.args.range.end k to)

pub returns : goal.returns
returns c =
    let some : c.args.range.begin < c.args.range.end = let not = c.if-begin-end.false in omega (arith, not) in
    holder-put c.args.self.now (record { changes = c.insert-2.new.self }) c.args.range c.args.place some
    c.in_ok-insert-2.ensures.updates.1
    (λ k after until. untouched c k (omega (arith, after)) (omega (arith, until))
    ∙ c.remove_within.ensures.within k (omega (arith, after)) until)
    (c.in_ok-insert-2.ensures.updates.2 c.args.range.end
    (address-apart c.args.range.begin c.args.range.end (omega (arith, some)))
    ∙ c.in_ok-insert.ensures.updates.1 ∙ ap (λ held. Some held) c.holder-behind.ensures)
    (λ k outside. elim outside [
      | inl before ↦ untouched c k (omega (arith, before)) (omega (arith, before, some))
          ∙ c.remove_within.ensures.others k (inl before)
      | inr behind ↦ untouched c k (omega (arith, behind, some)) (omega (arith, behind))
          ∙ c.remove_within.ensures.others k (inr (omega (arith, behind)))
    ])
