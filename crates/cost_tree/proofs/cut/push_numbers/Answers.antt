use Rattle.std.proofs.Common.{ℕ, List, [], ◌∷◌, take, get_or, sym, subst, arith}
use Rattle.std.proofs.lemmas.List.{take_more}
use Rattle.cost_tree.specs.GrowingLists.{LastGains}
use Rattle.cost_tree.proofs.Listing.{gains-more}
use Rattle.cost_tree.proofs.cut.push_numbers.Goals as goal

pub each_number-preserved : goal.each_number-preserved
each_number-preserved c =
    let numbers = c.args.numbers.now in
    let place = c.each_number.number-index in
    let number : ℕ = get_or numbers place 0 in
    let count = c.push.ensures.count in
    record {
      begun = let begun = c.each_number.invariant.begun in omega arith;
      count = let same = c.each_number.invariant.count in omega arith;
      gained =
          subst (λ (ns : List ℕ). LastGains c.args.shape.now ns c.push.new.self)
          (sym (take_more numbers place 0 (omega arith)))
          (gains-more c.args.shape.now c.each_number.shape c.push.new.self (take place numbers) (number ∷ [])
          c.each_number.invariant.gained c.in_ok-push.ensures.appended);
    }
