use Rattle.std.proofs.Common.{ℕ, ◌+◌, ◌<◌, length, get_or, None, Option, subst, sym, arith}
use Rattle.std.specs.Option.{option_map_or}
use Rattle.cost_tree.specs.declared.chain.Chain.{Chain}
use Rattle.cost_tree.proofs.Chaining.{IsRead, chain-read, earlier-still, left-more, sooner}
use Rattle.cost_tree.proofs.chains.put_list.Goals as goal
use Rattle.cost_tree.proofs.chains.put_list.Goals.{In-Some}

-- what is read where no list is held
abbrev nowhere : Chain
nowhere = record { start = 0; end = 0; next = None; count = 0 }

-- the next list
read : (c : In-Some)
    → IsRead c.args.own.now c.args.chains.now c.in-Some.place (get_or c.args.chains.now c.in-Some.place nowhere)
read c =
    chain-read c.args.own.now c.args.chains.now c.each_chain.next c.in-Some.place nowhere c.requires.chains
    c.in-Some.is c.each_chain.invariant.held

pub own_of-requires-clause-ordered : goal.own_of-requires-clause-ordered
own_of-requires-clause-ordered c = (read (goal.at.own_of-requires-clause-ordered c).In-Some).is.ordered

pub own_of-requires-clause-within : goal.own_of-requires-clause-within
own_of-requires-clause-within c = (read (goal.at.own_of-requires-clause-within c).In-Some).is.within

pub each_chain-smaller : goal.each_chain-smaller
each_chain-smaller c =
    subst (λ (next : Option ℕ). option_map_or (λ (k : ℕ). k + 1) (get_or c.args.chains.now c.in-Some.place nowhere).next
    0
    < option_map_or (λ (k : ℕ). k + 1) next 0) (sym
    c.in-Some.is)
    (sooner (get_or c.args.chains.now c.in-Some.place nowhere).next c.in-Some.place
    (read (goal.at.each_chain-smaller c).In-Some).is.earlier)

pub each_chain-preserved : goal.each_chain-preserved
each_chain-preserved c =
    let chains = c.args.chains.now in
    let chain : Chain = get_or chains c.in-Some.place nowhere in
    let here = read (goal.at.each_chain-preserved c).In-Some in
    record {
      held = earlier-still chain.next c.in-Some.place (length chains) (omega (arith, here.within)) here.is.earlier;
      numbers =
          left-more c.args.own.now chains c.in-Some.place c.each_chain.left c.min.result c.in_ok-left.left chain
          c.each_chain.next c.own_of.result.now c.each_chain.numbers.items c.put_first.new.numbers.items _
          c.requires.chains here.at c.in-Some.is c.own_of.ensures c.min.ensures c.in_ok-left.ensures.left
          c.in_ok-left.ensures.appended c.each_chain.invariant.numbers;
    }
