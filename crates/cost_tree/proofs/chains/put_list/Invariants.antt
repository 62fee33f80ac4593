use Rattle.std.proofs.Common.{◌≡◌, ◌+◌, ◌<◌, [], ◌++◌, length, take, get_or}
use Rattle.std.specs.Prelude.{IfSome}
use Rattle.std.specs.Option.{option_map_or}
use Rattle.cost_tree.specs.ChainLists.{chain_lists}
use Rattle.cost_tree.specs.Following.{following}
use Rattle.cost_tree.proofs.chains.put_list.Given as goal

-- so many numbers are left of the list that is next
abbrev pub invariant-each_chain : goal.invariant-each_chain
invariant-each_chain l = record {
  held : IfSome l.next (λ list. list < length l.chains);
  numbers : l.numbers.items ++ take l.left (following (chain_lists l.own l.chains) l.next)
      ≡ l.initial.numbers.items ++ take l.most (get_or (chain_lists l.own l.chains) l.list []);
}

abbrev pub decreases-each_chain : goal.decreases-each_chain
decreases-each_chain l = option_map_or (λ list. list + 1) l.next 0
