use Rattle.dhat_trace.proofs.NumberLemmas.{none_under}
use Rattle.std.proofs.Common.{rules}
use Rattle.dhat_trace.proofs.place_lists.PlaceLists.new.Goals as goal

pub returns-clause-empty : goal.returns-clause-empty
returns-clause-empty c =
    none_under _ _ c.args.count c.in_ok-empty_list.ensures
    (c.in_ok-vec.ensures.items_if_clones_equal (λ number clone. search rules))
