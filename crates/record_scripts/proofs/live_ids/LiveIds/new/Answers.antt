use Rattle.std.proofs.Common.{ℕ, List, ap}
use Rattle.std.specs.Prelude.{nat_eq}
use Rattle.std.specs.HashSet.{contains}
use Rattle.std.specs.List.{list_any}
use Rattle.record_scripts.proofs.LiveLemmas.{none-held}
use Rattle.record_scripts.proofs.live_ids.LiveIds.new.Goals as goal

pub returns : goal.returns
returns c =
    none-held c.in_ok-low.low.items 65536 (contains nat_eq c.new.result)
    (c.in_ok-low.ensures.items_if_clones_equal (λ y same. same))
    (λ id. ap (λ (keys : List ℕ). list_any (nat_eq id) keys) c.new.ensures.empty)
