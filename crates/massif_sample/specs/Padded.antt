-- Costs of more stacks than are known.
use Rattle.std.specs.Prelude.{ℕ, List, map, slice_index_or}
use Rattle.std.specs.List.{range_with_len}
use Rattle.cost_history.specs.declared.change.Change.{Change}
use Rattle.cost_history.specs.Changes.{cost_at}

-- the costs of so many stacks, 0 for those that have none
unfoldable pub padded : ℕ → List ℕ → List ℕ
padded count costs = map (λ stack. slice_index_or costs stack 0) (range_with_len 0 count)

-- what so many stacks cost at a place, as changes say it
unfoldable pub told : ℕ → List Change → ℕ → List ℕ
told count changes place = map (cost_at changes place) (range_with_len 0 count)
