-- When the blocks of a stack came and went: the time of an allocation or a free is its number among
-- them, from 1.
use Rattle.std.specs.Prelude.{ℕ, List, length, sum_by, if◌then◌else◌}
use Rattle.std.specs.List.{range_with_len, zip}
use Rattle.live_ledger.specs.declared.event.Event.{Event}
use Rattle.live_ledger.specs.Events.{counted}
use Rattle.live_ledger.specs.InStack.{is_alloc_in, is_free_in}

-- the allocations and frees, each beside its time
abbrev pub timed : List Event → List (ℕ × Event)
timed events = zip (range_with_len 1 (length (counted events))) (counted events)

-- the sum of the times of the allocations in stack `n`
abbrev pub alloc_times : ℕ → List Event → ℕ
alloc_times n events = sum_by (λ pair. if is_alloc_in n pair.1 then pair.0 else 0) (timed events)

-- the sum of the times of the frees of blocks of stack `n`
abbrev pub free_times : ℕ → List Event → ℕ
free_times n events = sum_by (λ pair. if is_free_in n pair.1 then pair.0 else 0) (timed events)
