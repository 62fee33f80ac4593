-- The blocks that are live after a list of events. The live blocks are the allocations less the
-- frees.
use Rattle.std.specs.Prelude.{ℕ, ◌-◌, List, count_by}
use Rattle.live_ledger.specs.declared.event.Event.{Event}
use Rattle.live_ledger.specs.Events.{is_alloc, is_free}

-- the number of allocations
abbrev pub calls : List Event → ℕ
calls events = count_by is_alloc events

-- the number of frees
abbrev pub frees : List Event → ℕ
frees events = count_by is_free events

-- the allocations less the frees; a list that a ledger stands for frees no more than it allocated
abbrev pub live_blocks : List Event → ℕ
live_blocks events = calls events - frees events
