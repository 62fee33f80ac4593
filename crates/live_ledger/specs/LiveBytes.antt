-- The live bytes after some events are the sizes of the allocations less those of the frees.
use Rattle.std.specs.Prelude.{ℕ, ◌-◌, List, sum_by}
use Rattle.live_ledger.specs.declared.event.Event.{Event}
use Rattle.live_ledger.specs.declared.event.Event.TheVariants.{Alloc, Free, Tick}

-- the bytes that an event allocates
abbrev pub alloc_size : Event → ℕ
alloc_size (Alloc info stack size) = size
alloc_size (Free info stack size) = 0
alloc_size (Tick ms) = 0

-- the bytes that an event frees
abbrev pub free_size : Event → ℕ
free_size (Alloc info stack size) = 0
free_size (Free info stack size) = size
free_size (Tick ms) = 0

-- the sum of the sizes of the allocations
abbrev pub allocated_bytes : List Event → ℕ
allocated_bytes events = sum_by alloc_size events

-- the sum of the sizes of the frees
abbrev pub freed_bytes : List Event → ℕ
freed_bytes events = sum_by free_size events

-- the sizes of the allocations less those of the frees; a list that a ledger stands for frees no more
-- than it allocated
abbrev pub live_bytes : List Event → ℕ
live_bytes events = allocated_bytes events - freed_bytes events
