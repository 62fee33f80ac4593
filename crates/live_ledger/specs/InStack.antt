-- The figures of one stack in a list of events. The figures of a stack are those sums and counts
-- over its own allocations and frees; a temporary allocation is of the stack whose block the free
-- names.
use Rattle.std.specs.Prelude.{ℕ, ◌-◌, ◌==◌, ◌&&◌, Bool, false, List, count_by, sum_by, if◌then◌else◌}
use Rattle.live_ledger.specs.declared.event.Event.{Event}
use Rattle.live_ledger.specs.declared.event.Event.TheVariants.{Alloc, Free, Tick}
use Rattle.live_ledger.specs.Events.{counted}
use Rattle.live_ledger.specs.Temporary.{is_alloc_then_free, neighbours}

-- whether it is an allocation in the stack
abbrev pub is_alloc_in : ℕ → Event → Bool
is_alloc_in n (Alloc info stack size) = stack == n
is_alloc_in n (Free info stack size) = false
is_alloc_in n (Tick ms) = false

-- whether it is a free of a block of the stack
abbrev pub is_free_in : ℕ → Event → Bool
is_free_in n (Alloc info stack size) = false
is_free_in n (Free info stack size) = stack == n
is_free_in n (Tick ms) = false

-- the bytes that an event allocates in the stack
abbrev pub alloc_size_in : ℕ → Event → ℕ
alloc_size_in n (Alloc info stack size) = if stack == n then size else 0
alloc_size_in n (Free info stack size) = 0
alloc_size_in n (Tick ms) = 0

-- the bytes of the stack that an event frees
abbrev pub free_size_in : ℕ → Event → ℕ
free_size_in n (Alloc info stack size) = 0
free_size_in n (Free info stack size) = if stack == n then size else 0
free_size_in n (Tick ms) = 0

-- the number of allocations in stack `n`
abbrev pub calls_in : ℕ → List Event → ℕ
calls_in n events = count_by (is_alloc_in n) events

-- the number of frees of blocks of stack `n`
abbrev pub frees_in : ℕ → List Event → ℕ
frees_in n events = count_by (is_free_in n) events

-- the sum of the sizes of the allocations in stack `n`
abbrev pub allocated_in : ℕ → List Event → ℕ
allocated_in n events = sum_by (alloc_size_in n) events

-- the sum of the sizes of the frees of blocks of stack `n`
abbrev pub freed_in : ℕ → List Event → ℕ
freed_in n events = sum_by (free_size_in n) events

-- the live bytes of stack `n`: a list that a ledger stands for frees no more of a stack than was allocated in it
abbrev pub live_in : ℕ → List Event → ℕ
live_in n events = allocated_in n events - freed_in n events

-- the live blocks of stack `n`
abbrev pub blocks_in : ℕ → List Event → ℕ
blocks_in n events = calls_in n events - frees_in n events

-- whether the first is an allocation and the second a free of a block of stack `n`, both of one info
abbrev pub is_temporary_in : ℕ → Event → Event → Bool
is_temporary_in n one next = is_free_in n next && is_alloc_then_free one next

-- the number of places where an allocation stands and a free of the same info, in stack `n`, comes next
abbrev pub temporary_in : ℕ → List Event → ℕ
temporary_in n events = count_by (λ pair. is_temporary_in n pair.0 pair.1)
    (neighbours (counted events))
