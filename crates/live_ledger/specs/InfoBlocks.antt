-- The allocations and frees of one info.
use Rattle.std.specs.Prelude.{ℕ, Bool, false, ◌==◌, List, count_by}
use Rattle.live_ledger.specs.declared.event.Event.{Event}
use Rattle.live_ledger.specs.declared.event.Event.TheVariants.{Alloc, Free, Tick}

-- whether it is an allocation of info `n`
abbrev pub is_alloc_of : ℕ → Event → Bool
is_alloc_of n (Alloc info stack size) = info == n
is_alloc_of n (Free info stack size) = false
is_alloc_of n (Tick ms) = false

-- whether it is a free of info `n`
abbrev pub is_free_of : ℕ → Event → Bool
is_free_of n (Alloc info stack size) = false
is_free_of n (Free info stack size) = info == n
is_free_of n (Tick ms) = false

-- the number of allocations of info `n`
abbrev pub allocs_of : ℕ → List Event → ℕ
allocs_of n events = count_by (is_alloc_of n) events

-- the number of frees of info `n`
abbrev pub frees_of : ℕ → List Event → ℕ
frees_of n events = count_by (is_free_of n) events
