-- Allocations, frees and clock values in a list of events. Which events are allocations, which are
-- frees, and which of them are of one info.
use Rattle.std.specs.Prelude.{ℕ, Bool, true, false, List, filter, count_by}
use Rattle.live_ledger.specs.declared.event.Event.{Event}
use Rattle.live_ledger.specs.declared.event.Event.TheVariants.{Alloc, Free, Tick}

-- whether it is an allocation
abbrev pub is_alloc : Event → Bool
is_alloc (Alloc info stack size) = true
is_alloc (Free info stack size) = false
is_alloc (Tick ms) = false

-- whether it is a free
abbrev pub is_free : Event → Bool
is_free (Alloc info stack size) = false
is_free (Free info stack size) = true
is_free (Tick ms) = false

-- whether it is an allocation or a free, and so no clock value
abbrev pub is_counted : Event → Bool
is_counted (Alloc info stack size) = true
is_counted (Free info stack size) = true
is_counted (Tick ms) = false

-- the allocations and frees of a list, without its clock values
abbrev pub counted : List Event → List Event
counted events = filter is_counted events

-- how many allocations and frees a list has
abbrev pub event_count : List Event → ℕ
event_count events = count_by is_counted events

-- it is a clock value
abbrev pub IsTick : Event → Type 0
IsTick (Alloc info stack size) = ⊥
IsTick (Free info stack size) = ⊥
IsTick (Tick ms) = Unit {0}
