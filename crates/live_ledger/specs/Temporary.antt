-- A temporary allocation is a place where an allocation stands and the very next event is a free of
-- the same info. Clock values stand between no two events.
use Rattle.std.specs.Prelude.{ℕ, Bool, false, ◌==◌, ◌-◌, List, length, drop, count_by, slice_get, Option, None, Some}
use Rattle.std.specs.Prelude.{option_and_then}
use Rattle.std.specs.List.{zip}
use Rattle.live_ledger.specs.declared.event.Event.{Event}
use Rattle.live_ledger.specs.declared.event.Event.TheVariants.{Alloc, Free, Tick}
use Rattle.live_ledger.specs.Events.{counted}

-- whether the first is an allocation and the second a free, both of one info
abbrev pub is_alloc_then_free : Event → Event → Bool
is_alloc_then_free (Alloc info stack size) (Free freed at bytes) = info == freed
is_alloc_then_free _ _ = false

-- each event beside the one after it
abbrev pub neighbours : List Event → List (Event × Event)
neighbours events = zip events (drop 1 events)

-- the number of places where an allocation stands and a free of the same info comes next
abbrev pub temporary_count : List Event → ℕ
temporary_count events = count_by (λ pair. is_alloc_then_free pair.0 pair.1)
    (neighbours (counted events))

-- the info that an event allocates from
abbrev pub info_allocated : Event → Option ℕ
info_allocated (Alloc info stack size) = Some info
info_allocated (Free info stack size) = None
info_allocated (Tick ms) = None

-- the info of the last event, where that is an allocation
abbrev pub last_allocated : List Event → Option ℕ
last_allocated events = option_and_then info_allocated
    (slice_get (counted events) (length (counted events) - 1))
