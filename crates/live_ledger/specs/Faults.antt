-- The fault that an event has after a list of events, and in a ledger. A free is of nothing where
-- its info has as many frees as allocations before it; an allocation is too large where all
-- allocated sizes with its own sum to more than 2^62.
use Rattle.std.specs.Prelude.{◌==◌, ◌+◌, ◌^◌, nat_lt, if◌then◌else◌, List, Option, None, Some, slice_index}
use Rattle.live_ledger.specs.declared.event.Event.{Event}
use Rattle.live_ledger.specs.declared.event.Event.TheVariants.{Alloc, Free, Tick}
use Rattle.live_ledger.specs.declared.event.EventFault.{EventFault}
use Rattle.live_ledger.specs.declared.event.EventFault.TheVariants.{FreeOfNothing, CostTooLarge}
use Rattle.live_ledger.specs.InfoBlocks.{allocs_of, frees_of}
use Rattle.live_ledger.specs.LiveBytes.{allocated_bytes}
use Rattle.live_ledger.specs.LedgerState.{LedgerState}

-- an allocation is too large where the allocated sizes with it pass 2^62; a free is of nothing where its
-- info has as many frees as allocations
abbrev pub fault_of : List Event → Event → Option EventFault
fault_of events (Alloc info stack size) = if nat_lt (2 ^ 62) (allocated_bytes events + size)
    then Some CostTooLarge else None
fault_of events (Free info stack size) = if allocs_of info events == frees_of info events
    then Some FreeOfNothing else None
fault_of events (Tick ms) = None

-- the same by a ledger's figures: its allocated bytes, and the live blocks of the info
abbrev pub fault_at : LedgerState → Event → Option EventFault
fault_at state (Alloc info stack size) = if nat_lt (2 ^ 62) (state.totals.allocated + size)
    then Some CostTooLarge else None
fault_at state (Free info stack size) = if slice_index state.blocks info == 0
    then Some FreeOfNothing else None
fault_at state (Tick ms) = None
