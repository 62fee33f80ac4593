-- The fault that an event has after a list of events. A counted event that the ledger takes is too
-- large where the gross bytes or the time pass 2^62 with it.
use Rattle.std.specs.Prelude.{◌≡◌, ℕ, ◌^◌, nat_lt, ◌&&◌, ◌||◌, Bool, List, [], ◌∷◌, ◌++◌, Option, None, Some, Result}
use Rattle.std.specs.Prelude.{Ok, Err, if◌then◌else◌}
use Rattle.std.specs.Option.{option_or}
use Rattle.live_ledger.specs.declared.event.Event.{Event}
use Rattle.live_ledger.specs.declared.event.EventFault.{EventFault}
use Rattle.live_ledger.specs.declared.event.EventFault.TheVariants.{CostTooLarge}
use Rattle.live_ledger.specs.declared.event.EventFault.TheVariants as ledger_fault
use Rattle.live_ledger.specs.Faults.{fault_of}
use Rattle.massif_sample.specs.declared.fault.SampleFault.{SampleFault}
use Rattle.massif_sample.specs.declared.fault.SampleFault.TheVariants as sample
use Rattle.massif_sample.specs.declared.options.MassifOptions.{MassifOptions}
use Rattle.massif_sample.specs.Counted.{counts}
use Rattle.massif_sample.specs.HeapTotals.{gross_total}
use Rattle.massif_sample.specs.Times.{time_of}

-- whether the gross bytes that are live, or the time, pass 2^62
abbrev pub is_too_large : MassifOptions → (ℕ → Bool) → List Event → Bool
is_too_large options ignored events = nat_lt (2 ^ 62) (gross_total options ignored events)
    || nat_lt (2 ^ 62) (time_of options ignored events)

-- the fault of an event that the ledger takes
abbrev pub size_fault : MassifOptions → (ℕ → Bool) → List Event → Event → Option EventFault
size_fault options ignored events event =
    if counts ignored event && is_too_large options ignored (events ++ event ∷ [])
    then Some CostTooLarge else None

-- the ledger's fault, or else that of an event that is counted where the gross bytes or the time would pass 2^62
abbrev pub sample_fault : MassifOptions → (ℕ → Bool) → List Event → Event → Option EventFault
sample_fault options ignored events event = option_or (fault_of events event)
    (size_fault options ignored events event)

-- the ledger's fault as a sampler tells it
abbrev pub of_event : EventFault → SampleFault
of_event ledger_fault.FreeOfNothing = sample.FreeOfNothing
of_event ledger_fault.CostTooLarge = sample.CostTooLarge

-- an answer tells this fault; want of memory comes in place of none
abbrev pub Tells : {T : Type 0} → Result T SampleFault → Option EventFault → Type 0
Tells (Ok answer) found = found ≡ None
Tells (Err sample.FreeOfNothing) found = found ≡ Some ledger_fault.FreeOfNothing
Tells (Err sample.CostTooLarge) found = found ≡ Some ledger_fault.CostTooLarge
Tells (Err sample.NoMemory) found = found ≡ None
