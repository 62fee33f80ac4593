-- The time of a list of events, in each unit. The time is the gross bytes that counted events
-- allocate and free, their number, or the greatest clock value.
use Rattle.std.specs.Prelude.{ℕ, ◌+◌, max, Bool, List, count_by, fold, sum_by}
use Rattle.live_ledger.specs.declared.event.Event.{Event}
use Rattle.live_ledger.specs.declared.event.Event.TheVariants.{Alloc, Free, Tick}
use Rattle.live_ledger.specs.ByInfo.{alloc_weight, free_weight}
use Rattle.massif_file.specs.declared.profile.TimeUnit.{TimeUnit}
use Rattle.massif_file.specs.declared.profile.TimeUnit.TheVariants.{Instructions, Milliseconds, Bytes, Events}
use Rattle.massif_sample.specs.declared.options.MassifOptions.{MassifOptions}
use Rattle.massif_sample.specs.Counted.{counts}
use Rattle.massif_sample.specs.HeapTotals.{gross_weight}

-- the gross bytes that an event allocates or frees, where it is counted
abbrev pub moved_bytes : MassifOptions → (ℕ → Bool) → Event → ℕ
moved_bytes options ignored event = alloc_weight (gross_weight options ignored) event
    + free_weight (gross_weight options ignored) event

-- the clock value of an event, and 0 where it has none
abbrev pub clock_value : Event → ℕ
clock_value (Alloc info stack size) = 0
clock_value (Free info stack size) = 0
clock_value (Tick ms) = ms

-- the greatest clock value, and 0 where there is none
abbrev pub clock : List Event → ℕ
clock events = fold (λ greatest event. max greatest (clock_value event)) 0 events

-- the time: the gross bytes of the counted events, their number, or the clock; instructions aren't known of a trace
abbrev pub time_in : TimeUnit → MassifOptions → (ℕ → Bool) → List Event → ℕ
time_in Bytes options ignored events = sum_by (moved_bytes options ignored) events
time_in Events options ignored events = count_by (counts ignored) events
time_in Milliseconds options ignored events = clock events
time_in Instructions options ignored events = 0

abbrev pub time_of : MassifOptions → (ℕ → Bool) → List Event → ℕ
time_of options ignored events = time_in options.unit options ignored events
