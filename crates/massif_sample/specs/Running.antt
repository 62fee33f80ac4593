-- What an event makes of the figures that are kept up.
use Rattle.std.specs.Prelude.{◌≡◌, ℕ, ◌+◌, ◌-◌, ◌^◌, ◌≤◌, max, nat_lt, ◌||◌, Bool, List, sum_by}
use Rattle.live_ledger.specs.declared.event.Event.{Event}
use Rattle.live_ledger.specs.declared.event.Event.TheVariants.{Alloc, Free, Tick}
use Rattle.live_ledger.specs.ByInfo.{alloc_weight, free_weight}
use Rattle.live_ledger.specs.Events.{event_count}
use Rattle.massif_file.specs.declared.profile.TimeUnit.{TimeUnit}
use Rattle.massif_file.specs.declared.profile.TimeUnit.TheVariants.{Instructions, Milliseconds, Bytes, Events}
use Rattle.massif_sample.specs.declared.options.MassifOptions.{MassifOptions}
use Rattle.massif_sample.specs.declared.running.Running.{Running}
use Rattle.massif_sample.specs.Gross.{gross}
use Rattle.massif_sample.specs.HeapTotals.{gross_weight, heap_weight}
use Rattle.massif_sample.specs.Places.{time_at}
use Rattle.massif_sample.specs.Times.{clock}

-- before any event
abbrev pub no_figures : Running
no_figures = record { place = 0; time = 0; clock = 0; heap = 0; gross = 0 }

-- the figures are those of the events: the time is that of the last place, and no free goes below zero
pub record AreFigures (options : MassifOptions) (ignored : ℕ → Bool) (events : List Event)
    (running : Running) : Type 0 where
  pub place : running.place ≡ event_count events
  pub time : running.time ≡ time_at options ignored events (event_count events)
  pub clock : running.clock ≡ clock events
  pub heap : running.heap + sum_by (free_weight (heap_weight ignored)) events
      ≡ sum_by (alloc_weight (heap_weight ignored)) events
  pub gross : running.gross + sum_by (free_weight (gross_weight options ignored)) events
      ≡ sum_by (alloc_weight (gross_weight options ignored)) events

-- the time behind a counted event of so many gross bytes
abbrev pub time_after : TimeUnit → Running → ℕ → ℕ
time_after Bytes running bytes = running.time + bytes
time_after Events running bytes = running.time + 1
time_after Milliseconds running bytes = running.clock
time_after Instructions running bytes = running.time

-- the time behind an event that isn't counted
abbrev pub time_passed : TimeUnit → Running → ℕ
time_passed Bytes running = running.time
time_passed Events running = running.time
time_passed Milliseconds running = running.clock
time_passed Instructions running = running.time

-- those at the place behind such an event, but for what is live there
abbrev pub farther : MassifOptions → Running → ℕ → Running
farther options running bytes = record running
    { place = running.place + 1; time = time_after options.unit running bytes }

-- the figures with an allocation that is counted
abbrev pub with_alloc : MassifOptions → Running → ℕ → Running
with_alloc options running size = record {
  place = running.place + 1;
  time = time_after options.unit running (gross options size);
  clock = running.clock;
  heap = running.heap + size;
  gross = running.gross + gross options size;
}

-- with a free that is counted
abbrev pub with_free : MassifOptions → Running → ℕ → Running
with_free options running size = record {
  place = running.place + 1;
  time = time_after options.unit running (gross options size);
  clock = running.clock;
  heap = running.heap - size;
  gross = running.gross - gross options size;
}

-- with an allocation or a free that isn't counted
abbrev pub passed : MassifOptions → Running → Running
passed options running = record running
    { place = running.place + 1; time = time_passed options.unit running }

-- with a clock value
abbrev pub ticked : Running → ℕ → Running
ticked running ms = record running { clock = max running.clock ms }

-- with any event that is counted
abbrev pub with_event : MassifOptions → Running → Event → Running
with_event options running (Alloc info stack size) = with_alloc options running size
with_event options running (Free info stack size) = with_free options running size
with_event options running (Tick ms) = ticked running ms

-- and with any that isn't
abbrev pub past_event : MassifOptions → Running → Event → Running
past_event options running (Alloc info stack size) = passed options running
past_event options running (Free info stack size) = passed options running
past_event options running (Tick ms) = ticked running ms

-- whether a figure passes 2^62
abbrev pub passes_most : Running → Bool
passes_most running = nat_lt (2 ^ 62) running.gross || nat_lt (2 ^ 62) running.time

-- the time is within its bound, but for that of clock values, which is at most the clock
abbrev pub TimeFits : TimeUnit → Running → Type 0
TimeFits Bytes running = running.time ≤ 2 ^ 62
TimeFits Events running = running.time ≤ 2 ^ 62
TimeFits Milliseconds running = running.time ≤ running.clock
TimeFits Instructions running = running.time ≤ 2 ^ 62

-- what is true of the figures after any events
pub record AreSound (options : MassifOptions) (running : Running) : Type 0 where
  pub place_most : running.place ≤ 2 ^ 32
  pub gross_most : running.gross ≤ 2 ^ 62
  pub heap_within : running.heap ≤ running.gross
  pub time : TimeFits options.unit running

-- a block of the size is live: it can be freed, and what the heap adds to it with it
pub record HasBlock (options : MassifOptions) (running : Running) (size : ℕ) : Type 0 where
  pub heap : size ≤ running.heap
  pub gross_within : gross options size ≤ running.gross
  pub extra : running.heap + gross options size ≤ running.gross + size

-- the event can be counted: a block that is freed is live, and one that is allocated isn't larger
-- than all may be together
abbrev pub CanCount : MassifOptions → Running → Event → Type 0
CanCount options running (Alloc info stack size) = size ≤ 2 ^ 62
CanCount options running (Free info stack size) = HasBlock options running size
CanCount options running (Tick ms) = Unit {0}

-- the figures are sound, no place or time falls, and no time passes 2^62
pub record Follows (options : MassifOptions) (running next : Running) : Type 0 where
  pub sound : AreSound options next
  pub farther : running.place ≤ next.place
  pub later : running.time ≤ next.time
  pub within : next.time ≤ 2 ^ 62
