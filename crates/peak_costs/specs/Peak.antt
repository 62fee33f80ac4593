-- The peak of a trace is the least number of its events after which no total is greater; a stack's
-- share is what it has live then. Peaks stand for a list of events where their ledger does, and the
-- moment, the total and the shares are the list's.
use Rattle.std.specs.Prelude.{◌≡◌, ℕ, ◌<◌, ◌≤◌, List, slice_index, take}
use Rattle.live_ledger.specs.declared.event.Event.{Event}
use Rattle.live_ledger.specs.declared.event.Event.TheVariants.{Alloc, Free, Tick}
use Rattle.live_ledger.specs.Events.{counted, event_count}
use Rattle.live_ledger.specs.InStack.{blocks_in, live_in}
use Rattle.live_ledger.specs.LiveBytes.{live_bytes}
use Rattle.live_ledger.specs.StandsFor as ledger_spec
use Rattle.peak_costs.specs.PeakState.{PeakState}

-- the first so many events, clock values passed over
abbrev pub first_events : ℕ → List Event → List Event
first_events k events = take k (counted events)

-- the live bytes after so many events
abbrev pub total_after : ℕ → List Event → ℕ
total_after k events = live_bytes (first_events k events)

-- the least number of events after which the total is greatest
pub record IsPeak (moment : ℕ) (events : List Event) : Type 0 where
  pub within : moment ≤ event_count events
  pub greatest : (k : ℕ) → k ≤ event_count events → total_after k events ≤ total_after moment events
  pub least : (k : ℕ) → k < moment → total_after k events < total_after moment events

-- the moment is the peak of the events, and the total is what is live then
pub record HasPeak (total moment : ℕ) (events : List Event) : Type 0 where
  pub peak : IsPeak moment events
  pub total_is : total ≡ total_after moment events

-- the ledger stands for the events, the moment is their peak, and each stack's share is what it has live then
pub record StandsFor (state : PeakState) (events : List Event) : Type 0 where
  pub ledger : ledger_spec.StandsFor state.ledger events
  pub peak : IsPeak state.moment events
  pub total : state.total ≡ total_after state.moment events
  pub shares : (stack : ℕ)
      → slice_index state.shares stack ≡ live_in stack (first_events state.moment events)
  pub block_shares : (stack : ℕ)
      → slice_index state.block_shares stack ≡ blocks_in stack (first_events state.moment events)

-- it is an allocation or a free of a block of the stack
abbrev pub IsIn : ℕ → Event → Type 0
IsIn n (Alloc info stack size) = stack ≡ n
IsIn n (Free info stack size) = stack ≡ n
IsIn n (Tick ms) = ⊥
