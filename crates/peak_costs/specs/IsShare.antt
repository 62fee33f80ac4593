-- A stack's share in the peak is what it has live after the events up to the peak.
use Rattle.std.specs.Prelude.{◌≡◌, ℕ, List}
use Rattle.live_ledger.specs.declared.event.Event.{Event}
use Rattle.peak_costs.specs.Peak.{StandsFor, first_events}
use Rattle.peak_costs.specs.PeakState.{PeakState}

-- the share, by this figure of a stack, in the peak of all events that peaks in this state stand for
abbrev pub IsShare : (ℕ → List Event → ℕ) → ℕ → PeakState → ℕ → Type 0
IsShare figure stack state share =
    (events : List Event) → StandsFor state events
    → share ≡ figure stack (first_events state.moment events)
