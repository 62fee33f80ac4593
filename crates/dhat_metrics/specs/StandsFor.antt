-- The lifetimes of a stack's blocks are the times of its frees and, for each block that is live,
-- the time of the last event, less the times of its allocations. A stack's most is what it has live
-- after the least number of events after which it has the most bytes. Lifetimes stand for a list
-- where they count its events and each stack's figures are the list's.
use Rattle.std.specs.Prelude.{◌≡◌, ℕ, ◌+◌, ◌*◌, ◌<◌, ◌≤◌, List, [], ◌∷◌, ◌++◌, take}
use Rattle.live_ledger.specs.declared.event.Event.{Event}
use Rattle.live_ledger.specs.Events.{counted, event_count}
use Rattle.live_ledger.specs.Possible.{ArePossible}
use Rattle.live_ledger.specs.InStack.{allocated_in, blocks_in, calls_in, freed_in, frees_in, live_in}
use Rattle.dhat_metrics.specs.declared.figures.LifeFigures.{LifeFigures}
use Rattle.dhat_metrics.specs.LifeState.{LifeState, figures_at}
use Rattle.dhat_metrics.specs.Times.{alloc_times, free_times}

-- what a stack has live after the first so many allocations and frees
abbrev pub live_after : ℕ → ℕ → List Event → ℕ
live_after stack k events = live_in stack (take k (counted events))

abbrev pub blocks_after : ℕ → ℕ → List Event → ℕ
blocks_after stack k events = blocks_in stack (take k (counted events))

-- the least number of events after which a stack has the most bytes, and what it has live then
pub record HasMost (bytes blocks stack : ℕ) (events : List Event) : Type 0 where
  pub moment : ℕ
  pub within : moment ≤ event_count events
  pub greatest : (k : ℕ) → k ≤ event_count events
      → live_after stack k events ≤ live_after stack moment events
  pub least : (k : ℕ) → k < moment → live_after stack k events < live_after stack moment events
  pub bytes_are : bytes ≡ live_after stack moment events
  pub blocks_are : blocks ≡ blocks_after stack moment events

-- the seven figures are those of one stack in the list of events. Lifetimes are the times of the frees and, for each
-- block that is live, the time of the last event, less the times of the allocations; which of several blocks a free
-- means makes no difference. No free goes below zero
pub record AreFiguresOf (figures : LifeFigures) (stack : ℕ) (events : List Event) : Type 0 where
  pub tb_is : figures.tb ≡ allocated_in stack events
  pub tbk_is : figures.tbk ≡ calls_in stack events
  pub tl_is : figures.tl + alloc_times stack events
      ≡ free_times stack events + event_count events * figures.ebk
  pub most : HasMost figures.mb figures.mbk stack events
  pub eb_is : figures.eb ≡ live_in stack events
  pub ebk_is : figures.ebk ≡ blocks_in stack events
  pub live_and_freed : figures.eb + freed_in stack events ≡ allocated_in stack events
  pub blocks_and_frees : figures.ebk + frees_in stack events ≡ calls_in stack events

-- the number of events and the figures of every stack are those of the list
pub record StandsFor (state : LifeState) (events : List Event) : Type 0 where
  pub events_is : state.events ≡ event_count events
  pub each_stack : (stack : ℕ) → AreFiguresOf (figures_at state stack) stack events

-- the event may come behind the events that are stood for, and came
abbrev pub MayHappen : LifeState → Event → Type 0
MayHappen state event = (events : List Event)
    × (StandsFor state events × ArePossible (events ++ event ∷ []))

abbrev pub TakesEvent : LifeState → LifeState → Event → Type 0
TakesEvent old new event = (events : List Event) → StandsFor old events
    → StandsFor new (events ++ event ∷ [])
