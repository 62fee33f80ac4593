-- A ledger stands for a list of events where they are of its infos and have no fault, and its
-- figures, those of each stack and those of each info are the list's; its totals are the list's
-- where all but the stacks' are.
use Rattle.std.specs.Prelude.{◌≡◌, ℕ, ◌+◌, List, slice_index}
use Rattle.live_ledger.specs.declared.event.Event.{Event}
use Rattle.live_ledger.specs.declared.figures.Figures.{Figures}
use Rattle.live_ledger.specs.declared.totals.Totals.{Totals}
use Rattle.live_ledger.specs.Events.{event_count}
use Rattle.live_ledger.specs.LiveBytes.{allocated_bytes, freed_bytes, live_bytes}
use Rattle.live_ledger.specs.LiveBlocks.{calls, frees, live_blocks}
use Rattle.live_ledger.specs.InfoBlocks.{allocs_of, frees_of}
use Rattle.live_ledger.specs.InStack.{allocated_in, blocks_in, calls_in, freed_in, frees_in, live_in, temporary_in}
use Rattle.live_ledger.specs.Temporary.{temporary_count, last_allocated}
use Rattle.live_ledger.specs.LedgerState.{LedgerState, figures_at, without_figures}
use Rattle.live_ledger.specs.Possible.{AreAmong, HaveNoFault}

-- the six figures are those of the list of events; no free goes below zero
pub record AreTotalsOf (totals : Totals) (events : List Event) : Type 0 where
  pub events_is : totals.events ≡ event_count events
  pub calls_is : totals.calls ≡ calls events
  pub temporary_is : totals.temporary ≡ temporary_count events
  pub allocated_is : totals.allocated ≡ allocated_bytes events
  pub live_is : totals.live ≡ live_bytes events
  pub blocks_is : totals.blocks ≡ live_blocks events
  pub live_and_freed : totals.live + freed_bytes events ≡ allocated_bytes events
  pub blocks_and_frees : totals.blocks + frees events ≡ calls events

-- the five figures are those of one stack in the list of events; no free goes below zero
pub record AreFiguresOf (figures : Figures) (stack : ℕ) (events : List Event) : Type 0 where
  pub calls_is : figures.calls ≡ calls_in stack events
  pub temporary_is : figures.temporary ≡ temporary_in stack events
  pub allocated_is : figures.allocated ≡ allocated_in stack events
  pub live_is : figures.live ≡ live_in stack events
  pub blocks_is : figures.blocks ≡ blocks_in stack events
  pub live_and_freed : figures.live + freed_in stack events ≡ allocated_in stack events
  pub blocks_and_frees : figures.blocks + frees_in stack events ≡ calls_in stack events

-- the events are of held infos and have no fault, and the totals, each info's blocks and the last
-- event are those of the list of events
pub record HasTotals (state : LedgerState) (events : List Event) : Type 0 where
  pub held : AreAmong state.infos events
  pub no_fault : HaveNoFault events
  pub figures : AreTotalsOf state.totals events
  pub each_info : (info : ℕ)
      → slice_index state.blocks info + frees_of info events ≡ allocs_of info events
  pub each_info_calls : (info : ℕ) → slice_index state.info_calls info ≡ allocs_of info events
  pub last_is : state.last ≡ last_allocated events

-- and so are the figures of every stack
pub record StandsFor (state : LedgerState) (events : List Event) : Type 0 where
  pub whole : HasTotals (without_figures state) events
  pub each_stack : (stack : ℕ) → AreFiguresOf (figures_at state stack) stack events
