-- The figures of a stack as a point tells them. The figures of a stack are its allocations, its
-- lifetimes, its most bytes and the blocks then, and what it has live at the peak and at the end.
use Rattle.std.specs.Prelude.{ℕ, ◌+◌, ◌*◌, ◌-◌, List, map, slice_index}
use Rattle.std.specs.List.{range_with_len}
use Rattle.dhat_metrics.specs.LifeState as lives
use Rattle.dhat_metrics.specs.StandsFor.{blocks_after, live_after}
use Rattle.dhat_metrics.specs.Times.{alloc_times, free_times}
use Rattle.live_ledger.specs.declared.event.Event.{Event}
use Rattle.live_ledger.specs.Events.{counted, event_count}
use Rattle.live_ledger.specs.InStack.{allocated_in, blocks_in, calls_in, live_in}
use Rattle.live_ledger.specs.LedgerState as ledger
use Rattle.peak_costs.specs.Peak.{first_events}
use Rattle.peak_costs.specs.PeakState.{PeakState}
use Rattle.peak_costs.specs.FirstGreatest.{first_greatest}
use Rattle.peak_costs.specs.Totals.{totals}
use Rattle.dhat_trace.specs.declared.points.PointFigures.{PointFigures}

-- the figures that a ledger with its peaks and lifetimes have of a stack
abbrev pub figures_of : PeakState → lives.LifeState → ℕ → PointFigures
figures_of peaks lifetimes stack = record {
  tb = (ledger.figures_at peaks.ledger stack).allocated;
  tbk = (ledger.figures_at peaks.ledger stack).calls;
  life = record {
    tl = (lives.figures_at lifetimes stack).tl;
    mb = (lives.figures_at lifetimes stack).mb;
    mbk = (lives.figures_at lifetimes stack).mbk;
    gb = slice_index peaks.shares stack;
    gbk = slice_index peaks.block_shares stack;
    eb = (ledger.figures_at peaks.ledger stack).live;
    ebk = (ledger.figures_at peaks.ledger stack).blocks;
  };
}

-- the least number of events after which the total is greatest
abbrev pub peak_moment : List Event → ℕ
peak_moment events = first_greatest (totals (counted events))

-- the least number of events after which a stack has the most bytes
abbrev pub most_moment : List Event → ℕ → ℕ
most_moment events stack = first_greatest
    (map (λ k. live_after stack k events) (range_with_len 0 (event_count events + 1)))

-- how long the blocks of a stack lived together: from the time of the event that allocated a block
-- to that of the one that freed it, or to that of the last event
abbrev pub lived : List Event → ℕ → ℕ
lived events stack = free_times stack events
    + event_count events * blocks_in stack events - alloc_times stack events

-- the figures of a stack in a list of events
abbrev pub figures_in : List Event → ℕ → PointFigures
figures_in events stack = record {
  tb = allocated_in stack events;
  tbk = calls_in stack events;
  life = record {
    tl = lived events stack;
    mb = live_after stack (most_moment events stack) events;
    mbk = blocks_after stack (most_moment events stack) events;
    gb = live_in stack (first_events (peak_moment events) events);
    gbk = blocks_in stack (first_events (peak_moment events) events);
    eb = live_in stack events;
    ebk = blocks_in stack events;
  };
}
