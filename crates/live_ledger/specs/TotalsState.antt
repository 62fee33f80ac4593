-- A ledger of totals has the stacks, the infos with their blocks, sums over all events, and the
-- last event's info; an event adds to these. It is a ledger without the figures of stacks.
use Rattle.std.specs.Prelude.{◌≡◌, ℕ, ◌+◌, ◌-◌, List, [], ◌∷◌, ◌++◌, map, slice_get, slice_index_or, slice_set, Option}
use Rattle.std.specs.Prelude.{None, Some}
use Rattle.live_ledger.specs.declared.event.Event.{Event}
use Rattle.live_ledger.specs.declared.event.Event.TheVariants.{Alloc, Free, Tick}
use Rattle.live_ledger.specs.declared.sums.Sums.{Sums}
use Rattle.live_ledger.specs.declared.totals_ledger.InfoEntry.{InfoEntry}
use Rattle.live_ledger.specs.Changes.{ended_by_free}
use Rattle.live_ledger.specs.Consistent.{AreKept, blocks_of, calls_of, info_of}
use Rattle.live_ledger.specs.LedgerState.{LedgerState}
use Rattle.live_ledger.specs.Sums.{figures_of, no_sums, totals_of, with_alloc, with_free}

-- how many stacks are held, the infos by their numbers, the sums over all events, and the info of the last event, where
-- that is an allocation
pub record TotalsState : Type 0 where
  pub stacks : ℕ
  pub infos : List InfoEntry
  pub sums : Sums
  pub last : Option ℕ

-- it as a ledger, without the figures of stacks
abbrev pub ledger_of : TotalsState → LedgerState
ledger_of state = record {
  stacks = state.stacks;
  infos = map info_of state.infos;
  figures = [];
  blocks = map blocks_of state.infos;
  info_calls = map calls_of state.infos;
  totals = totals_of state.sums;
  last = state.last;
}

-- its infos agree with its sums, and nothing passes its bound
abbrev pub IsKept : TotalsState → Type 0
IsKept state = AreKept state.stacks state.infos state.sums

-- stack 0 alone, and no event
abbrev pub no_events : TotalsState
no_events = record { stacks = 1; infos = []; sums = no_sums; last = None }

-- one more stack
abbrev pub with_stack : TotalsState → TotalsState
with_stack state = record state { stacks = state.stacks + 1 }

-- one more info, of which no block was allocated
abbrev pub with_info : TotalsState → ℕ → ℕ → TotalsState
with_info state stack size = record state
    { infos = state.infos ++ record { blocks = 0; size = size; calls = 0; stack = stack } ∷ [] }

-- there is such an info, for blocks of this size
abbrev pub HasInfo : TotalsState → ℕ → ℕ → Type 0
HasInfo state info size = (stack : ℕ)
    × (slice_get (map info_of state.infos) info ≡ Some (record { stack = stack; size = size }))

-- an info that isn't held has no blocks
abbrev pub no_entry : InfoEntry
no_entry = record { blocks = 0; size = 0; calls = 0; stack = 0 }

-- the entry of an info
abbrev pub entry_at : TotalsState → ℕ → InfoEntry
entry_at state info = slice_index_or state.infos info no_entry

-- an entry with one more live block, which was allocated
abbrev pub one_more : InfoEntry → InfoEntry
one_more entry = record entry { blocks = entry.blocks + 1; calls = entry.calls + 1 }

-- an entry with one live block fewer
abbrev pub one_fewer : InfoEntry → InfoEntry
one_fewer entry = record entry { blocks = entry.blocks - 1 }

-- a block of the info is allocated
abbrev pub with_block : TotalsState → ℕ → ℕ → TotalsState
with_block state info size = record state {
  infos = slice_set state.infos info (one_more (entry_at state info));
  sums = with_alloc state.sums size;
  last = Some info;
}

-- a live block of the info is freed
abbrev pub without_block : TotalsState → ℕ → ℕ → TotalsState
without_block state info size = record state {
  infos = slice_set state.infos info (one_fewer (entry_at state info));
  sums = with_free state.sums size (ended_by_free (ledger_of state) info);
  last = None;
}

-- the state after an event without a fault; a clock value changes nothing
abbrev pub state_after : TotalsState → Event → TotalsState
state_after state (Alloc info stack size) = with_block state info size
state_after state (Free info stack size) = without_block state info size
state_after state (Tick ms) = state

-- the ledger with the figures of stacks that have these sums
abbrev pub state_of : List Sums → TotalsState → LedgerState
state_of stacks whole = record (ledger_of whole) { figures = map figures_of stacks }
