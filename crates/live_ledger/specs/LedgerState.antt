-- What contracts see of a ledger: its stacks and infos, the figures of each, the totals, and the
-- info that was allocated last.
use Rattle.std.specs.Prelude.{◌≡◌, ℕ, List, [], slice_get, slice_index_or, Option, Some}
use Rattle.live_ledger.specs.declared.event.Event.{Event}
use Rattle.live_ledger.specs.declared.event.Event.TheVariants.{Alloc, Free, Tick}
use Rattle.live_ledger.specs.declared.figures.Figures.{Figures}
use Rattle.live_ledger.specs.declared.totals.Totals.{Totals}

-- the stack and the size of the blocks of one info
pub record HeldInfo : Type 0 where
  pub stack : ℕ
  pub size : ℕ

-- how many stacks are held, the infos by their numbers, the figures of each stack, the live blocks and the
-- allocations of each info, the figures of all stacks together, and the info of the last event, where that is an
-- allocation
pub record LedgerState : Type 0 where
  pub stacks : ℕ
  pub infos : List HeldInfo
  pub figures : List Figures
  pub blocks : List ℕ
  pub info_calls : List ℕ
  pub totals : Totals
  pub last : Option ℕ

-- the same without the figures of stacks
abbrev pub without_figures : LedgerState → LedgerState
without_figures state = record state { figures = [] }

-- the figures of a stack before its first event
abbrev pub no_figures : Figures
no_figures = record { live = 0; blocks = 0; calls = 0; temporary = 0; allocated = 0 }

-- the figures of a stack by its number; one that isn't held yet has none
abbrev pub figures_at : LedgerState → ℕ → Figures
figures_at state stack = slice_index_or state.figures stack no_figures

-- the event's info is among these, with the event's stack and size; a clock value names none
abbrev pub IsAmong : List HeldInfo → Event → Type 0
IsAmong infos (Alloc info stack size) = slice_get infos info
    ≡ Some (record { stack = stack; size = size })
IsAmong infos (Free info stack size) = slice_get infos info
    ≡ Some (record { stack = stack; size = size })
IsAmong infos (Tick ms) = Unit {0}

-- the event's info is held, with the event's stack and size
abbrev pub IsHeld : LedgerState → Event → Type 0
IsHeld state event = IsAmong state.infos event
