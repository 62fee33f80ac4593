-- The line at the front of bytes brings an event where it is short, with its line feed, and tables
-- pass it.
use Rattle.std.specs.Prelude.{◌≡◌, ℕ, ◌+◌, List, ◌∷◌, ◌++◌, length}
use Rattle.hp_outside.specs.WholeLines.{IsLineText}
use Rattle.live_ledger.specs.declared.event.Event.{Event}
use Rattle.live_ledger.specs.LedgerState.{LedgerState}
use Rattle.ht_trace.specs.HeldStack.{HasHeldEvent}
use Rattle.ht_trace.specs.LedgerFits.{IsBeside}
use Rattle.ht_trace.specs.PassesLine.{PassesLine}
use Rattle.ht_trace.specs.TableState.{TableState}
use Rattle.command_frame.specs.Batch.{IsShortLine}

-- the first line of these bytes has so many bytes with its line feed. The tables pass it, and it brings the event
pub record PassesFront (tables : TableState) (ready : List ℕ) (bytes : ℕ) (event : Event) : Type
    0 where
  pub line : List ℕ
  pub one_line : IsLineText line
  pub short : IsShortLine line
  pub rest : List ℕ
  pub split : ready ≡ line ++ (10 ∷ rest)
  pub size : bytes ≡ length line + 1
  pub passes : PassesLine tables line event

-- the same of any tables beside a ledger
abbrev pub PassesBeside : LedgerState → List ℕ → ℕ → Event → Type 0
PassesBeside ledger ready bytes event =
    (tables : TableState) → IsBeside tables ledger → PassesFront tables ready bytes event

-- any tables beside a ledger hold the stack of the event
abbrev pub HasStackBeside : LedgerState → Event → Type 0
HasStackBeside ledger event =
    (tables : TableState) → IsBeside tables ledger → HasHeldEvent tables event
