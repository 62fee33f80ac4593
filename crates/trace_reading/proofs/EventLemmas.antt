-- The event of an info.
use Rattle.std.proofs.Common.{◌≡◌, ℕ, ◌≤◌, length, slice_get, Some, refl, subst, sym}
use Rattle.live_ledger.specs.LedgerState.{HeldInfo, IsHeld, LedgerState, without_figures}
use Rattle.live_ledger.specs.TotalsState.{TotalsState, ledger_of}
use Rattle.ht_lines.specs.declared.event.EventKind.{EventKind}
use Rattle.ht_lines.specs.declared.event.EventKind.TheVariants.{Allocation, Free as FreeKind}
use Rattle.ht_trace.specs.HeldStack.{HasHeldEvent}
use Rattle.ht_trace.specs.LedgerFits.{IsBeside, least_length_of}
use Rattle.ht_trace.specs.PassesLine.{event_of_info}
use Rattle.ht_trace.specs.TableState.{TableState}

-- what a ledger keeps of the whole trace is beside the tables where the ledger is
pub beside_whole : (tables : TableState) (ledger : LedgerState) (whole : TotalsState)
    → ledger_of whole ≡ without_figures ledger → IsBeside tables ledger → IsBeside tables (ledger_of whole)
beside_whole tables ledger whole is beside =
    subst (IsBeside tables) (sym is) (record { stacks = beside.stacks; infos = beside.infos })

-- the stack of the event of an info is the info's
pub event_is_held : (tables : TableState) (kind : EventKind) (info : ℕ) (held : HeldInfo)
    → held.stack ≤ length tables.nodes → HasHeldEvent tables (event_of_info kind info held)
event_is_held tables Allocation info held few = few
event_is_held tables FreeKind info held few = few

-- the info is then the event's
pub event_is_among : (ledger : LedgerState) (kind : EventKind) (info : ℕ) (held : HeldInfo)
    → slice_get ledger.infos info ≡ Some held → IsHeld ledger (event_of_info kind info held)
event_is_among ledger Allocation info held found = found
event_is_among ledger FreeKind info held found = found

-- its line has at least three bytes
pub least_of_event : (kind : EventKind) (info : ℕ) (held : HeldInfo)
    → least_length_of (event_of_info kind info held) ≡ 3
least_of_event Allocation info held = refl
least_of_event FreeKind info held = refl
