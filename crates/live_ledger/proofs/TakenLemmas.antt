-- What a ledger that has taken an event keeps.
use Rattle.std.proofs.Common.{◌≡◌, ◌+◌, List, [], ◌∷◌, ◌++◌, None, ap, refl, arith}
use Rattle.std.proofs.lemmas.Bool.{false≢true}
use Rattle.std.proofs.Math.Seq.{map-set_same}
use Rattle.live_ledger.specs.declared.event.Event.{Event}
use Rattle.live_ledger.specs.declared.event.Event.TheVariants.{Alloc, Free, Tick}
use Rattle.live_ledger.specs.Changes.{Changes}
use Rattle.live_ledger.specs.Consistent.{info_of}
use Rattle.live_ledger.specs.Events.{IsTick}
use Rattle.live_ledger.specs.Faults.{fault_at, fault_of}
use Rattle.live_ledger.specs.LedgerState.{IsHeld, LedgerState}
use Rattle.live_ledger.specs.Sound.{IsSound}
use Rattle.live_ledger.specs.StandsFor.{HasTotals}
use Rattle.live_ledger.specs.Taken.{HasTaken}
use Rattle.live_ledger.specs.TotalsState.{IsKept, TotalsState, entry_at, ledger_of, one_fewer, one_more, state_after}
use Rattle.live_ledger.proofs.Consistency.{entry-live}
use Rattle.live_ledger.proofs.Entries.{entry-held}
use Rattle.live_ledger.proofs.Stands.{live-block, stands-changed, totals-changed}
use Rattle.live_ledger.proofs.Views.{block-added, block-taken}

-- it has taken an event that counts where it has changed by it
taken-counted :
    (old new : LedgerState) (event : Event)
    → IsHeld old event
    → fault_at old event ≡ None
    → Changes old new event
    → new.totals.events ≡ old.totals.events + 1
    → new.stacks ≡ old.stacks
    → new.infos ≡ old.infos
    → (IsTick event → new ≡ old)
    → IsSound new
    → HasTaken old new event
taken-counted old new event held none change events stacks infos tick sound = record {
  stands = stands-changed old new event held none change;
  changes = change;
  counted = λ counts. events;
  at_most_one_more = omega arith;
  stacks = stacks;
  infos = infos;
  tick = tick;
  sound = sound;
}

-- it has taken an event that has no fault where it has changed by it
pub has_taken : (old new : LedgerState) (event : Event) → IsHeld old event → fault_at old event ≡ None
    → Changes old new event → IsSound new → HasTaken old new event
has_taken old new (Alloc info stack size) held none change sound =
    taken-counted old new (Alloc info stack size) held none change change.whole.events change.whole.stacks
    change.whole.infos (λ never. absurd never) sound
has_taken old new (Free info stack size) held none change sound =
    taken-counted old new (Free info stack size) held none change change.whole.events change.whole.stacks
    change.whole.infos (λ never. absurd never) sound
has_taken old new (Tick ms) held none change sound =
    let events : new.totals.events ≡ old.totals.events = ap (λ (state : LedgerState). state.totals.events) change in
    record {
      stands = stands-changed old new (Tick ms) held none change;
      changes = change;
      counted = λ counts. absurd (false≢true counts);
      at_most_one_more = omega (arith, events);
      stacks = ap (λ (state : LedgerState). state.stacks) change;
      infos = ap (λ (state : LedgerState). state.infos) change;
      tick = λ is. change;
      sound = sound;
    }

-- a ledger of totals that has taken an event without a fault has the totals of the list with it at its end
pub totals-after :
    (whole : TotalsState) (events : List Event) (event : Event)
    → IsKept whole
    → IsHeld (ledger_of whole) event
    → fault_of events event ≡ None
    → HasTotals (ledger_of whole) events
    → HasTotals (ledger_of (state_after whole event)) (events ++ event ∷ [])
totals-after whole events (Alloc info stack size) kept held none stands =
    totals-changed (ledger_of whole) _ events (Alloc info stack size) held none
    (block-added whole info stack size kept (entry-held whole info stack size held)) stands
totals-after whole events (Free info stack size) kept held none stands =
    let entry = entry-held whole info stack size held in
    let live = live-block (ledger_of whole) events info stack size stands none in
    totals-changed (ledger_of whole) _ events (Free info stack size) held none
    (block-taken whole info stack size kept entry (entry-live _ _ _ _ _ entry live)) stands
totals-after whole events (Tick ms) kept held none stands =
    totals-changed (ledger_of whole) (ledger_of whole) events (Tick ms) held none refl stands

-- and the infos that it had
pub infos-after : (whole : TotalsState) (event : Event) → IsHeld (ledger_of whole) event
    → (ledger_of (state_after whole event)).infos ≡ (ledger_of whole).infos
infos-after whole (Alloc info stack size) held =
    map-set_same info_of whole.infos info (one_more (entry_at whole info)) (entry_at whole info)
    (ap info_of (entry-held whole info stack size held).is)
infos-after whole (Free info stack size) held =
    map-set_same info_of whole.infos info (one_fewer (entry_at whole info)) (entry_at whole info)
    (ap info_of (entry-held whole info stack size held).is)
infos-after whole (Tick ms) held = refl
