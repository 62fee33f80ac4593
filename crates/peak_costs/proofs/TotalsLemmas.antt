-- The totals of a list of events, and their peak, with one more event.
use Rattle.std.proofs.Common.{ℕ, ◌+◌, ◌≤◌, List, [], ◌∷◌, ◌++◌, inl, inr, refl, sym, subst, arith}
use Rattle.live_ledger.specs.declared.event.Event.{Event}
use Rattle.live_ledger.specs.declared.event.Event.TheVariants.{Alloc, Free, Tick}
use Rattle.live_ledger.specs.declared.totals.Totals.{Totals}
use Rattle.live_ledger.specs.StandsFor.{HasTotals}
use Rattle.live_ledger.specs.TotalsState.{IsKept, TotalsState, ledger_of, state_after}
use Rattle.peak_costs.specs.declared.mark.Mark.{Mark}
use Rattle.peak_costs.specs.Mark.{raised}
use Rattle.peak_costs.specs.Peak.{HasPeak}
use Rattle.peak_costs.specs.PeakTotals.{HasMark, StandsFor, state_of}
use Rattle.peak_costs.proofs.Keeping.{raised-cases, raised-stays, raised-within}
use Rattle.peak_costs.proofs.PeakLemmas.{peak-moved, peak-tick}

-- the totals after an event
abbrev totals_after : TotalsState → Event → Totals
totals_after state event = (ledger_of (state_after state event)).totals

-- the mark after it, which only an allocation can raise
abbrev pub mark_after : TotalsState → Mark → Event → Mark
mark_after state mark (Alloc info stack size) =
    raised mark (totals_after state (Alloc info stack size)).live (totals_after state (Alloc info stack size)).events
mark_after state mark (Free info stack size) = mark
mark_after state mark (Tick ms) = mark

-- a free leaves no more live than there was
free-within : (old : TotalsState) (mark : Mark) (info stack size : ℕ) → HasMark old mark
    → (totals_after old (Free info stack size)).live ≤ mark.total
free-within old mark info stack size has = let below = has.live_within in omega arith

-- a mark counts one peak more at most
counter-raised : (mark : Mark) (total events : ℕ) → (raised mark total events).counter ≤ mark.counter + 1
counter-raised mark total events =
    elim (raised-cases mark total events) [
      | inl stays ↦ subst (λ (m : Mark). m.counter ≤ mark.counter + 1) (sym stays.0) (omega arith)
      | inr rises ↦ subst (λ (m : Mark). m.counter ≤ mark.counter + 1) (sym rises.0) (omega arith)
    ]

-- the fields keep their promise over an event
pub mark-moved : (old : TotalsState) (mark : Mark) (event : Event) → HasMark old mark → IsKept (state_after old event)
    → HasMark (state_after old event) (mark_after old mark event)
mark-moved old mark (Alloc info stack size) has kept =
    let event : Event = Alloc info stack size in
    record {
      kept = kept;
      counter_within =
          let few =
          counter-raised mark (totals_after old event).live (totals_after old event).events in let counter =
          has.counter_within in omega arith;
      live_within = raised-within mark (totals_after old event).live (totals_after old event).events;
    }
mark-moved old mark (Free info stack size) has kept = record {
  kept = kept;
  counter_within = let counter = has.counter_within in omega arith;
  live_within = free-within old mark info stack size has;
}
mark-moved old mark (Tick ms) has kept = has

-- and stand for the events with that one
pub totals-moved :
    (old : TotalsState) (mark : Mark) (events : List Event) (event : Event)
    → HasMark old mark
    → StandsFor (state_of old mark) events
    → HasTotals (ledger_of (state_after old event)) (events ++ event ∷ [])
    → StandsFor (state_of (state_after old event) (mark_after old mark event)) (events ++ event ∷ [])
totals-moved old mark events event has stands now =
    let peak = moved event now in
    record { ledger = now; peak = peak.peak; total = peak.total_is }
  where
    before : HasPeak mark.total mark.moment events
    before = record { peak = stands.peak; total_is = stands.total }

    moved : (event : Event) → HasTotals (ledger_of (state_after old event)) (events ++ event ∷ [])
        → HasPeak (mark_after old mark event).total (mark_after old mark event).moment (events ++ event ∷ [])
    moved (Alloc info stack size) now =
        peak-moved mark (totals_after old (Alloc info stack size)) events
        (Alloc info stack size) refl before now.figures
    moved (Free info stack size) now =
        let event : Event = Free info stack size in
        subst (λ (m : Mark). HasPeak m.total m.moment (events ++ event ∷ []))
        (raised-stays mark (totals_after old event).live (totals_after old event).events
        (free-within old mark info stack size has))
        (peak-moved mark (totals_after old event) events event refl before now.figures)
    moved (Tick ms) now = peak-tick mark.total mark.moment events ms before

-- more stacks and infos don't change what they stand for
pub totals-kept : (old new : TotalsState) (mark : Mark) (events : List Event)
    → (HasTotals (ledger_of old) events → HasTotals (ledger_of new) events) → StandsFor (state_of old mark) events
    → StandsFor (state_of new mark) events
totals-kept old new mark events kept stands =
    record { ledger = kept stands.ledger; peak = stands.peak; total = stands.total }
