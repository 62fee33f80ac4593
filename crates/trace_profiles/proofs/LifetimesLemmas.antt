-- Peaks and lifetimes that take a step together.
use Rattle.std.proofs.Common.{◌≡◌, ◌+◌, ◌^◌, ◌<◌, ◌≤◌, List, [], ◌∷◌, ◌++◌, length, ap, sym, subst, ◌∙◌, append-nil}
use Rattle.std.proofs.Common.{length-append, arith}
use Rattle.dhat_metrics.specs.Changes.{IsOfHeld}
use Rattle.dhat_metrics.specs.LifeState as lives
use Rattle.dhat_metrics.specs.LifeState.{LifeState}
use Rattle.dhat_metrics.specs.StandsFor as life_spec
use Rattle.ht_trace.specs.LedgerFits.{least_length_of}
use Rattle.ht_trace.specs.TableState.{TableState}
use Rattle.ht_trace.specs.declared.step.Step.TheVariants as step
use Rattle.live_ledger.specs.declared.event.Event.{Event}
use Rattle.live_ledger.specs.declared.event.Event.TheVariants.{Alloc, Free, Tick}
use Rattle.live_ledger.specs.Possible.{ArePossible}
use Rattle.peak_costs.specs.Peak as peak_spec
use Rattle.peak_costs.specs.PeakState.{PeakState, with_stack}
use Rattle.trace_reading.specs.Following.{HasFollowed, MayTake}
use Rattle.trace_profiles.specs.LifetimesView.{StandFor, lifetimes_view}

-- a stack more
pub stack_followed : (tables : TableState) (old new : PeakState) (before after : LifeState)
    → length before.figures ≡ old.ledger.stacks → new ≡ with_stack old
    → after ≡ record before { figures = before.figures ++ lives.no_figures ∷ [] }
    → ((events : List Event) → peak_spec.StandsFor old events → peak_spec.StandsFor new events)
    → ((events : List Event) → life_spec.StandsFor before events → life_spec.StandsFor after events)
    → HasFollowed tables (lifetimes_view old before) (lifetimes_view new after) step.Stack
stack_followed tables old new before after sound grown longer peaks stands =
    let stacks : new.ledger.stacks ≡ old.ledger.stacks + 1 = ap (λ (state : PeakState). state.ledger.stacks) grown in
    let figures : length after.figures ≡ length before.figures + 1 =
    ap (λ (state : LifeState). length state.figures) longer ∙ length-append before.figures (lives.no_figures ∷ []) in
    let none : new.ledger.totals.events ≡ old.ledger.totals.events =
    ap (λ (state : PeakState). state.ledger.totals.events) grown in
    record {
      sound = omega (arith, stacks, figures, sound);
      stacks = stacks;
      infos = ap (λ (state : PeakState). state.ledger.infos) grown ∙ sym (append-nil old.ledger.infos);
      events = omega (arith, none);
      stands =
          λ taken stand. subst (StandFor new after) (sym (append-nil taken))
          (record { peaks = peaks taken stand.peaks; lives = stands taken stand.lives });
    }

-- the line of an event has three bytes at least
pub line_length : (event : Event) → 3 ≤ least_length_of event
line_length (Alloc info stack bytes) = omega arith
line_length (Free info stack bytes) = omega arith
line_length (Tick ms) = omega arith

-- an event of a stack of the tables is one of a stack that the lifetimes hold
pub event_held : (tables : TableState) (peaks : PeakState) (lifetimes : LifeState) (event : Event)
    → MayTake tables (lifetimes_view peaks lifetimes) (step.Event event) → IsOfHeld lifetimes event
event_held tables peaks lifetimes (Alloc info stack bytes) may = omega (arith, may.stack_held, may.stacks, may.sound)
event_held tables peaks lifetimes (Free info stack bytes) may = omega (arith, may.stack_held, may.stacks, may.sound)
event_held tables peaks lifetimes (Tick ms) may = tt

-- they have room for it
pub event_few : (tables : TableState) (peaks : PeakState) (lifetimes : LifeState) (event : Event)
    → MayTake tables (lifetimes_view peaks lifetimes) (step.Event event) → lifetimes.events < 2 ^ 32
event_few tables peaks lifetimes event may =
    omega (
      arith,
      line_length event,
      may.room,
      may.stands.lives.events_is,
      may.stands.peaks.ledger.whole.figures.events_is,
    )

-- and it is possible where the peaks took it
pub event_possible : (tables : TableState) (old new : PeakState) (before : LifeState) (event : Event)
    → MayTake tables (lifetimes_view old before) (step.Event event)
    → ((taken : List Event) → peak_spec.StandsFor old taken → peak_spec.StandsFor new (taken ++ event ∷ []))
    → (taken : List Event) × (life_spec.StandsFor before taken × ArePossible (taken ++ event ∷ []))
event_possible tables old new before event may takes =
    let after = takes may.taken may.stands.peaks in (
      may.taken,
      (
        may.stands.lives,
        record {
          among = (new.ledger.infos, after.ledger.whole.held);
          no_fault = after.ledger.whole.no_fault;
        },
      ),
    )

-- an event more
pub event_followed : (tables : TableState) (old new : PeakState) (before after : LifeState) (event : Event)
    → length before.figures ≡ old.ledger.stacks → new.ledger.stacks ≡ old.ledger.stacks
    → new.ledger.infos ≡ old.ledger.infos → new.ledger.totals.events ≤ old.ledger.totals.events + 1
    → ((taken : List Event) → peak_spec.StandsFor old taken → peak_spec.StandsFor new (taken ++ event ∷ []))
    → length after.figures ≡ length before.figures
    → ((taken : List Event) → life_spec.StandsFor before taken → life_spec.StandsFor after (taken ++ event ∷ []))
    → HasFollowed tables (lifetimes_view old before) (lifetimes_view new after) (step.Event event)
event_followed tables old new before after event sound stacks infos few takes figures stands = record {
  sound = omega (arith, stacks, figures, sound);
  stacks = omega (arith, stacks);
  infos = infos ∙ sym (append-nil old.ledger.infos);
  events = few;
  stands = λ taken stand. record { peaks = takes taken stand.peaks; lives = stands taken stand.lives };
}
