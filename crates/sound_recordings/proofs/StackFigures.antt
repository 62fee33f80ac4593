-- The figures at any stacks of the events that a recorded trace brings are those of its actions.
use Rattle.std.proofs.Common.{◌≡◌, ℕ, ◌+◌, Bool, cond, List, [], ◌∷◌, ◌++◌, Option, None, Some, refl, ap, ap₂, ◌∙◌}
use Rattle.std.proofs.Common.{arith}
use Rattle.live_ledger.specs.declared.event.Event.{Event}
use Rattle.live_ledger.specs.declared.event.Event.TheVariants.{Alloc, Free}
use Rattle.record_scripts.specs.Events.{allocation, free}
use Rattle.record_book.specs.Actions.{Action}
use Rattle.record_book.specs.Figures as own
use Rattle.record_book.specs.Figures.{Held, bytes_held, held_after, one_held, weigh, without}
use Rattle.record_book.proofs.Laws.{held-split, held_in, weight_of}
use Rattle.sound_recordings.specs.StackFigures.{allocated_at, bytes_called, bytes_freed, calls_at, freed_at, frees_at}
use Rattle.sound_recordings.specs.StackFigures.{one_called, one_freed}
use Rattle.sound_recordings.proofs.Figures.{one-more}

-- what events at some stacks come to, and what actions with their instruction pointers do
pub record AreAt (at : ℕ → Bool) (counted : List ℕ → Bool) (events : List Event) (acts : List Action) : Type 0 where
  pub calls_are : calls_at at events ≡ own.calls counted acts
  pub allocated_are : allocated_at at events ≡ own.allocated counted acts
  pub bytes : freed_at at events + own.live_bytes counted acts ≡ allocated_at at events
  pub blocks : frees_at at events + own.live_count counted acts ≡ calls_at at events

pub none-at : (at : ℕ → Bool) (counted : List ℕ → Bool) → AreAt at counted [] []
none-at at counted = record { calls_are = refl; allocated_are = refl; bytes = refl; blocks = refl }

-- what is live at some stacks, but for one block that is live or isn't
parts : (counted : List ℕ → Bool) (acts : List Action) (thread id : ℕ) (found : Option Held)
    → held_in (held_after acts) thread id ≡ found
    → (own.live_bytes counted acts
    ≡ weigh (bytes_held counted) (without thread id (held_after acts)) + weight_of (bytes_held counted) found)
    × (own.live_count counted acts
    ≡ weigh (one_held counted) (without thread id (held_after acts)) + weight_of (one_held counted) found)
parts counted acts thread id found is = (split (bytes_held counted), split (one_held counted))
  where
    split : (weight : Held → ℕ) → weigh weight (held_after acts)
        ≡ weigh weight (without thread id (held_after acts)) + weight_of weight found
    split weight =
        held-split weight thread id acts
        ∙ ap (λ (o : Option Held). weigh weight (without thread id (held_after acts)) + weight_of weight o) is

-- an event more, which does what an action does
at-more : (at : ℕ → Bool) (counted : List ℕ → Bool) (events : List Event) (acts : List Action) (e : Event)
    (act : Action)
    → AreAt at counted events acts
    → own.calls counted (act ∷ acts) ≡ own.calls counted acts + one_called at e
    → own.allocated counted (act ∷ acts) ≡ own.allocated counted acts + bytes_called at e
    → own.live_bytes counted (act ∷ acts) + bytes_freed at e ≡ own.live_bytes counted acts + bytes_called at e
    → own.live_count counted (act ∷ acts) + one_freed at e ≡ own.live_count counted acts + one_called at e
    → AreAt at counted (events ++ e ∷ []) (act ∷ acts)
at-more at counted events acts e act are more_calls more_allocated more_live more_few =
    let called = one-more (one_called at) events e in
    let sizes = one-more (bytes_called at) events e in
    let freed = one-more (one_freed at) events e in
    let gone = one-more (bytes_freed at) events e in
    record {
      calls_are = omega (arith, called, more_calls, are.calls_are);
      allocated_are = omega (arith, sizes, more_allocated, are.allocated_are);
      bytes = omega (arith, sizes, gone, more_live, are.bytes);
      blocks = omega (arith, called, freed, more_few, are.blocks);
    }

-- an allocation more
pub at-allocated : (at : ℕ → Bool) (counted : List ℕ → Bool) (events : List Event) (acts : List Action)
    (info node thread id size : ℕ) (ips : List ℕ)
    → AreAt at counted events acts → at node ≡ counted ips
    → held_in (held_after acts) thread id ≡ None
    → AreAt at counted (events ++ Alloc info node size ∷ [])
    (record { thread = thread; event = allocation id size ips } ∷ acts)
at-allocated at counted events acts info node thread id size ips are is none =
    let one : cond {A = ℕ} (at node) 1 0 ≡ cond {A = ℕ} (counted ips) 1 0 = ap (λ (b : Bool). cond {A = ℕ} b 1 0) is in
    let bytes : cond {A = ℕ} (at node) size 0 ≡ cond {A = ℕ} (counted ips) size 0 =
    ap (λ (b : Bool). cond {A = ℕ} b size 0) is in
    let was = parts counted acts thread id None none in
    at-more at counted events acts (Alloc info node size) (record { thread = thread; event = allocation id size ips }) are
    (omega (arith, one)) (omega (arith, bytes)) (omega (arith, was.0, bytes)) (omega (arith, was.1, one))

-- a free of a live block more
pub at-freed : (at : ℕ → Bool) (counted : List ℕ → Bool) (events : List Event) (acts : List Action)
    (info node thread id size : ℕ) (rejoined : Bool) (block : Held)
    → AreAt at counted events acts
    → held_in (held_after acts) thread id ≡ Some block → size ≡ block.size → at node ≡ counted block.ips
    → AreAt at counted (events ++ Free info node size ∷ [])
    (record { thread = thread; event = free id rejoined } ∷ acts)
at-freed at counted events acts info node thread id size rejoined block are some same is =
    let one : cond {A = ℕ} (at node) 1 0 ≡ cond {A = ℕ} (counted block.ips) 1 0 =
    ap (λ (b : Bool). cond {A = ℕ} b 1 0) is in
    let bytes : cond {A = ℕ} (at node) size 0 ≡ cond {A = ℕ} (counted block.ips) block.size 0 =
    ap₂ (λ (b : Bool) (n : ℕ). cond {A = ℕ} b n 0) is same in
    let was = parts counted acts thread id (Some block) some in
    at-more at counted events acts (Free info node size) (record { thread = thread; event = free id rejoined }) are
    (omega arith) (omega arith) (omega (arith, was.0, bytes)) (omega (arith, was.1, one))
