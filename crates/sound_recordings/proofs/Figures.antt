-- The figures of the events that a recorded trace brings are those of its actions.
use Rattle.std.proofs.Common.{◌≡◌, ℕ, zero, suc, ◌+◌, ◌<◌, Bool, true, false, cond, List, [], ◌∷◌, ◌++◌, length, map, Option}
use Rattle.std.proofs.Common.{None, Some, refl, sym, ap, ap₂, ◌∙◌, arith, length-append, true≢false}
use Rattle.std.specs.Prelude.{max, is_some, sum_by, unwrap_or, if◌then◌else◌}
use Rattle.std.specs.List.{range_with_len}
use Rattle.std.proofs.lemmas.List.{take-append-le, take_all}
use Rattle.std.proofs.lemmas.List.Elements.{filter-append}
use Rattle.std.proofs.lemmas.List.FromFn.{map-range_with_len_more}
use Rattle.std.proofs.lemmas.List.Sums.{sum_by-append}
use Rattle.live_ledger.specs.declared.event.Event.{Event}
use Rattle.live_ledger.specs.declared.event.Event.TheVariants.{Alloc, Free}
use Rattle.live_ledger.specs.Events.{counted, event_count, is_alloc, is_counted, is_free}
use Rattle.live_ledger.specs.LiveBlocks.{calls, frees}
use Rattle.live_ledger.specs.LiveBytes.{alloc_size, allocated_bytes, free_size, freed_bytes, live_bytes}
use Rattle.peak_costs.specs.FirstGreatest.{greatest}
use Rattle.peak_costs.specs.Totals.{total, totals}
use Rattle.record_scripts.specs.Events.{allocation, free}
use Rattle.record_book.specs.Actions.{Action}
use Rattle.record_book.specs.Figures as own
use Rattle.record_book.specs.Figures.{every, held_after, without, weigh, bytes_held, one_held}
use Rattle.record_book.specs.TallyState.{size_in}
use Rattle.record_book.proofs.Laws.{bytes-split, count-split}

-- no event is a clock value, and the sums of the events are those of the actions: what is live and
-- what was freed are all
pub record AreEventsOf (events : List Event) (acts : List Action) : Type 0 where
  pub counted_are : counted events ≡ events
  pub count : event_count events ≡ length acts
  pub calls_are : calls events ≡ own.calls every acts
  pub allocated_are : allocated_bytes events ≡ own.allocated every acts
  pub bytes : freed_bytes events + own.live_bytes every acts ≡ allocated_bytes events
  pub blocks : frees events + own.live_count every acts ≡ calls events
  pub peak_is : greatest (totals events) ≡ own.peak acts

-- the greatest of one number more
greatest-push : (xs : List ℕ) (y : ℕ) → greatest (xs ++ y ∷ []) ≡ max y (greatest xs)
greatest-push [] y = refl
greatest-push (x ∷ xs) y = omega (arith, greatest-push xs y)

maps-same : (f g : ℕ → ℕ) (n : ℕ) → ((k : ℕ) → k < n → f k ≡ g k)
    → map f (range_with_len 0 n) ≡ map g (range_with_len 0 n)
maps-same f g zero same = refl
maps-same f g (suc n) same =
    let up : suc n ≡ n + 1 = omega arith in
    ap (λ (m : ℕ). map f (range_with_len 0 m)) up ∙ map-range_with_len_more f 0 n n (omega arith)
    ∙ ap₂ (λ (front : List ℕ) (x : ℕ). front ++ x ∷ []) (maps-same f g n (λ k less. same k (omega (arith, less))))
    (same n (omega arith))
    ∙ sym (ap (λ (m : ℕ). map g (range_with_len 0 m)) up ∙ map-range_with_len_more g 0 n n (omega arith))

-- the total after one event more stands behind the others
totals-push : (events : List Event) (e : Event)
    → totals (events ++ e ∷ []) ≡ totals events ++ live_bytes (events ++ e ∷ []) ∷ []
totals-push events e =
    let n : ℕ = length events in
    let all : List Event = events ++ e ∷ [] in
    let count : length all ≡ n + 1 = length-append events (e ∷ []) in
    ap (λ (m : ℕ). map (total all) (range_with_len 0 (m + 1))) count
    ∙ map-range_with_len_more (total all) 0 (n + 1) (n + 1) (omega arith)
    ∙ ap₂ (λ (front : List ℕ) (x : ℕ). front ++ x ∷ [])
    (maps-same (total all) (total events) (n + 1)
    (λ k less. ap live_bytes (take-append-le k events (e ∷ []) (omega (arith, less)))))
    (ap live_bytes (take_all (n + 1) all (omega (arith, count))))

peak-push : (events : List Event) (e : Event) (acts : List Action) (action : Action)
    → greatest (totals events) ≡ own.peak acts → live_bytes (events ++ e ∷ []) ≡ own.live_bytes every (action ∷ acts)
    → greatest (totals (events ++ e ∷ [])) ≡ own.peak (action ∷ acts)
peak-push events e acts action peak now =
    ap greatest (totals-push events e) ∙ greatest-push (totals events) (live_bytes (events ++ e ∷ []))
    ∙ ap₂ (λ (x y : ℕ). max x y) now peak

-- sums with an event more
pub one-more : (f : Event → ℕ) (events : List Event) (e : Event) → sum_by f (events ++ e ∷ []) ≡ sum_by f events + f e
one-more f events e = let h = sum_by-append f events (e ∷ []) in omega (arith, h)

counted-push : (events : List Event) (e : Event) → is_counted e ≡ true → counted events ≡ events
    → counted (events ++ e ∷ []) ≡ events ++ e ∷ []
counted-push events e is are =
    filter-append is_counted events (e ∷ [])
    ∙ ap₂ (λ (front back : List Event). front ++ back) are (by (is_counted e) is)
  where
    by : (b : Bool) → b ≡ true → (if b then (e ∷ []) else []) ≡ e ∷ []
    by true p = refl
    by false p = absurd (true≢false (sym p))

pub events-none : AreEventsOf [] []
events-none =
    record {
      counted_are = refl;
      count = refl;
      calls_are = refl;
      allocated_are = refl;
      bytes = refl;
      blocks = refl;
      peak_is = refl;
    }

-- what is live, but for one block that is live or isn't
parts : (acts : List Action) (thread id : ℕ) (found : Option ℕ) → size_in (held_after acts) thread id ≡ found
    → (own.live_bytes every acts ≡ weigh (bytes_held every) (without thread id (held_after acts)) + unwrap_or found 0)
    × (own.live_count every acts
    ≡ weigh (one_held every) (without thread id (held_after acts)) + (if is_some found then 1 else 0))
parts acts thread id found is = (
  bytes-split thread id acts
      ∙ ap (λ (o : Option ℕ). weigh (bytes_held every) (without thread id (held_after acts)) + unwrap_or o 0) is,
  count-split thread id acts
      ∙ ap (λ (o : Option ℕ). weigh (one_held every) (without thread id (held_after acts))
      + (if is_some o then 1 else 0)) is,
)

-- an event more, which does what an action does
events-more : (events : List Event) (acts : List Action) (e : Event) (act : Action)
    → AreEventsOf events acts → is_counted e ≡ true
    → own.calls every (act ∷ acts) ≡ own.calls every acts + cond (is_alloc e) 1 0
    → own.allocated every (act ∷ acts) ≡ own.allocated every acts + alloc_size e
    → own.live_bytes every (act ∷ acts) + free_size e ≡ own.live_bytes every acts + alloc_size e
    → own.live_count every (act ∷ acts) + cond (is_free e) 1 0 ≡ own.live_count every acts + cond (is_alloc e) 1 0
    → AreEventsOf (events ++ e ∷ []) (act ∷ acts)
events-more events acts e act are is more_calls more_allocated more_live more_few =
    let one : cond {A = ℕ} (is_counted e) 1 0 ≡ 1 = ap (λ (b : Bool). cond {A = ℕ} b 1 0) is in
    let count = one-more (λ (e : Event). cond {A = ℕ} (is_counted e) 1 0) events e in
    let called = one-more (λ (e : Event). cond {A = ℕ} (is_alloc e) 1 0) events e in
    let freed = one-more (λ (e : Event). cond {A = ℕ} (is_free e) 1 0) events e in
    let sizes = one-more alloc_size events e in
    let gone = one-more free_size events e in
    let now : live_bytes (events ++ e ∷ []) ≡ own.live_bytes every (act ∷ acts) =
    omega (arith, sizes, gone, more_live, are.bytes) in
    record {
      counted_are = counted-push events e is are.counted_are;
      count = omega (arith, count, one, are.count);
      calls_are = omega (arith, called, more_calls, are.calls_are);
      allocated_are = omega (arith, sizes, more_allocated, are.allocated_are);
      bytes = omega (arith, sizes, gone, more_live, are.bytes);
      blocks = omega (arith, called, freed, more_few, are.blocks);
      peak_is = peak-push events e acts act are.peak_is now;
    }

-- an allocation more
pub events-allocated : (events : List Event) (acts : List Action) (info node thread id size : ℕ) (ips : List ℕ)
    → AreEventsOf events acts → size_in (held_after acts) thread id ≡ None
    → AreEventsOf (events ++ Alloc info node size ∷ [])
    (record { thread = thread; event = allocation id size ips } ∷ acts)
events-allocated events acts info node thread id size ips are none =
    let was = parts acts thread id None none in
    events-more events acts (Alloc info node size) (record { thread = thread; event = allocation id size ips }) are refl
    (omega arith) (omega arith) (omega (arith, was.0)) (omega (arith, was.1))

-- a free of a live block more
pub events-freed : (events : List Event) (acts : List Action) (info node thread id size : ℕ) (rejoined : Bool)
    → AreEventsOf events acts → size_in (held_after acts) thread id ≡ Some size
    → AreEventsOf (events ++ Free info node size ∷ []) (record { thread = thread; event = free id rejoined } ∷ acts)
events-freed events acts info node thread id size rejoined are some =
    let was = parts acts thread id (Some size) some in
    events-more events acts (Free info node size) (record { thread = thread; event = free id rejoined }) are refl
    (omega arith) (omega arith) (omega (arith, was.0)) (omega (arith, was.1))
