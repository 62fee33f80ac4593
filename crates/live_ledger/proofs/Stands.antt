-- What a ledger stands for after one more event, stack or info: its totals, and with them each stack.
use Rattle.std.proofs.Common.{◌≡◌, ◌≢◌, ℕ, ◌+◌, ◌<◌, List, [], ◌∷◌, ◌++◌, Bool, cond, Option, inl, inr}
use Rattle.std.proofs.Common.{refl, add-zero, sym, ap, subst, ◌∙◌, arith}
use Rattle.std.specs.Option.{option_eq}
use Rattle.std.specs.Prelude.{nat_eq, ◌==◌, Some, None, slice_index}
use Rattle.std.proofs.lemmas.List.{map-append}
use Rattle.std.proofs.lemmas.List.Sums.{sum_by_push}
use Rattle.std.proofs.lemmas.Bool.Decides.{nat_tests, eqb_tells}
use Rattle.live_ledger.specs.declared.event.Event.{Event}
use Rattle.live_ledger.specs.declared.event.Event.TheVariants.{Alloc, Free, Tick}
use Rattle.live_ledger.specs.declared.event.EventFault.{EventFault}
use Rattle.live_ledger.specs.declared.event.EventFault.TheVariants.{FreeOfNothing}
use Rattle.live_ledger.specs.declared.figures.Figures.{Figures}
use Rattle.live_ledger.specs.declared.totals.Totals.{Totals}
use Rattle.live_ledger.specs.Events.{is_alloc, is_free, is_counted, event_count}
use Rattle.live_ledger.specs.LiveBytes.{alloc_size, free_size, allocated_bytes, freed_bytes}
use Rattle.live_ledger.specs.LiveBlocks.{calls, frees}
use Rattle.live_ledger.specs.InfoBlocks.{is_alloc_of, is_free_of, allocs_of, frees_of}
use Rattle.live_ledger.specs.InStack.{alloc_size_in, allocated_in, calls_in, free_size_in, freed_in, frees_in}
use Rattle.live_ledger.specs.InStack.{is_alloc_in, is_free_in, temporary_in}
use Rattle.live_ledger.specs.Temporary.{last_allocated, temporary_count}
use Rattle.live_ledger.specs.Faults.{fault_of, fault_at}
use Rattle.live_ledger.specs.ForEvents.{GoesOnWith}
use Rattle.live_ledger.specs.LedgerState.{HeldInfo, IsHeld, LedgerState, figures_at, without_figures}
use Rattle.live_ledger.specs.Possible.{AreAmong}
use Rattle.live_ledger.specs.StandsFor.{StandsFor, AreFiguresOf, AreTotalsOf, HasTotals}
use Rattle.live_ledger.specs.Changes.{AddsBlock, Changes, GainsBlock, LosesBlock, TakesBlock, ended_by_free}
use Rattle.live_ledger.specs.declared.totals_ledger.InfoEntry.{InfoEntry}
use Rattle.live_ledger.specs.Consistent.{blocks_of, calls_of, info_of}
use Rattle.live_ledger.specs.TotalsState.{TotalsState, ledger_of, no_events, with_info, with_stack}
use Rattle.live_ledger.proofs.Entries.{number-push}
use Rattle.live_ledger.proofs.PossibleLemmas.{among-infos, among-more, faultless-more}
use Rattle.live_ledger.proofs.Lists.{temporary_in-tick, temporary_in-alloc, temporary_in-free, temporary_in-free_other}
use Rattle.live_ledger.proofs.Lists.{temporary-tick, temporary-alloc, temporary-free, last-tick, last-alloc, last-free}

-- whether a number is 0 is whether the two that it stands between are equal
equal-from_zero : (between less more : ℕ) → between + less ≡ more → (between == 0) ≡ (more == less)
equal-from_zero between less more sum = grind (arith, nat_tests)

-- the fault of an event by a ledger's figures is that by a list it stands for
pub fault_at-is : (state : LedgerState) (events : List Event) (event : Event) → HasTotals state events
    → fault_at state event ≡ fault_of events event
fault_at-is state events (Alloc info stack size) stands = rw stands.figures.allocated_is
fault_at-is state events (Free info stack size) stands =
    ap (λ (b : Bool). cond b (Some FreeOfNothing) None) (equal-from_zero _ _ _ (stands.each_info info))
fault_at-is state events (Tick ms) stands = refl

-- a free without a fault is of an info that has a live block
pub live-block : (state : LedgerState) (events : List Event) (info stack size : ℕ) → HasTotals state events
    → fault_of events (Free info stack size) ≡ None → 0 < slice_index state.blocks info
live-block state events info stack size stands none =
    elim (eqb_tells (allocs_of info events) (frees_of info events)) [
      | inl same ↦ absurd
          (let fault : fault_of events (Free info stack size)
          ≡ Some FreeOfNothing =
          ap (λ (b : Bool). cond {A = Option EventFault} b (Some FreeOfNothing) None) same.0 in cc)
      | inr apart ↦ (let is = stands.each_info info in let more = apart.1 in omega arith)
    ]

-- counts by infos, of which that of one info is one more
counted :
    (before after : ℕ → ℕ) (info : ℕ)
    → after info ≡ before info + 1
    → ((other : ℕ) → other ≢ info → after other ≡ before other)
    → (other : ℕ)
    → after other ≡ before other + cond (info == other) 1 0
counted before after info own others other =
    elim (eqb_tells info other) [
      | inl same ↦
          let one : cond {A = ℕ} (info == other) 1 0 ≡ 1 = ap (λ (b : Bool). cond {A = ℕ} b 1 0) same.0 in
          subst (λ (n : ℕ). after n ≡ before n + cond (info == other) 1 0) same.1
          (own ∙ ap (λ (n : ℕ). before info + n) (sym one))
      | inr apart ↦
          let none : cond {A = ℕ} (info == other) 1 0 ≡ 0 = ap (λ (b : Bool). cond {A = ℕ} b 1 0) apart.0 in
          let same = others other (λ e. apart.1 (sym e)) in
          omega arith
    ]

-- each info's live blocks after one more event
each-more :
    (old new info : ℕ) (events : List Event) (event : Event)
    → old + frees_of info events ≡ allocs_of info events
    → new + cond (is_free_of info event) 1 0 ≡ old + cond (is_alloc_of info event) 1 0
    → new + frees_of info (events ++ event ∷ []) ≡ allocs_of info (events ++ event ∷ [])
each-more old new info events event was step =
    let allocs : allocs_of info (events ++ event ∷ []) ≡ allocs_of info events + cond {A = ℕ} (is_alloc_of info event) 1 0 =
    sum_by_push (λ (e : Event). cond (is_alloc_of info e) 1 0) events event in
    let frees : frees_of info (events ++ event ∷ []) ≡ frees_of info events + cond {A = ℕ} (is_free_of info event) 1 0 =
    sum_by_push (λ (e : Event). cond (is_free_of info e) 1 0) events event in
    omega arith

-- and its allocations
each_calls-more :
    (old new info : ℕ) (events : List Event) (event : Event)
    → old ≡ allocs_of info events
    → new ≡ old + cond (is_alloc_of info event) 1 0
    → new ≡ allocs_of info (events ++ event ∷ [])
each_calls-more old new info events event was step =
    step ∙ ap (λ (n : ℕ). n + cond (is_alloc_of info event) 1 0) was
    ∙ sym (sum_by_push (λ (e : Event). cond (is_alloc_of info e) 1 0) events event)

-- figures that change as an event says are those of the list with the event
figures-more :
    (old new : Figures) (n : ℕ) (events : List Event) (event : Event)
    → AreFiguresOf old n events
    → new.live + free_size_in n event ≡ old.live + alloc_size_in n event
    → new.blocks + cond (is_free_in n event) 1 0 ≡ old.blocks + cond (is_alloc_in n event) 1 0
    → new.calls ≡ old.calls + cond (is_alloc_in n event) 1 0
    → new.temporary ≡ temporary_in n (events ++ event ∷ [])
    → new.allocated ≡ old.allocated + alloc_size_in n event
    → AreFiguresOf new n (events ++ event ∷ [])
figures-more old new n events event were live blocks more_calls temporary more_allocated =
    let calls_more : calls_in n (events ++ event ∷ []) ≡ calls_in n events + cond {A = ℕ} (is_alloc_in n event) 1 0 =
    sum_by_push (λ (e : Event). cond (is_alloc_in n e) 1 0) events event in
    let frees_more : frees_in n (events ++ event ∷ []) ≡ frees_in n events + cond {A = ℕ} (is_free_in n event) 1 0 =
    sum_by_push (λ (e : Event). cond (is_free_in n e) 1 0) events event in
    let allocated_more = sum_by_push (alloc_size_in n) events event in
    let freed_more = sum_by_push (free_size_in n) events event in
    let live_and_freed : new.live + freed_in n (events ++ event ∷ []) ≡ allocated_in n (events ++ event ∷ []) =
    omega (arith, were.live_and_freed, freed_more, allocated_more) in
    let blocks_and_frees : new.blocks + frees_in n (events ++ event ∷ []) ≡ calls_in n (events ++ event ∷ []) =
    omega (arith, were.blocks_and_frees) in
    record {
      calls_is = omega (arith, were.calls_is);
      temporary_is = temporary;
      allocated_is = omega (arith, were.allocated_is, allocated_more);
      live_is = omega (arith, live_and_freed);
      blocks_is = omega (arith, blocks_and_frees);
      live_and_freed = live_and_freed;
      blocks_and_frees = blocks_and_frees;
    }

-- figures to which the event adds nothing are those of the list with it
figures-stay :
    (old new : Figures) (n : ℕ) (events : List Event) (event : Event)
    → AreFiguresOf old n events
    → new ≡ old
    → cond {A = ℕ} (is_alloc_in n event) 1 0 ≡ 0
    → cond {A = ℕ} (is_free_in n event) 1 0 ≡ 0
    → alloc_size_in n event ≡ 0
    → free_size_in n event ≡ 0
    → temporary_in n (events ++ event ∷ []) ≡ temporary_in n events
    → AreFiguresOf new n (events ++ event ∷ [])
figures-stay old new n events event were same calls frees allocated freed temporary =
    subst (λ (f : Figures). AreFiguresOf f n (events ++ event ∷ [])) (sym same)
    (figures-more old old n events event were (omega arith) (omega arith) (omega arith)
    (were.temporary_is ∙ sym temporary) (omega arith))

-- each stack's figures after an event
each_stack-changed :
    (old new : LedgerState) (events : List Event) (event : Event)
    → Changes old new event
    → StandsFor old events
    → (n : ℕ)
    → AreFiguresOf (figures_at new n) n (events ++ event ∷ [])
each_stack-changed old new events (Alloc info stack size) step stands n =
    elim (eqb_tells stack n) [
      | inl same ↦
          let gains : GainsBlock (figures_at old n) (figures_at new n) size =
          subst (λ (m : ℕ). GainsBlock (figures_at old m) (figures_at new m) size) same.1 step.figures in
          let were = stands.each_stack n in
          figures-more (figures_at old n) (figures_at new n) n events (Alloc info stack size) were
          (rw same.0 (add-zero _ ∙ gains.live)) (rw same.0 (add-zero _ ∙ gains.blocks)) (rw same.0 gains.calls)
          (gains.temporary ∙ were.temporary_is ∙ sym (temporary_in-alloc n events info stack size))
          (rw same.0 gains.allocated)
      | inr apart ↦
          figures-stay (figures_at old n) (figures_at new n) n events (Alloc info stack size) (stands.each_stack n)
          (step.figures_of_others n (λ e. apart.1 (sym e))) (rw apart.0 refl) refl (rw apart.0 refl) refl
          (temporary_in-alloc n events info stack size)
    ]
each_stack-changed old new events (Free info stack size) step stands n =
    elim (eqb_tells stack n) [
      | inl same ↦
          let loses : LosesBlock (figures_at old n) (figures_at new n) size (ended_by_free old info) =
          subst (λ (m : ℕ). LosesBlock (figures_at old m) (figures_at new m) size (ended_by_free old info)) same.1
          step.figures in
          let were = stands.each_stack n in
          let ended : (figures_at new n).temporary
          ≡ temporary_in n events + cond (option_eq nat_eq (last_allocated events) (Some info)) 1 0 =
          loses.temporary
          ∙ ap (λ (m : ℕ). m + cond {A = ℕ} (option_eq nat_eq old.last (Some info)) 1 0) were.temporary_is
          ∙ ap (λ (o : Option ℕ). temporary_in n events + cond {A = ℕ} (option_eq nat_eq o (Some info)) 1 0)
          stands.whole.last_is in
          figures-more (figures_at old n) (figures_at new n) n events (Free info stack size) were
          (rw same.0 (loses.live ∙ sym (add-zero _))) (rw same.0 (loses.blocks ∙ sym (add-zero _)))
          (loses.calls ∙ sym (add-zero _)) (ended ∙ sym (temporary_in-free n events info stack size same.0))
          (loses.allocated ∙ sym (add-zero _))
      | inr apart ↦
          figures-stay (figures_at old n) (figures_at new n) n events (Free info stack size) (stands.each_stack n)
          (step.figures_of_others n (λ e. apart.1 (sym e))) refl (rw apart.0 refl) refl (rw apart.0 refl)
          (temporary_in-free_other n events info stack size apart.0)
    ]
each_stack-changed old new events (Tick ms) step stands n =
    figures-stay (figures_at old n) (figures_at new n) n events (Tick ms) (stands.each_stack n)
    (ap (λ (state : LedgerState). figures_at state n) step) refl refl refl refl (temporary_in-tick n events ms)

-- what an event changes but for the figures of stacks
abbrev pub ChangesTotals : LedgerState → LedgerState → Event → Type 0
ChangesTotals old new (Alloc info stack size) = AddsBlock old new info size
ChangesTotals old new (Free info stack size) = TakesBlock old new info size
ChangesTotals old new (Tick ms) = new ≡ old

-- each figure but those of stacks, after an event, by the one before it
record Steps (old new : LedgerState) (events : List Event) (event : Event) : Type 0 where
  infos : new.infos ≡ old.infos
  counts : new.totals.events ≡ old.totals.events + cond (is_counted event) 1 0
  calls : new.totals.calls ≡ old.totals.calls + cond (is_alloc event) 1 0
  temporary : new.totals.temporary ≡ temporary_count (events ++ event ∷ [])
  allocated : new.totals.allocated ≡ old.totals.allocated + alloc_size event
  live : new.totals.live + free_size event ≡ old.totals.live + alloc_size event
  blocks : new.totals.blocks + cond (is_free event) 1 0 ≡ old.totals.blocks + cond (is_alloc event) 1 0
  each_info : (info : ℕ) → slice_index new.blocks info + cond (is_free_of info event) 1 0
      ≡ slice_index old.blocks info + cond (is_alloc_of info event) 1 0
  each_info_calls : (info : ℕ) → slice_index new.info_calls info
      ≡ slice_index old.info_calls info + cond (is_alloc_of info event) 1 0
  last : new.last ≡ last_allocated (events ++ event ∷ [])

steps-of : (old new : LedgerState) (events : List Event) (event : Event) → ChangesTotals old new event
    → HasTotals old events → Steps old new events event
steps-of old new events (Alloc info stack size) step stands = record {
  infos = step.infos;
  counts = step.events;
  calls = step.calls;
  temporary = step.temporary ∙ stands.figures.temporary_is ∙ sym (temporary-alloc events info stack size);
  allocated = step.allocated;
  live = add-zero _ ∙ step.live;
  blocks = add-zero _ ∙ step.blocks;
  each_info = λ other. add-zero _
      ∙ counted (slice_index old.blocks) (slice_index new.blocks) info step.blocks_of_info step.blocks_of_others other;
  each_info_calls =
      counted (slice_index old.info_calls) (slice_index new.info_calls) info step.calls_of_info step.calls_of_others;
  last = step.last ∙ sym (last-alloc events info stack size);
}
steps-of old new events (Free info stack size) step stands = record {
  infos = step.infos;
  counts = step.events;
  calls = step.calls ∙ sym (add-zero _);
  temporary =
      step.temporary
      ∙ ap (λ (n : ℕ). n + cond (option_eq nat_eq old.last (Some info)) 1 0) stands.figures.temporary_is
      ∙ ap (λ (o : Option ℕ). temporary_count events + cond (option_eq nat_eq o (Some info)) 1 0) stands.last_is
      ∙ sym (temporary-free events info stack size);
  allocated = step.allocated ∙ sym (add-zero _);
  live = step.live ∙ sym (add-zero _);
  blocks = step.blocks ∙ sym (add-zero _);
  each_info = λ other. sym (counted (slice_index new.blocks) (slice_index old.blocks) info (sym step.blocks_of_info)
      (λ n apart. sym (step.blocks_of_others n apart)) other) ∙ sym (add-zero _);
  each_info_calls = λ other. ap (λ (xs : List ℕ). slice_index xs other) step.info_calls ∙ sym (add-zero _);
  last = step.last ∙ sym (last-free events info stack size);
}
steps-of old new events (Tick ms) step stands =
    subst (λ (state : LedgerState). Steps old state events (Tick ms)) (sym step) (record {
      infos = refl;
      counts = sym (add-zero _);
      calls = sym (add-zero _);
      temporary = stands.figures.temporary_is ∙ sym (temporary-tick events ms);
      allocated = sym (add-zero _);
      live = refl;
      blocks = refl;
      each_info = λ info. refl;
      each_info_calls = λ info. sym (add-zero _);
      last = stands.last_is ∙ sym (last-tick events ms);
    })

-- a ledger's totals after an event without a fault are those of the list with it at its end
pub totals-changed :
    (old new : LedgerState) (events : List Event) (event : Event)
    → IsHeld old event
    → fault_of events event ≡ None
    → ChangesTotals old new event
    → HasTotals old events
    → HasTotals new (events ++ event ∷ [])
totals-changed old new events event held no_fault change stands =
    let step = steps-of old new events event change stands in
    let more : event_count (events ++ event ∷ []) ≡ event_count events + cond {A = ℕ} (is_counted event) 1 0 =
    sum_by_push (λ (e : Event). cond (is_counted e) 1 0) events event in
    let more_calls : calls (events ++ event ∷ []) ≡ calls events + cond {A = ℕ} (is_alloc event) 1 0 =
    sum_by_push (λ (e : Event). cond (is_alloc e) 1 0) events event in
    let more_frees : frees (events ++ event ∷ []) ≡ frees events + cond {A = ℕ} (is_free event) 1 0 =
    sum_by_push (λ (e : Event). cond (is_free e) 1 0) events event in
    let more_bytes : allocated_bytes (events ++ event ∷ []) ≡ allocated_bytes events + alloc_size event =
    sum_by_push alloc_size events event in
    let more_freed : freed_bytes (events ++ event ∷ []) ≡ freed_bytes events + free_size event =
    sum_by_push free_size events event in
    record {
      held =
          subst (λ (infos : List HeldInfo). AreAmong infos (events ++ event ∷ [])) (sym step.infos)
          (among-more old.infos events event stands.held held);
      no_fault = faultless-more events event stands.no_fault no_fault;
      figures = record {
        events_is = omega arith;
        calls_is = omega arith;
        temporary_is = step.temporary;
        allocated_is = omega arith;
        live_is = omega arith;
        blocks_is = omega arith;
        live_and_freed = omega arith;
        blocks_and_frees = omega arith;
      };
      each_info = λ info. each-more _ _ info events event (stands.each_info info) (step.each_info info);
      each_info_calls =
          λ info. each_calls-more _ _ info events event (stands.each_info_calls info) (step.each_info_calls info);
      last_is = step.last;
    }

-- what an event changes in a ledger, it changes in its totals
whole-changes : (old new : LedgerState) (event : Event) → Changes old new event
    → ChangesTotals (without_figures old) (without_figures new) event
whole-changes old new (Alloc info stack size) change = change.whole
whole-changes old new (Free info stack size) change = change.whole
whole-changes old new (Tick ms) change = ap (λ (state : LedgerState). without_figures state) change

-- a fault by a ledger's figures is one by its totals
fault_at-whole : (state : LedgerState) (event : Event) → fault_at (without_figures state) event ≡ fault_at state event
fault_at-whole state (Alloc info stack size) = refl
fault_at-whole state (Free info stack size) = refl
fault_at-whole state (Tick ms) = refl

-- a ledger after an event without a fault stands for the list with it at its end
pub stands-changed : (old new : LedgerState) (event : Event) → IsHeld old event → fault_at old event ≡ None
    → Changes old new event → GoesOnWith event (StandsFor old) (StandsFor new)
stands-changed old new event held none change = λ events stands.
    let no_fault = sym (fault_at-is (without_figures old) events event stands.whole) ∙ fault_at-whole old event ∙ none in
    record {
      whole =
          totals-changed (without_figures old) (without_figures new) events event held no_fault
          (whole-changes old new event change) stands.whole;
      each_stack = each_stack-changed old new events event change stands;
    }

-- a ledger's totals are told by its figures, those of each info, and the last event; more infos may be held
pub totals-same :
    (old new : LedgerState) (events : List Event)
    → AreAmong new.infos events
    → new.totals ≡ old.totals
    → ((info : ℕ) → slice_index new.blocks info ≡ slice_index old.blocks info)
    → ((info : ℕ) → slice_index new.info_calls info ≡ slice_index old.info_calls info)
    → new.last ≡ old.last
    → HasTotals old events
    → HasTotals new events
totals-same old new events held totals blocks calls last stands = record {
  held = held;
  no_fault = stands.no_fault;
  figures = subst (λ (t : Totals). AreTotalsOf t events) (sym totals) stands.figures;
  each_info = λ info. ap (λ (n : ℕ). n + frees_of info events) (blocks info) ∙ stands.each_info info;
  each_info_calls = λ info. calls info ∙ stands.each_info_calls info;
  last_is = last ∙ stands.last_is;
}

-- what a ledger stands for is told by its totals and the figures of each stack
pub stands-same :
    (old new : LedgerState) (events : List Event)
    → HasTotals (without_figures new) events
    → ((stack : ℕ) → figures_at new stack ≡ figures_at old stack)
    → StandsFor old events
    → StandsFor new events
stands-same old new events totals figures stands = record {
  whole = totals;
  each_stack =
      λ stack. subst (λ (f : Figures). AreFiguresOf f stack events) (sym (figures stack)) (stands.each_stack stack);
}

-- the totals of a ledger of totals with one more stack
pub totals-stack : (whole : TotalsState) (events : List Event) → HasTotals (ledger_of whole) events
    → HasTotals (ledger_of (with_stack whole)) events
totals-stack whole events stands =
    totals-same (ledger_of whole) (ledger_of (with_stack whole)) events stands.held refl (λ info. refl) (λ info. refl)
    refl stands

-- and with one more info
pub totals-info : (whole : TotalsState) (stack size : ℕ) (events : List Event) → HasTotals (ledger_of whole) events
    → HasTotals (ledger_of (with_info whole stack size)) events
totals-info whole stack size events stands =
    let entry : InfoEntry = record { stack = stack; size = size; blocks = 0; calls = 0 } in
    totals-same (ledger_of whole) (ledger_of (with_info whole stack size)) events
    (subst (λ (held : List HeldInfo). AreAmong held events) (sym (map-append info_of whole.infos (entry ∷ [])))
    (among-infos _ (info_of entry) events stands.held))
    refl
    (λ info. number-push blocks_of whole.infos entry info refl)
    (λ info. number-push calls_of whole.infos entry info refl)
    refl
    stands

-- of no events they are none
pub totals-none : HasTotals (ledger_of no_events) []
totals-none = record {
  held = λ k event at. cc;
  no_fault = λ k event at. cc;
  figures =
      record {
        events_is = refl;
        calls_is = refl;
        temporary_is = refl;
        allocated_is = refl;
        live_is = refl;
        blocks_is = refl;
        live_and_freed = refl;
        blocks_and_frees = refl;
      };
  each_info = λ info. refl;
  each_info_calls = λ info. refl;
  last_is = refl;
}
