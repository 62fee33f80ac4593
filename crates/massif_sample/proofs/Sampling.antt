-- What samples stand for, step by step.
use Rattle.std.proofs.Common.{◌≡◌, ℕ, zero, suc, ◌+◌, ◌<◌, ◌≤◌, List, [], ◌∷◌, ◌++◌, length, true, false, refl, ap, sym}
use Rattle.std.proofs.Common.{subst, ◌∙◌, inl, inr, arith, rules}
use Rattle.std.specs.Prelude.{slice_get, max, Contains, Some, ◌⊎◌}
use Rattle.std.proofs.lemmas.Bool.{cases_lt}
use Rattle.cost_history.specs.declared.change.Change.{Change}
use Rattle.cost_history.specs.Changes as history
use Rattle.cost_history.specs.Changes.{IsAsked}
use Rattle.cost_history.specs.HistoryState.{AreSaid, HistoryState, TellsNow, no_history}
use Rattle.cost_history.specs.Marks.{MarksState}
use Rattle.ht_trace.specs.TableState.{TableState}
use Rattle.live_ledger.specs.declared.event.Event.{Event}
use Rattle.live_ledger.specs.Events.{event_count}
use Rattle.massif_cull.specs.declared.snapshot.Kind.{Kind}
use Rattle.massif_cull.specs.declared.snapshot.Kind.TheVariants as kind
use Rattle.massif_cull.specs.ArrayState.{ArrayState}
use Rattle.massif_cull.specs.Origins.{ComeFrom, kind_of}
use Rattle.massif_cull.specs.declared.snapshot.Offer.{Offer}
use Rattle.massif_cull.specs.declared.snapshot.Taken.{Taken}
use Rattle.massif_cull.specs.declared.snapshot.Taken.TheVariants.{Normal}
use Rattle.massif_cull.specs.Kept.{nothing_kept}
use Rattle.massif_cull.specs.StandsFor as array
use Rattle.massif_cull.specs.declared.snapshot.SnapEntry.{SnapEntry}
use Rattle.massif_tree.specs.FirstLists.{first_lists}
use Rattle.massif_sample.specs.declared.load.Load.{Load}
use Rattle.massif_sample.specs.declared.running.Running.{Running}
use Rattle.massif_sample.specs.FunctionNames.{FunctionNames, ignores}
use Rattle.massif_sample.specs.Running.{AreFigures, no_figures}
use Rattle.massif_sample.specs.SamplesCalls.{HasKept}
use Rattle.massif_sample.specs.SamplesState.{SamplesState}
use Rattle.massif_sample.specs.StandsFor.{AreCostsAt, AreFronts, AreOfStacks, IsOfStack, IsSampling, WhereTree}
use Rattle.massif_sample.specs.Counted.{counts}
use Rattle.massif_sample.specs.Snapshots.{cost_at, shows_tree}
use Rattle.massif_sample.proofs.Figures.{figures-none}
use Rattle.massif_sample.proofs.Snaps.{here, retold, snapshot-front, snapshots-offered}
use Rattle.massif_sample.proofs.Costs.{cost-first, cost-passed, no-more}

-- before any event
pub sampling-none :
    (samples : SamplesState) (names : FunctionNames) (tables : TableState)
    → samples.running ≡ no_figures
    → array.StandsFor samples.array []
    → samples.array.kept ≡ nothing_kept
    → samples.failed ≡ false
    → samples.fronts ≡ []
    → samples.history ≡ no_history
    → IsSampling samples names tables [] []
unfolding first_lists
sampling-none samples names tables running stands kept going fronts history = record {
  stacks = λ k event at. absurd (cc);
  figures =
      subst (λ r. AreFigures samples.options (ignores tables names) [] r) (sym running)
      (figures-none samples.options (ignores tables names));
  array = stands;
  snapshots = λ k entry load at beside. absurd (none-held k entry (ap (λ kept. kept.entries) kept) at);
  going = going;
  fronts =
      subst (λ (lists : List (List (List ℕ))). AreFronts samples.options names tables lists) (sym fronts)
      (record { held = omega arith; are = refl });
  told =
      subst (λ (h : HistoryState). TellsNow h (cost_at (ignores tables names) [] (event_count []))) (sym history)
      (record { unmarked = λ stack place unmarked late. sym (cost-first (ignores tables names) stack) });
  told_within = let none = ap (λ (h : HistoryState). h.stacks) history in omega arith;
} where
  none-held : (k : ℕ) (entry : SnapEntry) → samples.array.kept.entries ≡ []
      → slice_get samples.array.kept.entries k ≡ Some entry → ⊥
  none-held k entry empty at =
      let none : slice_get {X = SnapEntry} [] k ≡ Some entry =
      subst (λ (xs : List SnapEntry). slice_get xs k ≡ Some entry) empty at in cc

-- what an offer of the present place leaves of samples
pub record Takes (old new : SamplesState) (offer : Offer) (load : Load) (taken : Taken) : Type 0 where
  pub place : offer.place ≡ old.running.place
  pub time : offer.time ≡ old.running.time
  pub total : offer.total ≡ old.running.gross
  pub heap : load.heap ≡ old.running.heap
  pub extra : load.heap + load.extra ≡ old.running.gross
  pub stands : (made : List Offer) → array.StandsFor old.array made → array.StandsFor new.array (made ++ offer ∷ [])
  pub origins : ComeFrom old.array.kept.entries old.array.loads offer load taken new.array.kept.entries new.array.loads

-- the samples with an offer that is taken
pub sampling-offered :
    (old : SamplesState) (after : ArrayState Load) (names : FunctionNames) (tables : TableState) (events : List Event)
    (made : List Offer) (offer : Offer) (load : Load) (taken : Taken)
    → Takes old (record old { array = after }) offer load taken
    → (taken ≡ Normal) ⊎ AreCostsAt names tables events (event_count events) old.history.changes
    → IsSampling old names tables events made
    → IsSampling (record old { array = after }) names tables events (made ++ offer ∷ [])
sampling-offered old after names tables events made offer load taken takes tree was = record {
  stacks = was.stacks;
  figures = was.figures;
  array = takes.stands made was.array;
  snapshots =
      snapshots-offered old.options names tables events old.history.changes old.array.kept.entries old.array.loads offer
      load taken after.kept.entries after.loads was.snapshots
      (λ some. here old.options names tables events old.running offer taken old.history.changes load was.figures
      takes.place takes.time takes.total takes.heap takes.extra (by_taken taken tree))
      takes.origins;
  going = was.going;
  fronts = was.fronts;
  told = was.told;
  told_within = was.told_within;
} where
  Shown : Taken → Type 0
  Shown t = WhereTree (kind_of t) (AreCostsAt names tables events (event_count events) old.history.changes)

  by_kind : (k : Kind) → AreCostsAt names tables events (event_count events) old.history.changes
      → WhereTree k (AreCostsAt names tables events (event_count events) old.history.changes)
  by_kind kind.Normal costs = tt
  by_kind kind.Detailed costs = costs
  by_kind kind.Peak costs = costs

  by_taken : (t : Taken) → (t ≡ Normal) ⊎ AreCostsAt names tables events (event_count events) old.history.changes
      → Shown t
  by_taken t (inl normal) = subst Shown (sym normal) tt
  by_taken t (inr costs) = by_kind (kind_of t) costs

-- the samples with the texts of the stacks that came
pub sampling-fronts :
    (old : SamplesState) (lists : List (List (List ℕ))) (names : FunctionNames) (tables : TableState)
    (events : List Event) (made : List Offer)
    → AreFronts old.options names tables lists
    → length old.fronts ≤ length lists
    → IsSampling old names tables events made
    → IsSampling (record old { fronts = lists }) names tables events made
sampling-fronts old lists names tables events made fronts more was =
    let within : old.history.stacks ≤ length lists = (let few = was.told_within in omega arith) in search rules

-- the samples with other changes that say the same wherever a tree is shown
pub sampling-retold :
    (old : SamplesState) (history : HistoryState) (names : FunctionNames) (tables : TableState) (events : List Event)
    (made : List Offer)
    → ((k : ℕ) (entry : SnapEntry) → slice_get old.array.kept.entries k ≡ Some entry → entry.place ≤ event_count events
    → shows_tree entry.kind ≡ true →
    AreCostsAt names tables events entry.place old.history.changes
    → AreCostsAt names tables events entry.place history.changes)
    → TellsNow history (cost_at (ignores tables names) events (event_count events))
    → history.stacks ≤ length old.fronts
    → IsSampling old names tables events made
    → IsSampling (record old { history = history }) names tables events made
sampling-retold old history names tables events made serves tells within was = record {
  stacks = was.stacks;
  figures = was.figures;
  array = was.array;
  snapshots = λ k entry load at beside.
      (let is = was.snapshots k entry load at beside in retold old.options names tables events old.history.changes
      history.changes entry load (serves k entry at is.place) is);
  going = was.going;
  fronts = was.fronts;
  told = tells;
  told_within = within;
}

-- where costs that no snapshot shows were taken out
pub sampling-thinned :
    (old : SamplesState) (changes : List Change) (left : ℕ) (places : List ℕ) (names : FunctionNames)
    (tables : TableState) (events : List Event) (made : List Offer)
    → ((k : ℕ) (entry : SnapEntry) → slice_get old.array.kept.entries k ≡ Some entry → shows_tree entry.kind ≡ true
    → Contains places entry.place)
    → ((place : ℕ) → IsAsked places old.history.last place → (stack : ℕ)
    → history.cost_at changes place stack ≡ history.cost_at old.history.changes place stack)
    → IsSampling old names tables events made
    → IsSampling (record old { history = record old.history { changes = changes; left = left } }) names tables events
    made
sampling-thinned old changes left places names tables events made held same was =
    sampling-retold old (record old.history { changes = changes; left = left }) names tables events made
    (λ k entry at within shows
    costs. record { each = λ stack. costs.each stack ∙ sym (same entry.place (inl (held k entry at shows)) stack) })
    (record {
      unmarked = λ stack place unmarked late. same place (inr late) stack
          ∙ was.told.unmarked stack place unmarked late;
    })
    was.told_within was

-- where the costs of the present place were kept
pub sampling-kept :
    (old : SamplesState) (after : HistoryState) (stacks : ℕ) (answers : ℕ → ℕ → Type 0) (names : FunctionNames)
    (tables : TableState) (events : List Event) (made : List Offer)
    → ((costs : ℕ → ℕ) → AreSaid answers stacks costs → (seer stack : ℕ) → seer < old.running.place
    → history.cost_at after.changes seer stack ≡ history.cost_at old.history.changes seer stack)
    → ((costs : ℕ → ℕ) → AreSaid answers stacks costs → old.history.stacks ≤ stacks → TellsNow old.history costs
    → (seer stack : ℕ) → old.running.place ≤ seer → history.cost_at after.changes seer stack ≡ costs stack)
    → after.last ≡ old.running.place
    → after.stacks ≡ max old.history.stacks stacks
    → stacks ≡ length old.fronts
    → AreSaid answers stacks (cost_at (ignores tables names) events (event_count events))
    → IsSampling old names tables events made
    → HasKept names tables events made (record old { history = after })
sampling-kept old after stacks answers names tables events made before here last count fronts said was = record {
  sampling =
      sampling-retold old after names tables events made served
      (record { unmarked = λ stack place unmarked late. now place stack (omega arith) })
      (no-more old.history.stacks stacks after.stacks (length old.fronts) was.told_within fronts count) was;
  costs = record { each = λ stack. sym (now (event_count events) stack (let at = was.figures.place in omega arith)) };
}
  where
    costs_now : ℕ → ℕ
    costs_now stack = cost_at (ignores tables names) events (event_count events) stack

    now : (seer stack : ℕ) → old.running.place ≤ seer → history.cost_at after.changes seer stack ≡ costs_now stack
    now seer stack late = here costs_now said (let within = was.told_within in omega arith) was.told seer stack late

    served : (k : ℕ) (entry : SnapEntry) → slice_get old.array.kept.entries k ≡ Some entry
        → entry.place ≤ event_count events → shows_tree entry.kind ≡ true →
        AreCostsAt names tables events entry.place old.history.changes
        → AreCostsAt names tables events entry.place after.changes
    served k entry at within shows costs = record {
      each = λ stack. elim (cases_lt entry.place old.running.place) [
        | inl early ↦ costs.each stack ∙ sym (before costs_now said entry.place stack early)
        | inr late ↦ (let place = was.figures.place in let same : entry.place ≡ event_count events = omega arith in
            ap (λ (p : ℕ). cost_at (ignores tables names) events p stack) same
            ∙ sym (now entry.place stack (omega arith)))
      ];
    }

-- each event is of a stack of the tables, with one more
of_stacks-push : (tables : TableState) (events : List Event) (last : Event) → AreOfStacks tables events
    → IsOfStack tables last → AreOfStacks tables (events ++ last ∷ [])
of_stacks-push tables [] last all here zero event is =
    subst (IsOfStack tables) (let same : last ≡ event = cc in same) here
of_stacks-push tables [] last all here (suc k) event is = absurd (cc)
of_stacks-push tables (e ∷ es) last all here zero event is = all 0 event is
of_stacks-push tables (e ∷ es) last all here (suc k) event is =
    of_stacks-push tables es last (λ j one at. all (suc j) one at) here k event is

-- the samples behind one more event, behind which the history says what unmarked stacks cost
pub sampling-moved :
    (samples : SamplesState) (marks : MarksState) (names : FunctionNames) (tables : TableState) (events : List Event)
    (made : List Offer) (event : Event) (next : Running)
    → IsSampling samples names tables events made
    → IsOfStack tables event
    → AreFigures samples.options (ignores tables names) (events ++ event ∷ []) next
    → TellsNow (record samples.history { marks = marks })
    (cost_at (ignores tables names) (events ++ event ∷ []) (event_count (events ++ event ∷ [])))
    → IsSampling (record samples { running = next; history = record samples.history { marks = marks } }) names tables
    (events ++ event ∷ []) made
sampling-moved samples marks names tables events made event next was of_stack figures tells = record {
  stacks = of_stacks-push tables events event was.stacks of_stack;
  figures = figures;
  array = was.array;
  snapshots =
      λ k entry load at beside. snapshot-front samples.options names tables events (event ∷ []) samples.history.changes
      entry load (was.snapshots k entry load at beside);
  going = was.going;
  fronts = was.fronts;
  told = tells;
  told_within = was.told_within;
}

-- behind one that changes no cost
pub sampling-passed :
    (samples : SamplesState) (names : FunctionNames) (tables : TableState) (events : List Event) (made : List Offer)
    (event : Event) (next : Running)
    → IsSampling samples names tables events made
    → IsOfStack tables event
    → counts (ignores tables names) event ≡ false
    → AreFigures samples.options (ignores tables names) (events ++ event ∷ []) next
    → IsSampling (record samples { running = next }) names tables (events ++ event ∷ []) made
sampling-passed samples names tables events made event next was of_stack none figures =
    sampling-moved samples samples.history.marks names tables events made event next was of_stack figures
    (record {
      unmarked = λ stack place unmarked late.
          was.told.unmarked stack place unmarked late
          ∙ sym (cost-passed (ignores tables names) events event none stack);
    })
