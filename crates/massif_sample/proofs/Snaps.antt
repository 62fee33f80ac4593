-- The snapshots that are kept, where one more is offered or one more event comes.
use Rattle.std.proofs.Common.{◌≡◌, ◌≢◌, ◌⊎◌, ℕ, ◌+◌, ◌≤◌, List, ◌++◌, true, cond, refl, ap, sym, subst, ◌∙◌, inl, inr}
use Rattle.std.proofs.Common.{arith}
use Rattle.std.specs.Prelude.{slice_get, Option, Some, None}
use Rattle.std.specs.Option.{option_map}
use Rattle.std.proofs.lemmas.List.Sums.{sum_by-append}
use Rattle.std.proofs.lemmas.Option.{same_Some, slice_get_within}
use Rattle.cost_history.specs.declared.change.Change.{Change}
use Rattle.ht_trace.specs.TableState.{TableState}
use Rattle.live_ledger.specs.declared.event.Event.{Event}
use Rattle.live_ledger.specs.Events.{event_count, is_counted}
use Rattle.live_ledger.specs.InStack.{live_in}
use Rattle.massif_cull.specs.declared.snapshot.Kind.{Kind}
use Rattle.massif_cull.specs.declared.snapshot.Kind.TheVariants as kind
use Rattle.massif_cull.specs.declared.snapshot.Offer.{Offer}
use Rattle.massif_cull.specs.declared.snapshot.SnapEntry.{SnapEntry}
use Rattle.massif_cull.specs.declared.snapshot.Taken.{Taken}
use Rattle.massif_cull.specs.declared.snapshot.Taken.TheVariants.{No}
use Rattle.massif_cull.specs.Entries.{end_peak}
use Rattle.massif_cull.specs.Origins.{ComeFrom, IsOffered, WasHeld, kind_of}
use Rattle.massif_cull.specs.Step.{entry_of}
use Rattle.massif_sample.specs.declared.load.Load.{Load}
use Rattle.massif_sample.specs.declared.options.MassifOptions.{MassifOptions}
use Rattle.massif_sample.specs.declared.running.Running.{Running}
use Rattle.massif_sample.specs.FunctionNames.{FunctionNames, ignores}
use Rattle.massif_sample.specs.Places.{gross_at, heap_at, time_at}
use Rattle.massif_sample.specs.Running.{AreFigures}
use Rattle.massif_sample.specs.Snapshots.{shows_tree}
use Rattle.massif_sample.specs.StandsFor.{AreCostsAt, AreSnapshots, IsSnapshot, WhereTree}
use Rattle.massif_sample.specs.HeapTotals.{gross_total, heap_total}
use Rattle.massif_sample.specs.Times.{time_of}
use Rattle.massif_sample.proofs.Figures.{gross-now, heap-now}
use Rattle.massif_sample.proofs.UpTo.{up_to-front}

-- a snapshot of another kind, which has a tree of other changes where that has one, has the figures that it had
rekinded : (options : MassifOptions) (names : FunctionNames) (tables : TableState) (events : List Event)
    (old new : List Change) (entry : SnapEntry) (as_kind : Kind) (load : Load)
    → (WhereTree entry.kind (AreCostsAt names tables events entry.place old)
    → WhereTree as_kind (AreCostsAt names tables events entry.place new))
    → IsSnapshot options names tables events old entry load
    → IsSnapshot options names tables events new (record entry { kind = as_kind }) load
rekinded options names tables events old new entry as_kind load tree is = record {
  place = is.place;
  time = is.time;
  total = is.total;
  heap = is.heap;
  extra = is.extra;
  tree = tree is.tree;
}

-- a peak that became normal has the figures that it had
pub ended : (options : MassifOptions) (names : FunctionNames) (tables : TableState) (events : List Event)
    (changes : List Change) (entry : SnapEntry) (load : Load)
    → IsSnapshot options names tables events changes entry load
    → IsSnapshot options names tables events changes (end_peak entry) load
ended options names tables events changes entry load is =
    rekinded options names tables events changes changes entry (end_peak entry).kind load (by_kind entry.kind) is
  where
    by_kind : (k : Kind) → WhereTree k (AreCostsAt names tables events entry.place changes)
        → WhereTree (end_peak (record entry { kind = k })).kind (AreCostsAt names tables events entry.place changes)
    by_kind kind.Normal tree = tree
    by_kind kind.Detailed tree = tree
    by_kind kind.Peak tree = tt

-- the snapshot of the present place
pub here : (options : MassifOptions) (names : FunctionNames) (tables : TableState) (events : List Event)
    (running : Running) (offer : Offer) (taken : Taken) (changes : List Change) (load : Load)
    → AreFigures options (ignores tables names) events running
    → offer.place ≡ running.place
    → offer.time ≡ running.time
    → offer.total ≡ running.gross
    → load.heap ≡ running.heap
    → load.heap + load.extra ≡ running.gross
    → WhereTree (kind_of taken) (AreCostsAt names tables events (event_count events) changes)
    → IsSnapshot options names tables events changes (entry_of offer (kind_of taken)) load
here options names tables events running offer taken changes load figures place time total heap extra tree =
    let at : offer.place ≡ event_count events = place ∙ figures.place in
    record {
      place = omega arith;
      time = time ∙ figures.time ∙ ap (time_at options (ignores tables names) events) (sym at);
      total =
          total ∙ gross-now options (ignores tables names) events running figures
          ∙ ap (gross_at options (ignores tables names) events) (sym at);
      heap =
          heap ∙ heap-now options (ignores tables names) events running figures
          ∙ ap (heap_at (ignores tables names) events) (sym at);
      extra = extra ∙ sym total;
      tree = subst (λ (k : ℕ). WhereTree (kind_of taken) (AreCostsAt names tables events k changes)) (sym at) tree;
    }

-- a snapshot stays one where other changes say the same of its place, if it has a tree
pub retold : (options : MassifOptions) (names : FunctionNames) (tables : TableState) (events : List Event)
    (old new : List Change) (entry : SnapEntry) (load : Load)
    → (shows_tree entry.kind ≡ true → AreCostsAt names tables events entry.place old
    → AreCostsAt names tables events entry.place new)
    → IsSnapshot options names tables events old entry load
    → IsSnapshot options names tables events new entry load
retold options names tables events old new entry load serves is =
    rekinded options names tables events old new entry entry.kind load (by_kind entry.kind refl) is
  where
    by_kind : (k : Kind) → entry.kind ≡ k → WhereTree k (AreCostsAt names tables events entry.place old)
        → WhereTree k (AreCostsAt names tables events entry.place new)
    by_kind kind.Normal same tree = tt
    by_kind kind.Detailed same tree = serves (ap shows_tree same) tree
    by_kind kind.Peak same tree = serves (ap shows_tree same) tree

-- the snapshots after an offer
pub snapshots-offered :
    (options : MassifOptions) (names : FunctionNames) (tables : TableState) (events : List Event)
    (changes : List Change) (earlier : List SnapEntry) (earlier_loads : List Load) (offer : Offer) (load : Load)
    (taken : Taken) (entries : List SnapEntry) (loads : List Load)
    → AreSnapshots options names tables events changes earlier earlier_loads
    → (taken ≢ No → IsSnapshot options names tables events changes (entry_of offer (kind_of taken)) load)
    → ComeFrom earlier earlier_loads offer load taken entries loads
    → AreSnapshots options names tables events changes entries loads
snapshots-offered options names tables events changes earlier earlier_loads offer load taken entries loads was is from =
    λ k entry held at beside. by_origin k entry held at beside (from.each k (slice_get_within entries k entry at))
  where
    of_peak : (found : Option SnapEntry) (j : ℕ) (entry : SnapEntry) (held : Load) → slice_get earlier j ≡ found
        → option_map end_peak found ≡ Some entry → slice_get earlier_loads j ≡ Some held
        → IsSnapshot options names tables events changes entry held
    of_peak None j entry held at ends beside = absurd (cc)
    of_peak (Some old) j entry held at ends beside =
        subst (λ (e : SnapEntry). IsSnapshot options names tables events changes e held)
        (same_Some (end_peak old) entry ends)
        (ended options names tables events changes old held (was j old held at beside))

    by_origin : (k : ℕ) (entry : SnapEntry) (held : Load) → slice_get entries k ≡ Some entry
        → slice_get loads k ≡ Some held
        → WasHeld earlier earlier_loads entries loads k ⊎ IsOffered offer load taken entries loads k
        → IsSnapshot options names tables events changes entry held
    by_origin k entry held at beside (inl (j, inside, origin)) =
        let load_was : slice_get earlier_loads j ≡ Some held = sym origin.1 ∙ beside in
        elim origin.0 [
          | inl same ↦ was j entry held (sym same ∙ at) load_was
          | inr peak ↦ of_peak (slice_get earlier j) j entry held refl (sym peak ∙ at) load_was
        ]
    by_origin k entry held at beside (inr (some, new, new_load)) =
        let entry_is : entry_of offer (kind_of taken) ≡ entry =
        same_Some (entry_of offer (kind_of taken)) entry (sym new ∙ at) in
        let load_is : load ≡ held = same_Some load held (sym new_load ∙ beside) in
        subst (λ (l : Load). IsSnapshot options names tables events changes entry l) load_is
        (subst (λ (e : SnapEntry). IsSnapshot options names tables events changes e load) entry_is (is some))

-- a place that was passed stays one
pub count-front : (events more : List Event) → event_count events ≤ event_count (events ++ more)
count-front events more =
    let both = sum_by-append (λ (e : Event). cond {A = ℕ} (is_counted e) 1 0) events more in omega arith

-- a snapshot stays one when more events come
pub snapshot-front : (options : MassifOptions) (names : FunctionNames) (tables : TableState) (events more : List Event)
    (changes : List Change) (entry : SnapEntry) (load : Load)
    → IsSnapshot options names tables events changes entry load
    → IsSnapshot options names tables (events ++ more) changes entry load
snapshot-front options names tables events more changes entry load is =
    let same = up_to-front entry.place events more is.place in
    record {
      place = let count = count-front events more in let within = is.place in omega arith;
      time = is.time ∙ sym (ap (time_of options (ignores tables names)) same);
      total = is.total ∙ sym (ap (gross_total options (ignores tables names)) same);
      heap = is.heap ∙ sym (ap (heap_total (ignores tables names)) same);
      extra = is.extra;
      tree = by_kind entry.kind is.tree;
    }
  where
    same_costs : AreCostsAt names tables events entry.place changes
        → AreCostsAt names tables (events ++ more) entry.place changes
    same_costs at = record {
      each =
          λ stack. ap (λ (es : List Event). cond {A = ℕ} (ignores tables names stack) 0 (live_in stack es))
          (up_to-front entry.place events more is.place)
          ∙ at.each stack;
    }

    by_kind : (k : Kind) → WhereTree k (AreCostsAt names tables events entry.place changes)
        → WhereTree k (AreCostsAt names tables (events ++ more) entry.place changes)
    by_kind kind.Normal tree = tt
    by_kind kind.Detailed costs = same_costs costs
    by_kind kind.Peak costs = same_costs costs
