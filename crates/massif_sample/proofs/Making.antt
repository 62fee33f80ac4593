-- The snapshots that entries and loads give, and the command that is shown.
use Rattle.std.proofs.Common.{◌≡◌, ◌≢◌, ℕ, suc, ◌+◌, ◌-◌, ◌≤◌, Bool, map, List, [], ◌∷◌, ◌++◌, length, refl, ap, sym}
use Rattle.std.proofs.Common.{◌∙◌, arith, append_assoc, append-nil}
use Rattle.std.specs.Prelude.{codes}
use Rattle.cost_history.specs.declared.change.Change.{Change}
use Rattle.cost_history.specs.Changes as history
use Rattle.ht_trace.specs.TableState.{TableState}
use Rattle.live_ledger.specs.declared.event.Event.{Event}
use Rattle.massif_cull.specs.ArrayState as array
use Rattle.massif_cull.specs.Kept.{Kept, Settings}
use Rattle.massif_cull.specs.KeptOf.{kept_of}
use Rattle.massif_cull.specs.StandsFor.{held_of}
use Rattle.massif_cull.specs.declared.snapshot.Kind.{Kind}
use Rattle.massif_cull.specs.declared.snapshot.Kind.TheVariants as kind
use Rattle.massif_cull.specs.declared.snapshot.SnapEntry.{SnapEntry}
use Rattle.massif_file.specs.declared.profile.Profile.{Profile}
use Rattle.massif_file.specs.TreeLine.{TreeLine}
use Rattle.massif_file.specs.declared.profile.Snap.{Snap}
use Rattle.massif_sample.specs.declared.load.Load.{Load}
use Rattle.massif_sample.specs.declared.options.MassifOptions.{MassifOptions}
use Rattle.massif_sample.specs.FunctionNames.{FunctionNames, ignores}
use Rattle.massif_sample.specs.Made.{all_made, made, profile_made, told_tree}
use Rattle.massif_sample.specs.Offers.{offers}
use Rattle.massif_sample.specs.Options.{settings_of, tree_options}
use Rattle.massif_sample.specs.Places.{gross_at, heap_at}
use Rattle.massif_sample.specs.Sampled.{description, or_none, sampled, shown_command}
use Rattle.massif_sample.specs.SamplesState.{IsSound, SamplesState}
use Rattle.massif_sample.specs.Snapshots.{mark_of, snap_of, tree_at, tree_of}
use Rattle.massif_sample.specs.StandsFor.{AreCostsAt, AreSnapshots, IsSnapshot, StandsFor, WhereTree}
use Rattle.massif_sample.proofs.AtPlace.{tree-told}

-- the first one, and the others
pub made-first :
    (tree : SnapEntry → List TreeLine) (snaps after initial : List Snap) (entries rest : List SnapEntry)
    (loads others : List Load) (entry : SnapEntry) (load : Load) (snap : Snap)
    → snaps ++ all_made tree entries loads ≡ initial
    → entries ≡ entry ∷ rest
    → loads ≡ load ∷ others
    → snap ≡ made tree entry load
    → after ≡ snaps ++ snap ∷ []
    → after ++ all_made tree rest others ≡ initial
unfolding all_made
made-first tree snaps after initial entries rest loads others entry load snap all first_entry first_load is pushed =
    ap (λ (xs : List Snap). xs ++ all_made tree rest others) pushed
    ∙ ap (λ (s : Snap). (snaps ++ s ∷ []) ++ all_made tree rest others) is
    ∙ append_assoc snaps (made tree entry load ∷ []) (all_made tree rest others)
    ∙ sym (ap (λ (ls : List Load). snaps ++ all_made tree (entry ∷ rest) ls) first_load)
    ∙ sym (ap (λ (es : List SnapEntry). snaps ++ all_made tree es loads) first_entry)
    ∙ all

-- none is left
pub made-none : (tree : SnapEntry → List TreeLine) (snaps initial : List Snap) (entries : List SnapEntry)
    (loads : List Load)
    → snaps ++ all_made tree entries loads ≡ initial → entries ≡ [] → snaps ≡ initial
unfolding all_made
made-none tree snaps initial entries loads all none =
    sym (append-nil snaps) ∙ sym (ap (λ (es : List SnapEntry). snaps ++ all_made tree es loads) none) ∙ all

pub or_none-empty : (text : List ℕ) → length text ≡ 0 → or_none text ≡ codes "(none)"
or_none-empty [] none = refl
or_none-empty (b ∷ bs) none = absurd (omega arith)

pub or_none-some : (text : List ℕ) → length text ≢ 0 → or_none text ≡ text
or_none-some [] some = absurd (some refl)
or_none-some (b ∷ bs) some = refl

-- the snapshot of an entry whose load has the figures of its place, with its tree over the stacks whose texts are there
made-is : (options : MassifOptions) (names : FunctionNames) (tables : TableState) (events : List Event)
    (changes : List Change) (count : ℕ) (entry : SnapEntry) (load : Load)
    → count ≤ length tables.nodes + 1 → ((place stack : ℕ) → count ≤ stack → history.cost_at changes place stack ≡ 0)
    → IsSnapshot options names tables events changes entry load
    → made (told_tree (tree_options options) tables names.alloc_fns count changes) entry load
    ≡ snap_of options names tables events entry
made-is options names tables events changes count entry load held none is =
    let heap = is.heap in
    let extra : load.extra
    ≡ gross_at options (ignores tables names) events entry.place - heap_at (ignores tables names) events entry.place =
    let both = is.extra in let total = is.total in omega arith in
    let with_parts =
    λ (h x : ℕ)
    (t : List TreeLine). let snap : Snap =
    record { time = entry.time; heap = h; extra = x; stacks = 0; mark = mark_of entry.kind; tree = t } in snap in
    let shown : List TreeLine = tree_of entry.kind tree in
    ap (λ (h : ℕ). with_parts h load.extra shown) heap
    ∙ ap (λ (x : ℕ). with_parts (heap_at (ignores tables names) events entry.place) x shown) extra
    ∙ ap (λ (t : List TreeLine). with_parts (heap_at (ignores tables names) events entry.place)
    (gross_at options (ignores tables names) events entry.place - heap_at (ignores tables names) events entry.place)
    t) (by_kind
    entry.kind is.tree)
  where
    tree : List TreeLine
    tree = told_tree (tree_options options) tables names.alloc_fns count changes entry

    same : AreCostsAt names tables events entry.place changes → tree ≡ tree_at options names tables events entry.place
    same at =
        tree-told options names tables events entry.place entry.total count changes held (none entry.place) is.total at

    by_kind : (k : Kind) → WhereTree k (AreCostsAt names tables events entry.place changes)
        → tree_of k tree ≡ tree_of k (tree_at options names tables events entry.place)
    by_kind kind.Normal at = refl
    by_kind kind.Detailed at = same at
    by_kind kind.Peak at = same at

-- and those of all entries
made-all : (options : MassifOptions) (names : FunctionNames) (tables : TableState) (events : List Event)
    (changes : List Change) (count : ℕ) (entries : List SnapEntry) (loads : List Load)
    → count ≤ length tables.nodes + 1 → ((place stack : ℕ) → count ≤ stack → history.cost_at changes place stack ≡ 0)
    → length loads ≡ length entries → AreSnapshots options names tables events changes entries loads
    → all_made (told_tree (tree_options options) tables names.alloc_fns count changes) entries loads
    ≡ map (snap_of options names tables events) entries
unfolding all_made
made-all options names tables events changes count [] loads held none beside are = refl
made-all options names tables events changes count (entry ∷ entries) [] held none beside are = absurd (omega arith)
made-all options names tables events changes count (entry ∷ entries) (load ∷ loads) held none beside are =
    ap (λ (s : Snap). s
    ∷ all_made (told_tree (tree_options options) tables names.alloc_fns count changes) entries loads) (made-is
    options names tables events changes count entry load held none (are 0 entry load refl refl))
    ∙ ap (λ (ss : List Snap). snap_of options names tables events entry ∷ ss)
    (made-all options names tables events changes count entries loads held none (omega arith)
    (λ k e l at next. are (suc k) e l at next))

-- the profile is that of the events
pub profile-is : (flags : List Bool) (samples : SamplesState) (names : FunctionNames) (tables : TableState)
    (events : List Event) (cmd : List ℕ)
    → IsSound samples → array.IsSound samples.array
    → ((place stack : ℕ) → samples.history.stacks ≤ stack → history.cost_at samples.history.changes place stack ≡ 0)
    → StandsFor flags samples names tables events
    → profile_made samples tables names.alloc_fns cmd ≡ sampled samples.options names tables events cmd
unfolding sampled
profile-is flags samples names tables events cmd sound array_sound none stands =
    let kept_is : samples.array.kept
    ≡ held_of (settings_of samples.options)
    (kept_of (settings_of samples.options) (offers samples.options (ignores tables names) events)) =
    stands.sampling.array.kept_is
    ∙ ap (λ (s : Settings). held_of s (kept_of s (offers samples.options (ignores tables names) events)))
    sound.settings in
    let with_snaps =
    λ (ss : List Snap). let profile : Profile = record {
      desc = description;
      cmd = shown_command cmd;
      unit = samples.options.unit;
      snaps = ss;
    } in profile in
    ap with_snaps
    (made-all samples.options names tables events samples.history.changes (length samples.fronts)
    samples.array.kept.entries samples.array.loads stands.sampling.fronts.held
    (λ place stack beyond. none place stack (let within = stands.sampling.told_within in omega arith))
    array_sound.loads_beside stands.sampling.snapshots)
    ∙ ap (λ (k : Kept). with_snaps (map (snap_of samples.options names tables events) k.entries)) kept_is
