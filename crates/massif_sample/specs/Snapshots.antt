-- A kept snapshot shows the live bytes of its place, the gross bytes less these, and, where it is
-- detailed or the peak, the tree of what each stack that isn't ignored has live there.
use Rattle.std.specs.Prelude.{All, Contains, ◌≡◌, ℕ, ◌+◌, ◌-◌, Bool, true, false, List, [], length, map, Some}
use Rattle.std.specs.Prelude.{slice_get, if◌then◌else◌}
use Rattle.std.specs.List.{range_with_len}
use Rattle.cost_tree.specs.Costed.{costed}
use Rattle.ht_trace.specs.TableState.{TableState}
use Rattle.live_ledger.specs.declared.event.Event.{Event}
use Rattle.live_ledger.specs.InStack.{live_in}
use Rattle.massif_cull.specs.declared.snapshot.Kind.{Kind}
use Rattle.massif_cull.specs.declared.snapshot.Kind.TheVariants as kind
use Rattle.massif_cull.specs.declared.snapshot.SnapEntry.{SnapEntry}
use Rattle.massif_file.specs.declared.profile.HeapTree.{HeapTree}
use Rattle.massif_file.specs.declared.profile.HeapTree.TheVariants.{Empty, Detailed, Peak}
use Rattle.massif_file.specs.declared.profile.Snap.{Snap}
use Rattle.massif_file.specs.TreeLine.{TreeLine}
use Rattle.massif_tree.specs.FunctionLists.{trimmed_lists}
use Rattle.massif_tree.specs.MassifTree.{massif_tree}
use Rattle.massif_sample.specs.declared.options.MassifOptions.{MassifOptions}
use Rattle.massif_sample.specs.FunctionNames.{FunctionNames, ignores}
use Rattle.massif_sample.specs.Options.{tree_options}
use Rattle.massif_sample.specs.Places.{gross_at, heap_at, up_to}

-- a stack's live bytes at a place, and 0 where it is ignored
abbrev pub cost_at : (ℕ → Bool) → List Event → ℕ → ℕ → ℕ
cost_at ignored events k stack = if ignored stack then 0 else live_in stack (up_to k events)

-- those of so many stacks, by their numbers
unfoldable pub costs_at : ℕ → (ℕ → Bool) → List Event → ℕ → List ℕ
costs_at stacks ignored events k = map (cost_at ignored events k) (range_with_len 0 stacks)

-- the lines of the tree at a place
unfoldable pub tree_at : MassifOptions → FunctionNames → TableState → List Event → ℕ → List TreeLine
tree_at options names tables events k =
    massif_tree (tree_options options) (gross_at options (ignores tables names) events k)
    (costed (trimmed_lists tables names.alloc_fns)
    (costs_at (length tables.nodes + 1) (ignores tables names) events k))

-- which tree a snapshot of a kind has
abbrev pub mark_of : Kind → HeapTree
mark_of kind.Normal = Empty
mark_of kind.Detailed = Detailed
mark_of kind.Peak = Peak

-- the tree, for a detailed snapshot and for the peak
abbrev pub tree_of : Kind → List TreeLine → List TreeLine
tree_of kind.Normal tree = []
tree_of kind.Detailed tree = tree
tree_of kind.Peak tree = tree

-- the snapshot of an entry: its figures are those of its place
abbrev pub snap_of : MassifOptions → FunctionNames → TableState → List Event → SnapEntry → Snap
snap_of options names tables events entry = record {
  time = entry.time;
  heap = heap_at (ignores tables names) events entry.place;
  extra = gross_at options (ignores tables names) events entry.place - heap_at
      (ignores tables names) events entry.place;
  stacks = 0;
  mark = mark_of entry.kind;
  tree = tree_of entry.kind (tree_at options names tables events entry.place);
}

-- whether a snapshot of the kind has a tree
abbrev pub shows_tree : Kind → Bool
shows_tree kind.Normal = false
shows_tree kind.Detailed = true
shows_tree kind.Peak = true

-- the place is that of an entry that shows a tree
pub record IsTreePlace (entries : List SnapEntry) (place : ℕ) : Type 0 where
  pub entry : SnapEntry
  pub held : (k : ℕ) × (slice_get entries k ≡ Some entry)
  pub shows : shows_tree entry.kind ≡ true
  pub same : entry.place ≡ place

-- the places are those of the entries that show a tree
pub record AreTreePlaces (entries : List SnapEntry) (places : List ℕ) : Type 0 where
  pub all : (k : ℕ) (entry : SnapEntry) → slice_get entries k ≡ Some entry → shows_tree entry.kind ≡ true
      → Contains places entry.place
  pub only : All (IsTreePlace entries) places
