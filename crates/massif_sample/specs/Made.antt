-- The snapshots that entries with their loads give. The snapshots that are handed out have the
-- trees of what the replay says of their places, padded by 0 for stacks that came later.
use Rattle.std.specs.Prelude.{◌≡◌, ℕ, ◌+◌, List, [], ◌∷◌, length}
use Rattle.cost_history.specs.declared.change.Change.{Change}
use Rattle.cost_tree.specs.Costed.{costed}
use Rattle.ht_trace.specs.TableState.{TableState}
use Rattle.massif_cull.specs.ArrayState.{ArrayState}
use Rattle.massif_cull.specs.declared.snapshot.SnapEntry.{SnapEntry}
use Rattle.massif_file.specs.declared.profile.Profile.{Profile}
use Rattle.massif_file.specs.declared.profile.Snap.{Snap}
use Rattle.massif_file.specs.TreeLine.{TreeLine}
use Rattle.massif_tree.specs.declared.options.TreeOptions.{TreeOptions}
use Rattle.massif_tree.specs.FirstLists.{first_lists}
use Rattle.massif_tree.specs.FunctionLists.{trimmed_before}
use Rattle.massif_tree.specs.MassifTree.{massif_tree}
use Rattle.massif_sample.specs.declared.load.Load.{Load}
use Rattle.massif_sample.specs.Options.{tree_options}
use Rattle.massif_sample.specs.Padded.{padded, told}
use Rattle.massif_sample.specs.Sampled.{description, shown_command}
use Rattle.massif_sample.specs.SamplesState.{SamplesState}
use Rattle.massif_sample.specs.Snapshots.{mark_of, tree_of}

-- the tree of an entry's place, over the first so many stacks of tables, which cost there what the changes say
abbrev pub told_tree : TreeOptions → TableState → List (List ℕ) → ℕ → List Change → SnapEntry
    → List TreeLine
told_tree asked tables names count changes entry = massif_tree asked entry.total
    (costed (trimmed_before tables names count) (told count changes entry.place))

-- the lists are the first texts of as many stacks of the tables, without these functions where they are innermost
abbrev pub AreFirstTexts : TableState → List (List ℕ) → ℕ → List (List (List ℕ)) → Type 0
AreFirstTexts tables names depth fronts = fronts ≡ first_lists tables names (depth + 1) (length fronts)

-- a fact of the tree of each entry's place, over all tables whose stacks' first texts these are
abbrev pub OfTrees : TreeOptions → List (List (List ℕ)) → List Change → ((SnapEntry → List TreeLine) → Type 0) → Type 0
OfTrees asked fronts changes P = (tables : TableState) (names : List (List ℕ))
    → AreFirstTexts tables names asked.depth fronts → P (told_tree asked tables names (length fronts) changes)

-- the lines are those of what is shown of that tree
abbrev pub IsShownAt : TreeOptions → List (List (List ℕ)) → List Change → SnapEntry → List TreeLine → Type 0
IsShownAt asked fronts changes entry lines = OfTrees asked fronts changes
    (λ tree. lines ≡ tree_of entry.kind (tree entry))

-- the lines are those of the tree of what stacks cost
abbrev pub IsTreeOfCosts : TreeOptions → ℕ → List (List (List ℕ)) → List ℕ → List TreeLine → Type 0
IsTreeOfCosts asked total fronts costs lines = (tables : TableState) (names : List (List ℕ))
    → AreFirstTexts tables names asked.depth fronts
    → lines ≡ massif_tree asked total (costed (trimmed_before tables names (length fronts))
    (padded (length fronts) costs))

-- a normal snapshot has no tree
abbrev pub made : (SnapEntry → List TreeLine) → SnapEntry → Load → Snap
made tree entry load = record {
  time = entry.time;
  heap = load.heap;
  extra = load.extra;
  stacks = 0;
  mark = mark_of entry.kind;
  tree = tree_of entry.kind (tree entry);
}

-- the snapshot of each entry and of the load beside it
unfoldable pub all_made : (SnapEntry → List TreeLine) → List SnapEntry → List Load → List Snap
all_made tree [] loads = []
all_made tree (entry ∷ entries) [] = []
all_made tree (entry ∷ entries) (load ∷ loads) = made tree entry load ∷ all_made tree entries loads

-- the snapshot is that of the entry and its load
abbrev pub IsMade : TreeOptions → List (List (List ℕ)) → List Change → SnapEntry → Load → Snap → Type 0
IsMade asked fronts changes entry load snap = OfTrees asked fronts changes (λ tree. snap ≡ made tree entry load)

-- the snapshots are those of an array
abbrev pub AreMade : TreeOptions → List (List (List ℕ)) → List Change → ArrayState Load → List Snap → Type 0
AreMade asked fronts changes array snaps = OfTrees asked fronts changes
    (λ tree. snaps ≡ all_made tree array.kept.entries array.loads)

-- and those of samples
abbrev pub AreMadeOf : SamplesState → List Snap → Type 0
AreMadeOf samples snaps =
    AreMade (tree_options samples.options) samples.fronts samples.history.changes samples.array snaps

-- the profile of them
abbrev pub profile_made : SamplesState → TableState → List (List ℕ) → List ℕ → Profile
profile_made samples tables names cmd = record {
  desc = description;
  cmd = shown_command cmd;
  unit = samples.options.unit;
  snaps = all_made (told_tree (tree_options samples.options) tables names (length samples.fronts)
      samples.history.changes) samples.array.kept.entries samples.array.loads;
}

-- over all tables whose stacks' first texts the samples have
abbrev pub IsMadeOf : SamplesState → List ℕ → Profile → Type 0
IsMadeOf samples cmd profile = (tables : TableState) (names : List (List ℕ))
    → AreFirstTexts tables names samples.options.depth samples.fronts → profile ≡ profile_made samples tables names cmd
