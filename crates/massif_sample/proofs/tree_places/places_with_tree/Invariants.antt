-- The places of the entries so far that have a tree.
use Rattle.std.proofs.Common.{◌≡◌, ℕ, ◌<◌, true}
use Rattle.std.specs.Prelude.{slice_get, All, Contains, Some}
use Rattle.massif_cull.specs.declared.snapshot.SnapEntry.{SnapEntry}
use Rattle.massif_sample.specs.Snapshots.{IsTreePlace, shows_tree}
use Rattle.massif_sample.proofs.tree_places.places_with_tree.Given as goal

abbrev pub invariant-entries : goal.invariant-entries
invariant-entries l =
    ((k : ℕ) (entry : SnapEntry) → k < l.entry-index → slice_get l.entries k ≡ Some entry → shows_tree entry.kind ≡ true
    → Contains l.places.items entry.place)
    × All (IsTreePlace l.entries) l.places.items
