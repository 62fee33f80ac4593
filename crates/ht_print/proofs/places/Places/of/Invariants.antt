use Rattle.std.proofs.Common.{◌≡◌, ℕ, ◌<◌, ◌≤◌, length, Some}
use Rattle.std.specs.Prelude.{slice_get, slice_index}
use Rattle.ht_print.specs.PlaceTable.{IsTable, names_of}
use Rattle.ht_print.specs.ReportGroups.{place_of}
use Rattle.ht_print.proofs.places.Places.of.Given as goal

-- the stacks so far have the numbers of their texts
abbrev pub invariant-each_stack : goal.invariant-each_stack
invariant-each_stack l = record {
  count : length l.numbers.items ≡ l.stack;
  few : length l.table.stacks.items ≤ l.stack;
  table : IsTable l.tables l.table;
  told : (n : ℕ) → n < l.stack
      → slice_get (names_of l.tables l.table) (slice_index l.numbers.items n) ≡ Some (place_of l.tables n);
}
