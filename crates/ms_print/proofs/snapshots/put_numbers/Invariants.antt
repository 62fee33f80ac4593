use Rattle.std.proofs.Common.{◌≡◌, ◌++◌, take}
use Rattle.std.specs.Prelude.{codes}
use Rattle.std.specs.List.{join_by}
use Rattle.ms_print.specs.SnapshotsText.{number_texts}
use Rattle.ms_print.proofs.NumberLemmas.{is_none}
use Rattle.ms_print.proofs.snapshots.put_numbers.Given as goal

abbrev pub invariant-each_snap : goal.invariant-each_snap
invariant-each_snap l = record {
  first : l.is_first ≡ is_none (number_texts 0 (take l.place l.snaps));
  written : l.out.items
      ≡ l.initial.out.items ++ join_by (λ text. text) (codes ", ") (number_texts 0 (take l.place l.snaps));
}
