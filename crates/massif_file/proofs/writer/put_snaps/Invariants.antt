-- What is written so far and the text of the snapshots that are left is the whole.
use Rattle.std.proofs.Common.{◌≡◌, ◌++◌, take, drop, vec_len}
use Rattle.massif_file.specs.MassifText.{snaps_lines, text_of}
use Rattle.massif_file.proofs.writer.put_snaps.Given as goal

abbrev pub invariant-loop-n : goal.invariant-loop-n
invariant-loop-n l = record {
  kept : take (vec_len l.fn.out) l.out.items ≡ l.fn.out.items;
  written : l.out.items ++ text_of (snaps_lines l.n (drop l.n l.fn.snaps))
      ≡ l.fn.out.items ++ text_of (snaps_lines 0 l.fn.snaps);
}
