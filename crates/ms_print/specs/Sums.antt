-- What snapshots have in all. The sum of a snapshot is its heap, administration and stacks; the
-- peak of a graph is the greatest sum and its end the last time.
use Rattle.std.specs.Prelude.{ℕ, ◌+◌, max, List, [], ◌∷◌}
use Rattle.massif_file.specs.declared.profile.Snap.{Snap}

-- the bytes of a snapshot: heap, administration and stacks
abbrev pub sum_of : Snap → ℕ
sum_of snap = snap.heap + snap.extra + snap.stacks

-- the greatest sum of some snapshots, and 0 of none
abbrev pub greatest_sum : List Snap → ℕ
greatest_sum [] = 0
greatest_sum (snap ∷ snaps) = max (sum_of snap) (greatest_sum snaps)
