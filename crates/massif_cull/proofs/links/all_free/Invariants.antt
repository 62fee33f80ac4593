use Rattle.std.proofs.Common.{◌≡◌, ◌+◌, ◌≤◌, length}
use Rattle.std.specs.Prelude.{vec_capacity}
use Rattle.massif_cull.specs.Linked.{EachOf, AreBelow, AreDifferent}
use Rattle.massif_cull.proofs.links.all_free.Given as goal

abbrev pub invariant-places : goal.invariant-places
invariant-places l = record {
  count : length l.free.items + l.place ≡ l.max;
  different : AreDifferent l.free.items;
  from : EachOf (λ place. l.place ≤ place) l.free.items;
  below : AreBelow l.max l.free.items;
  room : l.max ≤ vec_capacity l.free;
}
