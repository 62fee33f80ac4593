use Rattle.std.proofs.Common.{◌≡◌, ◌≤◌, length}
use Rattle.std.specs.Prelude.{vec_capacity}
use Rattle.massif_cull.proofs.linked.empty_slots.Given as goal

abbrev pub invariant-slots : goal.invariant-slots
invariant-slots g l = record { length_is : length l.slots.items ≡ l.counter; room : l.count ≤ vec_capacity l.slots }
