use Rattle.std.proofs.Common.{arith}
use Rattle.massif_cull.proofs.Removals.{left-entries, left-loads}
use Rattle.massif_cull.proofs.linked.LinkedSnaps.cull.Goals as goal

pub least_difference-requires-clause-long : goal.least_difference-requires-clause-long
least_difference-requires-clause-long g c =
    let left = c.remove_half.ensures.left.count in
    let long = c.requires.room.long in
    omega arith

pub least_difference-requires-clause-sound : goal.least_difference-requires-clause-sound
least_difference-requires-clause-sound g c = c.remove_half.ensures.left.sound

pub returns : goal.returns
returns g c =
    let left = c.remove_half.ensures.left in
    record {
      gaps = c.remove_half.ensures.gaps;
      max = c.remove_half.ensures.max;
      snapshots = record {
        entries_left = left-entries _ _ _ _ left;
        loads_left = left-loads _ _ _ _ left;
        count = omega (arith, left.count);
        loads_beside = left.beside;
        sound = left.sound;
        last = left.last;
        among = left.among;
      };
      interval = c.least_difference.ensures.value;
      interval_most = c.least_difference.ensures.most;
    }
