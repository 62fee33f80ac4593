use Rattle.std.proofs.Common.{rules}
use Rattle.massif_cull.proofs.Sound.{sound-push_normal}
use Rattle.massif_cull.proofs.array.SnapArray.take_normal.Goals as goal

pub append-self-inside-requires-clause-room : goal.append-self-inside-requires-clause-room
append-self-inside-requires-clause-room g c =
    let order = rw (← c.self.view_is) at c.requires.follows.in_order in
    record {
      max = search rules;
      keys = search rules;
      below_max = search rules;
      loads_beside = search rules;
      sound =
          sound-push_normal _ _ c.self.invariant.0.entries order c.requires.follows.time_most
          c.requires.follows.total_most c.requires.kind;
    }
