use Rattle.std.proofs.Common.{◌≡◌, List, length, ap, ◌∙◌, arith, rules}
use Rattle.std.proofs.lemmas.List.{length-map}
use Rattle.massif_cull.specs.declared.snapshot.SnapEntry.{SnapEntry}
use Rattle.massif_cull.proofs.Sound.{sound-push_peak}
use Rattle.massif_cull.proofs.array.SnapArray.take_peak.Goals as goal

pub append-self-inside-requires-clause-room : goal.append-self-inside-requires-clause-room
append-self-inside-requires-clause-room g c =
    let order = rw (← c.self.view_is) at c.requires.follows.in_order in
    let count : length c.end_peak.new.self.entries ≡ length c.self.inside.snaps.entries =
    ap (λ (es : List SnapEntry). length es) c.end_peak.ensures.entries ∙ length-map _ _ in
    let loads : length c.end_peak.new.self.loads ≡ length c.self.inside.snaps.loads =
    ap (λ (ls : List g.row.T.Denot). length ls) c.end_peak.ensures.loads in
    record {
      max = search rules;
      keys = search rules;
      below_max = omega (arith, count, c.self.invariant.0.below_max, c.self.invariant.1.max, c.end_peak.ensures.max);
      loads_beside = omega (arith, count, loads, c.self.invariant.0.loads_beside);
      sound =
          sound-push_peak _ _ _ c.end_peak.ensures.entries c.self.invariant.0.entries order
          c.requires.follows.time_most c.requires.follows.total_most;
    }
