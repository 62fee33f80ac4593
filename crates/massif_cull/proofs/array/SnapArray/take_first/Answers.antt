use Rattle.std.proofs.Common.{◌≡◌, ◌+◌, ◌<◌, List, length, ap, sym, subst, ◌∙◌, arith}
use Rattle.std.proofs.lemmas.List.Edits.{length-remove}
use Rattle.massif_cull.specs.declared.snapshot.SnapEntry.{SnapEntry}
use Rattle.massif_cull.specs.ArrayState.{AreSound}
use Rattle.massif_cull.proofs.Removals.{sound-remove}
use Rattle.massif_cull.proofs.array.SnapArray.take_first.Goals as goal

pub invariant_of-self : goal.invariant_of-self
invariant_of-self g c =
    let before = c.self.invariant.0 in
    let old = c.self.inside.snaps in
    let place = c.first.result.index in
    let entries_left = c.remove-load.ensures.removes.entries in
    let loads_left = c.remove-load.ensures.removes.loads in
    let inside : place < length old.entries =
    omega (arith, c.first.ensures.index, c.if-len-eq0.false, c.len.ensures.entries) in
    let fewer : length c.remove-load.new.self.entries + 1 ≡ length old.entries =
    ap (λ (es : List SnapEntry). length es + 1) entries_left ∙ length-remove old.entries place inside in
    let loads_fewer : length c.remove-load.new.self.loads + 1 ≡ length old.loads =
    ap (λ (ls : List g.row.T.Denot). length ls + 1) loads_left
    ∙ length-remove old.loads place (omega (arith, inside, before.loads_beside)) in (
      record {
        settings = before.settings;
        entries = subst AreSound (sym entries_left) (sound-remove old.entries place inside before.entries);
        below_max = omega (arith, fewer, before.below_max);
        loads_beside = omega (arith, fewer, loads_fewer, before.loads_beside);
        interval_most = before.interval_most;
        last_peak_most = before.last_peak_most;
        normals_below = before.normals_below;
      },
      record { max = c.remove-load.ensures.removes.max ∙ c.self.invariant.1.max; gaps = c.self.invariant.1.gaps },
      record {
        normal = c.normal_from-self-inside.ensures.time;
        normal_most = c.normal_from-self-inside.ensures.most;
        peak = c.self.invariant.2.peak;
      },
    )

pub normal_from-self-inside-requires-clause-sound : goal.normal_from-self-inside-requires-clause-sound
normal_from-self-inside-requires-clause-sound g c =
    let old = c.self.inside.snaps in
    let place = c.first.result.index in
    let inside : place < length old.entries =
    omega (arith, c.first.ensures.index, c.if-len-eq0.false, c.len.ensures.entries) in
    subst AreSound (sym c.remove-load.ensures.removes.entries)
    (sound-remove old.entries place inside c.self.invariant.0.entries)
