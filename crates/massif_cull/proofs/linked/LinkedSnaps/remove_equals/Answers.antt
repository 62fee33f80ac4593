use Rattle.std.proofs.Common.{◌≡◌, ◌+◌, ◌-◌, ◌<◌, length, List, refl, ap, sym, ◌∙◌, arith}
use Rattle.std.specs.Prelude.{slice_index}
use Rattle.std.proofs.lemmas.List.Edits.{length-remove}
use Rattle.massif_cull.specs.declared.snapshot.SnapEntry.{SnapEntry}
use Rattle.massif_cull.specs.Entries.{times}
use Rattle.massif_cull.proofs.Equals.{goes-next, passed-first, passed-more, passed-removed, time-below}
use Rattle.massif_cull.proofs.Keying.{equal-gap, unequal-gap}
use Rattle.massif_cull.proofs.Places.{time-of}
use Rattle.massif_cull.proofs.Removals.{left-at_start, left-at_more}
use Rattle.massif_cull.proofs.linked.LinkedSnaps.remove_equals.Goals as goal

pub walk-init : goal.walk-init
walk-init g c =
    let entries = c.len-count.ensures.entries in
    let loads = c.len-count.ensures.loads in
    let first = c.first-first.ensures.index in
    let second = c.after-snap_at.ensures.index in
    let long = c.requires.long in
    let here : c.first-first.result.index ≡ c.after-snap_at.result.index - 1 = omega arith in
    record {
      left = left-at_start _ _ _ (omega arith) c.requires.sound (omega arith);
      max = refl;
      snap_at = c.after-snap_at.ensures.snap_at;
      some = omega arith;
      last = omega arith;
      inside = omega arith;
      passed = passed-first _ _ (omega arith);
      time =
          sym (time-of c.args.self.now.entries c.first-first.result.index c.entry-time.result c.entry-time.ensures)
          ∙ ap (slice_index (times c.args.self.now.entries)) here;
    }

pub walk-preserved-then-gap_from-gt0 : goal.walk-preserved-then-gap_from-gt0
walk-preserved-then-gap_from-gt0 g c =
    let so_far = c.walk.invariant in
    let next = c.after-snap_at-then-gap_from-gt0.ensures.index in
    let last = so_far.last in
    let here : c.walk.snap_at.index ≡ c.after-snap_at-then-gap_from-gt0.result.index - 1 = omega arith in
    record {
      left = so_far.left;
      max = so_far.max;
      snap_at = c.after-snap_at-then-gap_from-gt0.ensures.snap_at;
      some = omega arith;
      last = so_far.last;
      inside = omega arith;
      passed = passed-more _ _ _ next so_far.passed (unequal-gap _ _ (omega (arith, c.gap_from.ensures)));
      time =
          sym (time-of c.walk.self.entries c.walk.snap_at.index c.entry-time-then-gap_from-gt0.result
          c.entry-time-then-gap_from-gt0.ensures)
          ∙ ap (slice_index (times c.walk.self.entries)) here;
    }

pub walk-preserved : goal.walk-preserved
walk-preserved g c =
    let so_far = c.walk.invariant in
    let none : c.gap_from.result ≡ 0 = omega arith in
    let equal = equal-gap _ _ (sym c.gap_from.ensures ∙ none) in
    let last = so_far.last in
    let inside : c.walk.snap_at.index + 1 < length c.walk.self.entries = omega arith in
    let place = goes-next _ _ so_far.passed equal.0 equal.1 in
    let same = c.remove_at-snap_at.ensures.index in
    let shorter : length c.remove_at-snap_at.new.self.entries + 1 ≡ length c.walk.self.entries =
    ap (λ (es : List SnapEntry). length es + 1) c.remove_at-snap_at.ensures.removes.entries
    ∙ length-remove c.walk.self.entries c.walk.snap_at.index (omega arith) in
    let before : c.walk.snap_at.index - 1 ≡ c.remove_at-snap_at.result.index - 1 = omega arith in
    record {
      left =
          left-at_more _ _ _ _ _ _ _ _ _ (omega arith) place inside c.remove_at-snap_at.ensures.removes.entries
          c.remove_at-snap_at.ensures.removes.loads so_far.left;
      max = c.remove_at-snap_at.ensures.removes.max ∙ so_far.max;
      snap_at = c.remove_at-snap_at.ensures.snap_at;
      some = omega arith;
      last = omega arith;
      inside = omega arith;
      passed = passed-removed _ _ _ _ c.remove_at-snap_at.ensures.removes.entries same so_far.left.sound inside
          so_far.passed;
      time = so_far.time
          ∙ sym (time-below c.walk.self.entries c.walk.snap_at.index (c.walk.snap_at.index - 1) (omega arith)
          (omega arith))
          ∙ ap (λ (es : List SnapEntry). slice_index (times es) (c.walk.snap_at.index - 1))
          (sym c.remove_at-snap_at.ensures.removes.entries)
          ∙ ap (slice_index (times c.remove_at-snap_at.new.self.entries)) before;
    }
