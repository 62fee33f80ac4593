use Rattle.std.proofs.Common.{◌≡◌, ◌-◌, inl, inr, ap, sym, ◌∙◌, arith}
use Rattle.std.specs.Prelude.{slice_index}
use Rattle.std.proofs.lemmas.Bool.{cases_eq}
use Rattle.massif_cull.specs.Entries.{times}
use Rattle.massif_cull.specs.Keyed.{gap_to_go}
use Rattle.massif_cull.proofs.Places.{time-of}
use Rattle.massif_cull.proofs.linked.LinkedSnaps.are_gaps_above.Goals as goal

pub spots-init : goal.spots-init
spots-init g c =
    let first = c.first-first.ensures.index in
    let second = c.after-snap_at.ensures.index in
    let here : c.first-first.result.index ≡ c.after-snap_at.result.index - 1 = omega arith in
    record {
      snap_at = c.after-snap_at.ensures.snap_at;
      some = omega arith;
      most = omega arith;
      time =
          sym (time-of c.args.self.now.entries c.first-first.result.index c.entry-time.result c.entry-time.ensures)
          ∙ ap (slice_index (times c.args.self.now.entries)) here;
      above = λ k low high. absurd (omega arith);
    }

pub spots-preserved : goal.spots-preserved
spots-preserved g c =
    let so_far = c.spots.invariant in
    let next = c.after-snap_at-in-spots.ensures.index in
    let here : c.spots.snap_at.index ≡ c.after-snap_at-in-spots.result.index - 1 = omega arith in
    record {
      snap_at = c.after-snap_at-in-spots.ensures.snap_at;
      some = omega arith;
      most = omega arith;
      time =
          sym (time-of c.args.self.now.entries c.spots.snap_at.index c.entry-time-in-spots.result
          c.entry-time-in-spots.ensures)
          ∙ ap (slice_index (times c.args.self.now.entries)) here;
      above = λ k low high. elim (cases_eq k c.spots.snap_at.index) [
        | inl at ↦ (let gap = c.gap_from.ensures in let same = ap (gap_to_go c.args.self.now.entries) at in omega arith)
        | inr before ↦ so_far.above k low (omega arith)
      ];
    }

pub returns : goal.returns
returns g c = λ yes k low high. c.spots.invariant.above k low (omega arith)
