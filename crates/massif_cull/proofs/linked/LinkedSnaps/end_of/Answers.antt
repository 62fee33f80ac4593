use Rattle.std.proofs.Common.{◌≡◌, ◌-◌, true, false, length, ap, sym, ◌∙◌, arith}
use Rattle.massif_cull.specs.Ends.{count_may_go}
use Rattle.massif_cull.specs.Entries.{is_peak_at}
use Rattle.massif_cull.proofs.EndLemmas.{count_may_go-next}
use Rattle.massif_cull.proofs.Places.{may_go-inside, may_go-peak, peak-of}
use Rattle.massif_cull.proofs.linked.LinkedSnaps.end_of.Goals as goal

pub back-init : goal.back-init
back-init g c =
    let last = c.in_ok-snap_at.ensures.last in
    let none : length c.args.self.now.entries - 1 - c.in_ok-snap_at.snap_at.index ≡ 0 = omega arith in
    record {
      snap_at = c.in_ok-snap_at.ensures.snap_at;
      some = omega arith;
      inside = omega arith;
      most = omega arith;
      found = ap (count_may_go c.args.self.now.entries c.in_ok-snap_at.snap_at.index) none;
    }

pub back-preserved-then-is_peak_entry : goal.back-preserved-then-is_peak_entry
back-preserved-then-is_peak_entry g c =
    let so_far = c.back.invariant in
    let entries = c.args.self.now.entries in
    let index = c.before-snap_at.ensures.index in
    let peak : is_peak_at entries c.before-snap_at.result.index ≡ true =
    peak-of entries _ _ c.entry.ensures ∙ sym c.is_peak_entry.ensures ∙ c.if-is_peak_entry.true in
    record {
      snap_at = c.before-snap_at.ensures.snap_at;
      some = omega arith;
      inside = (let inside = so_far.inside in omega arith);
      most = so_far.most;
      found =
          omega (
            arith,
            count_may_go-next entries _ _ false index so_far.inside (may_go-peak entries _ peak),
            so_far.found,
          );
    }

pub back-preserved : goal.back-preserved
back-preserved g c =
    let so_far = c.back.invariant in
    let entries = c.args.self.now.entries in
    let index = c.before-snap_at.ensures.index in
    let inside = so_far.inside in
    let normal : is_peak_at entries c.before-snap_at.result.index ≡ false =
    peak-of entries _ _ c.entry.ensures ∙ sym c.is_peak_entry.ensures ∙ c.if-is_peak_entry.false in
    record {
      snap_at = c.before-snap_at.ensures.snap_at;
      some = omega arith;
      inside = omega arith;
      most = omega arith;
      found =
          omega (
            arith,
            count_may_go-next entries _ _ true index so_far.inside
                (may_go-inside entries _ (omega arith) (omega arith) normal),
            so_far.found,
          );
    }

pub returns-clause-count : goal.returns-clause-count
returns-clause-count g c =
    c.back.invariant.found
    ∙ (let most = c.back.invariant.most in let all : c.back.found ≡ c.args.count = omega arith in all)
