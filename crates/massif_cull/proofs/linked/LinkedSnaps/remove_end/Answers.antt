use Rattle.std.proofs.Common.{◌≡◌, ◌+◌, ℕ, true, false, List, length, map, inl, inr, refl, ap, sym, ◌∙◌, arith}
use Rattle.std.proofs.lemmas.Bool.{cases_eq}
use Rattle.std.proofs.lemmas.List.Edits.{length-remove}
use Rattle.massif_cull.specs.declared.snapshot.SnapEntry.{SnapEntry}
use Rattle.massif_cull.specs.Entries.{is_peak, is_peak_at}
use Rattle.massif_cull.proofs.EndLemmas.{end-goes, end-gone, keep_from, kept-removed}
use Rattle.massif_cull.proofs.Equals.{peak-below}
use Rattle.massif_cull.proofs.Places.{peak-of}
use Rattle.massif_cull.proofs.Removals.{left-at_start}
use Rattle.massif_cull.proofs.linked.LinkedSnaps.remove_end.Goals as goal

-- of equal lists the same stays
kept_with : {X : Type 0} {entries others : List SnapEntry} {xs ys : List X} (place : ℕ) → entries ≡ others → xs ≡ ys
    → keep_from place xs (map is_peak entries) ≡ keep_from place ys (map is_peak others)
kept_with {entries} {ys} place same equal =
    ap (λ zs. keep_from place zs (map is_peak entries)) equal
    ∙ ap (λ (es : List SnapEntry). keep_from place ys (map is_peak es)) same

pub end-init : goal.end-init
end-init g c =
    let counted = c.len-last.ensures.entries in
    let inside = c.requires.whole.inside in
    record {
      max = refl;
      snap_at = c.requires.snap_at;
      last = omega arith;
      inside = omega arith;
      from = omega arith;
      peaks = λ k low high. absurd (omega arith);
      entries = refl;
      loads = refl;
    }

pub end-preserved-then-is_peak_entry : goal.end-preserved-then-is_peak_entry
end-preserved-then-is_peak_entry g c =
    let so_far = c.end.invariant in
    let next = c.after-snap_at.ensures.index in
    let from = so_far.from in
    let peak : is_peak_at c.end.self.entries c.end.snap_at.index ≡ true =
    peak-of c.end.self.entries _ _ c.entry.ensures ∙ sym c.is_peak_entry.ensures ∙ c.if-is_peak_entry.true in
    record {
      max = so_far.max;
      snap_at = c.after-snap_at.ensures.snap_at;
      last = so_far.last;
      inside = omega arith;
      from = omega arith;
      peaks = λ k low high. elim (cases_eq k c.end.snap_at.index) [
        | inl here ↦ ap (is_peak_at c.end.self.entries) here ∙ peak
        | inr before ↦ so_far.peaks k low (omega arith)
      ];
      entries = so_far.entries;
      loads = so_far.loads;
    }

pub end-preserved : goal.end-preserved
end-preserved g c =
    let so_far = c.end.invariant in
    let same = c.remove_at-snap_at.ensures.index in
    let from = so_far.from in
    let last = so_far.last in
    let place = c.args.snap_at.index in
    let now = c.remove_at-snap_at.new.self in
    let removed = c.remove_at-snap_at.ensures.removes.entries in
    let removed_loads = c.remove_at-snap_at.ensures.removes.loads in
    let normal : is_peak_at c.end.self.entries c.end.snap_at.index ≡ false =
    peak-of c.end.self.entries _ _ c.entry.ensures ∙ sym c.is_peak_entry.ensures ∙ c.if-is_peak_entry.false in
    let shorter : length c.remove_at-snap_at.new.self.entries + 1 ≡ length c.end.self.entries =
    ap (λ (es : List SnapEntry). length es + 1) removed
    ∙ length-remove c.end.self.entries c.end.snap_at.index (omega arith) in
    record {
      max = c.remove_at-snap_at.ensures.removes.max ∙ so_far.max;
      snap_at = c.remove_at-snap_at.ensures.snap_at;
      last = omega arith;
      inside = omega arith;
      from = omega arith;
      peaks = λ k low high. ap (λ (es : List SnapEntry). is_peak_at es k) removed
          ∙ peak-below c.end.self.entries c.end.snap_at.index k (omega arith) (omega arith)
          ∙ so_far.peaks k low (omega arith);
      entries = ap (λ (es : List SnapEntry). keep_from place es (map is_peak es)) removed
          ∙ kept-removed c.end.self.entries c.end.self.entries place c.end.snap_at.index from (omega arith) normal
          ∙ so_far.entries;
      loads = kept_with place removed removed_loads
          ∙ kept-removed c.end.self.entries c.end.self.loads place c.end.snap_at.index from (omega arith) normal
          ∙ so_far.loads;
    }

pub returns-clause-left : goal.returns-clause-left
returns-clause-left g c =
    let so_far = c.end.invariant in
    let whole = c.requires.whole in
    let counted = c.len-last.ensures.entries in
    let beside = c.len-last.ensures.loads in
    let last = so_far.last in
    let start = left-at_start _ c.args.self.now.entries c.args.self.now.loads refl c.requires.sound (omega arith) in
    end-gone c.args.self.now.entries c.end.self.entries c.args.self.now.loads c.end.self.loads c.args.snap_at.index
    (end-goes _ _ _ _ _ c.args.snap_at.index start whole.some whole.inside whole.above whole.count)
    so_far.entries so_far.loads
    (λ k low inside. so_far.peaks k low (omega arith))
