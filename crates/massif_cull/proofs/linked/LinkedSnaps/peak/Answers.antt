use Rattle.std.proofs.Common.{◌≡◌, true, false, inl, inr, ap, sym, ◌∙◌, arith}
use Rattle.std.proofs.lemmas.Bool.{cases_eq, cases_lt}
use Rattle.std.proofs.lemmas.Option.{slice_get_within}
use Rattle.massif_cull.specs.Entries.{is_peak_at}
use Rattle.massif_cull.proofs.Places.{no-other_peak, no-peak_past, peak-of}
use Rattle.massif_cull.proofs.linked.LinkedSnaps.peak.Goals as goal

pub back-init : goal.back-init
back-init g c = record {
  snap_at = c.in_ok-snap_at.ensures.snap_at;
  later = λ k high. no-peak_past c.args.self.now.entries k (omega (arith, c.in_ok-snap_at.ensures.last));
}

pub returns-then-is_peak_entry-clause-others : goal.returns-then-is_peak_entry-clause-others
returns-then-is_peak_entry-clause-others g c =
    let entries = c.args.self.now.entries in
    let peak : is_peak_at entries c.back.snap_at.index ≡ true =
    peak-of entries _ _ c.entry.ensures ∙ sym c.is_peak_entry.ensures ∙ c.if-is_peak_entry.true in
    let inside = slice_get_within entries _ _ c.entry.ensures in
    λ k apart. elim (cases_lt k c.back.snap_at.index) [
      | inl before ↦ no-other_peak entries c.back.snap_at.index k c.requires peak before inside
      | inr behind ↦ c.back.invariant.later k (omega arith)
    ]

pub back-preserved : goal.back-preserved
back-preserved g c =
    let entries = c.args.self.now.entries in
    let normal : is_peak_at entries c.back.snap_at.index ≡ false =
    peak-of entries _ _ c.entry.ensures ∙ sym c.is_peak_entry.ensures ∙ c.if-is_peak_entry.false in
    let index = c.before-snap_at.ensures.index in
    record {
      snap_at = c.before-snap_at.ensures.snap_at;
      later = λ k high. elim (cases_eq k c.back.snap_at.index) [
        | inl here ↦ ap (is_peak_at entries) here ∙ normal
        | inr apart ↦ c.back.invariant.later k (omega arith)
      ];
    }

pub returns-clause-others : goal.returns-clause-others
returns-clause-others g c = λ k apart. c.back.invariant.later k (omega arith)
