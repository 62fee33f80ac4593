use Rattle.std.proofs.Common.{◌≡◌, ◌-◌, false, ap, sym, ◌∙◌, arith}
use Rattle.std.specs.Prelude.{slice_index}
use Rattle.massif_cull.specs.Entries.{is_peak_at, times}
use Rattle.massif_cull.proofs.EndLemmas.{times-rise}
use Rattle.massif_cull.proofs.Keying.{inner-gap, peak-gap}
use Rattle.massif_cull.proofs.Places.{gap-between, peak-of, time-of}
use Rattle.massif_cull.proofs.linked.LinkedSnaps.gap_from.Goals as goal

pub returns-then-is_peak_entry : goal.returns-then-is_peak_entry
returns-then-is_peak_entry g c =
    peak-gap c.args.self.now.entries c.args.snap_at.index
    (peak-of c.args.self.now.entries _ _ c.entry.ensures ∙ sym c.is_peak_entry.ensures ∙ c.if-is_peak_entry.true)

pub overflow_sub-result : goal.overflow_sub-result
overflow_sub-result g c =
    let entries = c.args.self.now.entries in
    let later = time-of entries _ _ c.entry-2.ensures in
    let order =
    times-rise entries (c.args.snap_at.index - 1) c.after.result.index c.requires.sound
    (omega (arith, c.after.ensures.index)) (omega (arith, c.after.ensures.index)) in
    omega (arith, later, order, c.requires.time)

pub returns : goal.returns
returns g c =
    let entries = c.args.self.now.entries in
    let k = c.args.snap_at.index in
    let normal : is_peak_at entries c.args.snap_at.index ≡ false =
    peak-of entries _ _ c.entry.ensures ∙ sym c.is_peak_entry.ensures ∙ c.if-is_peak_entry.false in
    gap-between entries k _ _
    (sym (time-of entries _ _ c.entry-2.ensures) ∙ ap (slice_index (times entries)) c.after.ensures.index)
    c.requires.time
    ∙ inner-gap entries k c.requires.inside.0 c.requires.inside.1 normal
