use Rattle.std.proofs.Common.{◌≡◌, ◌-◌, ◌/◌, ℕ, length, ap, sym, ◌∙◌, arith}
use Rattle.std.specs.Prelude.{slice_index}
use Rattle.massif_cull.specs.Ends.{span}
use Rattle.massif_cull.specs.Entries.{last_time, times}
use Rattle.massif_cull.proofs.Places.{order-of, time-of}
use Rattle.massif_cull.proofs.linked.LinkedSnaps.whole_end.Goals as goal

pub overflow_sub-span : goal.overflow_sub-span
overflow_sub-span g c =
    let inside = c.in_ok-snap_at.ensures.inside in
    order-of c.args.self.now.entries _ _ _ _ c.requires.sound (omega (arith, c.before-2.ensures.index))
    c.entry-2.ensures (sym c.in_ok-last.ensures)

pub returns-then-are_gaps_above-clause-whole : goal.returns-then-are_gaps_above-clause-whole
returns-then-are_gaps_above-clause-whole g c =
    let inside = c.in_ok-snap_at.ensures.inside in
    let entries = c.args.self.now.entries in
    let last = time-of entries (length entries - 1) c.in_ok-last.last (sym c.in_ok-last.ensures) in
    let back : c.before-2.result.index ≡ c.in_ok-snap_at.snap_at.index - 1 = omega (arith, c.before-2.ensures.index) in
    let before =
    sym (time-of entries c.before-2.result.index c.entry-2.result c.entry-2.ensures)
    ∙ ap (slice_index (times entries)) back in
    let is_span : c.in_ok-last.last.time - c.entry-2.result.time ≡ span entries c.in_ok-snap_at.snap_at.index =
    ap (λ (t : ℕ). t - c.entry-2.result.time) (sym last) ∙ ap (λ (t : ℕ). last_time entries - t) before
    in
    record {
      some = inside.0;
      inside = inside.1;
      count = c.in_ok-snap_at.ensures.count ∙ ap (λ (n : ℕ). n / 2) c.len.ensures.entries;
      above =
          λ k low
          high. (let above = c.are_gaps_above.ensures c.if-are_gaps_above.true k low high in omega
          (arith, above, is_span));
    }
