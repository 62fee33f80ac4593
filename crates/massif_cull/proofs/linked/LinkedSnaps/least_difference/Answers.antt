use Rattle.std.proofs.Common.{ℕ, ◌≡◌, ◌-◌, ◌<◌, ◌≤◌, ◌^◌, min, length, get_or, sym, ap, ◌∙◌, arith}
use Rattle.std.specs.Prelude.{slice_index}
use Rattle.massif_cull.specs.Entries.{times}
use Rattle.massif_cull.proofs.Differences.{interval-first, interval-more, interval-all, interval-none}
use Rattle.massif_cull.proofs.EndLemmas.{times-rise}
use Rattle.massif_cull.proofs.Places.{no_entry, time-at, time-of}
use Rattle.massif_cull.proofs.linked.LinkedSnaps.least_difference.Goals as goal

pub overflow_sub-least : goal.overflow_sub-least
overflow_sub-least g c =
    let entries = c.args.self.now.entries in
    let first = time-of entries _ _ c.entry.ensures in
    let second = time-of entries _ _ c.entry-time.ensures in
    let order =
    times-rise entries c.first-first.result.index c.after-snap_at.result.index c.requires.sound
    (omega (arith, c.after-snap_at.ensures.index))
    (omega (arith, c.after-snap_at.ensures.index, c.first-first.ensures.index, c.requires.long)) in
    omega (arith, first, second, order)

pub spots-init : goal.spots-init
spots-init g c =
    let entries = c.args.self.now.entries in
    let one = c.first-first.ensures.index in
    let two : c.after-snap_at.result.index ≡ 1 = omega (arith, c.after-snap_at.ensures.index, one) in
    let first = sym (time-of entries _ _ c.entry.ensures) ∙ ap (slice_index (times entries)) one in
    let second = sym (time-of entries _ _ c.entry-time.ensures) ∙ ap (slice_index (times entries)) two in
    let most : (get_or entries 1 no_entry).time ≤ 2 ^ 62 =
    c.requires.sound.times_most 1 no_entry (omega (arith, c.requires.long)) in
    let same = time-at entries 1 no_entry (omega (arith, c.requires.long)) in
    record {
      snap_at = c.after-snap_at.ensures.snap_at;
      index = omega (arith, two);
      time = sym (time-of entries _ _ c.entry-time.ensures);
      least_is =
          ap (λ (t : ℕ). t - c.entry.result.time) second ∙ ap (λ (t : ℕ). slice_index (times entries) 1 - t) first
          ∙ interval-first entries c.requires.long;
      most = omega (arith, second, same, most);
    }

pub overflow_sub-next : goal.overflow_sub-next
overflow_sub-next g c =
    let so_far = c.spots.invariant in
    let entries = c.args.self.now.entries in
    let next = time-of entries _ _ c.entry-next.ensures in
    let inside : c.after-snap_at-in-spots.result.index < length entries =
    omega (arith, c.after-snap_at-in-spots.ensures.index, so_far.index, c.spots-test.true, c.len-end.ensures.entries) in
    let order =
    times-rise entries c.spots.snap_at.index c.after-snap_at-in-spots.result.index c.requires.sound
    (omega (arith, c.after-snap_at-in-spots.ensures.index)) inside in
    omega (arith, next, order, so_far.time)

pub spots-preserved : goal.spots-preserved
spots-preserved g c =
    let so_far = c.spots.invariant in
    let entries = c.args.self.now.entries in
    let here : c.after-snap_at-in-spots.result.index ≡ c.spots.counter =
    omega (arith, c.after-snap_at-in-spots.ensures.index, so_far.index) in
    let before : c.spots.snap_at.index ≡ c.spots.counter - 1 = omega (arith, so_far.index) in
    let next = sym (time-of entries _ _ c.entry-next.ensures) ∙ ap (slice_index (times entries)) here in
    let last = so_far.time ∙ ap (slice_index (times entries)) before in
    record {
      snap_at = c.after-snap_at-in-spots.ensures.snap_at;
      index = omega (arith, here);
      time = sym (time-of entries _ _ c.entry-next.ensures);
      least_is = c.min-least.ensures ∙ ap (λ (n : ℕ). min n (c.entry-next.result.time - c.spots.time)) so_far.least_is
          ∙ ap (min _)
          (ap (λ (t : ℕ). t - c.spots.time) next ∙ ap (λ (t : ℕ). slice_index (times entries) c.spots.counter - t) last)
          ∙ interval-more entries c.spots.counter (omega arith)
          (omega (arith, c.spots-test.true, c.len-end.ensures.entries));
      most = omega (arith, c.min-least.ensures, so_far.most);
    }

pub returns-then-least-eq0-clause-value : goal.returns-then-least-eq0-clause-value
returns-then-least-eq0-clause-value g c =
    let so_far = c.spots.invariant in
    let inside : c.spots.counter < length c.args.self.now.entries =
    omega (arith, c.spots-test.true, c.len-end.ensures.entries) in
    interval-none c.args.self.now.entries (length c.args.self.now.entries - c.spots.counter) c.spots.counter
    (omega arith) (omega arith) (sym so_far.least_is ∙ c.if-least-eq0.true)

pub returns-clause-value : goal.returns-clause-value
returns-clause-value g c =
    c.spots.invariant.least_is ∙ interval-all _ _ (omega (arith, c.spots-test.false, c.len-end.ensures.entries))
