use Rattle.std.proofs.Common.{◌≡◌, ◌+◌, ◌-◌, false, length, inl, inr, refl, sym, ap, ◌∙◌, arith}
use Rattle.std.specs.Prelude.{slice_get}
use Rattle.std.proofs.lemmas.Bool.{cases_eq, cases_lt}
use Rattle.std.proofs.lemmas.Option.{none-some, slice_get-get_or, slice_get_within}
use Rattle.massif_cull.specs.Entries.{is_peak_at}
use Rattle.massif_cull.proofs.Keying.{first-gap, inner-gap, last-gap, peak-gap}
use Rattle.massif_cull.proofs.Linking.{contained-at}
use Rattle.massif_cull.proofs.Places.{gap-of, order-of, peak-of}
use Rattle.massif_cull.proofs.SnapsLemmas.{before-at, contains-at}
use Rattle.massif_cull.proofs.linked.LinkedSnaps.gap.Goals as goal

pub returns-in_default : goal.returns-in_default
returns-in_default g c k at =
    let places = c.args.self.now.places in
    elim (cases_eq k 0) [
      | inl first ↦ first-gap c.args.self.now.entries k first
      | inr later ↦
          let back : k - 1 + 1 ≡ k = omega arith in
          let within = slice_get_within places k _ at in
          absurd
          (none-some _
          (c.in_default.ensures.place (k - 1) (ap (slice_get places) back ∙ at)
          ∙ slice_get-get_or places (k - 1) 0 (omega arith)))
    ]

pub returns-in_default-place_after : goal.returns-in_default-place_after
returns-in_default-place_after g c k at =
    let places = c.args.self.now.places in
    let entries = c.args.self.now.entries in
    let beside = c.in_default-place_after.ensures.placed.beside in
    elim (cases_lt (k + 1) (length entries)) [
      | inl inside ↦ absurd
          (none-some _ (c.in_default-place_after.ensures.place k at ∙ slice_get-get_or places (k + 1) 0 (omega arith)))
      | inr past ↦ last-gap entries k past
    ]

pub returns-then-is_peak_entry : goal.returns-then-is_peak_entry
returns-then-is_peak_entry g c k at =
    peak-gap c.args.self.now.entries k
    (peak-of c.args.self.now.entries k _ (c.entry_at.ensures k at) ∙ sym c.is_peak_entry.ensures
    ∙ c.if-is_peak_entry.true)

pub entry_at-requires-2 : goal.entry_at-requires-2
entry_at-requires-2 g c =
    let found = contained-at _ _ c.requires.held in
    contains-at c.args.self.now.places (found.0 + 1) _ (sym (c.in-Some-place_after.ensures.place found.0 found.1))

pub entry_at-requires-3 : goal.entry_at-requires-3
entry_at-requires-3 g c =
    let found = contained-at _ _ c.requires.held in
    let before = before-at c.args.self.now.places _ _ found.0 c.in-Some.ensures.front c.in-Some.ensures.place found.1 in
    contains-at c.args.self.now.places (found.0 - 1) _ before.1

pub overflow_sub-result : goal.overflow_sub-result
overflow_sub-result g c =
    let found = contained-at _ _ c.requires.held in
    let before = before-at c.args.self.now.places _ _ found.0 c.in-Some.ensures.front c.in-Some.ensures.place found.1 in
    let after = sym (c.in-Some-place_after.ensures.place found.0 found.1) in
    let some = before.0 in
    order-of c.args.self.now.entries (found.0 - 1) (found.0 + 1) _ _ c.requires.sound (omega arith)
    (c.entry_at-3.ensures (found.0 - 1) before.1) (c.entry_at-2.ensures (found.0 + 1) after)

pub returns : goal.returns
returns g c k at =
    let entries = c.args.self.now.entries in
    let before = before-at c.args.self.now.places _ _ k c.in-Some.ensures.front c.in-Some.ensures.place at in
    let some = before.0 in
    let later = c.entry_at-2.ensures (k + 1) (sym (c.in-Some-place_after.ensures.place k at)) in
    let inside = slice_get_within entries (k + 1) _ later in
    let normal : is_peak_at entries k ≡ false =
    peak-of entries k _ (c.entry_at.ensures k at) ∙ sym c.is_peak_entry.ensures ∙ c.if-is_peak_entry.false in
    gap-of entries k (k - 1) (k + 1) _ _ (omega arith) refl (c.entry_at-3.ensures (k - 1) before.1) later
    ∙ inner-gap entries k some inside normal
