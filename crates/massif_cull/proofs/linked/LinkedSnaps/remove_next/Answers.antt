use Rattle.std.proofs.Common.{◌≡◌, ◌+◌, ◌-◌, ℕ, List, sym, ap, ◌∙◌, arith}
use Rattle.std.specs.Prelude.{slice_get, Option}
use Rattle.std.proofs.lemmas.Option.{slice_get_within}
use Rattle.massif_cull.specs.declared.snapshot.SnapEntry.{SnapEntry}
use Rattle.massif_cull.specs.LinksState.{IsPrevious}
use Rattle.massif_cull.proofs.Keying.{IsNext, key-inside, keyed-next, keys-some, length-with_gap, next-goes}
use Rattle.massif_cull.proofs.Removals.{left-before, left-behind, sound-left}
use Rattle.massif_cull.proofs.SnapsLemmas.{contains-at, some-inside}
use Rattle.massif_cull.proofs.linked.LinkedSnaps.remove_next.Goals as goal

-- what is found before the one that goes
found-before : (places : List ℕ) (entries : List SnapEntry) (place : ℕ) (found : Option ℕ)
    (next : IsNext places entries place) → IsPrevious places place found → slice_get places (next.index - 1) ≡ found
found-before places entries place found next is =
    let some = next.some in
    let back : next.index - 1 + 1 ≡ next.index = omega arith in
    sym (is (next.index - 1) (ap (slice_get places) back ∙ next.at))

pub first-place-requires-clause-some : goal.first-place-requires-clause-some
first-place-requires-clause-some g c = keys-some _ _ _ c.requires.keyed.keyed c.requires.long

pub place_before-requires : goal.place_before-requires
place_before-requires g c =
    let next = next-goes _ _ _ _ c.requires.keyed.keyed c.requires.sound c.requires.long c.first-place.ensures in
    contains-at _ _ _ next.at

pub unwrap-before-requires : goal.unwrap-before-requires
unwrap-before-requires g c =
    let next = next-goes _ _ _ _ c.requires.keyed.keyed c.requires.sound c.requires.long c.first-place.ensures in
    let some = next.some in
    let within = slice_get_within c.args.self.now.places next.index _ next.at in
    some-inside c.args.self.now.places (next.index - 1) _
    (sym (found-before _ _ _ _ next c.place_before.ensures.place)) (omega arith)

pub place_after-requires : goal.place_after-requires
place_after-requires g c =
    let next = next-goes _ _ _ _ c.requires.keyed.keyed c.requires.sound c.requires.long c.first-place.ensures in
    contains-at _ _ _ next.at

pub unwrap-after-requires : goal.unwrap-after-requires
unwrap-after-requires g c =
    let next = next-goes _ _ _ _ c.requires.keyed.keyed c.requires.sound c.requires.long c.first-place.ensures in
    let inside = next.inside in
    let beside = c.requires.keyed.keyed.beside in
    some-inside c.args.self.now.places (next.index + 1) _ (c.place_after.ensures.place next.index next.at) (omega arith)

pub take_out-requires : goal.take_out-requires
take_out-requires g c =
    let next = next-goes _ _ _ _ c.requires.keyed.keyed c.requires.sound c.requires.long c.first-place.ensures in
    contains-at _ _ _ next.at

pub set_gap-requires-clause-inside : goal.set_gap-requires-clause-inside
set_gap-requires-clause-inside g c =
    let next = next-goes _ _ _ _ c.requires.keyed.keyed c.requires.sound c.requires.long c.first-place.ensures in
    key-inside _ _ _ _ _ c.requires.keyed.keyed next.at

pub gap-requires-clause-held : goal.gap-requires-clause-held
gap-requires-clause-held g c =
    let next = next-goes _ _ _ _ c.requires.keyed.keyed c.requires.sound c.requires.long c.first-place.ensures in
    let at_before = found-before _ _ _ _ next c.place_before.ensures.place ∙ c.unwrap-before.ensures in
    contains-at _ (next.index - 1) _
    (left-before _ _ next.index _ next.some (c.take_out.ensures.removes next.index next.at).places at_before)

pub gap-requires-clause-sound : goal.gap-requires-clause-sound
gap-requires-clause-sound g c =
    let next = next-goes _ _ _ _ c.requires.keyed.keyed c.requires.sound c.requires.long c.first-place.ensures in
    let inside = next.inside in
    sound-left _ _ next.index (omega arith) (c.take_out.ensures.removes next.index next.at).entries c.requires.sound

pub set_gap-requires-2-clause-inside : goal.set_gap-requires-2-clause-inside
set_gap-requires-2-clause-inside g c =
    let next = next-goes _ _ _ _ c.requires.keyed.keyed c.requires.sound c.requires.long c.first-place.ensures in
    let at_before = found-before _ _ _ _ next c.place_before.ensures.place ∙ c.unwrap-before.ensures in
    omega (
      arith,
      key-inside _ _ _ _ _ c.requires.keyed.keyed at_before,
      length-with_gap _ _ _ _ c.set_gap.ensures.keys,
    )

pub gap-requires-2-clause-held : goal.gap-requires-2-clause-held
gap-requires-2-clause-held g c =
    let next = next-goes _ _ _ _ c.requires.keyed.keyed c.requires.sound c.requires.long c.first-place.ensures in
    let at_after = sym (c.place_after.ensures.place next.index next.at) ∙ c.unwrap-after.ensures in
    contains-at _ next.index _
    (left-behind _ _ next.index _ (c.take_out.ensures.removes next.index next.at).places at_after)

pub gap-requires-2-clause-sound : goal.gap-requires-2-clause-sound
gap-requires-2-clause-sound g c =
    let next = next-goes _ _ _ _ c.requires.keyed.keyed c.requires.sound c.requires.long c.first-place.ensures in
    let inside = next.inside in
    sound-left _ _ next.index (omega arith) (c.take_out.ensures.removes next.index next.at).entries c.requires.sound

pub set_gap-requires-3-clause-inside : goal.set_gap-requires-3-clause-inside
set_gap-requires-3-clause-inside g c =
    let next = next-goes _ _ _ _ c.requires.keyed.keyed c.requires.sound c.requires.long c.first-place.ensures in
    let at_after = sym (c.place_after.ensures.place next.index next.at) ∙ c.unwrap-after.ensures in
    omega (
      arith,
      key-inside _ _ _ _ _ c.requires.keyed.keyed at_after,
      length-with_gap _ _ _ _ c.set_gap.ensures.keys,
      length-with_gap _ _ _ _ c.set_gap-2.ensures.keys,
    )

pub returns-clause-removed : goal.returns-clause-removed
returns-clause-removed g c =
    let next = next-goes _ _ _ _ c.requires.keyed.keyed c.requires.sound c.requires.long c.first-place.ensures in
    record {
      index = next.index;
      max = c.take_out.ensures.max;
      goes = next.goes;
      inside = next.inside;
      entries = (c.take_out.ensures.removes next.index next.at).entries;
      loads = (c.take_out.ensures.removes next.index next.at).loads;
    }

pub returns-clause-gaps : goal.returns-clause-gaps
returns-clause-gaps g c =
    length-with_gap _ _ _ _ c.set_gap-3.ensures.keys ∙ length-with_gap _ _ _ _ c.set_gap-2.ensures.keys
    ∙ length-with_gap _ _ _ _ c.set_gap.ensures.keys

pub returns-clause-keyed : goal.returns-clause-keyed
returns-clause-keyed g c =
    let next = next-goes _ _ _ _ c.requires.keyed.keyed c.requires.sound c.requires.long c.first-place.ensures in
    let taken = c.take_out.ensures.removes next.index next.at in
    let at_before = found-before _ _ _ _ next c.place_before.ensures.place ∙ c.unwrap-before.ensures in
    let at_after = sym (c.place_after.ensures.place next.index next.at) ∙ c.unwrap-after.ensures in
    let before = c.gap.ensures (next.index - 1) (left-before _ _ next.index _ next.some taken.places at_before) in
    let after = c.gap-2.ensures next.index (left-behind _ _ next.index _ taken.places at_after) in
    record {
      keyed =
          keyed-next _ _ _ _ _ _ _ _ next.index _ _ _ _ _
          (record {
            keyed = c.requires.keyed.keyed;
            here = next.at;
            some = next.some;
            inside = next.inside;
            at_before = at_before;
            at_after = at_after;
          })
          taken.places taken.entries before after c.set_gap.ensures.keys c.set_gap-2.ensures.keys
          c.set_gap-3.ensures.keys;
      ready = c.set_gap-3.ensures.ready;
    }
