use Rattle.std.proofs.Common.{◌≡◌, ◌+◌, ℕ, List, length, refl, sym, ap, subst, ◌∙◌, arith}
use Rattle.std.proofs.lemmas.List.{length-set}
use Rattle.massif_cull.specs.declared.gaps.Key.{Key}
use Rattle.massif_cull.specs.Keyed.{AreKeyed}
use Rattle.massif_cull.specs.Linked.{AreBelow}
use Rattle.massif_cull.proofs.Keying.{numbered-all, numbered-more, numbered-none, place-below}
use Rattle.massif_cull.proofs.linked.LinkedSnaps.note.Goals as goal

pub walk-init : goal.walk-init
walk-init g c = record {
  snap_at = c.first-snap_at.ensures.snap_at;
  inside = (let first = c.first-snap_at.ensures.index in omega arith);
  keys = c.clear.ensures.length ∙ c.requires.gaps;
  numbered = numbered-none _ _ _ _ c.first-snap_at.ensures.index c.clear.ensures.keys;
}

pub put-requires : goal.put-requires
put-requires g c =
    let so_far = c.walk.invariant in
    let below = place-below c.args.self.now _ _ c.len-last.ensures.placed so_far.snap_at in
    omega (arith, below, so_far.keys)

pub walk-preserved : goal.walk-preserved
walk-preserved g c =
    let so_far = c.walk.invariant in
    let next = c.after-snap_at.ensures.index in
    let below = place-below c.args.self.now _ _ c.len-last.ensures.placed so_far.snap_at in
    record {
      snap_at = c.after-snap_at.ensures.snap_at;
      inside = omega arith;
      keys = ap length c.put.ensures ∙ length-set _ _ _ ∙ so_far.keys;
      numbered =
          numbered-more _ _ _ _ _ _ _ _ next c.len-last.ensures.placed.different so_far.snap_at
          (omega (arith, below, so_far.keys)) c.key.ensures c.put.ensures so_far.numbered;
    }

pub put-requires-2 : goal.put-requires-2
put-requires-2 g c =
    let so_far = c.walk.invariant in
    let below = place-below c.args.self.now _ _ c.len-last.ensures.placed so_far.snap_at in
    omega (arith, below, so_far.keys)

pub returns : goal.returns
returns g c =
    let so_far = c.walk.invariant in
    let placed = c.len-last.ensures.placed in
    let beside = placed.beside in
    let inside = so_far.inside in
    let below = place-below c.args.self.now _ _ placed so_far.snap_at in
    let one : c.walk.snap_at.index + 1 ≡ c.walk.snap_at.index + 1 = refl in
    let count = ap length c.put-2.ensures ∙ length-set _ _ _ ∙ so_far.keys in
    let numbered =
    numbered-more _ _ _ _ _ _ _ _ one placed.different so_far.snap_at
    (omega (arith, below, so_far.keys)) c.key-2.ensures
    c.put-2.ensures so_far.numbered in
    let counted = c.len-last.ensures.entries in
    record {
      gaps = ap length c.build.ensures.keys ∙ count ∙ sym c.requires.gaps;
      keyed = record {
        keyed =
            subst (λ (ks : List Key). AreKeyed c.args.self.now.places c.args.self.now.entries ks)
            (sym c.build.ensures.keys)
            (numbered-all _ _ _ _ beside placed.different
            (subst (λ (n : ℕ). AreBelow n c.args.self.now.places) (sym count) placed.below) (omega arith) numbered);
        ready = c.build.ensures.ready;
      };
    }
