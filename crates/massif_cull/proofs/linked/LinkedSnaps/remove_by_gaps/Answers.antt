use Rattle.std.proofs.Common.{◌∙◌, arith}
use Rattle.massif_cull.proofs.Equals.{left-same}
use Rattle.massif_cull.proofs.Removals.{left-at_end, left-at_more, left-long}
use Rattle.massif_cull.proofs.linked.LinkedSnaps.remove_by_gaps.Goals as goal

pub each_removal-init : goal.each_removal-init
each_removal-init g c = record {
  left = left-same _ _ _ _ _ _ (omega arith) c.remove_equals-left.ensures.left;
  max = c.remove_equals-left.ensures.max;
  keys = c.note.ensures.gaps ∙ c.requires.room.keys;
  keyed = c.note.ensures.keyed;
}

pub remove_next-requires-clause-long : goal.remove_next-requires-clause-long
remove_next-requires-clause-long g c =
    left-long _ _ _ _ _ c.requires.room.long (omega arith) c.each_removal.invariant.left

pub remove_next-requires-clause-sound : goal.remove_next-requires-clause-sound
remove_next-requires-clause-sound g c = c.each_removal.invariant.left.sound

pub each_removal-preserved : goal.each_removal-preserved
each_removal-preserved g c =
    let so_far = c.each_removal.invariant in
    let removed = c.remove_next.ensures.removed in
    record {
      left =
          left-at_more _ _ _ _ _ _ _ _ _ (omega arith) removed.goes removed.inside removed.entries removed.loads
          so_far.left;
      max = removed.max ∙ so_far.max;
      keys = c.remove_next.ensures.gaps ∙ so_far.keys;
      keyed = c.remove_next.ensures.keyed;
    }

pub returns-clause-left : goal.returns-clause-left
returns-clause-left g c = left-at_end _ _ _ _ _ (omega arith) c.each_removal.invariant.left
