use Rattle.std.proofs.Common.{◌≡◌, ◌∙◌, refl, sym}
use Rattle.massif_cull.specs.declared.snapshot.Taken.TheVariants.{No, Normal, Detailed, Peak}
use Rattle.massif_cull.specs.ArrayState.{IsSound}
use Rattle.massif_cull.specs.TakenAs.{taken_as}
use Rattle.massif_cull.proofs.Standing.{stands-push}
use Rattle.massif_cull.proofs.Origins.{come-from}
use Rattle.massif_cull.proofs.Taking.{none-among, none-kept, none-loads, peak-held, takes-offer}
use Rattle.massif_cull.proofs.array.SnapArray.take.Goals as goal

pub returns-in-No-clause-takes : goal.returns-in-No-clause-takes
returns-in-No-clause-takes g c =
    let old = c.args.self.now in
    let sound : IsSound c.args.self.now = c.len-count.ensures.sound in
    let taken : No ≡ taken_as c.args.self.now.settings c.args.self.now.kept c.args.offer =
    sym c.in-No.is ∙ c.requires.judged in
    let kept = none-kept c.args.self.now c.args.offer sound taken in
    record {
      stands = λ offers stands. stands-push old old offers c.args.offer refl kept stands;
      settings = refl;
      kept = kept;
      loads = none-loads c.args.self.now c.args.offer c.args.load sound taken;
      origins = come-from old.kept.entries old.loads c.args.offer c.args.load _ _ _ sound.loads_beside
          (none-among old.kept.entries old.loads c.args.offer c.args.load _ c.in-No.is);
      last = c.requires.follows.in_order;
      below_max = sound.below_max;
    }

pub returns-in-Normal-clause-takes : goal.returns-in-Normal-clause-takes
returns-in-Normal-clause-takes g c =
    let takes = rw c.snapshot.ensures at c.take_normal.ensures.takes in
    let kept = rw c.snapshot.ensures at c.take_normal.ensures.kept in
    takes-offer _ _ c.args.offer c.args.load _ Normal c.len-count.ensures.sound c.in-Normal.is c.requires.judged kept
    takes

pub returns-in-Detailed-clause-takes : goal.returns-in-Detailed-clause-takes
returns-in-Detailed-clause-takes g c =
    let takes = rw c.snapshot-in-Detailed.ensures at c.take_normal-in-Detailed.ensures.takes in
    let kept = rw c.snapshot-in-Detailed.ensures at c.take_normal-in-Detailed.ensures.kept in
    takes-offer _ _ c.args.offer c.args.load _ Detailed c.len-count.ensures.sound c.in-Detailed.is c.requires.judged
    kept takes

pub returns-in-Peak-clause-takes : goal.returns-in-Peak-clause-takes
returns-in-Peak-clause-takes g c =
    let old = c.args.self.now in
    let sound : IsSound c.args.self.now = c.len-count.ensures.sound in
    let takes = rw c.snapshot-in-Peak.ensures at c.take_peak.ensures.takes in
    let held =
    peak-held old.settings old.kept _ c.snapshot-in-Peak.result sound.normals_below c.take_peak.ensures.kept in
    let kept = rw c.snapshot-in-Peak.ensures at held in
    takes-offer old _ c.args.offer c.args.load _ Peak sound c.in-Peak.is c.requires.judged kept takes
