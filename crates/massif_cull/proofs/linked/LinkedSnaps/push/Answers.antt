use Rattle.std.proofs.Common.{refl, arith}
use Rattle.std.specs.Prelude.{Some}
use Rattle.std.specs.Vec.{with_item}
use Rattle.massif_cull.specs.declared.linked.LinkedSnaps.TheInside.{Inside}
use Rattle.massif_cull.proofs.SnapsLemmas.{IsGrown, entries-beside, grown-entries, grown-loads, grown-stays}
use Rattle.massif_cull.proofs.linked.LinkedSnaps.push.Goals as goal
use Rattle.massif_cull.proofs.linked.LinkedSnaps.push.Given.{Over}
use Rattle.massif_cull.proofs.linked.LinkedSnaps.push.Goals.{Joined-index_mut}

-- the fields afterwards
after : (g : Over) → Joined-index_mut g → Inside g.row.T.Denot
after g c =
    record {
      links = c.push-place.new.self;
      slots =
          with_item c.self.inside.slots c.push-place.result
          (Some (record { entry = c.args.entry; load = c.args.load }));
    }

-- what has become of them
done : (g : Over) (c : Joined-index_mut g)
    → IsGrown c.self.inside (after g c) c.push-place.result (record { entry = c.args.entry; load = c.args.load })
unfolding after
done g c =
    let room = rw (← c.self.view_is) at c.requires in
    record {
      same_max = c.push-place.ensures.max;
      places = c.push-place.ensures.appended;
      different = c.push-place.ensures.different;
      below = c.push-place.ensures.below;
      room = omega (arith, room, entries-beside c.self.inside c.self.invariant);
      slots = refl;
    }

pub push-place-requires : goal.push-place-requires
push-place-requires g c =
    let room = rw (← c.self.view_is) at c.requires in
    omega (arith, room, entries-beside c.self.inside c.self.invariant)

pub invariant_of-self : goal.invariant_of-self
unfolding after
invariant_of-self g c = grown-stays c.self.inside (after g c) _ _ c.self.invariant (done g c)

pub returns-clause-entries : goal.returns-clause-entries
unfolding after
returns-clause-entries g c =
    rw (← c.self.view_is) (grown-entries c.self.inside (after g c) _ _ c.self.invariant (done g c))

pub returns-clause-loads : goal.returns-clause-loads
unfolding after
returns-clause-loads g c = rw (← c.self.view_is) (grown-loads c.self.inside (after g c) _ _ c.self.invariant (done g c))
