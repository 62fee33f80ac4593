use Rattle.std.proofs.Common.{refl, ap, set, sym, ◌∙◌}
use Rattle.std.specs.Option.{option_map}
use Rattle.std.specs.Vec.{with_item}
use Rattle.massif_cull.specs.declared.linked.LinkedSnaps.TheInside.{Inside}
use Rattle.massif_cull.specs.Held.{ended}
use Rattle.massif_cull.proofs.SnapsLemmas.{IsEnded, ended-entries, ended-loads, ended-stays, place-inside, slot-there}
use Rattle.massif_cull.proofs.linked.LinkedSnaps.end_peak.Goals as goal
use Rattle.massif_cull.proofs.linked.LinkedSnaps.end_peak.Given.{Over}
use Rattle.massif_cull.proofs.linked.LinkedSnaps.end_peak.Goals.{After-self-1}

-- the fields afterwards
after : (g : Over) → After-self-1 g → Inside g.row.T.Denot
after g c =
    record {
      links = c.self.inside.links;
      slots = with_item c.self.inside.slots c.in-Some.snap_at.place c.end_peak_at.new.slot;
    }

-- what has become of them
done : (g : Over) (c : After-self-1 g)
    → IsEnded c.self.inside (after g c) c.in-Some.snap_at.index c.in-Some.snap_at.place
unfolding after
done g c =
    let here = rw (← c.self.view_is) at c.in-Some.ensures.snap_at in
    let others = rw (← c.self.view_is) at c.in-Some.ensures.others in
    record {
      links = refl;
      at = here;
      others = others;
      slots = ap (set c.self.inside.slots.items c.in-Some.snap_at.place)
          (c.end_peak_at.ensures
          ∙ ap (option_map ended)
          (sym (slot-there _ _ _ (place-inside c.self.inside _ _ c.self.invariant here) c.index_mut.ensures.value)));
    }

pub invariant_of-self : goal.invariant_of-self
unfolding after
invariant_of-self g c = ended-stays c.self.inside (after g c) _ _ c.self.invariant (done g c)

pub returns-clause-entries : goal.returns-clause-entries
unfolding after
returns-clause-entries g c =
    rw (← c.self.view_is) (ended-entries c.self.inside (after g c) _ _ c.self.invariant (done g c))

pub returns-clause-loads : goal.returns-clause-loads
unfolding after
returns-clause-loads g c = rw (← c.self.view_is) (ended-loads c.self.inside (after g c) _ _ c.self.invariant (done g c))
