use Rattle.std.proofs.Common.{◌≡◌, ◌∙◌, ℕ, Option, ap, subst, sym, set, arith}
use Rattle.std.specs.Prelude.{slice_get, IsSome, Some}
use Rattle.std.specs.Vec.{with_item}
use Rattle.massif_cull.specs.declared.linked.Held.{Held}
use Rattle.massif_cull.specs.declared.linked.LinkedSnaps.TheInside.{Inside}
use Rattle.massif_cull.specs.Held.{held_at}
use Rattle.massif_cull.proofs.Linking.{contained-at, each-at}
use Rattle.massif_cull.proofs.SnapsLemmas.{IsShrunk, place-inside, slot-there, holds-at, shrunk-entries}
use Rattle.massif_cull.proofs.SnapsLemmas.{shrunk-loads, shrunk-stays}
use Rattle.massif_cull.proofs.linked.LinkedSnaps.take_out.Goals as goal
use Rattle.massif_cull.proofs.linked.LinkedSnaps.take_out.Given.{Over}
use Rattle.massif_cull.proofs.linked.LinkedSnaps.take_out.Goals.{After-unwrap}

-- the fields afterwards
after : (g : Over) → After-unwrap g → Inside g.row.T.Denot
after g c = record { links = c.unlink.new.self; slots = with_item c.self.inside.slots c.args.place c.take.new.self }

-- what has become of them
done : (g : Over) (c : After-unwrap g) (k : ℕ) → slice_get c.self.inside.links.places k ≡ Some c.args.place
    → IsShrunk c.self.inside (after g c) k c.args.place
unfolding after
done g c k here = record {
  same_max = c.unlink.ensures.max;
  at = here;
  places = c.unlink.ensures.removed _ here;
  different = c.unlink.ensures.different;
  slots = ap (set c.self.inside.slots.items c.args.place) c.take.ensures.after;
}

pub unlink-requires : goal.unlink-requires
unlink-requires g c = rw (← c.self.view_is) at c.requires

pub index_mut-requires : goal.index_mut-requires
index_mut-requires g c =
    let held = rw (← c.self.view_is) at c.requires in
    omega (arith, place-inside c.self.inside _ _ c.self.invariant (contained-at _ _ held).1, c.self.inside.slots.ok.0)

pub unwrap-requires : goal.unwrap-requires
unwrap-requires g c =
    let held = rw (← c.self.view_is) at c.requires in
    let found = contained-at _ _ held in
    let there =
    slot-there _ _ _ (place-inside c.self.inside _ _ c.self.invariant found.1) c.index_mut.ensures.value
    ∙ sym c.take.ensures.value in
    subst (λ (o : Option (Held g.row.T.Denot)). IsSome o) there
    (each-at (λ place. IsSome (held_at c.self.inside.slots.items place)) c.self.inside.links.places found.0 c.args.place
    found.1 c.self.invariant.each)

pub invariant_of-self : goal.invariant_of-self
unfolding after
invariant_of-self g c =
    let held = rw (← c.self.view_is) at c.requires in
    let found = contained-at _ _ held in
    shrunk-stays c.self.inside (after g c) _ _ c.self.invariant (done g c found.0 found.1)

pub returns-clause-removes : goal.returns-clause-removes
unfolding after
returns-clause-removes g c k at =
    let here = rw (← c.self.view_is) at at in
    let shrunk = done g c k here in
    record {
      max = rw (← c.self.view_is) shrunk.same_max;
      places = rw (← c.self.view_is) shrunk.places;
      entries = rw (← c.self.view_is) (shrunk-entries c.self.inside (after g c) _ _ c.self.invariant shrunk);
      loads = rw (← c.self.view_is) (shrunk-loads c.self.inside (after g c) _ _ c.self.invariant shrunk);
    }

pub returns-clause-held : goal.returns-clause-held
returns-clause-held g c k at =
    let here = rw (← c.self.view_is) at at in
    let there =
    slot-there _ _ _ (place-inside c.self.inside _ _ c.self.invariant here) c.index_mut.ensures.value
    ∙ sym c.take.ensures.value ∙ c.unwrap.ensures in
    rw (← c.self.view_is) (holds-at c.self.inside _ _ _ c.self.invariant here there)
