use Rattle.std.proofs.Common.{◌∙◌, ap, refl}
use Rattle.std.specs.Prelude.{remove}
use Rattle.massif_cull.specs.declared.links.Links.TheInside.{Inside}
use Rattle.massif_cull.specs.LinksState.{LinksState}
use Rattle.massif_cull.proofs.LinksLemmas.{IsUnlinked, before-linked, after-linked, unlinked-places, unlinked-stays}
use Rattle.massif_cull.proofs.LinksLemmas.{places-different}
use Rattle.massif_cull.proofs.links.Links.unlink.Goals as goal
use Rattle.massif_cull.proofs.links.Links.unlink.Goals.{After-push_reserved}

-- the fields afterwards
after : After-push_reserved → Inside
after c =
    record { max = c.self.inside.max; next = c.link.new.next; prev = c.link.new.prev; free = c.push_reserved.new.self }

-- what has become of them
done : (c : After-push_reserved)
    → IsUnlinked c.self.inside (after c) c.args.place c.index-before.result.now c.index-after.result.now
unfolding after
done c = record {
  same_max = refl;
  is_free = c.push_reserved.ensures.items;
  room = c.push_reserved.ensures.capacity;
  earlier = c.index-before.ensures;
  later = c.index-after.ensures;
  next = c.link.ensures.next;
  prev = c.link.ensures.prev;
}

pub link-requires-clause-before : goal.link-requires-clause-before
link-requires-clause-before c =
    let held = rw (← c.self.view_is) at c.requires in
    before-linked c.self.inside c.args.place _ c.self.invariant held c.index-before.ensures

pub link-requires-clause-after : goal.link-requires-clause-after
link-requires-clause-after c =
    let held = rw (← c.self.view_is) at c.requires in
    after-linked c.self.inside c.args.place _ c.self.invariant held c.index-after.ensures

pub invariant_of-self : goal.invariant_of-self
unfolding after
invariant_of-self c =
    let held = rw (← c.self.view_is) at c.requires in
    unlinked-stays c.self.inside (after c) _ _ _ c.self.invariant (done c) held

pub returns-clause-removed : goal.returns-clause-removed
unfolding after
returns-clause-removed c k at =
    let here = rw (← c.self.view_is) at at in
    unlinked-places c.self.inside (after c) _ _ _ k c.self.invariant (done c) here
    ∙ ap (λ (state : LinksState). remove state.places k) c.self.view_is

pub returns-clause-different : goal.returns-clause-different
unfolding after
returns-clause-different c =
    let held = rw (← c.self.view_is) at c.requires in
    places-different (after c) (unlinked-stays c.self.inside (after c) _ _ _ c.self.invariant (done c) held)
