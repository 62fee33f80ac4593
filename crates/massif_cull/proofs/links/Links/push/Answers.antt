use Rattle.std.proofs.Common.{◌≡◌, ◌∙◌, List, ℕ, [], ◌∷◌, ◌++◌, length, set, ap, refl, arith}
use Rattle.std.proofs.lemmas.List.{length-set}
use Rattle.massif_cull.specs.declared.links.Links.TheInside.{Inside}
use Rattle.massif_cull.specs.LinksState.{LinksState}
use Rattle.massif_cull.proofs.LinksLemmas.{IsPushed, popped, free-below, last-most, places-count, places-different}
use Rattle.massif_cull.proofs.LinksLemmas.{pushed-places, pushed-stays}
use Rattle.massif_cull.proofs.links.Links.push.Goals as goal
use Rattle.massif_cull.proofs.links.Links.push.Goals.{After-link-2}

-- the fields afterwards
after : After-link-2 → Inside
after c = record { max = c.self.inside.max; next = c.link-2.new.next; prev = c.link-2.new.prev; free = c.pop.new.self }

-- what has become of them
done : (c : After-link-2) → IsPushed c.self.inside (after c) c.unwrap-place.result c.index-last.result.now
unfolding after
done c = record {
  same_max = refl;
  was_free = popped _ _ _ _ c.pop.ensures.items c.unwrap-place.ensures;
  room = c.pop.ensures.capacity;
  last = c.index-last.ensures;
  next =
      c.link-2.ensures.next ∙ ap (λ (xs : List ℕ). set xs c.unwrap-place.result c.self.inside.max) c.link.ensures.next;
  prev =
      c.link-2.ensures.prev ∙ ap (λ (xs : List ℕ). set xs c.self.inside.max c.unwrap-place.result) c.link.ensures.prev;
}

pub unwrap-place-requires : goal.unwrap-place-requires
unwrap-place-requires c =
    let few = rw (← c.self.view_is) at c.requires in
    let count = places-count c.self.inside c.self.invariant in
    c.pop.ensures.variant.1 (omega (arith, few, count, c.self.inside.free.ok.0))

pub link-requires-clause-before : goal.link-requires-clause-before
link-requires-clause-before c =
    omega (arith, last-most c.self.inside _ c.self.invariant c.index-last.ensures, c.self.invariant.next_length)

pub link-requires-clause-after : goal.link-requires-clause-after
link-requires-clause-after c =
    omega (
      arith,
      free-below c.self.inside _ _ c.self.invariant (popped _ _ _ _ c.pop.ensures.items c.unwrap-place.ensures),
      c.self.invariant.prev_length,
    )

pub link-requires-2-clause-before : goal.link-requires-2-clause-before
link-requires-2-clause-before c =
    let below =
    free-below c.self.inside _ _ c.self.invariant (popped _ _ _ _ c.pop.ensures.items c.unwrap-place.ensures) in
    let long : length c.link.new.next.items ≡ length c.self.inside.next.items =
    ap length c.link.ensures.next ∙ length-set _ _ _ in
    omega (arith, below, c.self.invariant.next_length)

pub invariant_of-self : goal.invariant_of-self
unfolding after
invariant_of-self c = pushed-stays c.self.inside (after c) _ _ c.self.invariant (done c)

pub returns-clause-appended : goal.returns-clause-appended
unfolding after
returns-clause-appended c =
    pushed-places c.self.inside (after c) _ _ c.self.invariant (done c)
    ∙ ap (λ (state : LinksState). state.places ++ c.unwrap-place.result ∷ []) c.self.view_is

pub returns-clause-below : goal.returns-clause-below
returns-clause-below c =
    rw (← c.self.view_is)
    (free-below c.self.inside _ _ c.self.invariant (popped _ _ _ _ c.pop.ensures.items c.unwrap-place.ensures))

pub returns-clause-different : goal.returns-clause-different
unfolding after
returns-clause-different c =
    places-different (after c) (pushed-stays c.self.inside (after c) _ _ c.self.invariant (done c))
