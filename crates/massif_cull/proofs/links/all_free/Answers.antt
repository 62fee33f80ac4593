use Rattle.std.proofs.Common.{◌≢◌, ◌-◌, ◌<◌, ◌≤◌, [], ◌∷◌, length, ℕ, ap, subst, sym, arith}
use Rattle.std.proofs.lemmas.List.{length_push}
use Rattle.massif_cull.specs.Linked.{EachOf, AreBelow, AreDifferent}
use Rattle.massif_cull.proofs.Linking.{each-append, each-weaker, different-push}
use Rattle.massif_cull.proofs.links.all_free.Goals as goal

pub places-init : goal.places-init
places-init c =
    let none = c.in_ok-free.ensures.items in
    record {
      count = omega (arith, ap length none);
      different = subst AreDifferent (sym none) tt;
      from = subst (EachOf (λ place. c.args.max ≤ place)) (sym none) tt;
      below = subst (AreBelow c.args.max) (sym none) tt;
      room = omega (arith, c.in_ok-free.ensures.capacity);
    }

pub push_reserved-requires : goal.push_reserved-requires
push_reserved-requires c = omega (arith, c.places.invariant.count, c.places.invariant.room, c.places.free.ok.0)

pub places-preserved : goal.places-preserved
places-preserved c =
    let so_far = c.places.invariant in
    let free = c.places.free.items in
    let pushed = c.push_reserved.ensures.items in
    let place : ℕ = c.places.place - 1 in
    let apart = each-weaker (λ p. c.places.place ≤ p) (λ p. place ≢ p) free (λ p least e. omega arith) so_far.from in
    let from =
    each-append (λ p. place ≤ p) free (place ∷ [])
    (each-weaker (λ p. c.places.place ≤ p) (λ p. place ≤ p) free (λ p least. omega arith) so_far.from)
    (omega arith, tt) in
    let below = each-append (λ p. p < c.args.max) free (place ∷ []) so_far.below (omega (arith, so_far.count), tt) in
    record {
      count = omega (arith, ap length pushed, length_push free place, so_far.count);
      different = subst AreDifferent (sym pushed) (different-push free place apart so_far.different);
      from = subst (EachOf (λ p. place ≤ p)) (sym pushed) from;
      below = subst (AreBelow c.args.max) (sym pushed) below;
      room = omega (arith, so_far.room, c.push_reserved.ensures.capacity);
    }

pub returns-clause-length : goal.returns-clause-length
returns-clause-length c = omega (arith, c.places.invariant.count)

pub returns-clause-different : goal.returns-clause-different
returns-clause-different c = c.places.invariant.different

pub returns-clause-below : goal.returns-clause-below
returns-clause-below c = c.places.invariant.below
