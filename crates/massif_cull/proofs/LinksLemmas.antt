-- What the fields of links say of their places, before and after a call.
use Rattle.std.proofs.Common.{◌≡◌, ◌≢◌, ℕ, ◌+◌, ◌-◌, ◌<◌, ◌≤◌, Bool, cond, eqb, List, [], ◌∷◌, ◌++◌, length, set}
use Rattle.std.proofs.Common.{get_or, inl, inr, sym, ap, subst, ◌∙◌, add-one, arith}
use Rattle.std.specs.Prelude.{slice_get, slice_index, remove, Contains, Option, Some, None, IfSome, vec_capacity}
use Rattle.std.specs.Option.{option_to_list}
use Rattle.std.proofs.lemmas.Bool.{cases_Bool}
use Rattle.std.proofs.lemmas.Bool.Decides.{nat_tests}
use Rattle.std.proofs.lemmas.List.{get_or_default, length-set, length_push}
use Rattle.std.proofs.lemmas.List.Edits.{length-remove}
use Rattle.std.proofs.lemmas.Option.{slice_get_within}
use Rattle.massif_cull.specs.declared.links.Links.TheInside.{Inside}
use Rattle.massif_cull.specs.Linked.{walk, unless_end, EachOf, IsOutside, AreBelow, AreDifferent, AreLinked}
use Rattle.massif_cull.specs.Linked.{links_of, IsLinked}
use Rattle.massif_cull.specs.LinksState.{IsNext, IsPrevious}
use Rattle.massif_cull.proofs.Linking.{each-left, each-right, each-at, each-weaker, each-given, each-returned}
use Rattle.massif_cull.proofs.Linking.{contained-at, different-left, different-pop, different-given, different-returned}
use Rattle.massif_cull.proofs.Linking.{length-walk, walk-is, next-at, prev-at, prev-front, last-at, prev-holds}
use Rattle.massif_cull.proofs.Linking.{next-holds, last-holds, linked-remove, linked-push}

-- the places in their order
abbrev pub places_of : Inside → List ℕ
places_of links = (links_of links).places

-- each is below the number, which stands for the ends
pub places-below : (links : Inside) → IsLinked links → AreBelow links.max (places_of links)
places-below links is = each-left (λ p. p < links.max) (places_of links) links.free.items is.below

-- and none is that number
pub end-outside : (links : Inside) → IsLinked links → IsOutside links.max (places_of links)
end-outside links is =
    each-weaker (λ p. p < links.max) (λ p. links.max ≢ p) (places_of links) (λ p less e. omega arith)
    (places-below links is)

pub places-different : (links : Inside) → IsLinked links → AreDifferent (places_of links)
places-different links is = different-left (places_of links) links.free.items is.different

pub places-count : (links : Inside) → IsLinked links → length (places_of links) + length links.free.items ≡ links.max
places-count links is =
    let count =
    length-walk links.next.items (links.max - length links.free.items) (slice_index links.next.items links.max) in
    omega (arith, is.free_most)

-- a place of the list is below the number
pub contained-below : (links : Inside) (place : ℕ) → IsLinked links → Contains (places_of links) place
    → place < links.max
contained-below links place is held =
    let at = contained-at (places_of links) place held in
    each-at (λ p. p < links.max) (places_of links) at.0 place at.1 (places-below links is)

-- what is read is the number there
pub read-link : (xs : List ℕ) (i x : ℕ) → i < length xs → x ≡ get_or xs i x → x ≡ slice_index xs i
read-link xs i x inside e = e ∙ get_or_default xs i x 0 inside

-- a place that is at most the end is below it, where it is one
pub unless_end-below : (end p : ℕ) (o : Option ℕ) → o ≡ unless_end end p → p ≤ end → IfSome o (λ q. q < end)
unless_end-below end p o is most =
    subst (λ (r : Option ℕ). IfSome r (λ q. q < end)) (sym is)
    (elim (cases_Bool (eqb p end)) [
      | inl same ↦ subst (λ (b : Bool). IfSome (cond b None (Some p)) (λ q. q < end)) (sym same) tt
      | inr apart ↦
          let less : p < end = grind (arith, nat_tests) in
          subst (λ (b : Bool). IfSome (cond b None (Some p)) (λ q. q < end)) (sym apart) less
    ])

-- ---- what is read

-- what is read at a place of the list is the number there
read-at : (links : Inside) (xs : List ℕ) (place x : ℕ) → IsLinked links → Contains (places_of links) place
    → length xs ≡ links.max + 1 → x ≡ get_or xs place x → x ≡ slice_index xs place
read-at links xs place x is held long read =
    let inside = contained-below links place is held in
    read-link xs place x (omega arith) read

-- so it is a place or the end, where that is true of what stands there
beside-most : (links : Inside) (xs : List ℕ) (place x : ℕ) → IsLinked links → Contains (places_of links) place
    → length xs ≡ links.max + 1
    → ((k : ℕ) → slice_get (places_of links) k ≡ Some place → slice_index xs place ≤ links.max)
    → x ≡ get_or xs place x → x ≤ links.max
beside-most links xs place x is held long most read =
    let at = contained-at (places_of links) place held in
    subst (λ (n : ℕ). n ≤ links.max) (sym (read-at links xs place x is held long read)) (most at.0 at.1)

places-most : (links : Inside) → IsLinked links → EachOf (λ p. p ≤ links.max) (places_of links)
places-most links is =
    each-weaker (λ p. p < links.max) (λ p. p ≤ links.max) (places_of links) (λ p less. omega arith)
    (places-below links is)

-- the neighbours that are linked are places, or the end
pub before-most : (links : Inside) (place before : ℕ) → IsLinked links → Contains (places_of links) place
    → before ≡ get_or links.prev.items place before → before ≤ links.max
before-most links place before is held =
    beside-most links links.prev.items place before is held is.prev_length
    (λ k at. prev-holds (λ p. p ≤ links.max) links.next.items links.prev.items links.max (places_of links) links.max k
    place at is.linked (omega arith) (places-most links is))

pub after-most : (links : Inside) (place after : ℕ) → IsLinked links → Contains (places_of links) place
    → after ≡ get_or links.next.items place after → after ≤ links.max
after-most links place after is held =
    beside-most links links.next.items place after is held is.next_length
    (λ k at. next-holds (λ p. p ≤ links.max) links.next.items links.prev.items links.max (places_of links) links.max k
    place at is.linked (places-most links is) (omega arith))

pub last-most : (links : Inside) (before : ℕ) → IsLinked links → before ≡ get_or links.prev.items links.max before
    → before ≤ links.max
last-most links before is read =
    let same = read-link links.prev.items links.max before (omega (arith, is.prev_length)) read in
    let most =
    last-holds (λ p. p ≤ links.max) links.next.items links.prev.items links.max (places_of links) links.max is.linked
    (omega arith) (places-most links is) in
    omega arith

-- so both have links
pub before-linked : (links : Inside) (place before : ℕ) → IsLinked links → Contains (places_of links) place
    → before ≡ get_or links.prev.items place before → before < length links.next.items
before-linked links place before is held read =
    omega (arith, before-most links place before is held read, is.next_length)

pub after-linked : (links : Inside) (place after : ℕ) → IsLinked links → Contains (places_of links) place
    → after ≡ get_or links.next.items place after → after < length links.prev.items
after-linked links place after is held read =
    omega (arith, after-most links place after is held read, is.prev_length)

pub last-is : (links : Inside) (x : ℕ) (o : Option ℕ) → IsLinked links → x ≡ get_or links.prev.items links.max x
    → o ≡ unless_end links.max x → o ≡ slice_get (places_of links) (length (places_of links) - 1)
last-is links x o is read e =
    e
    ∙ ap (unless_end links.max) (read-link links.prev.items links.max x (omega (arith, is.prev_length)) read)
    ∙ last-at links.next.items links.prev.items (places_of links) links.max is.linked (places-below links is)

pub last-below : (links : Inside) (x : ℕ) (o : Option ℕ) → IsLinked links → x ≡ get_or links.prev.items links.max x
    → o ≡ unless_end links.max x → IfSome o (λ q. q < links.max)
last-below links x o is read e = unless_end-below links.max x o e (last-most links x is read)

-- what is answered of a place of the list, by what is read there
module _ (links : Inside) (place x : ℕ) (o : Option ℕ) (is : IsLinked links) (held : Contains (places_of links) place)
    (e : o ≡ unless_end links.max x) where
  pub next-is : x ≡ get_or links.next.items place x → IsNext (places_of links) place o
  next-is read k at =
      e ∙ ap (unless_end links.max) (read-at links links.next.items place x is held is.next_length read)
      ∙ next-at links.next.items links.prev.items links.max (places_of links) links.max k place at is.linked
      (places-below links is)
      ∙ ap (slice_get (places_of links)) (sym (add-one k))

  pub next-below : x ≡ get_or links.next.items place x → IfSome o (λ q. q < links.max)
  next-below read = unless_end-below links.max x o e (after-most links place x is held read)

  pub prev-is : x ≡ get_or links.prev.items place x → IsPrevious (places_of links) place o
  prev-is read k at =
      e ∙ ap (unless_end links.max) (read-at links links.prev.items place x is held is.prev_length read)
      ∙ prev-at links.next.items links.prev.items links.max (places_of links) links.max k place
      (ap (slice_get (places_of links)) (sym (add-one k)) ∙ at) is.linked (places-below links is)

  pub prev-is_front : x ≡ get_or links.prev.items place x → slice_get (places_of links) 0 ≡ Some place → o ≡ None
  prev-is_front read at =
      e ∙ ap (unless_end links.max) (read-at links links.prev.items place x is held is.prev_length read)
      ∙ prev-front links.next.items links.prev.items (places_of links) links.max place at is.linked

  pub prev-below : x ≡ get_or links.prev.items place x → IfSome o (λ q. q < links.max)
  prev-below read = unless_end-below links.max x o e (before-most links place x is held read)

-- ---- after a call

-- one more place at the end, which was free
pub record IsPushed (links new : Inside) (place before : ℕ) : Type 0 where
  pub same_max : new.max ≡ links.max
  pub was_free : links.free.items ≡ new.free.items ++ place ∷ []
  pub room : vec_capacity new.free ≡ vec_capacity links.free
  pub last : before ≡ get_or links.prev.items links.max before
  pub next : new.next.items ≡ set (set links.next.items before place) place links.max
  pub prev : new.prev.items ≡ set (set links.prev.items place before) links.max place

-- the one that is popped was the last free one
pub popped : (old rest : List ℕ) (o : Option ℕ) (place : ℕ) → old ≡ rest ++ option_to_list o → o ≡ Some place
    → old ≡ rest ++ place ∷ []
popped old rest o place e is = e ∙ ap (λ (p : Option ℕ). rest ++ option_to_list p) is

-- a free place is no place of the list, and is below the number
pub free-below : (links : Inside) (rest : List ℕ) (place : ℕ) → IsLinked links → links.free.items ≡ rest ++ place ∷ []
    → place < links.max
free-below links rest place is free =
    let P : ℕ → Type 0 = λ p. p < links.max in
    let low = subst (λ (f : List ℕ). AreBelow links.max (places_of links ++ f)) free is.below in
    (each-right P rest (place ∷ []) (each-right P (places_of links) (rest ++ place ∷ []) low)).0

free-outside : (links : Inside) (rest : List ℕ) (place : ℕ) → IsLinked links → links.free.items ≡ rest ++ place ∷ []
    → IsOutside place (places_of links)
free-outside links rest place is free =
    let both = subst (λ (f : List ℕ). AreDifferent (places_of links ++ f)) free is.different in
    (different-pop (places_of links) place
    (different-left (places_of links ++ place ∷ []) rest (different-given (places_of links) rest place both))).0

pushed-linked : (links new : Inside) (place before : ℕ) → IsLinked links → IsPushed links new place before
    → AreLinked new.next.items new.prev.items links.max (places_of links ++ place ∷ []) links.max
pushed-linked links new place before is done =
    let places = places_of links in
    let out = free-outside links new.free.items place is done.was_free in
    let below = free-below links new.free.items place is done.was_free in
    let inside =
    each-weaker (λ p. p < links.max) (λ p. p < length links.next.items) places
    (λ p less. omega (arith, is.next_length)) (places-below links is) in
    subst (λ (n : List ℕ). AreLinked n new.prev.items links.max (places ++ place ∷ []) links.max) (sym done.next)
    (subst (λ (p : List ℕ). AreLinked (set (set links.next.items before place) place links.max) p links.max
    (places ++ place ∷ []) links.max) (sym
    done.prev)
    (linked-push links.next.items links.prev.items links.max places links.max place before
    (read-link links.prev.items links.max before (omega (arith, is.prev_length)) done.last)
    ((λ e. omega (arith, below)), out)
    (λ e. omega (arith, below))
    (end-outside links is) (end-outside links is) (places-different links is)
    (omega (arith, is.next_length)) inside (omega (arith, is.next_length, below)) (omega (arith, is.prev_length))
    (omega (arith, is.prev_length, below)) is.linked))

-- the places are those that are linked
linked-are : (new : Inside) (max : ℕ) (places : List ℕ) → new.max ≡ max
    → AreLinked new.next.items new.prev.items max places max → length places + length new.free.items ≡ max
    → places_of new ≡ places
linked-are new max places same linked count =
    ap (λ (m : ℕ). walk new.next.items (m - length new.free.items) (slice_index new.next.items m)) same
    ∙ walk-is new.next.items new.prev.items max places max (max - length new.free.items) linked (omega arith)

pub pushed-places : (links new : Inside) (place before : ℕ) → IsLinked links → IsPushed links new place before
    → places_of new ≡ places_of links ++ place ∷ []
pushed-places links new place before is done =
    let count = places-count links is in
    let free = ap length done.was_free ∙ length_push new.free.items place in
    let more = length_push (places_of links) place in
    linked-are new links.max (places_of links ++ place ∷ []) done.same_max
    (pushed-linked links new place before is done) (omega arith)

-- what is true stays true
stays :
    (new : Inside) (max : ℕ) (places : List ℕ)
    → new.max ≡ max
    → places_of new ≡ places
    → AreLinked new.next.items new.prev.items max places max
    → AreDifferent (places ++ new.free.items)
    → AreBelow max (places ++ new.free.items)
    → length new.next.items ≡ max + 1
    → length new.prev.items ≡ max + 1
    → length new.free.items ≤ max
    → max ≤ vec_capacity new.free
    → IsLinked new
stays new max places same are linked different below next_length prev_length most room = record {
  next_length = next_length ∙ ap (λ (m : ℕ). m + 1) (sym same);
  prev_length = prev_length ∙ ap (λ (m : ℕ). m + 1) (sym same);
  free_most = omega arith;
  free_room = omega arith;
  linked = subst (λ (ps : List ℕ). AreLinked new.next.items new.prev.items new.max ps new.max) (sym are)
      (subst (λ (m : ℕ). AreLinked new.next.items new.prev.items m places m) (sym same) linked);
  different = subst (λ (ps : List ℕ). AreDifferent (ps ++ new.free.items)) (sym are) different;
  below =
      subst (λ (ps : List ℕ). AreBelow new.max (ps ++ new.free.items)) (sym are)
      (subst (λ (m : ℕ). AreBelow m (places ++ new.free.items)) (sym same) below);
}

pub pushed-stays : (links new : Inside) (place before : ℕ) → IsLinked links → IsPushed links new place before
    → IsLinked new
pushed-stays links new place before is done =
    let free = ap length done.was_free ∙ length_push new.free.items place in
    let low = subst (λ (free : List ℕ). AreBelow links.max (places_of links ++ free)) done.was_free is.below in
    let both = subst (λ (free : List ℕ). AreDifferent (places_of links ++ free)) done.was_free is.different in
    stays new links.max (places_of links ++ place ∷ []) done.same_max
    (pushed-places links new place before is done)
    (pushed-linked links new place before is done)
    (different-given (places_of links) new.free.items place both)
    (each-given (λ p. p < links.max) (places_of links) new.free.items place low)
    (ap length done.next ∙ length-set _ place links.max ∙ length-set links.next.items before place ∙ is.next_length)
    (ap length done.prev ∙ length-set _ links.max place ∙ length-set links.prev.items place before ∙ is.prev_length)
    (omega (arith, is.free_most))
    (omega (arith, is.free_room, done.room))

-- one place fewer, which becomes free
pub record IsUnlinked (links new : Inside) (place before after : ℕ) : Type 0 where
  pub same_max : new.max ≡ links.max
  pub is_free : new.free.items ≡ links.free.items ++ place ∷ []
  pub room : vec_capacity new.free ≡ vec_capacity links.free
  pub earlier : before ≡ get_or links.prev.items place before
  pub later : after ≡ get_or links.next.items place after
  pub next : new.next.items ≡ set links.next.items before after
  pub prev : new.prev.items ≡ set links.prev.items after before

unlinked-linked : (links new : Inside) (place before after k : ℕ) → IsLinked links
    → IsUnlinked links new place before after → slice_get (places_of links) k ≡ Some place
    → AreLinked new.next.items new.prev.items links.max (remove (places_of links) k) links.max
unlinked-linked links new place before after k is done at =
    let places = places_of links in
    let place_below : place < links.max = each-at (λ p. p < links.max) places k place at (places-below links is) in
    let in_next =
    each-weaker (λ p. p < links.max) (λ p. p < length links.next.items) places
    (λ p less. omega (arith, is.next_length)) (places-below links is) in
    let in_prev =
    each-weaker (λ p. p < links.max) (λ p. p < length links.prev.items) places
    (λ p less. omega (arith, is.prev_length)) (places-below links is) in
    subst (λ (n : List ℕ). AreLinked n new.prev.items links.max (remove places k) links.max) (sym done.next)
    (subst (λ (p : List ℕ). AreLinked (set links.next.items before after) p links.max (remove places k) links.max)
    (sym done.prev)
    (linked-remove links.next.items links.prev.items links.max places links.max k place before after at
    (read-link links.prev.items place before (omega (arith, is.prev_length)) done.earlier)
    (read-link links.next.items place after (omega (arith, is.next_length)) done.later)
    (end-outside links is) (end-outside links is) (places-different links is)
    (omega (arith, is.next_length)) in_next (omega (arith, is.prev_length)) in_prev is.linked))

pub unlinked-places : (links new : Inside) (place before after k : ℕ) → IsLinked links
    → IsUnlinked links new place before after → slice_get (places_of links) k ≡ Some place
    → places_of new ≡ remove (places_of links) k
unlinked-places links new place before after k is done at =
    let count = places-count links is in
    let free = ap length done.is_free ∙ length_push links.free.items place in
    let fewer = length-remove (places_of links) k (slice_get_within (places_of links) k place at) in
    linked-are new links.max (remove (places_of links) k) done.same_max
    (unlinked-linked links new place before after k is done at) (omega arith)

pub unlinked-stays : (links new : Inside) (place before after : ℕ) → IsLinked links
    → IsUnlinked links new place before after → Contains (places_of links) place → IsLinked new
unlinked-stays links new place before after is done held =
    let found = contained-at (places_of links) place held in
    let k = found.0 in
    let at = found.1 in
    let count = places-count links is in
    let within = slice_get_within (places_of links) k place at in
    let free = ap length done.is_free ∙ length_push links.free.items place in
    stays new links.max (remove (places_of links) k) done.same_max
    (unlinked-places links new place before after k is done at)
    (unlinked-linked links new place before after k is done at)
    (subst (λ (f : List ℕ). AreDifferent (remove (places_of links) k ++ f)) (sym done.is_free)
    (different-returned (places_of links) links.free.items k place at is.different))
    (subst (λ (f : List ℕ). AreBelow links.max (remove (places_of links) k ++ f)) (sym done.is_free)
    (each-returned (λ p. p < links.max) (places_of links) links.free.items k place at is.below))
    (ap length done.next ∙ length-set links.next.items before after ∙ is.next_length)
    (ap length done.prev ∙ length-set links.prev.items after before ∙ is.prev_length)
    (omega arith)
    (omega (arith, is.free_room, done.room))
