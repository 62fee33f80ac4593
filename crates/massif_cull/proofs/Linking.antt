-- Linked places: which they are, the neighbours of each, and what is left of them after one comes or goes.
use Rattle.std.proofs.Common.{◌≡◌, ◌≢◌, ℕ, ◌-◌, ◌<◌, zero, suc, Bool, cond, eqb, List, [], ◌∷◌, ◌++◌, length, set, inl}
use Rattle.std.proofs.Common.{inr, refl, sym, ap, subst, ◌∙◌, append_assoc, arith, eq-eqb}
use Rattle.std.specs.Prelude.{slice_get, slice_index, remove, Contains, Some, None}
use Rattle.std.proofs.lemmas.Bool.{cases_Bool}
use Rattle.std.proofs.lemmas.Bool.Decides.{nat_tests}
use Rattle.std.proofs.lemmas.List.{get_or-set_same, get_or-set_other, length-set}
use Rattle.std.proofs.lemmas.Option.{same_Some, slice_get-get_or}
use Rattle.massif_cull.specs.Linked.{walk, unless_end, EachOf, IsOutside, AreBelow, AreDifferent, AreLinked}

-- ---- lists

-- what is true of each is true of each of a part
pub each-left : (P : ℕ → Type 0) (xs ys : List ℕ) → EachOf P (xs ++ ys) → EachOf P xs
each-left P [] ys h = tt
each-left P (x ∷ xs) ys h = (h.0, each-left P xs ys h.1)

pub each-right : (P : ℕ → Type 0) (xs ys : List ℕ) → EachOf P (xs ++ ys) → EachOf P ys
each-right P [] ys h = h
each-right P (x ∷ xs) ys h = each-right P xs ys h.1

pub each-append : (P : ℕ → Type 0) (xs ys : List ℕ) → EachOf P xs → EachOf P ys → EachOf P (xs ++ ys)
each-append P [] ys h k = k
each-append P (x ∷ xs) ys h k = (h.0, each-append P xs ys h.1 k)

-- and of one of them
pub each-at : (P : ℕ → Type 0) (xs : List ℕ) (k p : ℕ) → slice_get xs k ≡ Some p → EachOf P xs → P p
each-at P [] k p e h = absurd cc
each-at P (x ∷ xs) zero p e h = subst P (same_Some x p e) h.0
each-at P (x ∷ xs) (suc k) p e h = each-at P xs k p e h.1

pub each-remove : (P : ℕ → Type 0) (xs : List ℕ) (k : ℕ) → EachOf P xs → EachOf P (remove xs k)
each-remove P [] zero h = tt
each-remove P [] (suc k) h = tt
each-remove P (x ∷ xs) zero h = h.1
each-remove P (x ∷ xs) (suc k) h = (h.0, each-remove P xs k h.1)

-- what is true of whichever stands there is true of each
pub each-from : (P : ℕ → Type 0) (xs : List ℕ) → ((k p : ℕ) → slice_get xs k ≡ Some p → P p) → EachOf P xs
each-from P [] f = tt
each-from P (x ∷ xs) f = (f 0 x refl, each-from P xs (λ k p at. f (suc k) p at))

-- other ones are the same after what is the same of each
pub each-weaker : (P Q : ℕ → Type 0) (xs : List ℕ) → ((x : ℕ) → P x → Q x) → EachOf P xs → EachOf Q xs
each-weaker P Q [] f h = tt
each-weaker P Q (x ∷ xs) f h = (f x h.0, each-weaker P Q xs f h.1)

-- a list that contains a place has it somewhere
pub contained-at : (xs : List ℕ) (p : ℕ) → Contains xs p → (k : ℕ) × (slice_get xs k ≡ Some p)
contained-at xs p h = (h.0, slice_get-get_or xs h.0 p h.1 ∙ ap Some h.2)

-- ---- different places

pub different-left : (xs ys : List ℕ) → AreDifferent (xs ++ ys) → AreDifferent xs
different-left [] ys h = tt
different-left (x ∷ xs) ys h = (each-left (λ y. x ≢ y) xs ys h.0, different-left xs ys h.1)

-- different indices have different places
pub apart-at : (xs : List ℕ) (i j p q : ℕ) → AreDifferent xs → slice_get xs i ≡ Some p → slice_get xs j ≡ Some q
    → (i ≡ j → ⊥) → p ≢ q
apart-at [] i j p q different here there ne = absurd cc
apart-at (x ∷ xs) zero zero p q different here there ne = absurd (ne refl)
apart-at (x ∷ xs) zero (suc j) p q different here there ne =
    λ e. each-at (λ y. x ≢ y) xs j q there different.0 (same_Some x p here ∙ e)
apart-at (x ∷ xs) (suc i) zero p q different here there ne =
    λ e. each-at (λ y. x ≢ y) xs i p here different.0 (same_Some x q there ∙ sym e)
apart-at (x ∷ xs) (suc i) (suc j) p q different here there ne =
    apart-at xs i j p q different.1 here there (λ e. ne (ap suc e))

-- one more at the end
pub different-push : (xs : List ℕ) (p : ℕ) → IsOutside p xs → AreDifferent xs → AreDifferent (xs ++ p ∷ [])
different-push [] p out h = (tt, tt)
different-push (x ∷ xs) p out h =
    (each-append (λ y. x ≢ y) xs (p ∷ []) h.0 ((λ e. out.0 (sym e)), tt), different-push xs p out.1 h.1)

-- the last comes to the front
pub different-pop : (xs : List ℕ) (p : ℕ) → AreDifferent (xs ++ p ∷ []) → AreDifferent (p ∷ xs)
different-pop [] p h = (tt, tt)
different-pop (x ∷ xs) p h =
    let rest = different-pop xs p h.1 in
    let apart : p ≢ x = λ e. (each-right (λ y. x ≢ y) xs (p ∷ []) h.0).0 (sym e) in
    ((apart, rest.0), (each-left (λ y. x ≢ y) xs (p ∷ []) h.0, rest.1))

-- the last of the second list goes to the first one
pub different-given : (xs ys : List ℕ) (p : ℕ) → AreDifferent (xs ++ (ys ++ p ∷ []))
    → AreDifferent ((xs ++ p ∷ []) ++ ys)
different-given [] ys p h = different-pop ys p h
different-given (x ∷ xs) ys p h =
    let P : ℕ → Type 0 = λ y. x ≢ y in
    let others = each-right P xs (ys ++ p ∷ []) h.0 in
    let first = each-append P xs (p ∷ []) (each-left P xs (ys ++ p ∷ []) h.0) (each-right P ys (p ∷ []) others) in
    (each-append P (xs ++ p ∷ []) ys first (each-left P ys (p ∷ []) others), different-given xs ys p h.1)

-- one of the first list goes to the end of the second one
pub different-returned : (xs ys : List ℕ) (k p : ℕ) → slice_get xs k ≡ Some p → AreDifferent (xs ++ ys)
    → AreDifferent (remove xs k ++ (ys ++ p ∷ []))
different-returned [] ys k p e h = absurd cc
different-returned (x ∷ xs) ys zero p e h =
    let same : x ≡ p = same_Some x p e in
    subst AreDifferent (append_assoc xs ys (p ∷ []))
    (different-push (xs ++ ys) p (subst (λ (q : ℕ). IsOutside q (xs ++ ys)) same h.0) h.1)
different-returned (x ∷ xs) ys (suc k) p e h =
    let P : ℕ → Type 0 = λ y. x ≢ y in
    let out : IsOutside x xs = each-left P xs ys h.0 in
    let others = each-append P ys (p ∷ []) (each-right P xs ys h.0) (each-at P xs k p e out, tt) in
    (each-append P (remove xs k) (ys ++ p ∷ []) (each-remove P xs k out) others, different-returned xs ys k p e h.1)

-- the same of the numbers that each is below
pub each-given : (P : ℕ → Type 0) (xs ys : List ℕ) (p : ℕ) → EachOf P (xs ++ (ys ++ p ∷ []))
    → EachOf P ((xs ++ p ∷ []) ++ ys)
each-given P xs ys p h =
    let others = each-right P xs (ys ++ p ∷ []) h in
    each-append P (xs ++ p ∷ []) ys
    (each-append P xs (p ∷ []) (each-left P xs (ys ++ p ∷ []) h) (each-right P ys (p ∷ []) others))
    (each-left P ys (p ∷ []) others)

pub each-returned : (P : ℕ → Type 0) (xs ys : List ℕ) (k p : ℕ) → slice_get xs k ≡ Some p → EachOf P (xs ++ ys)
    → EachOf P (remove xs k ++ (ys ++ p ∷ []))
each-returned P xs ys k p e h =
    let first = each-left P xs ys h in
    each-append P (remove xs k) (ys ++ p ∷ []) (each-remove P xs k first)
    (each-append P ys (p ∷ []) (each-right P xs ys h) (each-at P xs k p e first, tt))

-- ---- which places are linked

-- so many
pub length-walk : (next : List ℕ) (count place : ℕ) → length (walk next count place) ≡ count
length-walk next zero place = refl
length-walk next (suc count) place = ap suc (length-walk next count (slice_index next place))

-- the linked ones
pub walk-is :
    (next prev : List ℕ) (first : ℕ) (places : List ℕ) (last count : ℕ)
    → AreLinked next prev first places last
    → count ≡ length places
    → walk next count (slice_index next first) ≡ places
walk-is next prev first [] last zero h e = refl
walk-is next prev first [] last (suc count) h e = absurd (omega arith)
walk-is next prev first (p ∷ ps) last zero h e = absurd (omega arith)
walk-is next prev first (p ∷ ps) last (suc count) h e =
    ap (λ (q : ℕ). q ∷ walk next count (slice_index next q)) h.0
    ∙ ap (λ (qs : List ℕ). p ∷ qs) (walk-is next prev p ps last count h.2 (omega arith))

-- ---- the neighbours

at_end : (end : ℕ) → unless_end end end ≡ None
at_end end = ap (λ (b : Bool). cond b None (Some end)) (eq-eqb end end refl)

not_end : (end p : ℕ) → p < end → unless_end end p ≡ Some p
not_end end p less = elim (cases_Bool (eqb p end)) [
  | inl same ↦ absurd (grind (arith, nat_tests))
  | inr apart ↦ ap (λ (b : Bool). cond b None (Some p)) apart
]

-- the first
pub first-at : (next prev : List ℕ) (first : ℕ) (places : List ℕ) (end : ℕ) → AreLinked next prev first places end
    → AreBelow end places → unless_end end (slice_index next first) ≡ slice_get places 0
first-at next prev first [] end h below = ap (unless_end end) h.0 ∙ at_end end
first-at next prev first (p ∷ ps) end h below = ap (unless_end end) h.0 ∙ not_end end p below.0

-- the one after another
pub next-at :
    (next prev : List ℕ) (first : ℕ) (places : List ℕ) (end k place : ℕ)
    → slice_get places k ≡ Some place
    → AreLinked next prev first places end
    → AreBelow end places
    → unless_end end (slice_index next place) ≡ slice_get places (suc k)
next-at next prev first [] end k place e h below = absurd cc
next-at next prev first (p ∷ ps) end zero place e h below =
    ap (λ (q : ℕ). unless_end end (slice_index next q)) (sym (same_Some p place e))
    ∙ first-at next prev p ps end h.2 below.1
next-at next prev first (p ∷ ps) end (suc k) place e h below = next-at next prev p ps end k place e h.2 below.1

-- the one before another
pub prev-at :
    (next prev : List ℕ) (first : ℕ) (places : List ℕ) (end k place : ℕ)
    → slice_get places (suc k) ≡ Some place
    → AreLinked next prev first places end
    → AreBelow end places
    → unless_end end (slice_index prev place) ≡ slice_get places k
prev-at next prev first [] end k place e h below = absurd cc
prev-at next prev first (p ∷ []) end k place e h below = absurd cc
prev-at next prev first (p ∷ q ∷ qs) end zero place e h below =
    ap (λ (r : ℕ). unless_end end (slice_index prev r)) (sym (same_Some q place e)) ∙ ap (unless_end end) h.2.1
    ∙ not_end end p below.0
prev-at next prev first (p ∷ q ∷ qs) end (suc k) place e h below =
    prev-at next prev p (q ∷ qs) end k place e h.2 below.1

-- before the first stands the end
pub prev-front : (next prev : List ℕ) (places : List ℕ) (end place : ℕ) → slice_get places 0 ≡ Some place
    → AreLinked next prev end places end → unless_end end (slice_index prev place) ≡ None
prev-front next prev [] end place e h = absurd cc
prev-front next prev (p ∷ ps) end place e h =
    ap (λ (r : ℕ). unless_end end (slice_index prev r)) (sym (same_Some p place e)) ∙ ap (unless_end end) h.1
    ∙ at_end end

-- the last
last-of : (next prev : List ℕ) (first p : ℕ) (ps : List ℕ) (end : ℕ) → AreLinked next prev first (p ∷ ps) end
    → slice_get (p ∷ ps) (length ps) ≡ Some (slice_index prev end)
last-of next prev first p [] end h = ap Some (sym h.2.1)
last-of next prev first p (q ∷ qs) end h = last-of next prev p q qs end h.2

pub last-at : (next prev : List ℕ) (places : List ℕ) (end : ℕ) → AreLinked next prev end places end
    → AreBelow end places → unless_end end (slice_index prev end) ≡ slice_get places (length places - 1)
last-at next prev [] end h below = ap (unless_end end) h.1 ∙ at_end end
last-at next prev (p ∷ ps) end h below =
    let last = last-of next prev end p ps end h in
    not_end end (slice_index prev end) (each-at (λ q. q < end) (p ∷ ps) (length ps) (slice_index prev end) last below)
    ∙ sym last
    ∙ ap (slice_get (p ∷ ps)) {x = length ps} {y = length (p ∷ ps) - 1} (omega arith)

-- what is true of the first and of each is true of the one before the last
pub last-holds : (P : ℕ → Type 0) (next prev : List ℕ) (first : ℕ) (places : List ℕ) (last : ℕ)
    → AreLinked next prev first places last → P first → EachOf P places → P (slice_index prev last)
last-holds P next prev first [] last h here each = subst P (sym h.1) here
last-holds P next prev first (p ∷ ps) last h here each = last-holds P next prev p ps last h.2 each.0 each.1

-- and of the one before another
pub prev-holds : (P : ℕ → Type 0) (next prev : List ℕ) (first : ℕ) (places : List ℕ) (last k place : ℕ)
    → slice_get places k ≡ Some place → AreLinked next prev first places last → P first → EachOf P places
    → P (slice_index prev place)
prev-holds P next prev first [] last k place e h here each = absurd cc
prev-holds P next prev first (p ∷ ps) last zero place e h here each =
    subst P (sym h.1 ∙ ap (slice_index prev) (same_Some p place e)) here
prev-holds P next prev first (p ∷ ps) last (suc k) place e h here each =
    prev-holds P next prev p ps last k place e h.2 each.0 each.1

-- what is true of each and of the last is true of the one after the first
pub first-holds : (P : ℕ → Type 0) (next prev : List ℕ) (first : ℕ) (places : List ℕ) (last : ℕ)
    → AreLinked next prev first places last → EachOf P places → P last → P (slice_index next first)
first-holds P next prev first [] last h each end = subst P (sym h.0) end
first-holds P next prev first (p ∷ ps) last h each end = subst P (sym h.0) each.0

-- and of the one after another
pub next-holds : (P : ℕ → Type 0) (next prev : List ℕ) (first : ℕ) (places : List ℕ) (last k place : ℕ)
    → slice_get places k ≡ Some place → AreLinked next prev first places last → EachOf P places → P last
    → P (slice_index next place)
next-holds P next prev first [] last k place e h each end = absurd cc
next-holds P next prev first (p ∷ ps) last zero place e h each end =
    subst (λ (q : ℕ). P (slice_index next q)) (same_Some p place e) (first-holds P next prev p ps last h.2 each.1 end)
next-holds P next prev first (p ∷ ps) last (suc k) place e h each end =
    next-holds P next prev p ps last k place e h.2 each.1 end

-- ---- one comes, one goes

-- links elsewhere make no difference
pub linked-elsewhere :
    (next prev : List ℕ) (first : ℕ) (places : List ℕ) (last i v j w : ℕ)
    → IsOutside i (first ∷ places)
    → IsOutside j places
    → j ≢ last
    → AreLinked next prev first places last
    → AreLinked (set next i v) (set prev j w) first places last
linked-elsewhere next prev first [] last i v j w out out_prev apart h = (
  get_or-set_other next i first v 0 (λ e. out.0 (sym e)) ∙ h.0,
  get_or-set_other prev j last w 0 (λ e. apart (sym e)) ∙ h.1,
)
linked-elsewhere next prev first (p ∷ ps) last i v j w out out_prev apart h = (
  get_or-set_other next i first v 0 (λ e. out.0 (sym e)) ∙ h.0,
  get_or-set_other prev j p w 0 (λ e. out_prev.0 (sym e)) ∙ h.1,
  linked-elsewhere next prev p ps last i v j w out.1 out_prev.1 apart h.2,
)

-- two neighbours are linked by the links between them
link-there : (next prev : List ℕ) (first last : ℕ) → first < length next → last < length prev
    → (slice_index (set next first last) first ≡ last) × (slice_index (set prev last first) last ≡ first)
link-there next prev first last inside within =
    (get_or-set_same next first last 0 inside, get_or-set_same prev last first 0 within)

-- one goes: the ones beside it are linked to each other
pub linked-remove :
    (next prev : List ℕ) (first : ℕ) (places : List ℕ) (last k place before after : ℕ)
    → slice_get places k ≡ Some place
    → before ≡ slice_index prev place
    → after ≡ slice_index next place
    → IsOutside first places
    → IsOutside last places
    → AreDifferent places
    → first < length next
    → EachOf (λ p. p < length next) places
    → last < length prev
    → EachOf (λ p. p < length prev) places
    → AreLinked next prev first places last
    → AreLinked (set next before after) (set prev after before) first (remove places k) last
linked-remove next prev first [] last k place before after e b a out_first out_last different first_in in_next last_in
    in_prev h = absurd cc
linked-remove next prev first (p ∷ []) last zero place before after e b a out_first out_last different first_in in_next
    last_in in_prev h =
    let same : place ≡ p = sym (same_Some p place e) in
    let is_before : first ≡ before = sym (b ∙ ap (slice_index prev) same ∙ h.1) in
    let is_after : last ≡ after = sym (a ∙ ap (slice_index next) same ∙ h.2.0) in
    subst (λ (x : ℕ). AreLinked (set next x after) (set prev after x) first [] last) is_before
    (subst (λ (y : ℕ). AreLinked (set next first y) (set prev y first) first [] last) is_after
    (link-there next prev first last first_in last_in))
linked-remove next prev first (p ∷ q ∷ qs) last zero place before after e b a out_first out_last different first_in
    in_next last_in in_prev h =
    let same : place ≡ p = sym (same_Some p place e) in
    let is_before : first ≡ before = sym (b ∙ ap (slice_index prev) same ∙ h.1) in
    let is_after : q ≡ after = sym (a ∙ ap (slice_index next) same ∙ h.2.0) in
    let there = link-there next prev first q first_in in_prev.1.0 in
    subst (λ (x : ℕ). AreLinked (set next x after) (set prev after x) first (q ∷ qs) last) is_before
    (subst (λ (y : ℕ). AreLinked (set next first y) (set prev y first) first (q ∷ qs) last) is_after (
      there.0,
      there.1,
      linked-elsewhere next prev q qs last first q q first out_first.1 different.1.0 (λ e. out_last.1.0 (sym e)) h.2.2,
    ))
linked-remove next prev first (p ∷ ps) last (suc k) place before after e b a out_first out_last different first_in
    in_next last_in in_prev h =
    let not_before : first ≢ before =
    λ same. prev-holds (λ x. first ≢ x) next prev p ps last k place e h.2 out_first.0 out_first.1 (same ∙ b) in
    let not_after : p ≢ after =
    λ same. next-holds (λ x. p ≢ x) next prev p ps last k place e h.2 different.0 (λ e. out_last.0 (sym e))
    (same ∙ a) in (
      get_or-set_other next before first after 0 not_before ∙ h.0,
      get_or-set_other prev after p before 0 not_after ∙ h.1,
      linked-remove next prev p ps last k place before after e b a different.0 out_last.1 different.1 in_next.0
          in_next.1 last_in in_prev.1 h.2,
    )

-- one comes at the end
pub linked-push :
    (next prev : List ℕ) (first : ℕ) (places : List ℕ) (last place before : ℕ)
    → before ≡ slice_index prev last
    → IsOutside place (first ∷ places)
    → place ≢ last
    → IsOutside first places
    → IsOutside last places
    → AreDifferent places
    → first < length next
    → EachOf (λ p. p < length next) places
    → place < length next
    → last < length prev
    → place < length prev
    → AreLinked next prev first places last
    → AreLinked (set (set next before place) place last) (set (set prev place before) last place) first
    (places ++ place ∷ []) last
linked-push next prev first [] last place before b out apart out_first out_last different first_in in_next place_in
    last_in place_within h =
    let is_before : first ≡ before = sym (b ∙ h.1) in
    subst (λ (x : ℕ). AreLinked (set (set next x place) place last) (set (set prev place x) last place) first
    (place ∷ []) last) is_before (
      get_or-set_other (set next first place) place first last 0 (λ e. out.0 (sym e))
          ∙ get_or-set_same next first place 0 first_in,
      get_or-set_other (set prev place first) last place place 0 apart
          ∙ get_or-set_same prev place first 0 place_within,
      (
        get_or-set_same (set next first place) place last 0 (omega (arith, place_in, length-set next first place)),
        get_or-set_same (set prev place first) last place 0 (omega (arith, last_in, length-set prev place first)),
      ),
    )
linked-push next prev first (p ∷ ps) last place before b out apart out_first out_last different first_in in_next
    place_in last_in place_within h =
    let not_before : first ≢ before =
    λ same. last-holds (λ x. first ≢ x) next prev p ps last h.2 out_first.0 out_first.1 (same ∙ b) in (
      get_or-set_other (set next before place) place first last 0 (λ e. out.0 (sym e))
          ∙ get_or-set_other next before first place 0 not_before ∙ h.0,
      get_or-set_other (set prev place before) last p place 0 (λ e. out_last.0 (sym e))
          ∙ get_or-set_other prev place p before 0 (λ e. out.1.0 (sym e)) ∙ h.1,
      linked-push next prev p ps last place before b out.1 apart different.0 out_last.1 different.1 in_next.0 in_next.1
          place_in last_in place_within h.2,
    )
