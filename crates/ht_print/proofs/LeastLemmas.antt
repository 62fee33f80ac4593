-- Patterns without those that begin with another, as they are gathered in order, and what a search among them finds.
use Rattle.std.proofs.Common.{◌≡◌, ℕ, zero, suc, ◌+◌, ◌-◌, ◌<◌, ◌≤◌, ◌||◌, ◌⊎◌, inl, inr, Bool, true, false, Less}
use Rattle.std.proofs.Common.{Equal, Greater, List, [], ◌∷◌, ◌++◌, length, take, drop, get_or, refl, sym, ap, subst}
use Rattle.std.proofs.Common.{◌∙◌, arith, length-append, append-nil, true≢false}
use Rattle.std.specs.Prelude.{Option, unwrap_or}
use Rattle.std.specs.Option.{option_map}
use Rattle.std.specs.List.{AllWithin, list_any, range_with_len}
use Rattle.std.specs.List.Sorted.{IsNonDecreasingBy, IsSorted}
use Rattle.std.specs.Ordering.{is_eq, is_gt, is_lt, nat_cmp, ordering_index}
use Rattle.std.specs.Cmp.Lexicographic.{bytes_decides, nat_list_cmp_total, slice_cmp}
use Rattle.std.proofs.lemmas.Bool.{cases_lt, false_from_ne_true}
use Rattle.std.proofs.lemmas.List.{get_or_append_left, get_or_default, get_or_push}
use Rattle.std.proofs.lemmas.List.Folds.{list_any-append, list_any_at, list_any_more, list_any_none}
use Rattle.std.proofs.lemmas.List.FromFn.{get_or-range_with_len, length-range_with_len}
use Rattle.std.proofs.lemmas.List.Sorted.{ranks_by, searchable_from_sorted, sorted_far}
use Rattle.std.proofs.lemmas.Map.Text.{is_eq-slice_cmp}
use Rattle.std.proofs.lemmas.Option.{slice_get-get_or}
use Rattle.memchr.specs.Find.{occurs_at}
use Rattle.ht_print.specs.LeastPatterns.{AreApart, begins, begins_any, begins_last}
use Rattle.ht_print.specs.Suppressed.{meets_any, stands_in}
use Rattle.ht_print.proofs.Prefixes.{behind-none, begins-same, begins-through, between-begins, occurs-begins}
use Rattle.ht_print.proofs.Prefixes.{other-side}

or-true : (b : Bool) → (b || true) ≡ true
or-true true = refl
or-true false = refl

or-false : (b : Bool) → (b || false) ≡ b
or-false true = refl
or-false false = refl

-- no element
pub apart-none : {X : Type 0} (pattern_of : X → List ℕ) (xs : List X) → length xs ≡ 0 → AreApart pattern_of xs
apart-none pattern_of xs none = record {
  ordered = λ i j d before within. absurd (omega (arith, within, none));
  apart = λ i j d before within. absurd (omega (arith, within, none));
}

-- what holds of the pairs of some elements, and of each with one more, holds of the pairs of all
pairs-more : {X : Type 0} (P : X → X → Type 0) (xs : List X) (y : X)
    → ((i j : ℕ) (d : X) → i < j → j < length xs → P (get_or xs j d) (get_or xs i d))
    → ((i : ℕ) (d : X) → i < length xs → P y (get_or xs i d))
    → (i j : ℕ) (d : X) → i < j → j < length (xs ++ y ∷ []) → P (get_or (xs ++ y ∷ []) j d) (get_or (xs ++ y ∷ []) i d)
pairs-more {X} P xs y pairs with_last i j d before within =
    let count = length-append xs (y ∷ []) in
    let first : get_or (xs ++ y ∷ []) i d ≡ get_or xs i d =
    get_or_append_left xs (y ∷ []) d i (omega (arith, within, count, before)) in
    elim (cases_lt j (length xs)) [
      | inl held ↦
          let second : get_or (xs ++ y ∷ []) j d ≡ get_or xs j d = get_or_append_left xs (y ∷ []) d j held in
          subst (λ (x : X). P x (get_or (xs ++ y ∷ []) i d)) (sym second)
          (subst (λ (x : X). P (get_or xs j d) x) (sym first) (pairs i j d before held))
      | inr last ↦
          let second : get_or (xs ++ y ∷ []) j d ≡ y = get_or_push xs y d j (omega (arith, within, count, last)) in
          subst (λ (x : X). P x (get_or (xs ++ y ∷ []) i d)) (sym second)
          (subst (λ (x : X). P y x) (sym first) (with_last i d (omega (arith, within, count, before))))
    ]

-- a pattern behind the others that doesn't begin with the last of them begins with none
pub apart-more : {X : Type 0} (pattern_of : X → List ℕ) (xs : List X) (y : X) → AreApart pattern_of xs
    → ((i : ℕ) (d : X) → i < length xs → is_lt (slice_cmp nat_cmp (pattern_of y) (pattern_of (get_or xs i d))) ≡ false)
    → ((d : X) → 0 < length xs → begins (pattern_of y) (pattern_of (get_or xs (length xs - 1) d)) ≡ false)
    → AreApart pattern_of (xs ++ y ∷ [])
apart-more {X} pattern_of xs y are behind other = record {
  ordered =
      pairs-more (λ (later earlier : X). is_lt (slice_cmp nat_cmp (pattern_of later) (pattern_of earlier)) ≡ false) xs y
      are.ordered behind;
  apart =
      pairs-more (λ (later earlier : X). begins (pattern_of later) (pattern_of earlier) ≡ false) xs y are.apart
      (λ i d held. each i d held (cases_lt i (length xs - 1)));
}
  where
    each : (i : ℕ) (d : X) → i < length xs → (i < length xs - 1) ⊎ (length xs - 1 ≤ i)
        → begins (pattern_of y) (pattern_of (get_or xs i d)) ≡ false
    each i d held (inl earlier) =
        let last : X = get_or xs (length xs - 1) d in
        let first : X = get_or xs i d in
        false_from_ne_true (begins (pattern_of y) (pattern_of first))
        (λ begun. true≢false (sym
        (between-begins (pattern_of first) (pattern_of last) (pattern_of y) begun
        (are.ordered i (length xs - 1) d earlier (omega (arith, held)))
        (other-side (pattern_of last) (pattern_of y) (behind (length xs - 1) d (omega (arith, held)))))
        ∙ are.apart i (length xs - 1) d earlier (omega (arith, held))))
    each i d held (inr here) =
        let same : length xs - 1 ≡ i = omega (arith, held, here) in
        ap (λ (k : ℕ). begins (pattern_of y) (pattern_of (get_or xs k d))) (sym same) ∙ other d (omega (arith, held))

-- whether a text begins with the last pattern
last-of : {X : Type 0} (pattern_of : X → List ℕ) (xs : List X) (text : List ℕ) (d : X) → 0 < length xs
    → begins_last pattern_of xs text ≡ begins text (pattern_of (get_or xs (length xs - 1) d))
last-of {X} pattern_of xs text d some =
    ap (λ (o : Option X). unwrap_or (option_map (λ (x : X). begins text (pattern_of x)) o) false)
    (slice_get-get_or xs (length xs - 1) d (omega (arith, some)))

pub not-last : {X : Type 0} (pattern_of : X → List ℕ) (xs : List X) (text : List ℕ)
    → begins_last pattern_of xs text ≡ false → (d : X) → 0 < length xs
    → begins text (pattern_of (get_or xs (length xs - 1) d)) ≡ false
not-last pattern_of xs text other d some = sym (last-of pattern_of xs text d some) ∙ other

pub at-last : {X : Type 0} (pattern_of : X → List ℕ) (xs : List X) (text : List ℕ) (d : X)
    → begins_last pattern_of xs text ≡ true
    → (0 < length xs) × (begins text (pattern_of (get_or xs (length xs - 1) d)) ≡ true)
at-last pattern_of [] text d is = absurd (true≢false (sym is))
at-last pattern_of (x ∷ xs) text d is = (omega arith, sym (last-of pattern_of (x ∷ xs) text d (omega arith)) ∙ is)

-- a pattern that begins with another adds nothing to what it finds
pub adds-nothing : {X : Type 0} (pattern_of : X → List ℕ) (xs ys : List X) (k : ℕ) (d : X) (last : ℕ) → k < length ys
    → last < length xs
    → begins (pattern_of (get_or ys k d)) (pattern_of (get_or xs last d)) ≡ true
    → ((text : List ℕ) → begins_any pattern_of xs text ≡ begins_any pattern_of (take k ys) text)
    → (text : List ℕ) → begins_any pattern_of xs text ≡ begins_any pattern_of (take (k + 1) ys) text
adds-nothing {X} pattern_of xs ys k d last within held longer same text =
    by (begins text (pattern_of (get_or ys k d))) refl
    ∙ ap (λ (b : Bool). b || begins text (pattern_of (get_or ys k d))) (same text)
    ∙ sym (list_any_more (λ (x : X). begins text (pattern_of x)) ys k d within)
  where
    by : (answer : Bool) → begins text (pattern_of (get_or ys k d)) ≡ answer
        → begins_any pattern_of xs text ≡ (begins_any pattern_of xs text || begins text (pattern_of (get_or ys k d)))
    by true is =
        let found : begins_any pattern_of xs text ≡ true =
        list_any_at (λ (x : X). begins text (pattern_of x)) xs last d held
        (begins-through text (pattern_of (get_or ys k d)) (pattern_of (get_or xs last d)) is longer) in
        rw found refl
    by false is = rw is (sym (or-false (begins_any pattern_of xs text)))

-- any other is told beside them
pub adds-one : {X : Type 0} (pattern_of : X → List ℕ) (xs new ys : List X) (k : ℕ) (d : X) → k < length ys
    → new ≡ xs ++ get_or ys k d ∷ []
    → ((text : List ℕ) → begins_any pattern_of xs text ≡ begins_any pattern_of (take k ys) text)
    → (text : List ℕ) → begins_any pattern_of new text ≡ begins_any pattern_of (take (k + 1) ys) text
adds-one {X} pattern_of xs new ys k d within is same text =
    let test : X → Bool = λ x. begins text (pattern_of x) in
    ap (list_any test) is
    ∙ list_any-append test xs (get_or ys k d ∷ [])
    ∙ ap (λ (b : Bool). begins_any pattern_of xs text || b) (or-false (test (get_or ys k d)))
    ∙ ap (λ (b : Bool). b || test (get_or ys k d)) (same text)
    ∙ sym (list_any_more test ys k d within)

-- a search in order found the place of the text: it begins with the pattern before that place, or with none
one-of : {X : Type 0} (p : X → Bool) (xs : List X) (k : ℕ) (d : X) → k < length xs
    → ((i : ℕ) (e : X) → i < length xs → (i < k) ⊎ (k < i) → p (get_or xs i e) ≡ false)
    → (answer : Bool) → p (get_or xs k d) ≡ answer → answer ≡ list_any p xs
one-of p xs k d within others true is = sym (list_any_at p xs k d within is)
one-of {X} p xs k d within others false is =
    sym (list_any_none p xs (λ i e held. each i e held (cases_lt i k) (cases_lt k i)))
  where
    each : (i : ℕ) (e : X) → i < length xs → (i < k) ⊎ (k ≤ i) → (k < i) ⊎ (i ≤ k) → p (get_or xs i e) ≡ false
    each i e held (inl below) other = others i e held (inl below)
    each i e held (inr above) (inl behind) = others i e held (inr behind)
    each i e held (inr above) (inr under) =
        let same : i ≡ k = omega (arith, above, under) in
        ap (λ (j : ℕ). p (get_or xs j e)) same ∙ ap p (get_or_default xs k e d within) ∙ is

pub found-before : {X : Type 0} (pattern_of : X → List ℕ) (xs : List X) (text : List ℕ) (place : ℕ) (d : X)
    → AreApart pattern_of xs → 0 < place → place ≤ length xs
    → AllWithin (λ (x : X). slice_cmp nat_cmp (pattern_of x) text ≡ Less) xs 0 place
    → AllWithin (λ (x : X). slice_cmp nat_cmp (pattern_of x) text ≡ Greater) xs place (length xs)
    → begins text (pattern_of (get_or xs (place - 1) d)) ≡ begins_any pattern_of xs text
found-before {X} pattern_of xs text place d are some within before behind =
    one-of (λ (x : X). begins text (pattern_of x)) xs (place - 1) d (omega (arith, some, within)) others
    (begins text (pattern_of (get_or xs (place - 1) d))) refl
  where
    others : (i : ℕ) (e : X) → i < length xs → (i < place - 1) ⊎ (place - 1 < i)
        → begins text (pattern_of (get_or xs i e)) ≡ false
    others i e held (inl earlier) =
        let last : X = get_or xs (place - 1) e in
        false_from_ne_true (begins text (pattern_of (get_or xs i e)))
        (λ begun. true≢false (sym
        (between-begins (pattern_of (get_or xs i e)) (pattern_of last) text begun
        (are.ordered i (place - 1) e earlier (omega (arith, some, within)))
        (ap is_gt (before (place - 1) e (omega arith) (omega (arith, some)))))
        ∙ are.apart i (place - 1) e earlier (omega (arith, some, within))))
    others i e held (inr later) =
        behind-none text (pattern_of (get_or xs i e)) (behind i e (omega (arith, some, later)) held)

pub found-none : {X : Type 0} (pattern_of : X → List ℕ) (xs : List X) (text : List ℕ)
    → AllWithin (λ (x : X). slice_cmp nat_cmp (pattern_of x) text ≡ Greater) xs 0 (length xs)
    → false ≡ begins_any pattern_of xs text
found-none {X} pattern_of xs text behind =
    sym (list_any_none (λ (x : X). begins text (pattern_of x)) xs
    (λ i e held. behind-none text (pattern_of (get_or xs i e)) (behind i e (omega arith) held)))

-- a pattern stands in a text where what is left of the text somewhere begins with it
stands-from : (text pattern : List ℕ) (k : ℕ) → k ≤ length text → begins (drop k text) pattern ≡ true
    → stands_in text pattern ≡ true
unfolding stands_in
stands-from text pattern k within begun =
    let at : get_or (range_with_len 0 (length text + 1)) k 0 ≡ k =
    get_or-range_with_len 0 (length text + 1) k 0 (omega (arith, within)) ∙ (omega arith) in
    list_any_at (occurs_at text pattern) (range_with_len 0 (length text + 1)) k 0
    (rw length-range_with_len (omega (arith, within)))
    (rw at (sym (occurs-begins text pattern k within) ∙ begun))

none-in : (p : ℕ → Bool) (a n : ℕ) → ((k : ℕ) → k < a + n → p k ≡ false) → list_any p (range_with_len a n) ≡ false
none-in p a zero none = refl
none-in p a (suc n) none = rw (none a (omega arith)) (none-in p (a + 1) n (λ k within. none k (omega (arith, within))))

stands-nowhere : (text pattern : List ℕ) → ((k : ℕ) → k ≤ length text → begins (drop k text) pattern ≡ false)
    → stands_in text pattern ≡ false
unfolding stands_in
stands-nowhere text pattern none =
    none-in (occurs_at text pattern) 0 (length text + 1)
    (λ k within. sym (occurs-begins text pattern k (omega (arith, within))) ∙ none k (omega (arith, within)))

pub somewhere : (patterns : List (List ℕ)) (text : List ℕ) (k : ℕ) → k ≤ length text
    → list_any (begins (drop k text)) patterns ≡ true → meets_any patterns text ≡ true
somewhere [] text k within is = is
somewhere (pattern ∷ patterns) text k within is =
    by (begins (drop k text) pattern) refl (λ rest. somewhere patterns text k within rest)
  where
    by : (answer : Bool) → begins (drop k text) pattern ≡ answer
        → (list_any (begins (drop k text)) patterns ≡ true → meets_any patterns text ≡ true)
        → (stands_in text pattern || meets_any patterns text) ≡ true
    by true begun others = rw (stands-from text pattern k within begun) refl
    by false begun others =
        let rest : list_any (begins (drop k text)) patterns ≡ true =
        ap (λ (b : Bool). b || list_any (begins (drop k text)) patterns) (sym begun) ∙ is in
        rw (others rest) (or-true (stands_in text pattern))

pub nowhere : (patterns : List (List ℕ)) (text : List ℕ)
    → ((k : ℕ) → k ≤ length text → list_any (begins (drop k text)) patterns ≡ false) → meets_any patterns text ≡ false
nowhere [] text none = refl
nowhere (pattern ∷ patterns) text none =
    rw (
      stands-nowhere text pattern (λ k within. (parts k within).0),
      nowhere patterns text (λ k within. (parts k within).1),
    ) refl
  where
    both : (one other : Bool) → (one || other) ≡ false → (one ≡ false) × (other ≡ false)
    both true other is = absurd (true≢false is)
    both false other is = (refl, is)

    parts : (k : ℕ) → k ≤ length text
        → (begins (drop k text) pattern ≡ false) × (list_any (begins (drop k text)) patterns ≡ false)
    parts k within = both (begins (drop k text) pattern) (list_any (begins (drop k text)) patterns) (none k within)

-- a search in such patterns may go by halves
pub rising : {X : Type 0} (pattern_of : X → List ℕ) (xs : List X) (text : List ℕ) → AreApart pattern_of xs
    → IsNonDecreasingBy (λ (x : X). ordering_index (slice_cmp nat_cmp (pattern_of x) text)) xs
rising {X} pattern_of xs text are =
    searchable_from_sorted nat_list_cmp_total pattern_of xs text
    (λ k d low high. are.ordered k (k + 1) d (omega arith) high)

-- a search that found the text itself
pub found-at : {X : Type 0} (pattern_of : X → List ℕ) (xs : List X) (text : List ℕ) (place : ℕ) → place < length xs
    → ((d : X) → slice_cmp nat_cmp (pattern_of (get_or xs place d)) text ≡ Equal) → true ≡ begins_any pattern_of xs text
found-at {X} pattern_of [] text place within same = absurd (omega (arith, within))
found-at {X} pattern_of (x ∷ xs) text place within same =
    let held : X = get_or (x ∷ xs) place x in
    let is : pattern_of held ≡ text =
    (bytes_decides (pattern_of held) text).0 (sym (is_eq-slice_cmp (pattern_of held) text) ∙ ap is_eq (same x)) in
    sym (list_any_at (λ (y : X). begins text (pattern_of y)) (x ∷ xs) place x within
    (begins-same text (pattern_of held) [] (sym is ∙ sym (append-nil (pattern_of held)))))

-- what a sort says, from the later element on
pub behind-sorted : {X : Type 0} (pattern_of : X → List ℕ) (xs : List X)
    → IsSorted (λ (x y : X). slice_cmp nat_cmp (pattern_of x) (pattern_of y)) xs
    → (i j : ℕ) (d : X) → i ≤ j → j < length xs
    → is_lt (slice_cmp nat_cmp (pattern_of (get_or xs j d)) (pattern_of (get_or xs i d))) ≡ false
behind-sorted {X} pattern_of xs sorted =
    sorted_far (λ (x y : X). is_lt (slice_cmp nat_cmp (pattern_of x) (pattern_of y)))
    (ranks_by nat_list_cmp_total pattern_of) xs sorted

-- those of the patterns so far
pub record AreOfFront {X : Type 0} (pattern_of : X → List ℕ) (all : List X) (count : ℕ) (xs : List X) : Type 0 where
  pub apart : AreApart pattern_of xs
  pub before : (i k : ℕ) (d : X) → i < length xs → count ≤ k → k < length all
      → is_lt (slice_cmp nat_cmp (pattern_of (get_or all k d)) (pattern_of (get_or xs i d))) ≡ false
  pub same : (text : List ℕ) → begins_any pattern_of xs text ≡ begins_any pattern_of (take count all) text

-- one pattern more, which is left out or comes behind the others
pub front-longer : {X : Type 0} (pattern_of : X → List ℕ) (all : List X) (count : ℕ) (xs given : List X) (d : X)
    → count < length all → given ≡ xs
    → begins_last pattern_of given (pattern_of (get_or all count d)) ≡ true → AreOfFront pattern_of all count xs
    → AreOfFront pattern_of all (count + 1) xs
front-longer {X} pattern_of all count xs given d within same longer were =
    let last =
    at-last pattern_of xs (pattern_of (get_or all count d)) d
    (ap (λ (ys : List X). begins_last pattern_of ys (pattern_of (get_or all count d))) (sym same) ∙ longer) in
    let some = last.0 in
    record {
      apart = were.apart;
      before = λ i k e held from high. were.before i k e held (omega (arith, from)) high;
      same = adds-nothing pattern_of xs all count d (length xs - 1) within (omega (arith, some)) last.1 were.same;
    }

pub front-more : {X : Type 0} (pattern_of : X → List ℕ) (all : List X) (count : ℕ) (xs given new : List X) (d : X)
    → count < length all → given ≡ xs
    → IsSorted (λ (x y : X). slice_cmp nat_cmp (pattern_of x) (pattern_of y)) all
    → begins_last pattern_of given (pattern_of (get_or all count d)) ≡ false → new ≡ xs ++ get_or all count d ∷ []
    → AreOfFront pattern_of all count xs → AreOfFront pattern_of all (count + 1) new
front-more {X} pattern_of all count xs given new d within same sorted other is were =
    let here : X = get_or all count d in
    record {
      apart = subst (AreApart pattern_of) (sym is)
          (apart-more pattern_of xs here were.apart
          (λ i e held. ap (λ (x : X). is_lt (slice_cmp nat_cmp (pattern_of x) (pattern_of (get_or xs i e))))
          (get_or_default all count d e within)
          ∙ were.before i count e held (omega arith) within)
          (not-last pattern_of xs (pattern_of here)
          (ap (λ (ys : List X). begins_last pattern_of ys (pattern_of here)) (sym same) ∙ other)));
      before = λ i k e held from high.
          let longer = length-append xs (here ∷ []) in
          let count_is = ap (λ (ys : List X). length ys) is in
          ap (λ (ys : List X). is_lt (slice_cmp nat_cmp (pattern_of (get_or all k e)) (pattern_of (get_or ys i e)))) is
          ∙ by i k e (omega (arith, held, longer, count_is)) (omega (arith, from)) high (cases_lt i (length xs));
      same = adds-one pattern_of xs new all count d within is were.same;
    }
  where
    by : (i k : ℕ) (e : X) → i < length xs + 1 → count < k → k < length all → (i < length xs) ⊎ (length xs ≤ i)
        → is_lt
        (slice_cmp nat_cmp (pattern_of (get_or all k e)) (pattern_of (get_or (xs ++ get_or all count d ∷ []) i e)))
        ≡ false
    by i k e held from high (inl earlier) =
        ap (λ (x : X). is_lt (slice_cmp nat_cmp (pattern_of (get_or all k e)) (pattern_of x)))
        (get_or_append_left xs (get_or all count d ∷ []) e i earlier)
        ∙ were.before i k e earlier (omega (arith, from)) high
    by i k e held from high (inr last) =
        ap (λ (x : X). is_lt (slice_cmp nat_cmp (pattern_of (get_or all k e)) (pattern_of x)))
        (get_or_push xs (get_or all count d) e i (omega (arith, held, last)) ∙ get_or_default all count d e within)
        ∙ behind-sorted pattern_of all sorted count k e (omega (arith, from)) high

pub front-none : {X : Type 0} (pattern_of : X → List ℕ) (all : List X) → AreOfFront pattern_of all 0 []
front-none pattern_of all = record {
  apart = apart-none pattern_of [] refl;
  before = λ i k d held from high. absurd (omega (arith, held));
  same = λ text. refl;
}
