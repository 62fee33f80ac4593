-- What the lines of a view say.
use Rattle.std.proofs.Common.{◌≡◌, ◌≢◌, ℕ, zero, suc, ◌+◌, ◌*◌, ◌<◌, ◌≤◌, List, [], ◌∷◌, ◌++◌, length, take, get_or}
use Rattle.std.proofs.Common.{Some, refl, sym, ap, ◌∙◌, subst, append_assoc, append-nil, arith, inl, inr}
use Rattle.std.specs.Prelude.{All, AllPairs, Contains, slice_get}
use Rattle.std.specs.List.{flat_map}
use Rattle.std.proofs.lemmas.List.Elements.{All-append, All-cons, All-contains, All-nil, All-weaker}
use Rattle.std.proofs.lemmas.List.Elements.{Contains-append_cases, Contains-append_left, Contains-append_right}
use Rattle.std.proofs.lemmas.List.Elements.{Contains-get_or}
use Rattle.std.proofs.lemmas.List.Kept.{AllPairs-cons}
use Rattle.std.proofs.lemmas.List.{length-take, length_push, take-append-le, take-take, take_all}
use Rattle.std.proofs.lemmas.Bool.{cases_order}
use Rattle.std.proofs.lemmas.Option.{get_or_from_slice_get, none-some, same_Some, slice_get-get_or, slice_get_within}
use Rattle.cost_tree.specs.declared.scale.Scale.{Scale}
use Rattle.cost_tree.specs.Costed.{Costed, costed}
use Rattle.cost_tree.specs.CostLines.{FrontLine, Shown, a_front, gathered, cost_lines, front_line, front_lines}
use Rattle.cost_tree.specs.CostLines.{gathered_lines, kept_fronts, last_of, small_fronts}
use Rattle.cost_tree.specs.Inclusive.{inclusive}
use Rattle.cost_tree.proofs.Laws.{All-flat, inclusive-longer}
use Rattle.dhat_json.specs.declared.figure.FigureKey.{FigureKey}
use Rattle.dhat_json.specs.declared.profile.Dhat.{Dhat}
use Rattle.dhat_view.specs.AreViewSums.{AreSmallNexts, AreViewSums, HasViewSums, IsSumOf, view_scale}
use Rattle.dhat_view.specs.PointCosts.{point_costs}
use Rattle.dhat_view.specs.PointFronts.{point_fronts}
use Rattle.dhat_view.specs.TreeText.{tree_text}
use Rattle.dhat_view.specs.ViewText.{view_text}
use Rattle.dhat_view.proofs.Nexts.{are-small, kept-apart-all, kept-goes_on, kept-longer, kept-there}

-- each line says its sum, behind those before it
abbrev AreSums : Scale → List Costed → List FrontLine → List FrontLine → Type 0
AreSums scale stacks before [] = Unit {0}
AreSums scale stacks before (line ∷ lines) =
    IsSumOf scale stacks before line line.shown × AreSums scale stacks (before ++ line ∷ []) lines

sums-append : (scale : Scale) (stacks : List Costed) (before xs ys : List FrontLine) → AreSums scale stacks before xs
    → AreSums scale stacks (before ++ xs) ys → AreSums scale stacks before (xs ++ ys)
sums-append scale stacks before [] ys first second =
    subst (λ (b : List FrontLine). AreSums scale stacks b ys) (append-nil before) second
sums-append scale stacks before (x ∷ xs) ys first second = (
  first.0,
  sums-append scale stacks (before ++ x ∷ []) xs ys first.1
      (subst (λ (b : List FrontLine). AreSums scale stacks b ys) (sym (append_assoc before (x ∷ []) xs)) second),
)

take-none : (xs : List FrontLine) → take 0 xs ≡ []
take-none [] = refl
take-none (x ∷ xs) = refl

sum-at : (scale : Scale) (stacks : List Costed) (before lines : List FrontLine) (n : ℕ) (line : FrontLine)
    → AreSums scale stacks before lines → slice_get lines n ≡ Some line
    → IsSumOf scale stacks (before ++ take n lines) line line.shown
sum-at scale stacks before [] n line are at = absurd (none-some line at)
sum-at scale stacks before (x ∷ xs) zero line are at =
    subst (λ (l : FrontLine). IsSumOf scale stacks (before ++ []) l l.shown) (same_Some x line at)
    (subst (λ (b : List FrontLine). IsSumOf scale stacks b x x.shown) (sym (append-nil before)) are.0)
sum-at scale stacks before (x ∷ xs) (suc n) line are at =
    subst (λ (b : List FrontLine). IsSumOf scale stacks b line line.shown) (append_assoc before (x ∷ []) (take n xs))
    (sum-at scale stacks (before ++ x ∷ []) xs n line are.1 at)

-- The lines of a front.

lines-none : (scale : Scale) (stacks : List Costed) (front : List (List ℕ))
    → front_lines 0 scale stacks front ≡ front_line 0 stacks front ∷ []
unfolding front_lines
lines-none scale stacks front = refl

-- how many lines are below it
abbrev children_of : Scale → List Costed → List (List ℕ) → ℕ
children_of scale stacks front =
    length (kept_fronts scale stacks front)
    + length (gathered_lines stacks (length front + 1) (small_fronts scale stacks front))

-- the lines of the fronts below it that have lines of their own
abbrev kept_lines : ℕ → Scale → List Costed → List (List ℕ) → List FrontLine
kept_lines more scale stacks front = flat_map (front_lines more scale stacks) (kept_fronts scale stacks front)

abbrev last_lines : Scale → List Costed → List (List ℕ) → List FrontLine
last_lines scale stacks front = gathered_lines stacks (length front + 1) (small_fronts scale stacks front)

lines-more : (more : ℕ) (scale : Scale) (stacks : List Costed) (front : List (List ℕ))
    → front_lines (suc more) scale stacks front
    ≡ front_line (children_of scale stacks front) stacks front
    ∷ (kept_lines more scale stacks front ++ last_lines scale stacks front)
unfolding front_lines
lines-more more scale stacks front = refl

-- They stand on the front's level, or further in.

abbrev IsFrom : ℕ → FrontLine → Type 0
IsFrom level line = level ≤ line.level

gathered-level : (stacks : List Costed) (level : ℕ) (fronts : List (List (List ℕ)))
    → All (IsFrom level) (gathered_lines stacks level fronts)
unfolding gathered_lines
gathered-level stacks level [] = All-nil (IsFrom level)
gathered-level stacks level (next ∷ more) = All-cons (IsFrom level) _ [] (omega arith) (All-nil (IsFrom level))

kept-level : (more : ℕ) (scale : Scale) (stacks : List Costed) (front : List (List ℕ))
    → ((next : List (List ℕ)) → All (IsFrom (length next)) (front_lines more scale stacks next))
    → All (IsFrom (length front + 1)) (kept_lines more scale stacks front)
kept-level more scale stacks front each =
    All-flat (IsFrom (length front + 1)) (front_lines more scale stacks) (kept_fronts scale stacks front)
    (All-weaker (λ (next : List (List ℕ)). length next ≡ length front + 1)
    (λ (next : List (List ℕ)). All (IsFrom (length front + 1)) (front_lines more scale stacks next))
    (λ next long. subst (λ (level : ℕ). All (IsFrom level) (front_lines more scale stacks next)) long (each next))
    (kept_fronts scale stacks front) (kept-longer scale stacks front))

lines-level : (more : ℕ) (scale : Scale) (stacks : List Costed) (front : List (List ℕ))
    → All (IsFrom (length front)) (front_lines more scale stacks front)
lines-level zero scale stacks front =
    subst (All (IsFrom (length front))) (sym (lines-none scale stacks front))
    (All-cons (IsFrom (length front)) (front_line 0 stacks front) [] (omega arith) (All-nil (IsFrom (length front))))
lines-level (suc more) scale stacks front =
    subst (All (IsFrom (length front))) (sym (lines-more more scale stacks front))
    (All-cons (IsFrom (length front)) (front_line (children_of scale stacks front) stacks front)
    (kept_lines more scale stacks front ++ last_lines scale stacks front) (omega arith)
    (All-weaker (IsFrom (length front + 1)) (IsFrom (length front)) (λ line from. omega arith)
    (kept_lines more scale stacks front ++ last_lines scale stacks front)
    (All-append (IsFrom (length front + 1)) (kept_lines more scale stacks front) (last_lines scale stacks front)
    (kept-level more scale stacks front (lines-level more scale stacks))
    (gathered-level stacks (length front + 1) (small_fronts scale stacks front)))))

-- The line of gathered fronts.

gathered-sums : (scale : Scale) (stacks : List Costed) (front : List (List ℕ)) (children : ℕ)
    (before below : List FrontLine) (fronts : List (List (List ℕ)))
    → AreSmallNexts scale stacks front fronts → All (IsFrom (length front + 1)) below
    → AreSums scale stacks ((before ++ front_line children stacks front ∷ []) ++ below)
    (gathered_lines stacks (length front + 1) fronts)
unfolding gathered_lines
gathered-sums scale stacks front children before below [] are deeper = tt
gathered-sums scale stacks front children before below (next ∷ more) are deeper = (
  record {
    front = front;
    nexts = next ∷ more;
    beneath = record {
      earlier = before;
      line = front_line children stacks front;
      below = below;
      are = append_assoc before (front_line children stacks front ∷ []) below;
      shows = refl;
      deeper =
          All-weaker (IsFrom (length front + 1)) (λ lower. length front < lower.level) (λ line from. omega arith) below
          deeper;
    };
    are = are;
    level = refl;
    cost = refl;
    count = refl;
  },
  tt,
)

flat-sums : (more : ℕ) (scale : Scale) (stacks : List Costed) (fronts : List (List (List ℕ)))
    → ((front : List (List ℕ)) (before : List FrontLine)
    → AreSums scale stacks before (front_lines more scale stacks front))
    → (before : List FrontLine) → AreSums scale stacks before (flat_map (front_lines more scale stacks) fronts)
flat-sums more scale stacks [] one before = tt
flat-sums more scale stacks (front ∷ fronts) one before =
    sums-append scale stacks before (front_lines more scale stacks front)
    (flat_map (front_lines more scale stacks) fronts) (one front before)
    (flat-sums more scale stacks fronts one (before ++ front_lines more scale stacks front))

lines-sums : (more : ℕ) (scale : Scale) (stacks : List Costed) (front : List (List ℕ)) (before : List FrontLine)
    → AreSums scale stacks before (front_lines more scale stacks front)
lines-sums zero scale stacks front before =
    subst (AreSums scale stacks before) (sym (lines-none scale stacks front)) ((refl, refl), tt)
lines-sums (suc more) scale stacks front before =
    let line : FrontLine = front_line (children_of scale stacks front) stacks front in
    let kept : List FrontLine = kept_lines more scale stacks front in
    subst (AreSums scale stacks before) (sym (lines-more more scale stacks front)) (
      (refl, refl),
      sums-append scale stacks (before ++ line ∷ []) kept (last_lines scale stacks front)
          (flat-sums more scale stacks (kept_fronts scale stacks front) (lines-sums more scale stacks)
          (before ++ line ∷ []))
          (gathered-sums scale stacks front (children_of scale stacks front) before kept
          (small_fronts scale stacks front) (are-small scale stacks front)
          (kept-level more scale stacks front (lines-level more scale stacks))),
    )

-- Each front that isn't small is there.

abbrev IsThere : List Costed → List FrontLine → List (List ℕ) → Type 0
IsThere stacks lines front = (children : ℕ) × Contains lines (front_line children stacks front)

Contains-flat : {X A : Type 0} (f : X → List A) (xs : List X) (y : X) (a : A) → Contains xs y → Contains (f y) a
    → Contains (flat_map f xs) a
Contains-flat {X} {A} f xs y a held inside = at xs held.0 held.1 held.2
  where
    at : (zs : List X) (k : ℕ) → k < length zs → get_or zs k y ≡ y → Contains (flat_map f zs) a
    at [] k within is = absurd (omega arith)
    at (z ∷ zs) zero within is =
        Contains-append_left (f z) (flat_map f zs) a (subst (λ (x : X). Contains (f x) a) (sym is) inside)
    at (z ∷ zs) (suc k) within is = Contains-append_right (f z) (flat_map f zs) a (at zs k (omega arith) is)

itself : (more : ℕ) (scale : Scale) (stacks : List Costed) (front : List (List ℕ))
    → IsThere stacks (front_lines more scale stacks front) front
itself zero scale stacks front = (
  0,
  subst (λ (ls : List FrontLine). Contains ls (front_line 0 stacks front)) (sym (lines-none scale stacks front))
      (0, omega arith, refl),
)
itself (suc more) scale stacks front = (
  children_of scale stacks front,
  subst (λ (ls : List FrontLine). Contains ls (front_line (children_of scale stacks front) stacks front))
      (sym (lines-more more scale stacks front)) (0, omega arith, refl),
)

lines-held : (more : ℕ) (scale : Scale) (stacks : List Costed) (front tail : List (List ℕ)) → length tail ≤ more
    → 0 < inclusive (front ++ tail) stacks
    → scale.threshold * scale.total ≤ 10000 * inclusive (front ++ tail) stacks
    → IsThere stacks (front_lines more scale stacks front) (front ++ tail)
lines-held more scale stacks front [] short some large =
    subst (IsThere stacks (front_lines more scale stacks front)) (sym (append-nil front))
    (itself more scale stacks front)
lines-held zero scale stacks front (text ∷ tail) short some large = absurd (omega arith)
lines-held (suc more) scale stacks front (text ∷ tail) short some large =
    let next : List (List ℕ) = front ++ text ∷ [] in
    let is : next ++ tail ≡ front ++ text ∷ tail = append_assoc front (text ∷ []) tail in
    let some_next : 0 < inclusive (next ++ tail) stacks =
    subst (λ (xs : List (List ℕ)). 0 < inclusive xs stacks) (sym is) some in
    let large_next : scale.threshold * scale.total ≤ 10000 * inclusive (next ++ tail) stacks =
    subst (λ (xs : List (List ℕ)). scale.threshold * scale.total ≤ 10000 * inclusive xs stacks) (sym is) large in
    let most = inclusive-longer next tail stacks in
    let there = kept-there scale stacks front next text refl (omega arith) (omega arith) in
    let found = lines-held more scale stacks next tail (omega arith) some_next large_next in
    let kept =
    Contains-flat (front_lines more scale stacks) (kept_fronts scale stacks front) next
    (front_line found.0 stacks (next ++ tail)) there found.1 in
    subst (IsThere stacks (front_lines (suc more) scale stacks front)) is (
      found.0,
      subst (λ (ls : List FrontLine). Contains ls (front_line found.0 stacks (next ++ tail)))
          (sym (lines-more more scale stacks front))
          (Contains-append_right (front_line (children_of scale stacks front) stacks front ∷ [])
          (kept_lines more scale stacks front ++ last_lines scale stacks front)
          (front_line found.0 stacks (next ++ tail))
          (Contains-append_left (kept_lines more scale stacks front) (last_lines scale stacks front)
          (front_line found.0 stacks (next ++ tail)) kept)),
    )

-- No front is there twice.

abbrev fronts_of : Shown → List (List (List ℕ))
fronts_of (a_front front) = front ∷ []
fronts_of (gathered places) = []

abbrev first_of : List (List (List ℕ)) → List (List ℕ)
first_of [] = []
first_of (front ∷ fronts) = front

same-front : (front other : List (List ℕ)) → a_front front ≡ a_front other → front ≡ other
same-front front other same = ap (λ (shown : Shown). first_of (fronts_of shown)) same

not-front : {X : Type 0} (places : ℕ) (front : List (List ℕ)) → gathered places ≡ a_front front → X
not-front places front same =
    absurd (let count : 0 ≡ 1 = ap (λ (shown : Shown). length (fronts_of shown)) same in omega arith)

-- the front of a line begins with another
abbrev Begins : List (List ℕ) → FrontLine → Type 0
Begins front line = (g : List (List ℕ)) → line.shown ≡ a_front g → take (length front) g ≡ front

begins-itself : (front g : List (List ℕ)) → a_front front ≡ a_front g → take (length front) g ≡ front
begins-itself front g is =
    ap (λ (xs : List (List ℕ)). take (length front) xs) (sym (same-front front g is))
    ∙ take_all (length front) front (omega arith)

begins-shorter : (front next : List (List ℕ)) (line : FrontLine) → next ≡ front ++ last_of next ∷ [] → Begins next line
    → Begins front line
begins-shorter front next line is begins = λ g shows.
    (let long = ap (λ (xs : List (List ℕ)). length xs) is ∙ length_push front (last_of next) in
    sym (take-take (length front) (length next) g (omega arith))
    ∙ ap (λ (xs : List (List ℕ)). take (length front) xs) (begins g shows ∙ is)
    ∙ take-append-le (length front) front (last_of next ∷ []) (omega arith)
    ∙ take_all (length front) front (omega arith))

gathered-begins : (front : List (List ℕ)) (stacks : List Costed) (level : ℕ) (fronts : List (List (List ℕ)))
    → All (Begins front) (gathered_lines stacks level fronts)
unfolding gathered_lines
gathered-begins front stacks level [] = All-nil (Begins front)
gathered-begins front stacks level (next ∷ more) =
    All-cons (Begins front) _ [] (λ g shows. not-front (length (next ∷ more)) g shows) (All-nil (Begins front))

lines-begin : (more : ℕ) (scale : Scale) (stacks : List Costed) (front : List (List ℕ))
    → All (Begins front) (front_lines more scale stacks front)
lines-begin zero scale stacks front =
    subst (All (Begins front)) (sym (lines-none scale stacks front))
    (All-cons (Begins front) (front_line 0 stacks front) [] (begins-itself front) (All-nil (Begins front)))
lines-begin (suc more) scale stacks front =
    subst (All (Begins front)) (sym (lines-more more scale stacks front))
    (All-cons (Begins front) (front_line (children_of scale stacks front) stacks front)
    (kept_lines more scale stacks front ++ last_lines scale stacks front) (begins-itself front)
    (All-append (Begins front) (kept_lines more scale stacks front) (last_lines scale stacks front)
    (All-flat (Begins front) (front_lines more scale stacks) (kept_fronts scale stacks front)
    (All-weaker (λ (next : List (List ℕ)). next ≡ front ++ last_of next ∷ [])
    (λ (next : List (List ℕ)). All (Begins front) (front_lines more scale stacks next))
    (λ next is. All-weaker (Begins next) (Begins front) (λ line begins. begins-shorter front next line is begins)
    (front_lines more scale stacks next) (lines-begin more scale stacks next))
    (kept_fronts scale stacks front) (kept-goes_on scale stacks front)))
    (gathered-begins front stacks (length front + 1) (small_fronts scale stacks front))))

-- two lines aren't of one front
abbrev Apart : FrontLine → FrontLine → Type 0
Apart earlier later = (front : List (List ℕ)) → earlier.shown ≡ a_front front → later.shown ≡ a_front front → ⊥

pairs-append : (xs ys : List FrontLine) → AllPairs Apart xs → AllPairs Apart ys
    → ((x y : FrontLine) → Contains xs x → Contains ys y → Apart x y) → AllPairs Apart (xs ++ ys)
pairs-append [] ys first second across = second
pairs-append (x ∷ xs) ys first second across =
    AllPairs-cons Apart x (xs ++ ys)
    (All-append (Apart x) xs ys (λ k d within. first zero (suc k) d (omega arith) (omega arith))
    (λ k d within. across x (get_or ys k d) (0, omega arith, refl) (Contains-get_or ys k d within)))
    (pairs-append xs ys (λ i j d before within. first (suc i) (suc j) d (omega arith) (omega arith)) second
    (λ y z here there. across y z (Contains-append_right (x ∷ []) xs y here) there))

-- an element of lists side by side is one of them
in_flat : {X A : Type 0} (f : X → List A) (xs : List X) (a : A) → Contains (flat_map f xs) a
    → (y : X) × Contains xs y × Contains (f y) a
in_flat f [] a held = absurd (let within = held.1 in omega arith)
in_flat f (x ∷ xs) a held = elim (Contains-append_cases (f x) (flat_map f xs) a held) [
  | inl here ↦ (x, (0, omega arith, refl), here)
  | inr later ↦
      (let found = in_flat f xs a later in (found.0, Contains-append_right (x ∷ []) xs found.0 found.1, found.2))
]

-- lines of different fronts that are equally long
siblings-apart : (n : ℕ) (one two : List (List ℕ)) (x y : FrontLine) → length one ≡ n → length two ≡ n → one ≢ two
    → Begins one x → Begins two y → Apart x y
siblings-apart n one two x y one_long two_long apart one_begins two_begins = λ front in_x in_y.
    apart (sym (one_begins front in_x) ∙ ap (λ (k : ℕ). take k front) (one_long ∙ sym two_long) ∙ two_begins front in_y)

flat-apart : (n more : ℕ) (scale : Scale) (stacks : List Costed) (fronts : List (List (List ℕ)))
    → All (λ (front : List (List ℕ)). length front ≡ n) fronts → AllPairs (λ earlier later. earlier ≢ later) fronts
    → ((front : List (List ℕ)) → AllPairs Apart (front_lines more scale stacks front))
    → AllPairs Apart (flat_map (front_lines more scale stacks) fronts)
flat-apart n more scale stacks [] long apart each = λ i j d before within. absurd (omega arith)
flat-apart n more scale stacks (front ∷ fronts) long apart each =
    pairs-append (front_lines more scale stacks front) (flat_map (front_lines more scale stacks) fronts) (each front)
    (flat-apart n more scale stacks fronts (λ k d within. long (suc k) d (omega arith))
    (λ i j d before within. apart (suc i) (suc j) d (omega arith) (omega arith)) each)
    (λ x y here there.
    (let found = in_flat (front_lines more scale stacks) fronts y there in
    let P : List (List ℕ) → Type 0 = λ other. (length other ≡ n) × (front ≢ other) in
    let other =
    All-contains P fronts found.0
    (λ k d within. (long (suc k) d (omega arith), apart zero (suc k) d (omega arith) (omega arith))) found.1 in
    siblings-apart n front found.0 x y (long zero front (omega arith)) other.0 other.1
    (All-contains (Begins front) (front_lines more scale stacks front) x (lines-begin more scale stacks front) here)
    (All-contains (Begins found.0) (front_lines more scale stacks found.0) y (lines-begin more scale stacks found.0)
    found.2)))

gathered-apart : (stacks : List Costed) (level : ℕ) (fronts : List (List (List ℕ))) (x : FrontLine)
    → All (Apart x) (gathered_lines stacks level fronts)
unfolding gathered_lines
gathered-apart stacks level [] x = All-nil (Apart x)
gathered-apart stacks level (next ∷ more) x =
    All-cons (Apart x) _ [] (λ front here there. not-front (length (next ∷ more)) front there) (All-nil (Apart x))

gathered-one : (stacks : List Costed) (level : ℕ) (fronts : List (List (List ℕ)))
    → AllPairs Apart (gathered_lines stacks level fronts)
unfolding gathered_lines
gathered-one stacks level [] = λ i j d before within. absurd (omega arith)
gathered-one stacks level (next ∷ more) = λ i j d before within. absurd (omega arith)

-- those below a front's line are of longer fronts
first-apart : (more : ℕ) (scale : Scale) (stacks : List Costed) (front : List (List ℕ))
    → All (Apart (front_line (children_of scale stacks front) stacks front)) (kept_lines more scale stacks front)
first-apart more scale stacks front =
    All-flat (Apart (front_line (children_of scale stacks front) stacks front)) (front_lines more scale stacks)
    (kept_fronts scale stacks front)
    (All-weaker (λ (next : List (List ℕ)). length next ≡ length front + 1)
    (λ (next : List (List ℕ)). All (Apart (front_line (children_of scale stacks front) stacks front))
    (front_lines more scale stacks next))
    (λ next long. All-weaker (Begins next) (Apart (front_line (children_of scale stacks front) stacks front))
    (λ line begins. λ g here there.
    (let begins_g = begins g there in
    let count = ap (λ (xs : List (List ℕ)). length xs) begins_g in
    let same = ap (λ (xs : List (List ℕ)). length xs) (same-front front g here) in
    let cut = length-take (length next) g in
    omega arith))
    (front_lines more scale stacks next) (lines-begin more scale stacks next))
    (kept_fronts scale stacks front) (kept-longer scale stacks front))

lines-apart : (more : ℕ) (scale : Scale) (stacks : List Costed) (front : List (List ℕ))
    → AllPairs Apart (front_lines more scale stacks front)
lines-apart zero scale stacks front =
    subst (AllPairs Apart) (sym (lines-none scale stacks front)) (λ i j d before within. absurd (omega arith))
lines-apart (suc more) scale stacks front =
    let line : FrontLine = front_line (children_of scale stacks front) stacks front in
    let kept : List FrontLine = kept_lines more scale stacks front in
    let last : List FrontLine = last_lines scale stacks front in
    subst (AllPairs Apart) (sym (lines-more more scale stacks front))
    (AllPairs-cons Apart line (kept ++ last)
    (All-append (Apart line) kept last (first-apart more scale stacks front)
    (gathered-apart stacks (length front + 1) (small_fronts scale stacks front) line))
    (pairs-append kept last
    (flat-apart (length front + 1) more scale stacks (kept_fronts scale stacks front) (kept-longer scale stacks front)
    (kept-apart-all scale stacks front) (lines-apart more scale stacks))
    (gathered-one stacks (length front + 1) (small_fronts scale stacks front))
    (λ x y here there. All-contains (Apart x) last y
    (gathered-apart stacks (length front + 1) (small_fronts scale stacks front) x) there)))

apart-at : (lines : List FrontLine) (m n : ℕ) (line other : FrontLine) (front : List (List ℕ)) → AllPairs Apart lines
    → m < n → slice_get lines m ≡ Some line → slice_get lines n ≡ Some other → line.shown ≡ a_front front
    → other.shown ≡ a_front front → ⊥
apart-at lines m n line other front apart before here there shows shows' =
    apart m n line before (slice_get_within lines n other there) front
    (ap (λ (l : FrontLine). l.shown) (get_or_from_slice_get lines m line line here) ∙ shows)
    (ap (λ (l : FrontLine). l.shown) (get_or_from_slice_get lines n other line there) ∙ shows')

-- All of it.

first-line : (more : ℕ) (scale : Scale) (stacks : List Costed)
    → (line : FrontLine) × (slice_get (front_lines more scale stacks []) 0 ≡ Some line) × (line.shown ≡ a_front [])
first-line zero scale stacks =
    (front_line 0 stacks [], ap (λ (ls : List FrontLine). slice_get ls 0) (lines-none scale stacks []), refl)
first-line (suc more) scale stacks = (
  front_line (children_of scale stacks []) stacks [],
  ap (λ (ls : List FrontLine). slice_get ls 0) (lines-more more scale stacks []),
  refl,
)

view-sums : (depth : ℕ) (scale : Scale) (stacks : List Costed)
    → AreViewSums depth scale stacks (cost_lines depth scale stacks)
unfolding cost_lines
view-sums depth scale stacks = record {
  root = first-line depth scale stacks;
  each =
      λ n line at. sum-at scale stacks [] (front_lines depth scale stacks []) n line
      (lines-sums depth scale stacks [] [])
      at;
  all = λ front short some large.
      (let found = lines-held depth scale stacks [] front short some large in
      let line : FrontLine = front_line found.0 stacks front in (
        found.1.0,
        line,
        slice_get-get_or (front_lines depth scale stacks []) found.1.0 line found.1.1
            ∙ ap (λ (l : FrontLine). Some l) found.1.2,
        refl,
      ));
  once = λ m n line other front here there shows shows'.
      (let lines : List FrontLine = front_lines depth scale stacks [] in
      let apart = lines-apart depth scale stacks [] in
      elim (cases_order m n) [
        | inl same ↦ same
        | inr order ↦ elim order [
          | inl before ↦ absurd (apart-at lines m n line other front apart before here there shows shows')
          | inr after ↦ absurd (apart-at lines n m other line front apart after there here shows' shows)
        ]
      ]);
}

pub text-sums : (key : FigureKey) (threshold depth : ℕ) (dhat : Dhat)
    → HasViewSums key threshold depth dhat (view_text key threshold depth dhat)
unfolding view_text tree_text
text-sums key threshold depth dhat = record {
  lines = cost_lines depth (view_scale key threshold dhat) (costed (point_fronts dhat) (point_costs key dhat));
  are = view-sums depth (view_scale key threshold dhat) (costed (point_fronts dhat) (point_costs key dhat));
  written = refl;
}
