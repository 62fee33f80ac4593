-- Lemmas on groups: stacks as one entry, and the places of stacks as they come one after another.
use Rattle.std.proofs.Common.{◌≡◌, ℕ, suc, ◌+◌, ◌-◌, ◌<◌, ◌≤◌, eqb, cond, not, ◌||◌, Bool, true, false, List, [], ◌∷◌}
use Rattle.std.proofs.Common.{◌++◌, filter, get_or, length, map, take, Some, refl, sym, ap, ◌∙◌, subst, arith}
use Rattle.std.proofs.Common.{append-nil}
use Rattle.std.specs.Prelude.{All, min, slice_get, sum_by}
use Rattle.std.specs.List.{list_any}
use Rattle.std.specs.Str.{bytes_eq}
use Rattle.std.proofs.lemmas.Bool.{false_from_ne_true, false≢true}
use Rattle.std.proofs.lemmas.Bool.Decides.{nat_tests}
use Rattle.std.proofs.lemmas.List.{length_push, map_push, take_more}
use Rattle.std.proofs.lemmas.List.Elements.{All-filter, All-head, All-tail, All-take, filter-append}
use Rattle.std.proofs.lemmas.List.Sums.{sum_by-append, sum_by-cons}
use Rattle.std.proofs.lemmas.Option.{get_or_from_slice_get, slice_get-get_or, slice_get_within}
use Rattle.std.proofs.lemmas.Slice.Eq.{bytes_eq-Decides}
use Rattle.cost_tree.proofs.Laws.{take-next}
use Rattle.intern_tables.specs.WithoutRepeats.{without_repeats}
use Rattle.ht_trace.specs.TableState.{TableState}
use Rattle.ht_print.specs.declared.entry.Entry.{Entry}
use Rattle.ht_print.specs.declared.places.Places.{Places}
use Rattle.ht_print.specs.PlacedStacks.{IsLast, groups_up_to, stacks_numbered}
use Rattle.ht_print.specs.Places.{TellPlaces, number_at}
use Rattle.ht_print.specs.ReportGroups.{joined, least_from, place_of, places, stacks_at}
use Rattle.ht_print.proofs.EntryOrder.{part-sum}
use Rattle.ht_print.proofs.LinkLemmas.{numbered-here}

-- the least stack of some and one more
least_from-more : (n : ℕ) (stacks : List Entry) (stack : Entry)
    → least_from n (stacks ++ stack ∷ []) ≡ min (least_from n stacks) stack.stack
least_from-more n [] stack = refl
least_from-more n (first ∷ more) stack = least_from-more (min n first.stack) more stack

-- some stacks as one entry, and one more
joined-more : (stacks : List Entry) (stack : Entry) → 0 < length stacks
    → joined (stacks ++ stack ∷ [])
    ≡ record { figure = (joined stacks).figure + stack.figure; stack = min (joined stacks).stack stack.stack }
joined-more [] stack some = absurd (omega arith)
joined-more (first ∷ more) stack some =
    let sums : sum_by (λ (entry : Entry). entry.figure) ((first ∷ more) ++ stack ∷ [])
    ≡ sum_by (λ (entry : Entry). entry.figure) (first ∷ more) + stack.figure =
    sum_by-append (λ (entry : Entry). entry.figure) (first ∷ more) (stack ∷ [])
    ∙ ap (λ (n : ℕ). sum_by (λ (entry : Entry). entry.figure) (first ∷ more) + n)
    (sum_by-cons (λ (entry : Entry). entry.figure) stack [] ∙ (omega arith)) in
    ap (λ (n : ℕ). record { figure = n; stack = least_from first.stack (more ++ stack ∷ []) }) sums
    ∙ ap (λ (n : ℕ). record {
      figure = sum_by (λ (entry : Entry). entry.figure) (first ∷ more) + stack.figure;
      stack = n;
    }) (least_from-more
    first.stack more stack)

-- the front of a list by its first element
take-cons : (entry : Entry) (stacks : List Entry) (k n : ℕ) → n ≡ suc k
    → take n (entry ∷ stacks) ≡ entry ∷ take k stacks
take-cons entry stacks k n is = ap (λ (m : ℕ). take m (entry ∷ stacks)) is

-- the first stacks as one entry, and the next one of those behind the first
pub joined-next : (stacks others : List Entry) (first entry d : Entry) (k least : ℕ) → stacks ≡ first ∷ others
    → k < length others → entry ≡ joined (take (k + 1) stacks) → least ≡ min entry.stack (get_or others k d).stack
    → record { figure = entry.figure + (get_or others k d).figure; stack = least } ≡ joined (take (k + 1 + 1) stacks)
joined-next stacks others first entry d k least is within were lesser =
    let some : 0 < length (first ∷ take k others) = omega arith in
    let front : take (k + 1) stacks ≡ first ∷ take k others =
    ap (λ (es : List Entry). take (k + 1) es) is ∙ take-cons first others k (k + 1) (omega arith) in
    let more : take (k + 1 + 1) stacks ≡ (first ∷ take k others) ++ get_or others k d ∷ [] =
    ap (λ (es : List Entry). take (k + 1 + 1) es) is ∙ take-cons first others (k + 1) (k + 1 + 1) (omega arith)
    ∙ ap (λ (es : List Entry). first ∷ es) (take_more others k d within) in
    ap (λ (n : ℕ). record { figure = entry.figure + (get_or others k d).figure; stack = n }) lesser
    ∙ ap (λ (e : Entry). record {
      figure = e.figure + (get_or others k d).figure;
      stack = min e.stack (get_or others k d).stack;
    }) (were
    ∙ ap joined front)
    ∙ sym (joined-more (first ∷ take k others) (get_or others k d) some) ∙ ap joined (sym more)

-- two tests of which each passes where the other does
same-answer : (b c : Bool) → (b ≡ true → c ≡ true) → (c ≡ true → b ≡ true) → b ≡ c
same-answer true c there back = sym (there refl)
same-answer false true there back = back refl
same-answer false false there back = refl

-- the stacks of a place are those of its number
pub at-number : (tables : TableState) (places : Places) (stack : ℕ) (stacks : List Entry) → TellPlaces tables places
    → stack ≤ length tables.nodes → All (λ (e : Entry). e.stack ≤ length tables.nodes) stacks
    → stacks_at tables stacks (place_of tables stack) ≡ stacks_numbered places (number_at places stack) stacks
unfolding stacks_at stacks_numbered
at-number tables places stack [] tell within all = refl
at-number tables places stack (e ∷ es) tell within all =
    let held = All-head (λ (x : Entry). x.stack ≤ length tables.nodes) e es all in
    let equal : bytes_eq (place_of tables stack) (place_of tables e.stack)
    ≡ eqb (number_at places e.stack) (number_at places stack) =
    same-answer (bytes_eq (place_of tables stack) (place_of tables e.stack))
    (eqb (number_at places e.stack) (number_at places stack))
    (λ passes. let same = tell.same_number e.stack stack held within
    (sym ((bytes_eq-Decides (place_of tables stack) (place_of tables e.stack)).0 passes)) in grind (arith, nat_tests))
    (λ passes. let same : number_at places e.stack
    ≡ number_at places stack =
    grind (arith, nat_tests) in (bytes_eq-Decides (place_of tables stack) (place_of tables e.stack)).1
    (sym (tell.same_place e.stack stack held within same))) in
    ap (λ (b : Bool). cond b (e ∷ filter (λ (x : Entry). bytes_eq (place_of tables stack) (place_of tables x.stack)) es)
    (filter (λ (x : Entry). bytes_eq (place_of tables stack) (place_of tables x.stack)) es)) equal
    ∙ ap (λ (xs : List Entry). cond (eqb (number_at places e.stack) (number_at places stack)) (e ∷ xs) xs)
    (at-number tables places stack es tell within (All-tail (λ (x : Entry). x.stack ≤ length tables.nodes) e es all))

-- a text that came before, or didn't, at the end of a list without its repeats
other-way : (x y : List ℕ) → bytes_eq y x ≡ false → bytes_eq x y ≡ false
other-way x y is =
    false_from_ne_true (bytes_eq x y)
    (λ same. false≢true (sym is ∙ (bytes_eq-Decides y x).1 (sym ((bytes_eq-Decides x y).0 same))))

repeats-new : (xs : List (List ℕ)) (y : List ℕ) → list_any (bytes_eq y) xs ≡ false
    → without_repeats bytes_eq (xs ++ y ∷ []) ≡ without_repeats bytes_eq xs ++ y ∷ []
repeats-new [] y none = refl
repeats-new (x ∷ xs) y none = by (bytes_eq y x) refl none (repeats-new xs y)
  where
    by : (b : Bool) → bytes_eq y x ≡ b → (b || list_any (bytes_eq y) xs) ≡ false
        → (list_any (bytes_eq y) xs ≡ false
        → without_repeats bytes_eq (xs ++ y ∷ []) ≡ without_repeats bytes_eq xs ++ y ∷ [])
        → x ∷ filter (λ z. not (bytes_eq x z)) (without_repeats bytes_eq (xs ++ y ∷ []))
        ≡ (x ∷ filter (λ z. not (bytes_eq x z)) (without_repeats bytes_eq xs)) ++ y ∷ []
    by true test rest others = absurd (false≢true (sym rest))
    by false test rest others =
        ap (λ (zs : List (List ℕ)). x ∷ filter (λ z. not (bytes_eq x z)) zs) (others rest)
        ∙ ap (λ (zs : List (List ℕ)). x ∷ zs)
        (filter-append (λ z. not (bytes_eq x z)) (without_repeats bytes_eq xs) (y ∷ []))
        ∙ ap (λ (b : Bool). x
        ∷ (filter (λ z. not (bytes_eq x z)) (without_repeats bytes_eq xs) ++ cond (not b) (y ∷ []) [])) (other-way
        x y test)

repeats-again : (xs : List (List ℕ)) (y : List ℕ) → list_any (bytes_eq y) xs ≡ true
    → without_repeats bytes_eq (xs ++ y ∷ []) ≡ without_repeats bytes_eq xs
repeats-again [] y some = absurd (false≢true some)
repeats-again (x ∷ xs) y some = by (list_any (bytes_eq y) xs) refl (bytes_eq y x) refl some (repeats-again xs y)
  where
    by : (c : Bool) → list_any (bytes_eq y) xs ≡ c → (b : Bool) → bytes_eq y x ≡ b → (b || c) ≡ true
        → (list_any (bytes_eq y) xs ≡ true → without_repeats bytes_eq (xs ++ y ∷ []) ≡ without_repeats bytes_eq xs)
        → x ∷ filter (λ z. not (bytes_eq x z)) (without_repeats bytes_eq (xs ++ y ∷ []))
        ≡ x ∷ filter (λ z. not (bytes_eq x z)) (without_repeats bytes_eq xs)
    by true rest b test some others = ap (λ (zs : List (List ℕ)). x ∷ filter (λ z. not (bytes_eq x z)) zs) (others rest)
    by false rest true test some others =
        ap (λ (zs : List (List ℕ)). x ∷ filter (λ z. not (bytes_eq x z)) zs) (repeats-new xs y rest)
        ∙ ap (λ (zs : List (List ℕ)). x ∷ zs)
        (filter-append (λ z. not (bytes_eq x z)) (without_repeats bytes_eq xs) (y ∷ []))
        ∙ ap (λ (b : Bool). x
        ∷ (filter (λ z. not (bytes_eq x z)) (without_repeats bytes_eq xs) ++ cond (not b) (y ∷ []) []))
        ((bytes_eq-Decides x y).1 (sym ((bytes_eq-Decides y x).0 test)))
        ∙ ap (λ (zs : List (List ℕ)). x ∷ zs)
        (append-nil (filter (λ z. not (bytes_eq x z)) (without_repeats bytes_eq xs)))
    by false rest false test some others = absurd (false≢true some)

-- a place came before where a stack has it
none-came : (tables : TableState) (stacks : List Entry) (place : List ℕ) → stacks_at tables stacks place ≡ []
    → list_any (bytes_eq place) (map (λ (e : Entry). place_of tables e.stack) stacks) ≡ false
unfolding stacks_at
none-came tables [] place none = refl
none-came tables (e ∷ es) place none = by (bytes_eq place (place_of tables e.stack)) none (none-came tables es place)
  where
    by : (b : Bool) → cond b (e ∷ stacks_at tables es place) (stacks_at tables es place) ≡ []
        → (stacks_at tables es place ≡ []
        → list_any (bytes_eq place) (map (λ (x : Entry). place_of tables x.stack) es) ≡ false)
        → (b || list_any (bytes_eq place) (map (λ (x : Entry). place_of tables x.stack) es)) ≡ false
    by true is others = absurd (let count = ap (λ (xs : List Entry). length xs) is in omega arith)
    by false is others = others is

some-came : (tables : TableState) (stacks : List Entry) (place : List ℕ) → 0 < length (stacks_at tables stacks place)
    → list_any (bytes_eq place) (map (λ (e : Entry). place_of tables e.stack) stacks) ≡ true
unfolding stacks_at
some-came tables [] place some = absurd (omega arith)
some-came tables (e ∷ es) place some = by (bytes_eq place (place_of tables e.stack)) some (some-came tables es place)
  where
    by : (b : Bool) → 0 < length (cond b (e ∷ stacks_at tables es place) (stacks_at tables es place))
        → (0 < length (stacks_at tables es place)
        → list_any (bytes_eq place) (map (λ (x : Entry). place_of tables x.stack) es) ≡ true)
        → (b || list_any (bytes_eq place) (map (λ (x : Entry). place_of tables x.stack) es)) ≡ true
    by true is others = refl
    by false is others = others is

-- the groups of no stack, and of one more whose place is new or came before
pub groups-none : (tables : TableState) (stacks : List Entry) → groups_up_to tables stacks 0 ≡ []
unfolding groups_up_to places
groups-none tables stacks = refl

places-of : (tables : TableState) (stacks : List Entry) (k : ℕ) (entry : Entry) → slice_get stacks k ≡ Some entry
    → places tables (take (k + 1) stacks)
    ≡ without_repeats bytes_eq
    (map (λ (e : Entry). place_of tables e.stack) (take k stacks) ++ place_of tables entry.stack ∷ [])
unfolding places
places-of tables stacks k entry is =
    ap (λ (es : List Entry). without_repeats bytes_eq (map (λ (e : Entry). place_of tables e.stack) es))
    (take-next stacks k entry is)
    ∙ ap (λ (ps : List (List ℕ)). without_repeats bytes_eq ps)
    (map_push (λ (e : Entry). place_of tables e.stack) (take k stacks) entry)

pub groups-new : (tables : TableState) (stacks : List Entry) (k : ℕ) (entry : Entry) → slice_get stacks k ≡ Some entry
    → stacks_at tables (take k stacks) (place_of tables entry.stack) ≡ []
    → groups_up_to tables stacks (k + 1)
    ≡ groups_up_to tables stacks k ++ joined (stacks_at tables stacks (place_of tables entry.stack)) ∷ []
unfolding groups_up_to places
groups-new tables stacks k entry is none =
    let group : List ℕ → Entry = λ place. joined (stacks_at tables stacks place) in
    ap (λ (ps : List (List ℕ)). map group ps)
    (places-of tables stacks k entry is
    ∙ repeats-new (map (λ (e : Entry). place_of tables e.stack) (take k stacks)) (place_of tables entry.stack)
    (none-came tables (take k stacks) (place_of tables entry.stack) none))
    ∙ map_push group (places tables (take k stacks)) (place_of tables entry.stack)

pub groups-again : (tables : TableState) (stacks : List Entry) (k : ℕ) (entry : Entry) → slice_get stacks k ≡ Some entry
    → 0 < length (stacks_at tables (take k stacks) (place_of tables entry.stack))
    → groups_up_to tables stacks (k + 1) ≡ groups_up_to tables stacks k
unfolding groups_up_to places
groups-again tables stacks k entry is some =
    ap (λ (ps : List (List ℕ)). map (λ place. joined (stacks_at tables stacks place)) ps)
    (places-of tables stacks k entry is
    ∙ repeats-again (map (λ (e : Entry). place_of tables e.stack) (take k stacks)) (place_of tables entry.stack)
    (some-came tables (take k stacks) (place_of tables entry.stack) some))

-- a stack at a place is held where all are
held-at : (tables : TableState) (stacks : List Entry) (k : ℕ) (entry : Entry)
    → All (λ (e : Entry). e.stack ≤ length tables.nodes) stacks → slice_get stacks k ≡ Some entry
    → entry.stack ≤ length tables.nodes
held-at tables stacks k entry all is =
    subst (λ (e : Entry). e.stack ≤ length tables.nodes) (get_or_from_slice_get stacks k entry entry is)
    (all k entry (slice_get_within stacks k entry is))

-- a stack whose link leads to another came behind one of its place, and one without a link is the first of its place
pub came-again : (tables : TableState) (places : Places) (stacks : List Entry) (k at : ℕ) (entry : Entry)
    → TellPlaces tables places → All (λ (e : Entry). e.stack ≤ length tables.nodes) stacks
    → slice_get stacks k ≡ Some entry → IsLast places stacks (number_at places entry.stack) k at → 0 < at
    → 0 < length (stacks_at tables (take k stacks) (place_of tables entry.stack))
came-again tables places stacks k at entry tell all is last some =
    let inside = slice_get_within stacks k entry is in
    let below = last.within in
    let j : ℕ = at - 1 in
    let one : at ≡ j + 1 = omega arith in
    let other : Entry = get_or stacks j entry in
    let got : slice_get stacks j ≡ Some other = slice_get-get_or stacks j entry (omega arith) in
    let ends : stacks_numbered places (number_at places entry.stack) (take at stacks)
    ≡ stacks_numbered places (number_at places entry.stack) (take j stacks) ++ other ∷ [] =
    ap (λ (n : ℕ). stacks_numbered places (number_at places entry.stack) (take n stacks)) one
    ∙ numbered-here places (number_at places entry.stack) stacks j other got (last.has j other one got) in
    let same : stacks_at tables (take k stacks) (place_of tables entry.stack)
    ≡ stacks_numbered places (number_at places entry.stack) (take j stacks) ++ other ∷ [] =
    at-number tables places entry.stack (take k stacks) tell (held-at tables stacks k entry all is)
    (All-take (λ (e : Entry). e.stack ≤ length tables.nodes) k stacks all)
    ∙ sym last.same ∙ ends in
    let count = ap (λ (es : List Entry). length es) same in
    let longer = length_push (stacks_numbered places (number_at places entry.stack) (take j stacks)) other in
    omega arith

pub came-first : (tables : TableState) (places : Places) (stacks : List Entry) (k at : ℕ) (entry : Entry)
    → TellPlaces tables places → All (λ (e : Entry). e.stack ≤ length tables.nodes) stacks
    → slice_get stacks k ≡ Some entry → IsLast places stacks (number_at places entry.stack) k at → at ≡ 0
    → stacks_at tables (take k stacks) (place_of tables entry.stack) ≡ []
unfolding stacks_numbered
came-first tables places stacks k at entry tell all is last none =
    at-number tables places entry.stack (take k stacks) tell (held-at tables stacks k entry all is)
    (All-take (λ (e : Entry). e.stack ≤ length tables.nodes) k stacks all)
    ∙ sym last.same ∙ ap (λ (n : ℕ). stacks_numbered places (number_at places entry.stack) (take n stacks)) none

-- the stacks of a number have no greater sum than all
pub numbered-sum : (places : Places) (number : ℕ) (stacks : List Entry)
    → sum_by (λ (e : Entry). e.figure) (stacks_numbered places number stacks) ≤ sum_by (λ (e : Entry). e.figure) stacks
unfolding stacks_numbered
numbered-sum places number stacks = part-sum (λ (e : Entry). eqb (number_at places e.stack) number) stacks

-- what holds of all stacks holds of those of a number
pub numbered-all : (P : Entry → Type 0) (places : Places) (number : ℕ) (stacks : List Entry) → All P stacks
    → All P (stacks_numbered places number stacks)
unfolding stacks_numbered
numbered-all P places number stacks all = All-filter (λ (e : Entry). eqb (number_at places e.stack) number) P stacks all
