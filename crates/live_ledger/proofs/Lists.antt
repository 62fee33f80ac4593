-- Lemmas on lists of events with one more event at the end.
use Rattle.std.proofs.Common.{Bool, true, false, ◌≡◌, ℕ, ◌+◌, ◌-◌, suc, List, [], ◌∷◌, ◌++◌, length, cond, Option, refl}
use Rattle.std.proofs.Common.{ap, ◌∙◌, arith, append-nil}
use Rattle.std.specs.Option.{option_eq}
use Rattle.std.specs.Prelude.{nat_eq, ◌==◌, ◌&&◌, slice_get, Some, None, count_by, option_and_then}
use Rattle.std.proofs.lemmas.List.Sums.{sum_by-cons}
use Rattle.std.proofs.lemmas.List.Elements.{filter-append}
use Rattle.live_ledger.specs.declared.event.Event.{Event}
use Rattle.live_ledger.specs.declared.event.Event.TheVariants.{Alloc, Free, Tick}
use Rattle.live_ledger.specs.Events.{is_counted, counted}
use Rattle.live_ledger.specs.InStack.{is_temporary_in, temporary_in}
use Rattle.live_ledger.specs.Temporary.{is_alloc_then_free, neighbours, temporary_count, info_allocated, last_allocated}

-- the last element of a list
abbrev pub last_of : List Event → Option Event
last_of xs = slice_get xs (length xs - 1)

-- a test of two events that stand beside each other
abbrev pub Pair : Type 0
Pair = Event → Event → Bool

-- 1 where the test holds of the last event and this one
abbrev pub pair_with : Pair → Option Event → Event → ℕ
pair_with test None event = 0
pair_with test (Some earlier) event = cond (test earlier event) 1 0

-- the count over neighbours
abbrev pairs_in : Pair → List Event → ℕ
pairs_in test xs = count_by (λ (pair : Event × Event). test pair.0 pair.1) (neighbours xs)

-- the last element of a list of two or more is that of its tail
pub last-tail : (y z : Event) (zs : List Event) → last_of (y ∷ z ∷ zs) ≡ last_of (z ∷ zs)
last-tail y z zs =
    let here : length (y ∷ z ∷ zs) - 1 ≡ suc (length zs) = omega arith in
    let there : length zs ≡ length (z ∷ zs) - 1 = omega arith in
    ap (λ (n : ℕ). slice_get (y ∷ z ∷ zs) n) here ∙ ap (λ (n : ℕ). slice_get (z ∷ zs) n) there

-- the last element, after one more
pub last-push : (xs : List Event) (x : Event) → last_of (xs ++ x ∷ []) ≡ Some x
last-push [] x = refl
last-push (y ∷ []) x = refl
last-push (y ∷ z ∷ zs) x = last-tail y z (zs ++ x ∷ []) ∙ last-push (z ∷ zs) x

-- the count of neighbours of a list of two or more
neighbours-cons : (test : Pair) (y z : Event) (zs : List Event)
    → pairs_in test (y ∷ z ∷ zs) ≡ cond (test y z) 1 0 + pairs_in test (z ∷ zs)
neighbours-cons test y z zs =
    sum_by-cons (λ (pair : Event × Event). cond {A = ℕ} (test pair.0 pair.1) 1 0) (y, z) (neighbours (z ∷ zs))

-- one more element has one more neighbour on its left
neighbours-push : (test : Pair) (xs : List Event) (x : Event)
    → pairs_in test (xs ++ x ∷ []) ≡ pairs_in test xs + pair_with test (last_of xs) x
neighbours-push test [] x = refl
neighbours-push test (y ∷ []) x = refl
neighbours-push test (y ∷ z ∷ zs) x =
    let all = neighbours-cons test y z (zs ++ x ∷ []) in
    let before = neighbours-cons test y z zs in
    let tail = neighbours-push test (z ∷ zs) x in
    let last : pair_with test (last_of (y ∷ z ∷ zs)) x ≡ pair_with test (last_of (z ∷ zs)) x =
    ap (λ (o : Option Event). pair_with test o x) (last-tail y z zs) in
    omega arith

-- a clock value at the end is passed over
pub counted-tick : (events : List Event) (ms : ℕ) → counted (events ++ Tick ms ∷ []) ≡ counted events
counted-tick events ms = filter-append is_counted events (Tick ms ∷ []) ∙ append-nil (counted events)

-- an allocation at the end is counted
pub counted-alloc : (events : List Event) (info stack size : ℕ)
    → counted (events ++ Alloc info stack size ∷ []) ≡ counted events ++ Alloc info stack size ∷ []
counted-alloc events info stack size = filter-append is_counted events (Alloc info stack size ∷ [])

-- a free at the end is counted
pub counted-free : (events : List Event) (info stack size : ℕ)
    → counted (events ++ Free info stack size ∷ []) ≡ counted events ++ Free info stack size ∷ []
counted-free events info stack size = filter-append is_counted events (Free info stack size ∷ [])

-- an allocation ends no temporary allocation
alloc-ends_nothing : (before : Option Event) (info stack size : ℕ)
    → pair_with is_alloc_then_free before (Alloc info stack size) ≡ 0
alloc-ends_nothing None info stack size = refl
alloc-ends_nothing (Some (Alloc i s z)) info stack size = refl
alloc-ends_nothing (Some (Free i s z)) info stack size = refl
alloc-ends_nothing (Some (Tick ms)) info stack size = refl

-- nor one of a stack
alloc-ends_nothing_in : (n : ℕ) (before : Option Event) (info stack size : ℕ)
    → pair_with (is_temporary_in n) before (Alloc info stack size) ≡ 0
alloc-ends_nothing_in n None info stack size = refl
alloc-ends_nothing_in n (Some (Alloc i s z)) info stack size = refl
alloc-ends_nothing_in n (Some (Free i s z)) info stack size = refl
alloc-ends_nothing_in n (Some (Tick ms)) info stack size = refl

-- a free ends one where the event before it is an allocation from its info
free-ends :
    (before : Option Event) (info stack size : ℕ)
    → pair_with is_alloc_then_free before (Free info stack size)
    ≡ cond (option_eq nat_eq (option_and_then info_allocated before) (Some info)) 1 0
free-ends None info stack size = refl
free-ends (Some (Alloc i s z)) info stack size = refl
free-ends (Some (Free i s z)) info stack size = refl
free-ends (Some (Tick ms)) info stack size = refl

-- a free of a block of stack `n` ends one in stack `n` where it ends one
free-ends_in : (n : ℕ) (before : Option Event) (info stack size : ℕ) → (stack == n) ≡ true
    → pair_with (is_temporary_in n) before (Free info stack size)
    ≡ pair_with is_alloc_then_free before (Free info stack size)
free-ends_in n None info stack size is = refl
free-ends_in n (Some earlier) info stack size is =
    ap (λ (b : Bool). cond {A = ℕ} (b && is_alloc_then_free earlier (Free info stack size)) 1 0) is

-- a free of a block of another stack ends none in stack `n`
free-ends_other : (n : ℕ) (before : Option Event) (info stack size : ℕ) → (stack == n) ≡ false
    → pair_with (is_temporary_in n) before (Free info stack size) ≡ 0
free-ends_other n None info stack size is = refl
free-ends_other n (Some earlier) info stack size is =
    ap (λ (b : Bool). cond {A = ℕ} (b && is_alloc_then_free earlier (Free info stack size)) 1 0) is

-- temporary allocations after one more event
pub temporary-tick : (events : List Event) (ms : ℕ) → temporary_count (events ++ Tick ms ∷ []) ≡ temporary_count events
temporary-tick events ms = ap (pairs_in is_alloc_then_free) (counted-tick events ms)

pub temporary-alloc : (events : List Event) (info stack size : ℕ)
    → temporary_count (events ++ Alloc info stack size ∷ []) ≡ temporary_count events
temporary-alloc events info stack size =
    let step = neighbours-push is_alloc_then_free (counted events) (Alloc info stack size) in
    let nothing = alloc-ends_nothing (last_of (counted events)) info stack size in
    ap (pairs_in is_alloc_then_free) (counted-alloc events info stack size) ∙ omega arith

pub temporary-free :
    (events : List Event) (info stack size : ℕ)
    → temporary_count (events ++ Free info stack size ∷ [])
    ≡ temporary_count events + cond (option_eq nat_eq (last_allocated events) (Some info)) 1 0
temporary-free events info stack size =
    let step = neighbours-push is_alloc_then_free (counted events) (Free info stack size) in
    let ends = free-ends (last_of (counted events)) info stack size in
    ap (pairs_in is_alloc_then_free) (counted-free events info stack size) ∙ omega arith

-- temporary allocations of a stack after one more event
pub temporary_in-tick : (n : ℕ) (events : List Event) (ms : ℕ)
    → temporary_in n (events ++ Tick ms ∷ []) ≡ temporary_in n events
temporary_in-tick n events ms = ap (pairs_in (is_temporary_in n)) (counted-tick events ms)

pub temporary_in-alloc : (n : ℕ) (events : List Event) (info stack size : ℕ)
    → temporary_in n (events ++ Alloc info stack size ∷ []) ≡ temporary_in n events
temporary_in-alloc n events info stack size =
    let step = neighbours-push (is_temporary_in n) (counted events) (Alloc info stack size) in
    let nothing = alloc-ends_nothing_in n (last_of (counted events)) info stack size in
    ap (pairs_in (is_temporary_in n)) (counted-alloc events info stack size) ∙ omega arith

pub temporary_in-free :
    (n : ℕ) (events : List Event) (info stack size : ℕ)
    → (stack == n) ≡ true
    → temporary_in n (events ++ Free info stack size ∷ [])
    ≡ temporary_in n events + cond (option_eq nat_eq (last_allocated events) (Some info)) 1 0
temporary_in-free n events info stack size is =
    let step = neighbours-push (is_temporary_in n) (counted events) (Free info stack size) in
    let ends =
    free-ends_in n (last_of (counted events)) info stack size is
    ∙ free-ends (last_of (counted events)) info stack size in
    ap (pairs_in (is_temporary_in n)) (counted-free events info stack size) ∙ omega arith

pub temporary_in-free_other : (n : ℕ) (events : List Event) (info stack size : ℕ) → (stack == n) ≡ false
    → temporary_in n (events ++ Free info stack size ∷ []) ≡ temporary_in n events
temporary_in-free_other n events info stack size is =
    let step = neighbours-push (is_temporary_in n) (counted events) (Free info stack size) in
    let nothing = free-ends_other n (last_of (counted events)) info stack size is in
    ap (pairs_in (is_temporary_in n)) (counted-free events info stack size) ∙ omega arith

-- the last event after one more
pub last-tick : (events : List Event) (ms : ℕ) → last_allocated (events ++ Tick ms ∷ []) ≡ last_allocated events
last-tick events ms = ap (λ (xs : List Event). option_and_then info_allocated (last_of xs)) (counted-tick events ms)

pub last-alloc : (events : List Event) (info stack size : ℕ)
    → last_allocated (events ++ Alloc info stack size ∷ []) ≡ Some info
last-alloc events info stack size =
    ap (λ (xs : List Event). option_and_then info_allocated (last_of xs)) (counted-alloc events info stack size)
    ∙ ap (λ (o : Option Event). option_and_then info_allocated o) (last-push (counted events) (Alloc info stack size))

pub last-free : (events : List Event) (info stack size : ℕ)
    → last_allocated (events ++ Free info stack size ∷ []) ≡ None
last-free events info stack size =
    ap (λ (xs : List Event). option_and_then info_allocated (last_of xs)) (counted-free events info stack size)
    ∙ ap (λ (o : Option Event). option_and_then info_allocated o) (last-push (counted events) (Free info stack size))
