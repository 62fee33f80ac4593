-- A sampler whose tables grow: it stands for the same events, since what it keeps is of stacks that were there before.
use Rattle.std.proofs.Common.{◌≡◌, ℕ, zero, suc, ◌+◌, ◌<◌, ◌≤◌, List, [], ◌∷◌, ◌++◌, length, map, drop, get_or, eqb}
use Rattle.std.proofs.Common.{take, inl, inr, Bool, true, false, cond, Option, Some, refl, ap, sym, subst, ◌∙◌, arith}
use Rattle.std.proofs.lemmas.Bool.{cases_lt}
use Rattle.std.specs.Prelude.{All, slice_get, sum_by}
use Rattle.std.specs.List.{AllByRecursion, list_any, prefix_len, range_with_len}
use Rattle.std.specs.Option.{option_map_or}
use Rattle.std.specs.Str.{bytes_eq}
use Rattle.std.proofs.lemmas.List.Elements.{All-drop, All-head, All-tail}
use Rattle.std.proofs.lemmas.List.Sums.{sum_by-cons}
use Rattle.std.proofs.lemmas.Bool.Decides.{nat_tests}
use Rattle.cost_history.specs.declared.change.Change.{Change}
use Rattle.ht_trace.specs.declared.frame.FrameAt.{FrameAt}
use Rattle.ht_trace.specs.declared.frame.Style.TheVariants.{Addressed}
use Rattle.ht_trace.specs.Continues.{Continues}
use Rattle.ht_trace.specs.FrameText.{frame_text}
use Rattle.ht_trace.specs.IsFrame.{IsFrame}
use Rattle.ht_trace.specs.StackFrames.{stack_frames}
use Rattle.ht_trace.specs.TableState.{TableState}
use Rattle.ht_trace.proofs.Laws.{stack-places}
use Rattle.massif_tree.specs.FunctionLists.{is_ignored, is_listed, trimmed, trimmed_texts, without_listed}
use Rattle.massif_tree.specs.FirstLists.{first_lists, first_texts}
use Rattle.massif_tree.proofs.Laws.{AreIdle}
use Rattle.cost_tree.specs.Costed.{Costed, costed}
use Rattle.live_ledger.specs.declared.event.Event.{Event}
use Rattle.live_ledger.specs.declared.event.Event.TheVariants.{Alloc, Free, Tick}
use Rattle.live_ledger.specs.Events.{event_count}
use Rattle.live_ledger.specs.InStack.{alloc_size_in, free_size_in, live_in}
use Rattle.massif_cull.specs.declared.snapshot.Kind.{Kind}
use Rattle.massif_cull.specs.declared.snapshot.Kind.TheVariants.{Normal, Detailed, Peak}
use Rattle.massif_cull.specs.declared.snapshot.Offer.{Offer}
use Rattle.massif_cull.specs.declared.snapshot.SnapEntry.{SnapEntry}
use Rattle.massif_cull.specs.StandsFor as array
use Rattle.massif_sample.specs.declared.load.Load.{Load}
use Rattle.massif_sample.specs.declared.options.MassifOptions.{MassifOptions}
use Rattle.massif_sample.specs.FunctionNames.{FunctionNames, ignores}
use Rattle.massif_sample.specs.Places.{up_to}
use Rattle.massif_sample.specs.SamplesState.{SamplesState}
use Rattle.massif_sample.specs.Snapshots.{cost_at}
use Rattle.massif_sample.specs.StandsFor.{AreCostsAt, AreFronts, AreOfStacks, IsOfStack, IsSnapshot, StandsFor}
use Rattle.massif_sample.specs.StandsFor.{WhereTree}
use Rattle.massif_sample.proofs.Agreeing.{Agree, AgreeAt, figures-same, gross_at-same, heap_at-same, offers-same}
use Rattle.massif_sample.proofs.Agreeing.{time_at-same}
use Rattle.massif_sample.proofs.Costs.{map-same}

-- tests that agree on all elements
prefix-same : {X : Type 0} (p q : X → Bool) (xs : List X) → All (λ x. p x ≡ q x) xs → prefix_len p xs ≡ prefix_len q xs
prefix-same p q [] all = refl
prefix-same p q (x ∷ xs) all =
    ap (λ (b : Bool). cond {A = ℕ} b (1 + prefix_len p xs) 0) (All-head (λ y. p y ≡ q y) x xs all)
    ∙ ap (λ (n : ℕ). cond {A = ℕ} (q x) (1 + n) 0) (prefix-same p q xs (All-tail (λ y. p y ≡ q y) x xs all))

map-same-all : {X Y : Type 0} (f g : X → Y) (xs : List X) → All (λ x. f x ≡ g x) xs → map f xs ≡ map g xs
map-same-all f g [] all = refl
map-same-all {X} {Y} f g (x ∷ xs) all =
    ap (λ (y : Y). y ∷ map f xs) (All-head (λ y. f y ≡ g y) x xs all)
    ∙ ap (λ (ys : List Y). g x ∷ ys) (map-same-all f g xs (All-tail (λ y. f y ≡ g y) x xs all))

-- the same frames are in a list
listed-same : (old new : TableState) (names : List (List ℕ)) → Continues old new → (frames : List FrameAt)
    → All (IsFrame old) frames → All (λ at. is_listed new names at ≡ is_listed old names at) frames
listed-same old new names more frames held = λ k d within.
    ap (λ (function : Option (List ℕ)). option_map_or (λ text. list_any (bytes_eq text) names) function false)
    (more.functions (get_or frames k d) (held k d within))

-- the frames of a stack are places of the tables
held-frames : (tables : TableState) (n : ℕ) → All (IsFrame tables) (stack_frames tables.instructions tables.nodes n)
held-frames tables n = stack-places tables.instructions tables.nodes n

-- the frames of a stack without its innermost allocation functions
trimmed-same : (old new : TableState) (names : List (List ℕ)) (n : ℕ) → Continues old new → n ≤ length old.nodes
    → trimmed new names n ≡ trimmed old names n
unfolding without_listed
trimmed-same old new names n more held =
    let frames : List FrameAt = stack_frames old.instructions old.nodes n in
    ap (λ (fs : List FrameAt). drop (prefix_len (is_listed new names) fs) fs) (more.frames n held)
    ∙ ap (λ (k : ℕ). drop k frames)
    (prefix-same (is_listed new names) (is_listed old names) frames
    (listed-same old new names more frames (held-frames old n)))

trimmed-held : (tables : TableState) (names : List (List ℕ)) (n : ℕ) → All (IsFrame tables) (trimmed tables names n)
unfolding without_listed
trimmed-held tables names n =
    let frames : List FrameAt = stack_frames tables.instructions tables.nodes n in
    All-drop (IsFrame tables) (prefix_len (is_listed tables names) frames) frames (held-frames tables n)

first-same : {X : Type 0} (p q : X → Bool) (xs : List X) → All (λ x. p x ≡ q x) xs
    → option_map_or p (slice_get xs 0) false ≡ option_map_or q (slice_get xs 0) false
first-same p q [] all = refl
first-same p q (x ∷ xs) all = All-head (λ y. p y ≡ q y) x xs all

-- a stack that was there is ignored as before
pub ignores-same : (old new : TableState) (names : FunctionNames) (n : ℕ) → Continues old new → n ≤ length old.nodes
    → ignores new names n ≡ ignores old names n
unfolding is_ignored
ignores-same old new names n more held =
    ap (λ (fs : List FrameAt). option_map_or (is_listed new names.ignore_fns) (slice_get fs 0) false)
    (trimmed-same old new names.alloc_fns n more held)
    ∙ first-same (is_listed new names.ignore_fns) (is_listed old names.ignore_fns) (trimmed old names.alloc_fns n)
    (listed-same old new names.ignore_fns more (trimmed old names.alloc_fns n) (trimmed-held old names.alloc_fns n))

-- and has the same texts
pub texts-same : (old new : TableState) (names : List (List ℕ)) (n : ℕ) → Continues old new → n ≤ length old.nodes
    → trimmed_texts new names n ≡ trimmed_texts old names n
texts-same old new names n more held =
    ap (λ (fs : List FrameAt). map (frame_text Addressed new) fs) (trimmed-same old new names n more held)
    ∙ map-same-all (frame_text Addressed new) (frame_text Addressed old) (trimmed old names n)
    (λ k d within. more.texts Addressed (get_or (trimmed old names n) k d) (trimmed-held old names n k d within))

-- the stack of each event, by recursion
pub of-stacks : (tables : TableState) (events : List Event) → AreOfStacks tables events
    → AllByRecursion (IsOfStack tables) events
of-stacks tables [] held = tt
of-stacks tables (e ∷ es) held = (held 0 e refl, of-stacks tables es (λ k event is. held (suc k) event is))

all-up_to : (P : Event → Type 0) (k : ℕ) (events : List Event) → AllByRecursion P events
    → AllByRecursion P (up_to k events)
unfolding up_to
all-up_to P zero events all = tt
all-up_to P (suc k) [] all = tt
all-up_to P (suc k) (Alloc i s z ∷ es) all = (all.0, all-up_to P k es all.1)
all-up_to P (suc k) (Free i s z ∷ es) all = (all.0, all-up_to P k es all.1)
all-up_to P (suc k) (Tick ms ∷ es) all = (all.0, all-up_to P (suc k) es all.1)

-- the old and the new tables ignore the same of them
agree-at : (old new : TableState) (names : FunctionNames) (e : Event) → Continues old new → IsOfStack old e
    → AgreeAt (ignores old names) (ignores new names) e
agree-at old new names (Alloc i s z) more held = sym (ignores-same old new names s more held)
agree-at old new names (Free i s z) more held = sym (ignores-same old new names s more held)
agree-at old new names (Tick ms) more held = tt

agree-all : (old new : TableState) (names : FunctionNames) (events : List Event) → Continues old new
    → AllByRecursion (IsOfStack old) events → Agree (ignores old names) (ignores new names) events
agree-all old new names [] more held = tt
agree-all old new names (e ∷ es) more held =
    (agree-at old new names e more held.0, agree-all old new names es more held.1)

-- a stack that wasn't there has no event, and nothing live
sum-none : (v : Event → ℕ) (tables : TableState) (events : List Event) → ((e : Event) → IsOfStack tables e → v e ≡ 0)
    → AllByRecursion (IsOfStack tables) events → sum_by v events ≡ 0
sum-none v tables [] none held = refl
sum-none v tables (e ∷ es) none held =
    let here = none e held.0 in
    let rest = sum-none v tables es none held.1 in
    let whole = sum_by-cons v e es in
    omega arith

alloc-none : (tables : TableState) (stack : ℕ) → length tables.nodes < stack → (e : Event) → IsOfStack tables e
    → alloc_size_in stack e ≡ 0
alloc-none tables stack above (Alloc i s z) held =
    ap (λ (b : Bool). cond {A = ℕ} b z 0)
    (let apart : eqb s stack ≡ false = grind (arith, nat_tests, above, held) in apart)
alloc-none tables stack above (Free i s z) held = refl
alloc-none tables stack above (Tick ms) held = refl

free-none : (tables : TableState) (stack : ℕ) → length tables.nodes < stack → (e : Event) → IsOfStack tables e
    → free_size_in stack e ≡ 0
free-none tables stack above (Alloc i s z) held = refl
free-none tables stack above (Free i s z) held =
    ap (λ (b : Bool). cond {A = ℕ} b z 0)
    (let apart : eqb s stack ≡ false = grind (arith, nat_tests, above, held) in apart)
free-none tables stack above (Tick ms) held = refl

pub cost-none : (tables : TableState) (ignored : ℕ → Bool) (events : List Event) (k stack : ℕ)
    → length tables.nodes < stack → AllByRecursion (IsOfStack tables) events → cost_at ignored events k stack ≡ 0
cost-none tables ignored events k stack above held =
    let upto = all-up_to (IsOfStack tables) k events held in
    let allocated = sum-none (alloc_size_in stack) tables (up_to k events) (alloc-none tables stack above) upto in
    let none : live_in stack (up_to k events) ≡ 0 = omega arith in
    by_flag (ignored stack) (live_in stack (up_to k events)) none
  where
    by_flag : (b : Bool) (n : ℕ) → n ≡ 0 → cond {A = ℕ} b 0 n ≡ 0
    by_flag true n is = refl
    by_flag false n is = is

-- one that was there costs the same
cost-same : (old new : TableState) (names : FunctionNames) (events : List Event) (k stack : ℕ) → Continues old new
    → stack ≤ length old.nodes → cost_at (ignores new names) events k stack ≡ cost_at (ignores old names) events k stack
cost-same old new names events k stack more held =
    ap (λ (b : Bool). cond {A = ℕ} b 0 (live_in stack (up_to k events))) (ignores-same old new names stack more held)

-- stacks side by side with their costs, in two parts
pub costed-parts : (texts : ℕ → List (List ℕ)) (cost : ℕ → ℕ) (ks ls : List ℕ)
    → costed (map texts (ks ++ ls)) (map cost (ks ++ ls))
    ≡ costed (map texts ks) (map cost ks) ++ costed (map texts ls) (map cost ls)
unfolding costed
costed-parts texts cost [] ls = refl
costed-parts texts cost (k ∷ ks) ls =
    ap (λ (stacks : List Costed). record { texts = texts k; cost = cost k } ∷ stacks) (costed-parts texts cost ks ls)

pub costed-idle : (texts : ℕ → List (List ℕ)) (cost : ℕ → ℕ) (a n : ℕ) → ((k : ℕ) → a ≤ k → cost k ≡ 0)
    → AreIdle (costed (map texts (range_with_len a n)) (map cost (range_with_len a n)))
unfolding costed
costed-idle texts cost a zero none = tt
costed-idle texts cost a (suc n) none =
    (none a (omega arith), costed-idle texts cost (a + 1) n (λ k low. none k (omega arith)))

-- and so does each stack, if it was there or not
cost-grown : (names : FunctionNames) (old new : TableState) (events : List Event) (place stack : ℕ) → Continues old new
    → AllByRecursion (IsOfStack old) events
    → cost_at (ignores new names) events place stack ≡ cost_at (ignores old names) events place stack
cost-grown names old new events place stack more held = elim (cases_lt (length old.nodes) stack) [
  | inl above ↦ cost-none old (ignores new names) events place stack above held
      ∙ sym (cost-none old (ignores old names) events place stack above held)
  | inr below ↦ cost-same old new names events place stack more below
]

-- what changes say of a place stays what stacks cost there
costs_at-grown : (names : FunctionNames) (old new : TableState) (events : List Event) (place : ℕ)
    (changes : List Change)
    → Continues old new → AllByRecursion (IsOfStack old) events
    → AreCostsAt names old events place changes → AreCostsAt names new events place changes
costs_at-grown names old new events place changes more held was =
    record { each = λ stack. cost-grown names old new events place stack more held ∙ was.each stack }

-- and the lists are still the stacks' texts
fronts-grown : (options : MassifOptions) (names : FunctionNames) (old new : TableState) (fronts : List (List (List ℕ)))
    → Continues old new → AreFronts options names old fronts → AreFronts options names new fronts
unfolding first_lists
fronts-grown options names old new fronts more was = record {
  held = let within = was.held in let grown = more.held in omega arith;
  are =
      was.are
      ∙ map-same (first_texts old names.alloc_fns (options.depth + 1))
      (first_texts new names.alloc_fns (options.depth + 1)) 0 (length fronts)
      (λ n low high. ap (λ (texts : List (List ℕ)). take (options.depth + 1) texts)
      (sym (texts-same old new names.alloc_fns n more (let within = was.held in omega arith))));
}

where-grown : (names : FunctionNames) (old new : TableState) (events : List Event) (place : ℕ) (changes : List Change)
    (kind : Kind)
    → Continues old new → AllByRecursion (IsOfStack old) events
    → WhereTree kind (AreCostsAt names old events place changes)
    → WhereTree kind (AreCostsAt names new events place changes)
where-grown names old new events place changes Normal more held was = tt
where-grown names old new events place changes Detailed more held was =
    costs_at-grown names old new events place changes more held was
where-grown names old new events place changes Peak more held was =
    costs_at-grown names old new events place changes more held was

snapshot-grown : (options : MassifOptions) (names : FunctionNames) (old new : TableState) (events : List Event)
    (changes : List Change) (entry : SnapEntry) (load : Load)
    → Continues old new → AllByRecursion (IsOfStack old) events
    → IsSnapshot options names old events changes entry load → IsSnapshot options names new events changes entry load
snapshot-grown options names old new events changes entry load more held was =
    let agree = agree-all old new names events more held in
    record {
      place = was.place;
      time = was.time ∙ time_at-same options (ignores old names) (ignores new names) events entry.place agree;
      total = was.total ∙ gross_at-same options (ignores old names) (ignores new names) events entry.place agree;
      heap = was.heap ∙ heap_at-same (ignores old names) (ignores new names) events entry.place agree;
      extra = was.extra;
      tree = where-grown names old new events entry.place changes entry.kind more held was.tree;
    }

stack-grown : (old new : TableState) (e : Event) → Continues old new → IsOfStack old e → IsOfStack new e
stack-grown old new (Alloc i s z) more held = let grown = more.held in omega (arith, held)
stack-grown old new (Free i s z) more held = let grown = more.held in omega (arith, held)
stack-grown old new (Tick ms) more held = tt

-- a sampler stands for the same events
pub stands-grown : (flags : List Bool) (samples : SamplesState) (names : FunctionNames) (old new : TableState)
    (events : List Event)
    → Continues old new → StandsFor flags samples names old events → StandsFor flags samples names new events
stands-grown flags samples names old new events more stands =
    let held = of-stacks old events stands.sampling.stacks in
    let agree = agree-all old new names events more held in
    record {
      judged =
          λ stack below. stands.judged stack below
          ∙ ap (λ (b : Bool). Some b)
          (sym (ignores-same old new names stack more (let most = stands.held in omega arith)));
      held = let most = stands.held in let grown = more.held in omega arith;
      sampling = record {
        stacks = λ k event is. stack-grown old new event more (stands.sampling.stacks k event is);
        figures =
            figures-same samples.options (ignores old names) (ignores new names) events samples.running agree
            stands.sampling.figures;
        array =
            subst (λ (os : List Offer). array.StandsFor samples.array os)
            (offers-same samples.options (ignores old names) (ignores new names) events agree) stands.sampling.array;
        snapshots =
            λ k entry load is_entry is_load. snapshot-grown samples.options names old new events samples.history.changes
            entry load more held (stands.sampling.snapshots k entry load is_entry is_load);
        going = stands.sampling.going;
        fronts = fronts-grown samples.options names old new samples.fronts more stands.sampling.fronts;
        told = record {
          unmarked = λ stack place unmarked late.
              stands.sampling.told.unmarked stack place unmarked late
              ∙ sym (cost-grown names old new events (event_count events) stack more held);
        };
        told_within = stands.sampling.told_within;
      };
      some = stands.some;
    }
