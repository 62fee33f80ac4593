-- Lemmas on the fronts of nodes: as an edge is added, and as elements stand for numbers.
use Rattle.std.proofs.Common.{◌≡◌, ◌≢◌, ℕ, zero, suc, ◌+◌, inl, inr, List, [], ◌∷◌, ◌++◌, drop, fold, length, map}
use Rattle.std.proofs.Common.{get_or, Some, refl, sym, ap, ◌∙◌, subst, arith}
use Rattle.std.specs.Prelude.{All, slice_get}
use Rattle.std.proofs.lemmas.List.{get_or_append_left, length-map, length_push, map-append, same_from_push}
use Rattle.std.proofs.lemmas.List.Elements.{All-append, All-cons, All-head, All-nil, All-tail}
use Rattle.std.proofs.lemmas.List.Sums.{fold_push}
use Rattle.std.proofs.lemmas.Option.{none-some, same_Some, slice_get_within, slice_get-get_or, get_or_from_slice_get}
use Rattle.intern_tables.specs.Distinct.{AreDistinct}
use Rattle.cost_tree.specs.declared.edge.Edge.{Edge}
use Rattle.cost_tree.specs.Shapes.{AreSteps, IsStep, next_front, numbers_of, paths}
use Rattle.cost_tree.specs.Texts.{AreNames, IsText, fronts_of, text_of, texts_of}
use Rattle.cost_tree.proofs.Lists.{get-push_old, get-push_new, get-push_cases}
use Rattle.cost_tree.proofs.Naming.{same_number}

-- an edge more is a front more
pub paths-push : {X : Type 0} (element : ℕ → X) (edges : List Edge) (edge : Edge)
    → paths element (edges ++ edge ∷ []) ≡ paths element edges ++ next_front element (paths element edges) edge ∷ []
unfolding paths
paths-push {X} element edges edge =
    fold_push (λ (fronts : List (List X)) (e : Edge). fronts ++ next_front element fronts e ∷ []) ([] ∷ []) edges edge

-- the front of an edge from a node whose front is known
pub next_front-is : {X : Type 0} (element : ℕ → X) (fronts : List (List X)) (edge : Edge) (front : List X)
    → slice_get fronts edge.parent ≡ Some front → next_front element fronts edge ≡ front ++ element edge.text ∷ []
next_front-is {X} element fronts edge front at =
    ap (λ (xs : List X). xs ++ element edge.text ∷ []) (get_or_from_slice_get fronts edge.parent front [] at)

-- an edge is its parent and its text
abbrev edge_from : ℕ → ℕ → Edge
edge_from parent text = record { parent = parent; text = text }

pub same_edge : (a b : Edge) → a.parent ≡ b.parent → a.text ≡ b.text → a ≡ b
same_edge a b parents texts = ap (λ (n : ℕ). edge_from n a.text) parents ∙ ap (λ (n : ℕ). edge_from b.parent n) texts

-- a step stays as the fronts grow
IsStep-grown : {X : Type 0} (element : ℕ → X) (fronts : List (List X)) (more : List X) (place : ℕ) (edge : Edge)
    → IsStep element fronts place edge → IsStep element (fronts ++ more ∷ []) place edge
IsStep-grown {X} element fronts more place edge is =
    let within = slice_get_within fronts (place + 1) (next_front element fronts edge) is.front in
    let same = get_or_append_left fronts (more ∷ []) [] edge.parent (omega (arith, is.earlier)) in
    record {
      earlier = is.earlier;
      front =
          get-push_old fronts more (place + 1) (next_front element fronts edge) is.front
          ∙ ap (λ (xs : List X). Some (xs ++ element edge.text ∷ [])) (sym same);
    }

-- an edge more, whose front is new
pub AreSteps-push : {X : Type 0} (element : ℕ → X) (edges : List Edge) (fronts : List (List X)) (edge : Edge)
    (front : List X)
    → AreSteps element edges fronts → slice_get fronts edge.parent ≡ Some front
    → ((n : ℕ) → slice_get fronts n ≢ Some (front ++ element edge.text ∷ []))
    → AreSteps element (edges ++ edge ∷ []) (fronts ++ next_front element fronts edge ∷ [])
AreSteps-push {X} element edges fronts edge front are at none =
    let next : List X = next_front element fronts edge in
    let next_is = next_front-is element fronts edge front at in
    let edges_more = length_push edges edge in
    let fronts_more = length_push fronts next in
    let count = are.count in
    record {
      count = omega arith;
      root = get-push_old fronts next 0 [] are.root;
      step = λ place other found. elim (get-push_cases edges edge place other found) [
        | inl here ↦ IsStep-grown element fronts next place other (are.step place other here)
        | inr new ↦ last place other new.0 new.1
      ];
      distinct = λ m n some at_m at_n. elim (get-push_cases fronts next m some at_m) [
        | inl old_m ↦ elim (get-push_cases fronts next n some at_n) [
          | inl old_n ↦ are.distinct m n some old_m old_n
          | inr new_n ↦ absurd (none m (old_m ∙ ap (λ (xs : List X). Some xs) (new_n.1 ∙ next_is)))
        ]
        | inr new_m ↦ elim (get-push_cases fronts next n some at_n) [
          | inl old_n ↦ absurd (none n (old_n ∙ ap (λ (xs : List X). Some xs) (new_m.1 ∙ next_is)))
          | inr new_n ↦ new_m.0 ∙ sym new_n.0
        ]
      ];
    }
  where
    last : (place : ℕ) (other : Edge) → place ≡ length edges → other ≡ edge
        → IsStep element (fronts ++ next_front element fronts edge ∷ []) place other
    last place other is_last is_edge =
        let next : List X = next_front element fronts edge in
        let within = slice_get_within fronts edge.parent front at in
        let keeps = get_or_append_left fronts (next ∷ []) [] edge.parent within in
        let P : Edge → Type 0 = λ e. IsStep element (fronts ++ next ∷ []) place e in
        let Q : ℕ → Type 0 = λ k. slice_get (fronts ++ next ∷ []) k ≡ Some next in
        let is : IsStep element (fronts ++ next ∷ []) place edge = record {
          earlier = omega (arith, are.count);
          front =
              subst Q (omega (arith, are.count)) (get-push_new fronts next)
              ∙ ap (λ (xs : List X). Some (xs ++ element edge.text ∷ [])) (sym keeps);
        } in
        subst P (sym is_edge) is

-- the front of an edge that no node has is that of no node
pub steps-fresh : (edges : List Edge) (fronts : List (List ℕ)) (edge : Edge) (front : List ℕ)
    → AreSteps (λ number. number) edges fronts → slice_get fronts edge.parent ≡ Some front
    → ((k : ℕ) → slice_get edges k ≢ Some edge) → (n : ℕ) → slice_get fronts n ≢ Some (front ++ edge.text ∷ [])
steps-fresh edges fronts edge front are at none zero found =
    let same = same_Some [] (front ++ edge.text ∷ []) (sym are.root ∙ found) in
    let count = ap (λ (xs : List ℕ). length xs) same in
    let more = length_push front edge.text in
    absurd (omega arith)
steps-fresh edges fronts edge front are at none (suc n) found =
    let within = slice_get_within fronts (suc n) (front ++ edge.text ∷ []) found in
    let here = slice_get-get_or edges n edge (omega (arith, are.count)) in
    let other : Edge = get_or edges n edge in
    let step = are.step n other here in
    let start : List ℕ = get_or fronts other.parent [] in
    let start_at = slice_get-get_or fronts other.parent [] (omega (arith, are.count, step.earlier)) in
    let place : n + 1 ≡ suc n = omega arith in
    let P : ℕ → Type 0 = λ k. slice_get fronts k ≡ Some (next_front (λ number. number) fronts other) in
    let fronts_same =
    same_Some (start ++ other.text ∷ []) (front ++ edge.text ∷ []) (sym (subst P place step.front) ∙ found) in
    let parts = same_from_push start front other.text edge.text fronts_same in
    let parents = are.distinct other.parent edge.parent front (start_at ∙ ap (λ (xs : List ℕ). Some xs) parts.0) at in
    none n (here ∙ ap (λ (e : Edge). Some e) (same_edge other edge parents parts.1))

-- an element of a list that a function is mapped over
pub get-mapped : {X Y : Type 0} (f : X → Y) (xs : List X) (k : ℕ) (x : X) → slice_get xs k ≡ Some x
    → slice_get (map f xs) k ≡ Some (f x)
get-mapped f [] k x at = absurd (none-some x at)
get-mapped {X} {Y} f (y ∷ ys) zero x at = ap (λ (z : X). Some (f z)) (same_Some y x at)
get-mapped f (y ∷ ys) (suc k) x at = get-mapped f ys k x at

pub mapped-get : {X Y : Type 0} (f : X → Y) (xs : List X) (k : ℕ) (y : Y) → slice_get (map f xs) k ≡ Some y
    → (x : X) × (slice_get xs k ≡ Some x) × (f x ≡ y)
mapped-get f [] k y at = absurd (none-some y at)
mapped-get f (x ∷ xs) zero y at = (x, refl, same_Some (f x) y at)
mapped-get f (x ∷ xs) (suc k) y at = mapped-get f xs k y at

mapped-or : {X Y : Type 0} (f : X → Y) (fronts : List (List X)) (k : ℕ)
    → get_or (map (map f) fronts) k [] ≡ map f (get_or fronts k [])
mapped-or f [] k = refl
mapped-or f (front ∷ fronts) zero = refl
mapped-or f (front ∷ fronts) (suc k) = mapped-or f fronts k

mapped-next : {X Y : Type 0} (f : X → Y) (element : ℕ → X) (fronts : List (List X)) (edge : Edge)
    → next_front (λ n. f (element n)) (map (map f) fronts) edge ≡ map f (next_front element fronts edge)
mapped-next {X} {Y} f element fronts edge =
    ap (λ (ys : List Y). ys ++ f (element edge.text) ∷ []) (mapped-or f fronts edge.parent)
    ∙ sym (map-append f (get_or fronts edge.parent []) (element edge.text ∷ []))

-- the fronts from some on
abbrev fronts_from : {X : Type 0} → (ℕ → X) → List (List X) → List Edge → List (List X)
fronts_from element fronts edges = fold (λ before edge. before ++ next_front element before edge ∷ []) fronts edges

mapped-from : {X Y : Type 0} (f : X → Y) (element : ℕ → X) (edges : List Edge) (fronts : List (List X))
    → fronts_from (λ n. f (element n)) (map (map f) fronts) edges ≡ map (map f) (fronts_from element fronts edges)
mapped-from f element [] fronts = refl
mapped-from {X} {Y} f element (edge ∷ edges) fronts =
    let next : List X = next_front element fronts edge in
    ap (λ (ys : List Y). fronts_from (λ n. f (element n)) (map (map f) fronts ++ ys ∷ []) edges)
    (mapped-next f element fronts edge)
    ∙ ap (λ (yss : List (List Y)). fronts_from (λ n. f (element n)) yss edges)
    (sym (map-append (map f) fronts (next ∷ [])))
    ∙ mapped-from f element edges (fronts ++ next ∷ [])

-- the fronts of texts are those of the numbers
pub fronts_of-map : (names : List (List ℕ)) (edges : List Edge)
    → fronts_of names edges ≡ map (texts_of names) (numbers_of edges)
unfolding paths
fronts_of-map names edges = mapped-from (text_of names) (λ number. number) edges ([] ∷ [])

-- what holds of each edge's number holds of each front's
held-or : (P : ℕ → Type 0) (fronts : List (List ℕ)) (k : ℕ) → All (All P) fronts → All P (get_or fronts k [])
held-or P [] k all = All-nil P
held-or P (front ∷ fronts) zero all = All-head (All P) front fronts all
held-or P (front ∷ fronts) (suc k) all = held-or P fronts k (All-tail (All P) front fronts all)

held-from : (P : ℕ → Type 0) (edges : List Edge) (fronts : List (List ℕ)) → All (All P) fronts
    → ((place : ℕ) (edge : Edge) → slice_get edges place ≡ Some edge → P edge.text)
    → All (All P) (fronts_from (λ number. number) fronts edges)
held-from P [] fronts all each = all
held-from P (edge ∷ edges) fronts all each =
    let next : List ℕ = get_or fronts edge.parent [] ++ edge.text ∷ [] in
    let last : All P next =
    All-append P (get_or fronts edge.parent []) (edge.text ∷ []) (held-or P fronts edge.parent all)
    (All-cons P edge.text [] (each zero edge refl) (All-nil P)) in
    held-from P edges (fronts ++ next ∷ [])
    (All-append (All P) fronts (next ∷ []) all (All-cons (All P) next [] last (All-nil (All P))))
    (λ place e at. each (suc place) e at)

pub numbers-held : (P : ℕ → Type 0) (edges : List Edge)
    → ((place : ℕ) (edge : Edge) → slice_get edges place ≡ Some edge → P edge.text) → All (All P) (numbers_of edges)
unfolding paths
numbers-held P edges each = held-from P edges ([] ∷ []) (All-cons (All P) [] [] (All-nil P) (All-nil (All P))) each

-- lists of numbers with the same texts are equal
pub texts-same : (names : List (List ℕ)) (xs ys : List ℕ) → AreDistinct names → All (IsText names) xs
    → All (IsText names) ys → texts_of names xs ≡ texts_of names ys → xs ≡ ys
texts-same names [] [] distinct are_xs are_ys same = refl
texts-same names [] (y ∷ ys) distinct are_xs are_ys same =
    let count = ap (λ (ts : List (List ℕ)). length ts) same in absurd (omega arith)
texts-same names (x ∷ xs) [] distinct are_xs are_ys same =
    let count = ap (λ (ts : List (List ℕ)). length ts) same in absurd (omega arith)
texts-same names (x ∷ xs) (y ∷ ys) distinct are_xs are_ys same =
    let heads =
    same_number names x y distinct (All-head (IsText names) x xs are_xs) (All-head (IsText names) y ys are_ys)
    (ap (λ (ts : List (List ℕ)). get_or ts 0 []) same) in
    let tails =
    texts-same names xs ys distinct (All-tail (IsText names) x xs are_xs) (All-tail (IsText names) y ys are_ys)
    (ap (λ (ts : List (List ℕ)). drop 1 ts) same) in
    ap (λ (n : ℕ). n ∷ xs) heads ∙ ap (λ (ns : List ℕ). y ∷ ns) tails

-- so the fronts of texts are steps as those of numbers are
pub AreSteps-named : (names : List (List ℕ)) (edges : List Edge) → AreSteps (λ number. number) edges (numbers_of edges)
    → AreNames names edges → AreSteps (text_of names) edges (fronts_of names edges)
AreSteps-named names edges are named =
    let P : List (List (List ℕ)) → Type 0 = λ fronts. AreSteps (text_of names) edges fronts in
    subst P (sym (fronts_of-map names edges)) (record {
      count = length-map (numbers_of edges) (texts_of names) ∙ are.count;
      root = get-mapped (texts_of names) (numbers_of edges) 0 [] are.root;
      step = λ place edge at.
          let step = are.step place edge at in
          record {
            earlier = step.earlier;
            front =
                get-mapped (texts_of names) (numbers_of edges) (place + 1)
                (next_front (λ number. number) (numbers_of edges) edge) step.front
                ∙ ap (λ (front : List (List ℕ)). Some front)
                (sym (mapped-next (text_of names) (λ number. number) (numbers_of edges) edge));
          };
      distinct = λ m n front at_m at_n.
          let one = mapped-get (texts_of names) (numbers_of edges) m front at_m in
          let two = mapped-get (texts_of names) (numbers_of edges) n front at_n in
          let same =
          texts-same names one.0 two.0 named.distinct (held m one.0 one.1) (held n two.0 two.1) (one.2 ∙ sym two.2) in
          are.distinct m n two.0 (one.1 ∙ ap (λ (ns : List ℕ). Some ns) same) two.1;
    })
  where
    held : (k : ℕ) (ns : List ℕ) → slice_get (numbers_of edges) k ≡ Some ns → All (IsText names) ns
    held k ns at =
        let all = numbers-held (IsText names) edges named.texts in
        let P : List ℕ → Type 0 = λ xs. All (IsText names) xs in
        subst P (get_or_from_slice_get (numbers_of edges) k ns ns at)
        (all k ns (slice_get_within (numbers_of edges) k ns at))
