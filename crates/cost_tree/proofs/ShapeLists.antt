-- Lemmas on the lists of a shape, as one is appended, or a number is appended to the last.
use Rattle.std.proofs.Common.{◌≡◌, ℕ, zero, suc, ◌+◌, ◌-◌, ◌^◌, ◌<◌, ◌≤◌, ◌⊎◌, inl, inr, List, [], ◌∷◌, ◌++◌, length}
use Rattle.std.proofs.Common.{take, get_or, set, Some, refl, sym, ap, ◌∙◌, subst, arith}
use Rattle.std.specs.Prelude.{All, Contains, slice_get}
use Rattle.std.proofs.lemmas.List.{get_or-map, get_or_read, get_or_append_left, get_or_at, length-map, length-set}
use Rattle.std.proofs.lemmas.List.{length_push, map-append, map-set, set_at, take_all, take_more}
use Rattle.std.proofs.lemmas.List.Elements.{All-append, All-cons, All-contains, All-head, All-nil, All-set, All-tail}
use Rattle.std.proofs.lemmas.List.Elements.{All-weaker, Contains-append_cases, Contains-append_left}
use Rattle.std.proofs.lemmas.List.Elements.{Contains-append_right}
use Rattle.std.proofs.lemmas.Option.{slice_get_within, slice_get-get_or, get_or_from_slice_get}
use Rattle.intern_tables.specs.Distinct.{AreDistinct}
use Rattle.cost_tree.specs.declared.edge.Edge.{Edge}
use Rattle.cost_tree.specs.Shapes.{AreSteps, IsChild, IsShape, IsUsed, list_at, lists_in, next_front, numbers_of, paths}
use Rattle.cost_tree.specs.Texts.{AreNames, AreTexts, IsText}
use Rattle.cost_tree.proofs.Lists.{get-push_cases}
use Rattle.cost_tree.proofs.Steps.{AreSteps-push, paths-push, steps-fresh}

-- the last element, and those before it
pub split-last : {X : Type 0} (xs : List X) (d : X) → 0 < length xs
    → xs ≡ take (length xs - 1) xs ++ get_or xs (length xs - 1) d ∷ []
split-last {X} xs d some =
    let last : length xs - 1 + 1 ≡ length xs = omega arith in
    sym (take_all (length xs - 1 + 1) xs (omega arith)) ∙ take_more xs (length xs - 1) d (omega arith)

-- an element of a list of one
contains-one : {X : Type 0} (x y : X) → Contains (x ∷ []) y → x ≡ y
contains-one x y held = at held.0 held.1 held.2
  where
    at : (k : ℕ) → k < length (x ∷ []) → get_or (x ∷ []) k y ≡ y → x ≡ y
    at zero within is = is
    at (suc k) within is = absurd (omega arith)

-- a number of the lists is one of them where the last list is longer
used-longer : (earlier : List (List ℕ)) (last more : List ℕ) (number : ℕ) → IsUsed (earlier ++ last ∷ []) number
    → IsUsed (earlier ++ (last ++ more) ∷ []) number
used-longer earlier last more number used =
    elim (Contains-append_cases earlier (last ∷ []) used.0 used.1) [
      | inl before ↦ (used.0, Contains-append_left earlier ((last ++ more) ∷ []) used.0 before, used.2)
      | inr here ↦
          let P : List ℕ → Type 0 = λ list. Contains list number in
          let held = subst P (sym (contains-one last used.0 here)) used.2 in (
            last ++ more,
            Contains-append_right earlier ((last ++ more) ∷ []) (last ++ more) (0, omega arith, refl),
            Contains-append_left last more number held,
          )
    ]

used-more : (lists : List (List ℕ)) (list : List ℕ) (number : ℕ) → IsUsed lists number
    → IsUsed (lists ++ list ∷ []) number
used-more lists list number used = (used.0, Contains-append_left lists (list ∷ []) used.0 used.1, used.2)

-- no lists
pub IsShape-none : IsShape [] []
unfolding paths
IsShape-none = record {
  steps = record {
    count = refl;
    root = refl;
    step = λ place edge at. absurd (no-edge place edge at);
    distinct = λ m n front at_m at_n. no-other m n front at_m at_n;
  };
  held = All-nil (λ end. end ≤ 0);
  used = λ place edge at. absurd (no-edge place edge at);
  few = omega arith;
}
  where
    no-edge : (place : ℕ) (edge : Edge) → slice_get [] place ≡ Some edge → ⊥
    no-edge place edge at = let inside = slice_get_within [] place edge at in omega arith

    no-other : (m n : ℕ) (front : List ℕ) → slice_get ([] ∷ []) m ≡ Some front → slice_get ([] ∷ []) n ≡ Some front
        → m ≡ n
    no-other m n front at_m at_n =
        let one = slice_get_within ([] ∷ []) m front at_m in
        let two = slice_get_within ([] ∷ []) n front at_n in
        omega arith

-- a list more
pub lists_in-push : (edges : List Edge) (ends : List ℕ) (end : ℕ)
    → lists_in edges (ends ++ end ∷ []) ≡ lists_in edges ends ++ list_at edges end ∷ []
lists_in-push edges ends end = map-append (list_at edges) ends (end ∷ [])

pub as-many-ends : (edges : List Edge) (ends : List ℕ) (lists : List (List ℕ)) → lists_in edges ends ≡ lists
    → length ends ≡ length lists
as-many-ends edges ends lists is =
    sym (length-map ends (list_at edges)) ∙ ap (λ (ls : List (List ℕ)). length ls) is

pub IsShape-push : (edges : List Edge) (ends : List ℕ) (end : ℕ) → IsShape edges ends → end ≤ length edges
    → length ends < 2 ^ 32 - 1 → IsShape edges (ends ++ end ∷ [])
IsShape-push edges ends end is within few =
    let count = length_push ends end in
    let U : List (List ℕ) → ℕ → Type 0 = λ lists number. IsUsed lists number in
    record {
      steps = is.steps;
      held =
          All-append (λ e. e ≤ length edges) ends (end ∷ []) is.held
          (All-cons (λ e. e ≤ length edges) end [] within (All-nil (λ e. e ≤ length edges)));
      used =
          λ place edge at. subst (λ (lists : List (List ℕ)). U lists edge.text) (sym (lists_in-push edges ends end))
          (used-more (lists_in edges ends) (list_at edges end) edge.text (is.used place edge at));
      few = omega arith;
    }

-- the lists stay where an edge is added
list_at-kept : (edges : List Edge) (edge : Edge) (end : ℕ) → AreSteps (λ number. number) edges (numbers_of edges)
    → end ≤ length edges → list_at (edges ++ edge ∷ []) end ≡ list_at edges end
list_at-kept edges edge end are within =
    ap (λ (lists : List (List ℕ)). get_or lists end []) (paths-push (λ number. number) edges edge)
    ∙ get_or_append_left (numbers_of edges) (next_front (λ number. number) (numbers_of edges) edge ∷ []) [] end
    (omega (arith, are.count))

lists_in-kept : (edges : List Edge) (edge : Edge) (ends : List ℕ) → AreSteps (λ number. number) edges (numbers_of edges)
    → All (λ end. end ≤ length edges) ends → lists_in (edges ++ edge ∷ []) ends ≡ lists_in edges ends
lists_in-kept edges edge [] are within = refl
lists_in-kept edges edge (end ∷ ends) are within =
    ap (λ (list : List ℕ). list ∷ lists_in (edges ++ edge ∷ []) ends)
    (list_at-kept edges edge end are (All-head (λ e. e ≤ length edges) end ends within))
    ∙ ap (λ (lists : List (List ℕ)). list_at edges end ∷ lists)
    (lists_in-kept edges edge ends are (All-tail (λ e. e ≤ length edges) end ends within))

-- the edges with one that was sought
record HasChild (edges new : List Edge) (ends : List ℕ) (edge : Edge) (place : ℕ) : Type 0 where
  pub steps : AreSteps (λ number. number) new (numbers_of new)
  pub lists : lists_in new ends ≡ lists_in edges ends
  pub list : list_at new (place + 1) ≡ list_at edges edge.parent ++ edge.text ∷ []
  pub within : place + 1 ≤ length new
  pub more : length edges ≤ length new
  pub old : (k : ℕ) (other : Edge) → slice_get new k ≡ Some other → (slice_get edges k ≡ Some other) ⊎ (other ≡ edge)

HasChild-is : (edges new : List Edge) (ends : List ℕ) (edge : Edge) (place : ℕ) → IsShape edges ends
    → edge.parent ≤ length edges → IsChild edges new edge place → HasChild edges new ends edge place
HasChild-is edges new ends edge place is within (inl found) =
    let P : List Edge → Type 0 = λ es. HasChild edges es ends edge place in
    let step = is.steps.step place edge found.1 in
    let inside = slice_get_within edges place edge found.1 in
    subst P (sym found.0) (record {
      steps = is.steps;
      lists = refl;
      list =
          get_or_from_slice_get (numbers_of edges) (place + 1)
          (next_front (λ number. number) (numbers_of edges) edge) []
          step.front;
      within = omega arith;
      more = omega arith;
      old = λ k other at. inl at;
    })
HasChild-is edges new ends edge place is within (inr made) =
    let P : List Edge → Type 0 = λ es. HasChild edges es ends edge place in
    let lists : List (List ℕ) = numbers_of edges in
    let front : List ℕ = list_at edges edge.parent in
    let next : List ℕ = next_front (λ number. number) lists edge in
    let at = slice_get-get_or lists edge.parent [] (omega (arith, is.steps.count)) in
    let none = steps-fresh edges lists edge front is.steps at made.0 in
    let S : List (List ℕ) → Type 0 = λ xs. AreSteps (λ number. number) (edges ++ edge ∷ []) xs in
    let more = length_push edges edge in
    let place_is : length lists ≡ place + 1 = is.steps.count ∙ ap (λ (k : ℕ). k + 1) (sym made.1) in
    subst P (sym made.2) (record {
      steps =
          subst S (sym (paths-push (λ number. number) edges edge))
          (AreSteps-push (λ number. number) edges lists edge front is.steps at none);
      lists = lists_in-kept edges edge ends is.steps is.held;
      list =
          ap (λ (xs : List (List ℕ)). get_or xs (place + 1) []) (paths-push (λ number. number) edges edge)
          ∙ get_or_at lists next [] [] (place + 1) place_is;
      within = omega (arith, made.1);
      more = omega arith;
      old =
          λ k other found. elim (get-push_cases edges edge k other found)
          [ inl here ↦ inl here | inr last ↦ inr last.1 ];
    })

-- the shape with a number more at the end of the last list
pub record HasPushed (edges new : List Edge) (ends after : List ℕ) (number : ℕ) : Type 0 where
  pub shape : IsShape new after
  pub appended : (earlier : List (List ℕ)) (last : List ℕ) → lists_in edges ends ≡ earlier ++ last ∷ []
      → lists_in new after ≡ earlier ++ (last ++ number ∷ []) ∷ []

HasPushed-is : (edges new : List Edge) (ends : List ℕ) (parent number place : ℕ) → IsShape edges ends → 0 < length ends
    → parent ≡ get_or ends (length ends - 1) 0
    → IsChild edges new (record { parent = parent; text = number }) place
    → HasPushed edges new ends (set ends (length ends - 1) (place + 1)) number
HasPushed-is edges new ends parent number place is some read child =
    let edge : Edge = record { parent = parent; text = number } in
    let last : ℕ = length ends - 1 in
    let inside : parent ≤ length edges =
    subst (λ (k : ℕ). k ≤ length edges) (sym read) (is.held last 0 (omega arith)) in
    let has = HasChild-is edges new ends edge place is inside child in
    let lists : List (List ℕ) = lists_in edges ends in
    let now : List (List ℕ) = lists_in new (set ends last (place + 1)) in
    let count = length-map ends (list_at edges) in
    let now_is : now ≡ set lists last (list_at edges parent ++ number ∷ []) =
    map-set (list_at new) ends last (place + 1)
    ∙ ap (λ (ls : List (List ℕ)). set ls last (list_at new (place + 1))) has.lists
    ∙ ap (λ (list : List ℕ). set lists last list) has.list in
    let last_is : get_or lists last [] ≡ list_at edges parent =
    get_or-map (list_at edges) ends last 0 [] (omega arith) ∙ ap (λ (k : ℕ). list_at edges k) (sym read) in
    let appended : (earlier : List (List ℕ)) (list : List ℕ) → lists ≡ earlier ++ list ∷ []
    → now ≡ earlier ++ (list ++ number ∷ []) ∷ [] = λ earlier list split.
    let counts = ap (λ (ls : List (List ℕ)). length ls) split ∙ length_push earlier list in
    let at : length earlier ≡ last = omega arith in
    let same : list_at edges parent ≡ list =
    sym last_is ∙ ap (λ (ls : List (List ℕ)). get_or ls last []) split ∙ get_or_at earlier list [] [] last at in
    now_is
    ∙ ap (λ (ls : List (List ℕ)). set ls last (list_at edges parent ++ number ∷ [])) split
    ∙ set_at earlier list [] (list_at edges parent ++ number ∷ []) last at
    ∙ ap (λ (l : List ℕ). earlier ++ (l ++ number ∷ []) ∷ []) same in
    let split = split-last lists [] (omega arith) in
    let before : List (List ℕ) = take (length lists - 1) lists in
    let list : List ℕ = get_or lists (length lists - 1) [] in
    let after = appended before list split in
    record {
      shape = record {
        steps = has.steps;
        held =
            All-set (λ e. e ≤ length new) ends last (place + 1) has.within
            (All-weaker (λ e. e ≤ length edges) (λ e. e ≤ length new) (λ e most. omega (arith, has.more)) ends is.held);
        used =
            λ k other at. subst (λ (ls : List (List ℕ)). IsUsed ls other.text) (sym after) (elim (has.old k other at) [
              | inl here ↦ used-longer before list (number ∷ []) other.text
                  (subst (λ (ls : List (List ℕ)). IsUsed ls other.text) split (is.used k other here))
              | inr new_one ↦ (
                list ++ number ∷ [],
                Contains-append_right before ((list ++ number ∷ []) ∷ []) (list ++ number ∷ []) (0, omega arith, refl),
                subst (λ (n : ℕ). Contains (list ++ number ∷ []) n) (sym (ap (λ (e : Edge). e.text) new_one))
                    (Contains-append_right list (number ∷ []) number (0, omega arith, refl)),
              )
            ]);
        few = let kept = length-set ends last (place + 1) in omega (arith, is.few);
      };
      appended = appended;
    }

-- as the end is read and written
pub HasPushed-read : (edges new : List Edge) (ends : List ℕ) (count parent number n : ℕ) → IsShape edges ends
    → 0 < length ends → count ≡ length ends → parent ≡ get_or ends (count - 1) parent
    → (place : ℕ) × (n ≡ place + 1) × IsChild edges new (record { parent = parent; text = number }) place
    → HasPushed edges new ends (set ends (count - 1) n) number
HasPushed-read edges new ends count parent number n is some count_is read child =
    let P : ℕ → Type 0 = λ k. HasPushed edges new ends (set ends (k - 1) n) number in
    let Q : ℕ → Type 0 = λ m. HasPushed edges new ends (set ends (length ends - 1) m) number in
    let first =
    get_or_read ends (count - 1) parent (omega arith) read 0 ∙ ap (λ (k : ℕ). get_or ends (k - 1) 0) count_is in
    subst P (sym count_is)
    (subst Q (sym child.1) (HasPushed-is edges new ends parent number child.0 is some first child.2))

-- the numbers of a shape's edges are numbers of texts where those of its lists are
pub AreNames-used : (names : List (List ℕ)) (edges : List Edge) (ends : List ℕ) → IsShape edges ends → AreDistinct names
    → AreTexts names (lists_in edges ends) → AreNames names edges
AreNames-used names edges ends is distinct texts = record {
  distinct = distinct;
  texts = λ place edge at.
      let used = is.used place edge at in
      All-contains (IsText names) used.0 edge.text
      (All-contains (All (IsText names)) (lists_in edges ends) used.0 texts used.1) used.2;
}
