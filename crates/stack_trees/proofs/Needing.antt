-- Lemmas on the lists that a tree needs.
use Rattle.std.proofs.Common.{◌≡◌, ◌≢◌, ℕ, zero, suc, ◌+◌, ◌<◌, ◌==◌, if◌then◌else◌, eqb, false, List, [], ◌∷◌, ◌++◌}
use Rattle.std.proofs.Common.{length, map, take, get_or, reverse, Some, refl, sym, ap, ◌∙◌, subst, arith}
use Rattle.std.specs.Prelude.{slice_get, slice_index}
use Rattle.std.specs.List.{range_with_len}
use Rattle.std.proofs.lemmas.Bool.{cond-false}
use Rattle.std.proofs.lemmas.Bool.Decides.{nat_tests}
use Rattle.std.proofs.lemmas.List.{map-append, reverse-append, take-map}
use Rattle.std.proofs.lemmas.List.FromFn.{get_or-map-range_with_len, get_or-range_with_len, length-map-range_with_len}
use Rattle.std.proofs.lemmas.List.FromFn.{length-range_with_len}
use Rattle.std.proofs.lemmas.Option.{get_or_from_slice_get, slice_get_within}
use Rattle.cost_tree.specs.Costed.{costed}
use Rattle.cost_tree.specs.GrowingLists.{LastGains}
use Rattle.cost_tree.specs.Inclusive.{has_front, is_front}
use Rattle.cost_tree.specs.IsTreeOf.{IsTreeOf}
use Rattle.cost_tree.specs.TreeState.{TreeState}
use Rattle.ht_trace.specs.declared.frame.Style.{Style}
use Rattle.ht_trace.specs.declared.frame.FrameAt.{FrameAt}
use Rattle.ht_trace.specs.FrameText.{frame_text}
use Rattle.ht_trace.specs.StackFrames.{outer_frames, stack_frames}
use Rattle.ht_trace.specs.TableState.{TableState}
use Rattle.cost_tree.proofs.Laws.{listed-more}
use Rattle.stack_trees.specs.declared.direction.Direction.{Direction}
use Rattle.stack_trees.specs.declared.direction.Direction.TheVariants.{FromAllocation, FromRoot}
use Rattle.stack_trees.specs.Needed.{Begins, StandFor, needed, needed_list, needed_lists}
use Rattle.stack_trees.specs.StackTexts.{lists_towards, stack_texts, towards}
use Rattle.stack_trees.proofs.Alike.{AreAlike, IsSameTo-map, IsTreeOf-same, first-alike}

-- the other way round, of each element
map-reverse : {X Y : Type 0} (f : X → Y) (xs : List X) → map f (reverse xs) ≡ reverse (map f xs)
map-reverse f [] = refl
map-reverse f (x ∷ xs) =
    ap (λ ys. map f ys) (reverse-append (x ∷ []) xs)
    ∙ map-append f (reverse xs) (x ∷ [])
    ∙ ap (λ ys. ys ++ f x ∷ []) (map-reverse f xs)
    ∙ sym (reverse-append (f x ∷ []) (map f xs))

map-towards : {X Y : Type 0} (f : X → Y) (direction : Direction) (xs : List X)
    → map f (towards direction xs) ≡ towards direction (map f xs)
map-towards f FromAllocation xs = refl
map-towards f FromRoot xs = map-reverse f xs

-- the first texts of a list in a direction are those of the first frames
pub texts-of-first : {X Y : Type 0} (f : X → Y) (most : ℕ) (direction : Direction) (xs : List X)
    → map f (take most (towards direction xs)) ≡ take most (towards direction (map f xs))
texts-of-first f most direction xs =
    sym (take-map f most (towards direction xs)) ∙ ap (λ ys. take most ys) (map-towards f direction xs)

-- so many lists by their numbers
pub listed-count : {X : Type 0} (f : ℕ → X) (n : ℕ) (xs : List X) → xs ≡ map f (range_with_len 0 n) → length xs ≡ n
listed-count f n xs are = ap (λ ys. length ys) are ∙ length-map-range_with_len f 0 n

-- what a tree needs of a list is alike for it
needed-alike : (depth cost : ℕ) (texts : List (List ℕ)) → AreAlike depth cost (needed (depth + 1) cost texts) texts
needed-alike depth cost texts =
    let first = first-alike depth cost texts in
    record {
      begins = λ front short some. ap (λ xs. has_front front xs) (is some) ∙ first.begins front short some;
      is = λ front short some. ap (λ xs. is_front front xs) (is some) ∙ first.is front short some;
    }
  where
    is : 0 < cost → needed (depth + 1) cost texts ≡ take (depth + 1) texts
    is some =
        let above : eqb cost 0 ≡ false = grind (arith, nat_tests) in
        cond-false (eqb cost 0) [] (take (depth + 1) texts) above

-- a tree of the needed lists is one of the stacks' lists
pub IsTreeOf-needed : (tree : TreeState) (direction : Direction) (style : Style) (tables : TableState) (depth : ℕ)
    (costs : List ℕ)
    → IsTreeOf tree (costed (needed_lists direction style tables (depth + 1) costs) costs) depth
    → IsTreeOf tree (costed (lists_towards direction style tables) costs) depth
unfolding needed_lists lists_towards
IsTreeOf-needed tree direction style tables depth costs is =
    let list : ℕ → List (List ℕ) = λ n. towards direction (stack_texts style tables n) in
    let count = length tables.nodes + 1 in
    IsTreeOf-same tree _ _ depth
    (IsSameTo-map depth (λ n. needed (depth + 1) (slice_index costs n) (list n)) list (range_with_len 0 count) costs
    (λ k n cost at held. alike k n cost at held))
    is
  where
    alike : (k n cost : ℕ) → slice_get (range_with_len 0 (length tables.nodes + 1)) k ≡ Some n
        → slice_get costs k ≡ Some cost
        → AreAlike depth cost
        (needed (depth + 1) (slice_index costs n) (towards direction (stack_texts style tables n)))
        (towards direction (stack_texts style tables n))
    alike k n cost at held =
        let texts : List (List ℕ) = towards direction (stack_texts style tables n) in
        let within = slice_get_within (range_with_len 0 (length tables.nodes + 1)) k n at in
        let long = length-range_with_len 0 (length tables.nodes + 1) in
        let counted = get_or-range_with_len 0 (length tables.nodes + 1) k 0 (omega arith) in
        let found = get_or_from_slice_get (range_with_len 0 (length tables.nodes + 1)) k n 0 at in
        let place : k ≡ n = omega arith in
        let is_cost : cost ≡ slice_index costs n =
        sym (get_or_from_slice_get costs k cost 0 held) ∙ ap (λ (i : ℕ). get_or costs i 0) place in
        let P : ℕ → Type 0 = λ c. AreAlike depth cost (needed (depth + 1) c texts) texts in
        subst P is_cost (needed-alike depth cost texts)

-- the lists of all stacks
pub needed_lists-all : (direction : Direction) (style : Style) (tables : TableState) (most : ℕ) (costs : List ℕ) (n : ℕ)
    (lists : List (List (List ℕ)))
    → n ≡ length tables.nodes + 1 → lists ≡ map (needed_list direction style tables most costs) (range_with_len 0 n)
    → lists ≡ needed_lists direction style tables most costs
unfolding needed_lists
needed_lists-all direction style tables most costs n lists all are =
    are ∙ ap (λ (k : ℕ). map (needed_list direction style tables most costs) (range_with_len 0 k)) all

pub needed_lists-count : (direction : Direction) (style : Style) (tables : TableState) (most : ℕ) (costs : List ℕ)
    → length (needed_lists direction style tables most costs) ≡ length tables.nodes + 1
unfolding needed_lists
needed_lists-count direction style tables most costs =
    length-map-range_with_len (needed_list direction style tables most costs) 0 (length tables.nodes + 1)

-- what a list begins with from the root, in texts
outer-texts : (text : FrameAt → List ℕ) (tables : TableState) (stack caller : ℕ) (old : List (List (List ℕ)))
    → old ≡ map (λ n. reverse (map text (stack_frames tables.instructions tables.nodes n))) (range_with_len 0 stack)
    → (caller ≢ 0 → caller < stack)
    → (if caller == 0 then [] else get_or old caller [])
    ≡ map text (reverse (outer_frames tables.instructions tables.nodes caller))
outer-texts text tables stack zero old are lower = refl
outer-texts text tables stack (suc k) old are lower =
    let f : ℕ → List (List ℕ) = λ n. reverse (map text (stack_frames tables.instructions tables.nodes n)) in
    let above : eqb (suc k) 0 ≡ false = grind (arith, nat_tests) in
    let within = lower (λ none. absurd (omega arith)) in
    cond-false (eqb (suc k) 0) [] (get_or old (suc k) []) above
    ∙ ap (λ (ls : List (List (List ℕ))). get_or ls (suc k) []) are
    ∙ get_or-map-range_with_len f 0 stack (suc k) (suc k) [] within (omega arith)
    ∙ sym (map-reverse text (stack_frames tables.instructions tables.nodes (suc k)))
    ∙ ap (λ (fs : List FrameAt). map text (reverse fs))
    (sym (cond-false (eqb (suc k) 0) [] (stack_frames tables.instructions tables.nodes (suc k)) above))

-- the list of one stack more from the root
pub root-more : (style : Style) (tables : TableState) (stack : ℕ) (own : List FrameAt)
    (old begun new : List (List (List ℕ)))
    → old ≡ map (λ n. reverse (stack_texts style tables n)) (range_with_len 0 stack) → Begins tables stack own old begun
    → LastGains begun (map (frame_text style tables) (reverse own)) new
    → new ≡ map (λ n. reverse (stack_texts style tables n)) (range_with_len 0 (stack + 1))
root-more style tables stack own old begun new are begins gains =
    let text : FrameAt → List ℕ = frame_text style tables in
    let outer : List FrameAt = outer_frames tables.instructions tables.nodes begins.caller in
    let start : List (List ℕ) = if begins.caller == 0 then [] else get_or old begins.caller [] in
    let start_is : start ≡ map text (reverse outer) =
    outer-texts text tables stack begins.caller old are begins.lower in
    let whole : reverse (stack_texts style tables stack) ≡ map text (reverse outer) ++ map text (reverse own) =
    ap (λ (fs : List FrameAt). reverse (map text fs)) begins.frames
    ∙ sym (map-reverse text (own ++ outer))
    ∙ ap (λ (fs : List FrameAt). map text fs) (reverse-append own outer)
    ∙ map-append text (reverse outer) (reverse own) in
    listed-more (λ n. reverse (stack_texts style tables n)) stack old new are
    (gains old start begins.begun
    ∙ ap (λ (ts : List (List ℕ)). old ++ ts ∷ [])
    (ap (λ (ts : List (List ℕ)). ts ++ map text (reverse own)) start_is ∙ sym whole))

-- a tree of either lists is that of the stacks
pub StandFor-needed : (style : Style) (tables : TableState) (costs : List ℕ) (depth : ℕ)
    → length costs ≡ length tables.nodes + 1 → (fronts : List (List (List ℕ)))
    → fronts ≡ needed_lists FromAllocation style tables (depth + 1) costs
    → StandFor FromAllocation style tables costs depth fronts
StandFor-needed style tables costs depth as_many fronts is = record {
  count =
      ap (λ (ls : List (List (List ℕ))). length ls) is ∙ needed_lists-count FromAllocation style tables
      (depth + 1) costs
      ∙ sym as_many;
  tree =
      λ tree tree_of. IsTreeOf-needed tree FromAllocation style tables depth costs
      (subst (λ (ls : List (List (List ℕ))). IsTreeOf tree (costed ls costs) depth) is tree_of);
}

pub StandFor-root : (style : Style) (tables : TableState) (costs : List ℕ) (depth : ℕ)
    → length costs ≡ length tables.nodes + 1 → (fronts : List (List (List ℕ)))
    → fronts ≡ lists_towards FromRoot style tables
    → StandFor FromRoot style tables costs depth fronts
unfolding lists_towards
StandFor-root style tables costs depth as_many fronts is = record {
  count =
      ap (λ (ls : List (List (List ℕ))). length ls) is
      ∙ length-map-range_with_len (λ n. reverse (stack_texts style tables n)) 0 (length tables.nodes + 1) ∙ sym as_many;
  tree = λ tree tree_of. subst (λ (ls : List (List (List ℕ))). IsTreeOf tree (costed ls costs) depth) is tree_of;
}
