-- The children of a node stand for the fronts that are one text longer than the node's.
use Rattle.std.proofs.Common.{◌≡◌, ℕ, ◌+◌, ◌<◌, ◌≤◌, inl, inr, ◌&&◌, Bool, true, eqb, List, [], ◌∷◌, ◌++◌, length, map}
use Rattle.std.proofs.Common.{filter, take, get_or, Some, refl, sym, ap, ◌∙◌, subst, arith}
use Rattle.std.specs.Prelude.{Contains, nat_lt, slice_get}
use Rattle.std.specs.List.{range_with_len}
use Rattle.std.specs.Option.{option_map_or}
use Rattle.std.proofs.lemmas.Bool.{and_from, and_parts, cases_eq, eq-eqb, eqb-true, lt-ltb, ltb-true}
use Rattle.std.proofs.lemmas.List.{length-take, length_push, take-append-le, take-take, take_all}
use Rattle.std.proofs.lemmas.List.Elements.{All-contains}
use Rattle.std.proofs.lemmas.List.Sums.{passes_at_first}
use Rattle.std.proofs.lemmas.Option.{get_or_from_slice_get, same_Some, slice_get-get_or, slice_get_within}
use Rattle.std.proofs.lemmas.Simd.{map-map}
use Rattle.cost_tree.specs.declared.node.CostNode.{CostNode}
use Rattle.cost_tree.specs.Children.{children_of}
use Rattle.cost_tree.specs.Costed.{Costed}
use Rattle.cost_tree.specs.Inclusive.{has_front, inclusive, least}
use Rattle.cost_tree.specs.NextFronts.{longer_front, next_fronts, opens, texts_at}
use Rattle.cost_tree.specs.TreeState.{TreeState}
use Rattle.cost_tree.proofs.Forests.{IsForest}
use Rattle.cost_tree.proofs.Ascending.{ascending-same, mapped-from, mapped-pairs, mapped-same, mapped-to}
use Rattle.cost_tree.proofs.Linking.{children_of-all, children_of-only, children_of-ordered, contains_ranged, no_node}
use Rattle.cost_tree.proofs.Linking.{ordered, ranged}
use Rattle.cost_tree.proofs.Prefixes.{has_front-Decides}
use Rattle.cost_tree.proofs.Sums.{inclusive-some, least-within}
use Rattle.cost_tree.proofs.Trees.{least-has}

abbrev none : Costed
none = record { texts = []; cost = 0 }

-- the texts of a stack that is there
pub texts_at-held : (stacks : List Costed) (n : ℕ) → n < length stacks
    → texts_at stacks n ≡ (get_or stacks n none).texts
texts_at-held stacks n within =
    ap (λ found. option_map_or (λ (s : Costed). s.texts) found []) (slice_get-get_or stacks n none within)

-- the front of a list that is one text longer begins with the front
shorter-front : (front texts : List (List ℕ)) (text : List ℕ) → front ++ text ∷ [] ≡ take (length front + 1) texts
    → front ≡ take (length front) texts
shorter-front front texts text is =
    sym (take_all (length front) front (omega arith))
    ∙ sym (take-append-le (length front) front (text ∷ []) (omega arith))
    ∙ ap (λ (xs : List (List ℕ)). take (length front) xs) is
    ∙ take-take (length front) (length front + 1) texts (omega arith)

-- a front one text longer that costs something is opened by its least stack
pub record IsOpened (front longer : List (List ℕ)) (stacks : List Costed) : Type 0 where
  pub is : longer_front front stacks (least longer stacks) ≡ longer
  pub opened : opens front stacks (least longer stacks) ≡ true
  pub within : least longer stacks < length stacks

pub opened-is : (front longer : List (List ℕ)) (text : List ℕ) (stacks : List Costed) → longer ≡ front ++ text ∷ []
    → 0 < inclusive longer stacks → IsOpened front longer stacks
opened-is front longer text stacks longer_is some =
    let n : ℕ = least longer stacks in
    let within = least-within longer stacks some in
    let texts : List (List ℕ) = texts_at stacks n in
    let held = texts_at-held stacks n within in
    let P : List (List ℕ) → Type 0 = λ xs. has_front longer xs ≡ true in
    let begins = (has_front-Decides longer texts).0 (subst P (sym held) (least-has longer stacks none some)) in
    let count : length longer ≡ length front + 1 =
    ap (λ (xs : List (List ℕ)). length xs) longer_is ∙ length_push front text in
    let is : longer ≡ take (length front + 1) texts = begins ∙ ap (λ (k : ℕ). take k texts) count in
    let long = ap (λ (xs : List (List ℕ)). length xs) is ∙ length-take (length front + 1) texts in
    let shorter = shorter-front front texts text (sym longer_is ∙ is) in
    record {
      is = sym is;
      opened =
          and_from (has_front front texts && nat_lt (length front) (length texts))
          (eqb (least (longer_front front stacks n) stacks) n)
          (and_from (has_front front texts) (nat_lt (length front) (length texts))
          ((has_front-Decides front texts).1 shorter) (lt-ltb (length front) (length texts) (omega arith)))
          (eq-eqb (least (longer_front front stacks n) stacks) n
          (ap (λ (xs : List (List ℕ)). least xs stacks) (sym is)));
      within = within;
    }

-- a stack that opens a front
pub record Opens (front : List (List ℕ)) (stacks : List Costed) (n : ℕ) : Type 0 where
  pub count : length (longer_front front stacks n) ≡ length front + 1
  pub begins : front ≡ take (length front) (longer_front front stacks n)
  pub some : 0 < inclusive (longer_front front stacks n) stacks
  pub least_is : least (longer_front front stacks n) stacks ≡ n

pub opens-is : (front : List (List ℕ)) (stacks : List Costed) (n : ℕ) → n < length stacks → opens front stacks n ≡ true
    → Opens front stacks n
unfolding least
opens-is front stacks n within opened =
    let texts : List (List ℕ) = texts_at stacks n in
    let longer : List (List ℕ) = longer_front front stacks n in
    let one =
    and_parts (has_front front texts && nat_lt (length front) (length texts)) (eqb (least longer stacks) n) opened in
    let two = and_parts (has_front front texts) (nat_lt (length front) (length texts)) one.0 in
    let goes_on = ltb-true (length front) (length texts) two.1 in
    let is = eqb-true (least longer stacks) n one.1 in
    let test : Costed → Bool = λ s. nat_lt 0 s.cost && has_front longer s.texts in
    let passes = passes_at_first test stacks none (omega arith) in
    let parts =
    and_parts (nat_lt 0 (get_or stacks (least longer stacks) none).cost)
    (has_front longer (get_or stacks (least longer stacks) none).texts) passes in
    let above = ltb-true 0 (get_or stacks (least longer stacks) none).cost parts.0 in
    let some = inclusive-some longer stacks (least longer stacks) none (omega arith) above parts.1 in
    let cut = length-take (length front + 1) texts in
    record {
      count = omega arith;
      begins =
          (has_front-Decides front texts).0 two.0 ∙ sym
          (take-take (length front) (length front + 1) texts (omega arith));
      some = some;
      least_is = is;
    }

-- what a child of a node says
record IsChildOf (tree : TreeState) (stacks : List Costed) (front : List (List ℕ)) (m : ℕ) : Type 0 where
  pub text : List ℕ
  pub longer : get_or tree.fronts m [] ≡ front ++ text ∷ []
  pub some : 0 < inclusive (get_or tree.fronts m []) stacks
  pub first : (get_or tree.nodes m no_node).first ≡ least (get_or tree.fronts m []) stacks

child-is : (tree : TreeState) (stacks : List Costed) (depth n : ℕ) (front : List (List ℕ)) → IsForest tree stacks depth
    → slice_get tree.fronts n ≡ Some front
    → (m : ℕ) → Contains (children_of tree.nodes n) m → IsChildOf tree stacks front m
child-is tree stacks depth n front is at m held =
    let child = children_of-only tree.nodes n m held in
    let node : CostNode = child.0 in
    let above = child.1 in
    let node_at = child.2 in
    let parent = child.3 in
    let within = slice_get_within tree.nodes m node node_at in
    let front_at = slice_get-get_or tree.fronts m [] (omega (arith, is.count)) in
    let below = is.below m (get_or tree.fronts m []) node above front_at node_at in
    let some = is.only m (get_or tree.fronts m []) above front_at in
    let same : below.parent_front ≡ front =
    same_Some below.parent_front front (sym below.parent ∙ ap (λ (k : ℕ). slice_get tree.fronts k) parent ∙ at) in
    record {
      text = below.text;
      longer = below.longer ∙ ap (λ (xs : List (List ℕ)). xs ++ below.text ∷ []) same;
      some = some;
      first =
          ap (λ (x : CostNode). x.first) (get_or_from_slice_get tree.nodes m node no_node node_at)
          ∙ is.firsts m (get_or tree.fronts m []) node front_at node_at some;
    }

-- the child that a stack opens
child-opened : (tree : TreeState) (stacks : List Costed) (depth n : ℕ) (front : List (List ℕ))
    → IsForest tree stacks depth → slice_get tree.fronts n ≡ Some front → length front < depth
    → (s : ℕ) → Opens front stacks s
    → (m : ℕ) × Contains (children_of tree.nodes n) m × ((get_or tree.nodes m no_node).first ≡ s)
child-opened tree stacks depth n front is at shorter s opened =
    let longer : List (List ℕ) = longer_front front stacks s in
    let count = opened.count in
    let found = is.complete longer (omega arith) opened.some in
    let m : ℕ = found.0 in
    let inside = slice_get_within tree.fronts m longer found.1 in
    let node : CostNode = get_or tree.nodes m no_node in
    let node_at = slice_get-get_or tree.nodes m no_node (omega (arith, is.count)) in
    let above : 0 < m = elim (cases_eq m 0) [
      | inl root ↦
          let empty =
          ap (λ (xs : List (List ℕ)). length xs)
          (same_Some longer [] (sym found.1 ∙ ap (λ (k : ℕ). slice_get tree.fronts k) root ∙ is.root)) in
          absurd (omega arith)
      | inr other ↦ omega arith
    ] in
    let below = is.below m longer node above found.1 node_at in
    let push = ap (λ (xs : List (List ℕ)). length xs) below.longer ∙ length_push below.parent_front below.text in
    let cut : take (length front) longer ≡ below.parent_front =
    ap (λ (xs : List (List ℕ)). take (length front) xs) below.longer
    ∙ take-append-le (length front) below.parent_front (below.text ∷ []) (omega arith)
    ∙ take_all (length front) below.parent_front (omega arith) in
    let same : below.parent_front ≡ front = sym (opened.begins ∙ cut) in
    let parent = is.distinct node.parent n front (below.parent ∙ ap (λ (xs : List (List ℕ)). Some xs) same) at in (
      m,
      children_of-all tree.nodes n m node above node_at parent,
      is.firsts m longer node found.1 node_at opened.some ∙ opened.least_is,
    )

pub children-next : (tree : TreeState) (stacks : List Costed) (depth n : ℕ) (front : List (List ℕ))
    → IsForest tree stacks depth → slice_get tree.fronts n ≡ Some front → length front < depth
    → map (λ m. get_or tree.fronts m []) (children_of tree.nodes n) ≡ next_fronts front stacks
unfolding next_fronts
children-next tree stacks depth n front is at shorter =
    let children : List ℕ = children_of tree.nodes n in
    let first : ℕ → ℕ = λ m. (get_or tree.nodes m no_node).first in
    let opening : List ℕ = filter (opens front stacks) (range_with_len 0 (length stacks)) in
    let firsts : map first children ≡ opening =
    ascending-same (map first children) opening
    (mapped-pairs first children (children_of-ordered tree.nodes n)
    (λ a b held_a held_b before. rise a b held_a held_b before))
    (ordered (opens front stacks) 0 (length stacks))
    (λ s held. there s held)
    (λ s held. back s held) in
    mapped-same (λ m. get_or tree.fronts m []) (λ m. longer_front front stacks (first m)) children
    (λ m held. front_of m held)
    ∙ sym (map-map (longer_front front stacks) first children)
    ∙ ap (λ (ns : List ℕ). map (longer_front front stacks) ns) firsts
  where
    front_of : (m : ℕ) → Contains (children_of tree.nodes n) m
        → get_or tree.fronts m [] ≡ longer_front front stacks ((get_or tree.nodes m no_node).first)
    front_of m held =
        let child = child-is tree stacks depth n front is at m held in
        let opened = opened-is front (get_or tree.fronts m []) child.text stacks child.longer child.some in
        sym (ap (λ (k : ℕ). longer_front front stacks k) child.first ∙ opened.is)

    rise : (a b : ℕ) → Contains (children_of tree.nodes n) a → Contains (children_of tree.nodes n) b → a < b
        → (get_or tree.nodes a no_node).first < (get_or tree.nodes b no_node).first
    rise a b held_a held_b before =
        let one = children_of-only tree.nodes n a held_a in
        let two = children_of-only tree.nodes n b held_b in
        let order = is.siblings a b one.0 two.0 one.1 before one.2 two.2 (one.3 ∙ sym two.3) in
        let first_a = ap (λ (x : CostNode). x.first) (get_or_from_slice_get tree.nodes a one.0 no_node one.2) in
        let first_b = ap (λ (x : CostNode). x.first) (get_or_from_slice_get tree.nodes b two.0 no_node two.2) in
        omega arith

    there : (s : ℕ) → Contains (map (λ m. (get_or tree.nodes m no_node).first) (children_of tree.nodes n)) s
        → Contains (filter (opens front stacks) (range_with_len 0 (length stacks))) s
    there s held =
        let from = mapped-from (λ m. (get_or tree.nodes m no_node).first) (children_of tree.nodes n) 0 s held in
        let child = child-is tree stacks depth n front is at from.0 from.1 in
        let opened = opened-is front (get_or tree.fronts from.0 []) child.text stacks child.longer child.some in
        let same : least (get_or tree.fronts from.0 []) stacks ≡ s = sym child.first ∙ from.2 in
        let P : ℕ → Type 0 = λ k. Contains (filter (opens front stacks) (range_with_len 0 (length stacks))) k in
        subst P same
        (contains_ranged (opens front stacks) 0 (length stacks) (least (get_or tree.fronts from.0 []) stacks)
        (omega arith) (omega (arith, opened.within)) opened.opened)

    back : (s : ℕ) → Contains (filter (opens front stacks) (range_with_len 0 (length stacks))) s
        → Contains (map (λ m. (get_or tree.nodes m no_node).first) (children_of tree.nodes n)) s
    back s held =
        let passes =
        All-contains (λ k. (0 ≤ k) × ((k < 0 + length stacks) × (opens front stacks k ≡ true)))
        (filter (opens front stacks) (range_with_len 0 (length stacks))) s
        (ranged (opens front stacks) 0 (length stacks)) held in
        let opened = opens-is front stacks s (omega (arith, passes.1.0)) passes.1.1 in
        let child = child-opened tree stacks depth n front is at shorter s opened in
        let P : ℕ → Type 0 =
        λ k. Contains (map (λ m. (get_or tree.nodes m no_node).first) (children_of tree.nodes n)) k in
        subst P child.2
        (mapped-to (λ m. (get_or tree.nodes m no_node).first) (children_of tree.nodes n) child.0 child.1)

-- a node of a front of the greatest length has no child
pub children-none : (tree : TreeState) (stacks : List Costed) (depth n : ℕ) (front : List (List ℕ))
    → IsForest tree stacks depth → slice_get tree.fronts n ≡ Some front → depth ≤ length front
    → children_of tree.nodes n ≡ []
children-none tree stacks depth n front is at longest =
    none_held (children_of tree.nodes n) (λ m held. childless m held)
  where
    none_held : (ms : List ℕ) → ((m : ℕ) → Contains ms m → ⊥) → ms ≡ []
    none_held [] nothing = refl
    none_held (m ∷ ms) nothing = absurd (nothing m (0, omega arith, refl))

    childless : (m : ℕ) → Contains (children_of tree.nodes n) m → ⊥
    childless m held =
        let child = child-is tree stacks depth n front is at m held in
        let one = children_of-only tree.nodes n m held in
        let within = slice_get_within tree.nodes m one.0 one.2 in
        let short =
        is.short m (get_or tree.fronts m []) (slice_get-get_or tree.fronts m [] (omega (arith, is.count))) in
        let push = ap (λ (xs : List (List ℕ)). length xs) child.longer ∙ length_push front child.text in
        omega arith
