-- Lemmas on a tree along a shape while a list is added, node by node.
use Rattle.std.proofs.Common.{◌≡◌, ◌≢◌, ℕ, zero, suc, ◌+◌, ◌-◌, ◌<◌, ◌≤◌, inl, inr, List, [], ◌∷◌, ◌++◌, length, map}
use Rattle.std.proofs.Common.{get_or, replicate, set, take, Some, refl, sym, ap, ◌∙◌, subst, arith, get_or-set_other}
use Rattle.std.specs.Prelude.{All, slice_get, slice_index, sum_by}
use Rattle.std.proofs.lemmas.Bool.{cases_eq}
use Rattle.std.proofs.lemmas.List.{length-map, length-replicate, length-set, length-take-le, length_push, map-append}
use Rattle.std.proofs.lemmas.List.{same_from_push, take-map, take_more}
use Rattle.std.proofs.lemmas.List.Elements.{All-cons, All-nil, All-set, All-weaker}
use Rattle.std.proofs.lemmas.List.Sums.{sum_by_push}
use Rattle.std.proofs.lemmas.Option.{none-some, same_Some, slice_get_within, get_or_from_slice_get}
use Rattle.cost_tree.specs.declared.branches.Branches.{Branches}
use Rattle.cost_tree.specs.declared.edge.Edge.{Edge}
use Rattle.cost_tree.specs.declared.node.CostNode.{CostNode}
use Rattle.cost_tree.specs.Building.{AreReached, IsBuilt, IsGrowth, IsMade, IsNumbering, IsStage, IsStarted, with_stack}
use Rattle.cost_tree.specs.Costed.{Costed}
use Rattle.cost_tree.specs.Growth.{AreBranches, IsGrown, weight}
use Rattle.cost_tree.specs.Inclusive.{inclusive, own}
use Rattle.cost_tree.specs.Shapes.{AreSteps, list_at, next_front, numbers_of, paths}
use Rattle.cost_tree.specs.Texts.{AreNames, IsText, fronts_of, text_of, texts_of}
use Rattle.cost_tree.proofs.Ascents.{IsLeft, free-above}
use Rattle.cost_tree.proofs.Growing.{IsGrown-made, IsGrown-reached}
use Rattle.cost_tree.proofs.Lists.{get-push_cases, get-push_old, get-push_new, get-set_cases, get-set_other}
use Rattle.cost_tree.proofs.Lists.{get-set_same}
use Rattle.cost_tree.proofs.Steps.{AreSteps-named, AreSteps-push, fronts_of-map, get-mapped, next_front-is, paths-push}
use Rattle.cost_tree.proofs.Sums.{AddsAt, AddsAt-more, inclusive-push}

-- a node whose figures change keeps the branches
pub AreBranches-set : (names : List (List ℕ)) (edges : List Edge) (nodes : List CostNode)
    (fronts : List (List (List ℕ))) (m : ℕ) (old new : CostNode)
    → AreBranches names edges nodes fronts → slice_get nodes m ≡ Some old → new.parent ≡ old.parent
    → AreBranches names edges (set nodes m new) fronts
AreBranches-set names edges nodes fronts m old new are at same = record {
  steps = are.steps;
  texts = are.texts;
  nodes_count = length-set nodes m new ∙ are.nodes_count;
  root_parent = λ root found. elim (get-set_cases nodes m new 0 root found) [
    | inl here ↦ ap (λ (x : CostNode). x.parent) here.1 ∙ same
        ∙ are.root_parent old (ap (λ (k : ℕ). slice_get nodes k) here.0 ∙ at)
    | inr other ↦ are.root_parent root other.1
  ];
  parent = λ place edge child edge_at found. elim (get-set_cases nodes m new (place + 1) child found) [
    | inl here ↦ ap (λ (x : CostNode). x.parent) here.1 ∙ same
        ∙ are.parent place edge old edge_at (ap (λ (k : ℕ). slice_get nodes k) here.0 ∙ at)
    | inr other ↦ are.parent place edge child edge_at other.1
  ];
}

-- a node more for an edge whose front is new
AreBranches-push :
    (names : List (List ℕ)) (edges : List Edge) (nodes : List CostNode) (fronts : List (List (List ℕ))) (edge : Edge)
    (node : CostNode) (front : List (List ℕ))
    → AreBranches names edges nodes fronts → IsText names edge.text → slice_get fronts edge.parent ≡ Some front
    → ((n : ℕ) → slice_get fronts n ≢ Some (front ++ text_of names edge.text ∷ [])) → node.parent ≡ edge.parent
    → AreBranches names (edges ++ edge ∷ []) (nodes ++ node ∷ [])
    (fronts ++ next_front (text_of names) fronts edge ∷ [])
AreBranches-push names edges nodes fronts edge node front are is_text at none same =
    let edges_more = length_push edges edge in
    let nodes_more = length_push nodes node in
    let nodes_count = are.nodes_count in
    record {
      steps = AreSteps-push (text_of names) edges fronts edge front are.steps at none;
      texts = λ place other found. elim (get-push_cases edges edge place other found) [
        | inl here ↦ are.texts place other here
        | inr new ↦ subst (λ (n : ℕ). IsText names n) (sym (ap (λ (e : Edge). e.text) new.1)) is_text
      ];
      nodes_count = omega arith;
      root_parent =
          λ root at_root. elim (get-push_cases nodes node 0 root at_root)
          [ inl here ↦ are.root_parent root here | inr new ↦ absurd (omega (arith, new.0)) ];
      parent = λ place other child found child_at. elim (get-push_cases edges edge place other found) [
        | inl here ↦ elim (get-push_cases nodes node (place + 1) child child_at) [
          | inl child_here ↦ are.parent place other child here child_here
          | inr new ↦ let inside = slice_get_within edges place other here in absurd (omega (arith, new.0))
        ]
        | inr new ↦ elim (get-push_cases nodes node (place + 1) child child_at) [
          | inl child_here ↦ let inside =
              slice_get_within nodes (place + 1) child child_here in absurd (omega (arith, new.0))
          | inr new_child ↦ ap (λ (x : CostNode). x.parent) new_child.1 ∙ same ∙ sym (ap (λ (e : Edge). e.parent) new.1)
        ]
      ];
    }

-- a number more, of a node that had none
IsNumbering-push : (shape_fronts fronts : List (List (List ℕ))) (numbered : List ℕ) (node : ℕ) (front : List (List ℕ))
    → IsNumbering shape_fronts fronts numbered
    → ((m n : ℕ) (some : List (List ℕ)) → slice_get shape_fronts m ≡ Some some → slice_get shape_fronts n ≡ Some some
    → m ≡ n)
    → slice_get shape_fronts node ≡ Some front → slice_get numbered node ≡ Some 0
    → IsNumbering shape_fronts (fronts ++ front ∷ []) (set numbered node (length fronts + 1))
IsNumbering-push shape_fronts fronts numbered node front is distinct at free = record {
  held = λ other n some number some_at. elim (get-set_cases numbered node (length fronts + 1) other (n + 1) number) [
    | inl here ↦
        let place : n ≡ length fronts = omega (arith, here.1) in
        let same : some ≡ front =
        same_Some some front (sym some_at ∙ ap (λ (k : ℕ). slice_get shape_fronts k) here.0 ∙ at) in
        ap (λ (k : ℕ). slice_get (fronts ++ front ∷ []) k) place ∙ get-push_new fronts front
        ∙ ap (λ (xs : List (List ℕ)). Some xs) (sym same)
    | inr elsewhere ↦ get-push_old fronts front n some (is.held other n some elsewhere.1 some_at)
  ];
  all = λ other n some some_at found. elim (get-push_cases fronts front n some found) [
    | inl here ↦ elim (cases_eq other node) [
      | inl same ↦
          let number = is.all other n some some_at here in
          let none = same_Some (n + 1) 0 (sym number ∙ ap (λ (k : ℕ). slice_get numbered k) same ∙ free) in
          absurd (omega arith)
      | inr apart ↦ get-set_other numbered node other (length fronts + 1) apart ∙ is.all other n some some_at here
    ]
    | inr new ↦
        let same = distinct other node front (some_at ∙ ap (λ (xs : List (List ℕ)). Some xs) new.1) at in
        ap (λ (k : ℕ). slice_get (set numbered node (length fronts + 1)) k) same
        ∙ get-set_same numbered node 0 (length fronts + 1) free
        ∙ ap (λ (k : ℕ). Some (k + 1)) (sym new.0)
  ];
}

-- the front of a node that has no number is that of no node of the tree
free-fresh : (shape_fronts fronts : List (List (List ℕ))) (numbered : List ℕ) (node : ℕ) (front : List (List ℕ))
    → IsNumbering shape_fronts fronts numbered
    → slice_get shape_fronts node ≡ Some front → slice_get numbered node ≡ Some 0 → (n : ℕ)
    → slice_get fronts n ≢ Some front
free-fresh shape_fronts fronts numbered node front is at free n found =
    let same = same_Some (n + 1) 0 (sym (is.all node n front at found) ∙ free) in
    absurd (omega arith)

-- the lists stay as long as they should be where a node is made
pub IsBuilt-made : (shape : List Edge) (parent place list : ℕ) (old new : Branches) (n : ℕ) → IsBuilt shape old
    → 0 < place → parent < length old.nodes.items → IsMade shape parent place list old new n → IsBuilt shape new
IsBuilt-made shape parent place list old new n built above held made =
    let node : CostNode = record { parent = parent; cost = 0; own = 0; first = list } in
    let edges =
    ap (λ (es : List Edge). length es) made.edges_are
    ∙ length_push old.edges.items (record { parent = parent; text = made.edge.text }) in
    let nodes = ap (λ (ns : List CostNode). length ns) made.nodes_are ∙ length_push old.nodes.items node in
    let levels =
    ap (λ (ns : List ℕ). length ns) made.levels_are
    ∙ length_push old.levels.items (slice_index old.levels.items parent + 1) in
    let numbered = ap (λ (ns : List ℕ). length ns) made.numbered_are ∙ length-set old.numbered.items place (n + 1) in
    let P : List ℕ → Type 0 = λ ns. All (λ number. number ≤ length new.nodes.items) ns in
    record {
      nodes_count = omega (arith, built.nodes_count);
      levels_count = omega (arith, built.levels_count);
      numbered_count = omega (arith, built.numbered_count);
      numbers = subst P (sym made.numbered_are)
          (All-set (λ number. number ≤ length new.nodes.items) old.numbered.items place (n + 1)
          (omega (arith, made.number, built.nodes_count))
          (All-weaker (λ number. number ≤ length old.nodes.items) (λ number. number ≤ length new.nodes.items)
          (λ number most. omega arith) old.numbered.items built.numbers));
      root = ap (λ (ns : List ℕ). slice_index ns 0) made.numbered_are ∙ other_number old.numbered.items ∙ built.root;
      lower =
          λ k child over at. elim
          (get-push_cases old.nodes.items node k child
          (ap (λ (ns : List CostNode). slice_get ns k) (sym made.nodes_are) ∙ at)) [
            | inl here ↦ built.lower k child over here
            | inr last ↦ let is = ap (λ (x : CostNode). x.parent) last.1 in omega (arith, last.0)
          ];
    }
  where
    other_number : (ns : List ℕ) → slice_index (set ns place (n + 1)) 0 ≡ slice_index ns 0
    other_number ns = get_or-set_other ns place 0 (n + 1) 0 (λ same. absurd (omega arith))

pub weight-made : (shape : List Edge) (parent place list : ℕ) (old new : Branches) (n : ℕ)
    → IsMade shape parent place list old new n → sum_by weight new.nodes.items ≡ sum_by weight old.nodes.items
weight-made shape parent place list old new n made =
    let node : CostNode = record { parent = parent; cost = 0; own = 0; first = list } in
    let more = ap (λ (ns : List CostNode). sum_by weight ns) made.nodes_are ∙ sum_by_push weight old.nodes.items node in
    omega arith

-- a node is made for the next text of a list
pub IsStage-made :
    (names : List (List ℕ)) (shape : List Edge) (old new : Branches) (before : List Costed) (texts : List (List ℕ))
    (cost depth parent place list n j : ℕ)
    → AreNames names shape → AreSteps (λ number. number) shape (numbers_of shape) → length before ≡ list → 0 < cost
    → IsStage names shape old before texts cost depth parent j → j < length texts → j < depth
    → slice_get (fronts_of names shape) place ≡ Some (take (j + 1) texts) → slice_get old.numbered.items place ≡ Some 0
    → 0 < place
    → IsMade shape parent place list old new n → IsStage names shape new before texts cost depth n (j + 1)
IsStage-made names shape old new before texts cost depth parent place list n j named steps last above stage within short
    at free over made =
    let edges : List Edge = old.edges.items in
    let nodes : List CostNode = old.nodes.items in
    let fronts : List (List (List ℕ)) = fronts_of names edges in
    let growth = stage.growth in
    let edge : Edge = record { parent = parent; text = made.edge.text } in
    let node : CostNode = record { parent = parent; cost = 0; own = 0; first = list } in
    let front : List (List ℕ) = take j texts in
    let next : List (List ℕ) = take (j + 1) texts in
    let shape_steps = AreSteps-named names shape steps named in
    let is_next : front ++ text_of names made.edge.text ∷ [] ≡ next = next_is in
    let fresh = free-fresh (fronts_of names shape) fronts old.numbered.items place next growth.numbering at free in
    let fresh_edge : (k : ℕ) → slice_get fronts k ≢ Some (front ++ text_of names edge.text ∷ []) =
    λ k found. fresh k (found ∙ ap (λ (xs : List (List ℕ)). Some xs) is_next) in
    let branches =
    AreBranches-push names edges nodes fronts edge node front growth.branches
    (named.texts (place - 1) made.edge made.at) stage.at fresh_edge refl in
    let next_fronts_is : next_front (text_of names) fronts edge ≡ next =
    next_front-is (text_of names) fronts edge front stage.at ∙ is_next in
    let fronts_are : fronts_of names new.edges.items ≡ fronts ++ next ∷ [] =
    ap (λ (es : List Edge). fronts_of names es) made.edges_are
    ∙ paths-push (text_of names) edges edge
    ∙ ap (λ (xs : List (List ℕ)). fronts ++ xs ∷ []) next_fronts_is in
    let count = growth.branches.steps.count in
    let n_is : n ≡ length fronts = made.number ∙ sym count in
    let level_is : slice_index old.levels.items parent ≡ length front =
    ap (λ (ls : List ℕ). slice_index ls parent) growth.levels
    ∙ get_or_from_slice_get (map length fronts) parent (length front) 0
    (get-mapped length fronts parent front stage.at) in
    let next_length : length next ≡ slice_index old.levels.items parent + 1 =
    ap (λ (xs : List (List ℕ)). length xs) (sym is_next) ∙ length_push front (text_of names made.edge.text)
    ∙ ap (λ (k : ℕ). k + 1) (sym level_is) in
    let adds = AddsAt-more before texts cost j above within in
    let A : ℕ → Type 0 = λ k. AddsAt next cost k (with_stack before front cost) (with_stack before next cost) in
    let most : (some : List (List ℕ)) → inclusive some before ≤ inclusive some (with_stack before front cost) =
    λ some. let push = inclusive-push some before (record { texts = front; cost = cost }) in omega arith in
    let old_count = length_push before (record { texts = front; cost = cost }) in
    let next_short = length-take-le (j + 1) texts (omega arith) in
    let grown =
    IsGrown-made names edges nodes fronts (with_stack before front cost) (with_stack before next cost) before depth
    next node cost growth.branches growth.grown (subst A last adds) above fresh (omega arith) most (omega arith)
    refl refl in
    let numbering =
    IsNumbering-push (fronts_of names shape) fronts old.numbered.items place next growth.numbering
    shape_steps.distinct at free in
    let numbered_are : new.numbered.items ≡ set old.numbered.items place (length fronts + 1) =
    made.numbered_are ∙ ap (λ (k : ℕ). set old.numbered.items place (k + 1)) n_is in
    let B : List Edge → List CostNode → List (List (List ℕ)) → Type 0 = λ es ns fs. AreBranches names es ns fs in
    let fs_edge : fronts ++ next_front (text_of names) fronts edge ∷ [] ≡ fronts ++ next ∷ [] =
    ap (λ (xs : List (List ℕ)). fronts ++ xs ∷ []) next_fronts_is in
    record {
      growth = record {
        branches =
            subst (λ (es : List Edge). B es new.nodes.items (fronts_of names new.edges.items)) (sym made.edges_are)
            (subst (λ (ns : List CostNode). B (edges ++ edge ∷ []) ns (fronts_of names new.edges.items))
            (sym made.nodes_are)
            (subst (λ (fs : List (List (List ℕ))). B (edges ++ edge ∷ []) (nodes ++ node ∷ []) fs)
            (fs_edge ∙ sym fronts_are) branches));
        numbering =
            subst (λ (fs : List (List (List ℕ))). IsNumbering (fronts_of names shape) fs new.numbered.items)
            (sym fronts_are)
            (subst (λ (ns : List ℕ). IsNumbering (fronts_of names shape) (fronts ++ next ∷ []) ns) (sym numbered_are)
            numbering);
        levels = made.levels_are
            ∙ ap (λ (ls : List ℕ). ls ++ (slice_index old.levels.items parent + 1) ∷ []) growth.levels
            ∙ ap (λ (k : ℕ). map length fronts ++ k ∷ []) (sym next_length)
            ∙ sym (map-append length fronts (next ∷ []))
            ∙ ap (λ (fs : List (List (List ℕ))). map length fs) (sym fronts_are);
        grown =
            subst (λ (fs : List (List (List ℕ))). IsGrown fs new.nodes.items (with_stack before next cost) before depth)
            (sym fronts_are)
            (subst (λ (ns : List CostNode). IsGrown (fronts ++ next ∷ []) ns (with_stack before next cost) before depth)
            (sym made.nodes_are) grown);
      };
      at =
          ap (λ (fs : List (List (List ℕ))). slice_get fs n) fronts_are
          ∙ ap (λ (k : ℕ). slice_get (fronts ++ next ∷ []) k) n_is ∙ get-push_new fronts next;
    }
  where
    -- the edge of the shape leads from the front to the next
    next_is : take j texts ++ text_of names made.edge.text ∷ [] ≡ take (j + 1) texts
    next_is =
        let shape_steps = AreSteps-named names shape steps named in
        let shape_fronts : List (List (List ℕ)) = fronts_of names shape in
        let step = shape_steps.step (place - 1) made.edge made.at in
        let back : place - 1 + 1 ≡ place = omega arith in
        let F : ℕ → Type 0 = λ k. slice_get shape_fronts k ≡ Some (next_front (text_of names) shape_fronts made.edge) in
        let start : List (List ℕ) = get_or shape_fronts made.edge.parent [] in
        let same : start ++ text_of names made.edge.text ∷ [] ≡ take (j + 1) texts =
        same_Some (start ++ text_of names made.edge.text ∷ []) (take (j + 1) texts)
        (sym (subst F back step.front) ∙ at) in
        let split = take_more texts j [] within in
        let parts =
        same_from_push start (take j texts) (text_of names made.edge.text) (get_or texts j []) (same ∙ split) in
        ap (λ (xs : List (List ℕ)). xs ++ text_of names made.edge.text ∷ []) (sym parts.0) ∙ same

-- node 0 alone
pub IsBuilt-started : (shape : List Edge) (tree : Branches) → IsStarted (length shape) tree → IsBuilt shape tree
IsBuilt-started shape tree started =
    let zeros : List ℕ = replicate (length shape + 1) 0 in
    let edges = ap (λ (es : List Edge). length es) started.edges_are in
    let nodes = ap (λ (ns : List CostNode). length ns) started.nodes_are in
    let levels = ap (λ (ns : List ℕ). length ns) started.levels_are in
    let numbered =
    ap (λ (ns : List ℕ). length ns) started.numbered_are ∙ length-set zeros 0 1
    ∙ length-replicate (length shape + 1) 0 in
    let P : List ℕ → Type 0 = λ ns. All (λ number. number ≤ length tree.nodes.items) ns in
    record {
      nodes_count = omega arith;
      levels_count = omega arith;
      numbered_count = omega arith;
      numbers =
          subst P (sym started.numbered_are)
          (All-set (λ number. number ≤ length tree.nodes.items) zeros 0 1 (omega arith) (all_zero (length shape + 1)));
      root = ap (λ (ns : List ℕ). slice_index ns 0) started.numbered_are ∙ first_number (length shape);
      lower = λ n node over at. let inside = slice_get_within tree.nodes.items n node at in absurd (omega arith);
    }
  where
    all_zero : (count : ℕ) → All (λ number. number ≤ length tree.nodes.items) (replicate count 0)
    all_zero zero = All-nil (λ number. number ≤ length tree.nodes.items)
    all_zero (suc count) =
        All-cons (λ number. number ≤ length tree.nodes.items) 0 (replicate count 0) (omega arith) (all_zero count)

    first_number : (count : ℕ) → slice_index (set (replicate (count + 1) 0) 0 1) 0 ≡ 1
    first_number count =
        let next : count + 1 ≡ suc count = omega arith in ap (λ (k : ℕ). slice_index (set (replicate k 0) 0 1) 0) next

root-only : (n : ℕ) (front : List (List ℕ)) → slice_get ([] ∷ []) n ≡ Some front → (n ≡ 0) × (front ≡ [])
root-only zero front at = (refl, sym (same_Some [] front at))
root-only (suc n) front at = absurd (none-some front at)

abbrev root_node : CostNode
root_node = record { parent = 0; cost = 0; own = 0; first = 0 }

root-node : (n : ℕ) (node : CostNode) → slice_get (root_node ∷ []) n ≡ Some node → (n ≡ 0) × (node ≡ root_node)
root-node zero node at = (refl, sym (same_Some root_node node at))
root-node (suc n) node at = absurd (none-some node at)

root-fronts : (names : List (List ℕ)) → fronts_of names [] ≡ [] ∷ []
unfolding paths
root-fronts names = refl

root-branches : (names : List (List ℕ)) → AreBranches names [] (root_node ∷ []) (fronts_of names [])
unfolding paths
root-branches names = record {
  steps = record {
    count = refl;
    root = refl;
    step = λ place edge at. absurd (none-some edge at);
    distinct = λ m n front at_m at_n. (root-only m front at_m).0 ∙ sym (root-only n front at_n).0;
  };
  texts = λ place edge at. absurd (none-some edge at);
  nodes_count = refl;
  root_parent = λ node at. ap (λ (x : CostNode). x.parent) (root-node 0 node at).1;
  parent = λ place edge node at node_at. absurd (none-some edge at);
}

root-grown : (names : List (List ℕ)) (depth : ℕ) → IsGrown (fronts_of names []) (root_node ∷ []) [] [] depth
unfolding paths inclusive own
root-grown names depth = record {
  short = λ n front at. let count = ap (λ (xs : List (List ℕ)). length xs) (root-only n front at).1 in omega arith;
  owns = λ n front node at node_at. ap (λ (x : CostNode). x.own) (root-node n node node_at).1;
  ends = λ n front node over at node_at. let is = (root-only n front at).0 in absurd (omega arith);
  firsts = λ n front node at node_at some. absurd (omega arith);
  root = λ node at. ap (λ (x : CostNode). x.cost) (root-node 0 node at).1;
  empty = λ node at none. ap (λ (x : CostNode). x.first) (root-node 0 node at).1;
  complete = λ front short some. absurd (omega arith);
  only = λ n front over at. let is = (root-only n front at).0 in absurd (omega arith);
  order =
      λ m n older younger over le older_at younger_at. let is = (root-node m older older_at).0 in absurd (omega arith);
}

zero-number : (count k number : ℕ) → slice_get (replicate count 0) k ≡ Some number → number ≡ 0
zero-number zero k number at = absurd (none-some number at)
zero-number (suc count) zero number at = sym (same_Some 0 number at)
zero-number (suc count) (suc k) number at = zero-number count k number at

start-numbering : (shape_fronts : List (List (List ℕ))) (count : ℕ) → slice_get shape_fronts 0 ≡ Some []
    → ((m n : ℕ) (front : List (List ℕ)) → slice_get shape_fronts m ≡ Some front → slice_get shape_fronts n ≡ Some front
    → m ≡ n)
    → IsNumbering shape_fronts ([] ∷ []) (set (replicate (suc count) 0) 0 1)
start-numbering shape_fronts count root distinct = record {
  held = λ node n front number at. elim (get-set_cases (replicate (suc count) 0) 0 1 node (n + 1) number) [
    | inl here ↦
        let is_root : n ≡ 0 = omega (arith, here.1) in
        let same : front ≡ [] = same_Some front [] (sym at ∙ ap (λ (k : ℕ). slice_get shape_fronts k) here.0 ∙ root) in
        ap (λ (k : ℕ). slice_get ([] ∷ []) k) is_root ∙ ap (λ (xs : List (List ℕ)). Some xs) (sym same)
    | inr other ↦ let none = zero-number (suc count) node (n + 1) other.1 in absurd (omega arith)
  ];
  all = λ node n front at found.
      let is = root-only n front found in
      let node_is = distinct node 0 [] (at ∙ ap (λ (xs : List (List ℕ)). Some xs) is.1) root in
      ap (λ (k : ℕ). slice_get (set (replicate (suc count) 0) 0 1) k) node_is ∙ ap (λ (k : ℕ). Some (k + 1)) (sym is.0);
}

pub IsGrowth-started : (names : List (List ℕ)) (shape : List Edge) (tree : Branches) (depth : ℕ)
    → AreSteps (λ number. number) shape (numbers_of shape) → AreNames names shape → IsStarted (length shape) tree
    → IsGrowth names shape tree [] [] depth
IsGrowth-started names shape tree depth steps named started =
    let named_steps = AreSteps-named names shape steps named in
    let one_more : length shape + 1 ≡ suc (length shape) = omega arith in
    let numbered_are : tree.numbered.items ≡ set (replicate (suc (length shape)) 0) 0 1 =
    started.numbered_are ∙ ap (λ (k : ℕ). set (replicate k 0) 0 1) one_more in
    let B : List Edge → List CostNode → Type 0 = λ es ns. AreBranches names es ns (fronts_of names es) in
    let G : List Edge → List CostNode → Type 0 = λ es ns. IsGrown (fronts_of names es) ns [] [] depth in
    let N : List Edge → List ℕ → Type 0 = λ es ns. IsNumbering (fronts_of names shape) (fronts_of names es) ns in
    record {
      branches =
          subst (λ (es : List Edge). B es tree.nodes.items) (sym started.edges_are)
          (subst (λ (ns : List CostNode). B [] ns) (sym started.nodes_are) (root-branches names));
      numbering =
          subst (λ (es : List Edge). N es tree.numbered.items) (sym started.edges_are)
          (subst (λ (ns : List ℕ). N [] ns) (sym numbered_are) (root-numbers named_steps.root named_steps.distinct));
      levels =
          started.levels_are ∙ root-level
          ∙ ap (λ (es : List Edge). map length (fronts_of names es)) (sym started.edges_are);
      grown =
          subst (λ (es : List Edge). G es tree.nodes.items) (sym started.edges_are)
          (subst (λ (ns : List CostNode). G [] ns) (sym started.nodes_are) (root-grown names depth));
    }
  where
    root-numbers : slice_get (fronts_of names shape) 0 ≡ Some []
        → ((m n : ℕ) (front : List (List ℕ)) → slice_get (fronts_of names shape) m ≡ Some front
        → slice_get (fronts_of names shape) n ≡ Some front → m ≡ n)
        → IsNumbering (fronts_of names shape) (fronts_of names []) (set (replicate (suc (length shape)) 0) 0 1)
    root-numbers root distinct =
        subst (λ (fs : List (List (List ℕ))). IsNumbering (fronts_of names shape) fs
        (set (replicate (suc (length shape)) 0) 0 1)) (sym
        (root-fronts names)) (start-numbering (fronts_of names shape) (length shape) root distinct)

    root-level : 0 ∷ [] ≡ map length (fronts_of names [])
    root-level = ap (λ (fs : List (List (List ℕ))). map length fs) (sym (root-fronts names))

-- a list's way in texts
on-path : (names : List (List ℕ)) (shape : List Edge) (list : List ℕ) (node k : ℕ)
    → slice_get (numbers_of shape) node ≡ Some (take k list)
    → slice_get (fronts_of names shape) node ≡ Some (take k (texts_of names list))
on-path names shape list node k at =
    ap (λ (fs : List (List (List ℕ))). slice_get fs node) (fronts_of-map names shape)
    ∙ get-mapped (texts_of names) (numbers_of shape) node (take k list) at
    ∙ ap (λ (ts : List (List ℕ)). Some ts) (sym (take-map (text_of names) k list))

-- where the way up ended, the texts up to there are in the tree
pub IsStage-reached :
    (names : List (List ℕ)) (shape : List Edge) (tree : Branches) (before : List Costed) (list path : List ℕ)
    (cost depth node n : ℕ)
    → 0 < cost
    → IsGrowth names shape tree (with_stack before [] cost) before depth
    → slice_get (numbers_of shape) node ≡ Some (take (length list - length path) list)
    → slice_get tree.numbered.items node ≡ Some (n + 1)
    → IsStage names shape tree before (texts_of names list) cost depth n (length list - length path)
IsStage-reached names shape tree before list path cost depth node n above growth at number =
    let front : List (List ℕ) = take (length list - length path) (texts_of names list) in
    let held =
    growth.numbering.held node n front number (on-path names shape list node (length list - length path) at) in
    record {
      growth = record {
        branches = growth.branches;
        numbering = growth.numbering;
        levels = growth.levels;
        grown =
            IsGrown-reached names tree.edges.items tree.nodes.items
            (fronts_of names tree.edges.items) before before depth
            n front cost growth.branches growth.grown above held;
      };
      at = held;
    }

-- a tree whose lists are the same
pub IsStage-moved : (names : List (List ℕ)) (shape : List Edge) (tree new : Branches) (before : List Costed)
    (texts : List (List ℕ)) (cost depth n j : ℕ)
    → new.edges.items ≡ tree.edges.items → new.nodes.items ≡ tree.nodes.items → new.levels.items ≡ tree.levels.items
    → new.numbered.items ≡ tree.numbered.items
    → IsStage names shape tree before texts cost depth n j → IsStage names shape new before texts cost depth n j
IsStage-moved names shape tree new before texts cost depth n j edges nodes levels numbered stage =
    let growth = stage.growth in
    let stacks : List Costed = with_stack before (take j texts) cost in
    record {
      growth = record {
        branches =
            subst (λ (es : List Edge). AreBranches names es new.nodes.items (fronts_of names es)) (sym edges)
            (subst (λ (ns : List CostNode). AreBranches names tree.edges.items ns (fronts_of names tree.edges.items))
            (sym nodes) growth.branches);
        numbering =
            subst (λ (es : List Edge). IsNumbering (fronts_of names shape) (fronts_of names es) new.numbered.items)
            (sym edges)
            (subst (λ (ns : List ℕ). IsNumbering (fronts_of names shape) (fronts_of names tree.edges.items) ns)
            (sym numbered) growth.numbering);
        levels = levels ∙ growth.levels ∙ ap (λ (es : List Edge). map length (fronts_of names es)) (sym edges);
        grown =
            subst (λ (es : List Edge). IsGrown (fronts_of names es) new.nodes.items stacks before depth) (sym edges)
            (subst (λ (ns : List CostNode). IsGrown (fronts_of names tree.edges.items) ns stacks before depth)
            (sym nodes) growth.grown);
      };
      at = ap (λ (es : List Edge). slice_get (fronts_of names es) n) edges ∙ stage.at;
    }

-- how many texts the node of a stage has
stage-level : (names : List (List ℕ)) (shape : List Edge) (tree : Branches) (before : List Costed)
    (texts : List (List ℕ)) (cost depth n j : ℕ)
    → IsStage names shape tree before texts cost depth n j → j ≤ length texts
    → slice_index tree.levels.items n ≡ j
stage-level names shape tree before texts cost depth n j stage within =
    let fronts : List (List (List ℕ)) = fronts_of names tree.edges.items in
    ap (λ (ls : List ℕ). slice_index ls n) stage.growth.levels
    ∙ get_or_from_slice_get (map length fronts) n (length (take j texts)) 0
    (get-mapped length fronts n (take j texts) stage.at)
    ∙ length-take-le j texts within

-- a stage for every text of a list, for all names and stacks
abbrev pub AreStages : List Edge → List ℕ → ℕ → ℕ → Branches → Branches → List ℕ → ℕ → Type 0
AreStages shape numbers list depth old new path n =
    (names : List (List ℕ)) (before : List Costed) (cost : ℕ) → AreNames names shape → length before ≡ list → 0 < cost
    → IsGrowth names shape old (with_stack before [] cost) before depth
    → IsStage names shape new before (texts_of names numbers) cost depth n (length numbers - length path)

-- the next node of what is left of a way is made
pub AreStages-made :
    (shape : List Edge) (numbers : List ℕ) (list depth : ℕ) (old tree popped new : Branches) (path : List ℕ)
    (parent place n : ℕ)
    → AreSteps (λ number. number) shape (numbers_of shape) → slice_index tree.numbered.items 0 ≡ 1
    → popped.edges.items ≡ tree.edges.items → popped.nodes.items ≡ tree.nodes.items
    → popped.levels.items ≡ tree.levels.items → popped.numbered.items ≡ tree.numbered.items
    → IsLeft shape tree.numbered.items numbers (path ++ place ∷ []) → slice_index tree.levels.items parent < depth
    → AreStages shape numbers list depth old tree (path ++ place ∷ []) parent
    → IsMade shape parent place list popped new n
    → AreStages shape numbers list depth old new path n
AreStages-made shape numbers list depth old tree popped new path parent place n steps root edges nodes levels numbered
    left low stages made names before cost named last above growth =
    let texts : List (List ℕ) = texts_of names numbers in
    let stage = stages names before cost named last above growth in
    let j : ℕ = length numbers - length (path ++ place ∷ []) in
    let more = length_push path place in
    let short = left.short in
    let next : j + 1 ≡ length numbers - length path = omega arith in
    let count = length-map numbers (text_of names) in
    let level = stage-level names shape tree before texts cost depth parent j stage (omega arith) in
    let here = left.each (length path) place (get-push_new path place) in
    let at = on-path names shape numbers place (length numbers - length path) here.front in
    let at_next : slice_get (fronts_of names shape) place ≡ Some (take (j + 1) texts) =
    at ∙ ap (λ (k : ℕ). Some (take k texts)) (sym next) in
    let free : slice_get popped.numbered.items place ≡ Some 0 =
    ap (λ (ns : List ℕ). slice_get ns place) numbered ∙ here.free in
    let moved =
    IsStage-moved names shape tree popped before texts cost depth parent j edges nodes levels numbered stage in
    let is =
    IsStage-made names shape popped new before texts cost depth parent place list n j named steps last above moved
    (omega arith) (omega arith) at_next free
    (free-above tree.numbered.items place root here.free) made in
    subst (λ (k : ℕ). IsStage names shape new before texts cost depth n k) next is

-- where the deepest front is reached, or nothing is left of the way
pub AreReached-deep :
    (shape : List Edge) (end list depth : ℕ) (old tree : Branches) (n : ℕ)
    → length tree.path.items ≤ length (list_at shape end) → depth ≤ slice_index tree.levels.items n
    → AreStages shape (list_at shape end) list depth old tree tree.path.items n
    → AreReached shape end list depth old tree n
AreReached-deep shape end list depth old tree n short deep stages names before cost named last above growth =
    let numbers : List ℕ = list_at shape end in
    let texts : List (List ℕ) = texts_of names numbers in
    let stage = stages names before cost named last above growth in
    let j : ℕ = length numbers - length tree.path.items in
    let count = length-map numbers (text_of names) in
    let level = stage-level names shape tree before texts cost depth n j stage (omega arith) in
    let most = stage.growth.grown.short n (take j texts) stage.at in
    let long = length-take-le j texts (omega arith) in
    record {
      count = j;
      stage = stage;
      whole = λ none. omega arith;
      cut = λ some. (omega arith, omega arith);
    }

pub AreReached-whole :
    (shape : List Edge) (end list depth : ℕ) (old tree new : Branches) (n : ℕ) → tree.path.items ≡ []
    → new.path.items ≡ []
    → new.edges.items ≡ tree.edges.items → new.nodes.items ≡ tree.nodes.items → new.levels.items ≡ tree.levels.items
    → new.numbered.items ≡ tree.numbered.items
    → AreStages shape (list_at shape end) list depth old tree tree.path.items n
    → AreReached shape end list depth old new n
AreReached-whole shape end list depth old tree new n empty new_empty edges nodes levels numbered stages names before
    cost named last above growth =
    let numbers : List ℕ = list_at shape end in
    let texts : List (List ℕ) = texts_of names numbers in
    let stage = stages names before cost named last above growth in
    let none = ap (λ (ps : List ℕ). length ps) empty in
    let none_new = ap (λ (ps : List ℕ). length ps) new_empty in
    let all : length numbers - length tree.path.items ≡ length texts =
    let count = length-map numbers (text_of names) in omega arith in
    record {
      count = length numbers - length tree.path.items;
      stage =
          IsStage-moved names shape tree new before texts cost depth n (length numbers - length tree.path.items) edges
          nodes levels numbered stage;
      whole = λ nothing. all;
      cut = λ some. absurd (omega arith);
    }
