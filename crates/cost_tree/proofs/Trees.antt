-- A tree that has grown, but for its costs: its fronts, their order, and its texts.
use Rattle.std.proofs.Common.{◌≡◌, ℕ, zero, suc, ◌+◌, ◌-◌, ◌<◌, ◌≤◌, inl, inr, true, false, ◌&&◌, Bool, cond, eqb, List}
use Rattle.std.proofs.Common.{[], ◌∷◌, ◌++◌, length, take, get_or, Option, None, Some, Bor, sym, ap, ◌∙◌, subst, arith}
use Rattle.std.specs.Prelude.{IfSome, IsSome, slice_get, nat_lt, unwrap_or}
use Rattle.std.proofs.lemmas.Bool.{cases_eq, cases_lt, and_parts, false≢true}
use Rattle.std.proofs.lemmas.Bool.Decides.{nat_tests}
use Rattle.std.proofs.lemmas.List.{length_push}
use Rattle.std.proofs.lemmas.List.Sums.{passes_at_first}
use Rattle.std.proofs.lemmas.Option.{same_Some, slice_get_past, slice_get_within, slice_get-get_or}
use Rattle.std.proofs.lemmas.Option.{get_or_from_slice_get}
use Rattle.intern_tables.specs.Numbers.{name_at}
use Rattle.cost_tree.specs.declared.edge.Edge.{Edge}
use Rattle.cost_tree.specs.declared.node.CostNode.{CostNode}
use Rattle.cost_tree.specs.Costed.{Costed}
use Rattle.cost_tree.specs.Growth.{AreBranches, HasGrown}
use Rattle.cost_tree.specs.Inclusive.{has_front, inclusive, least}
use Rattle.cost_tree.specs.IsTreeOf.{IsBelow}
use Rattle.cost_tree.specs.Shapes.{next_front}
use Rattle.cost_tree.specs.Texts.{IsText, text_of, fronts_of}
use Rattle.cost_tree.proofs.Forests.{IsForest}
use Rattle.cost_tree.proofs.Prefixes.{has_front-Decides}
use Rattle.cost_tree.proofs.Sums.{least-within}

-- the least stack of a front begins with it
pub least-has : (front : List (List ℕ)) (stacks : List Costed) (d : Costed) → 0 < inclusive front stacks
    → has_front front (get_or stacks (least front stacks) d).texts ≡ true
unfolding least
least-has front stacks d some =
    let within = least-within front stacks some in
    (and_parts (nat_lt 0 (get_or stacks (least front stacks) d).cost)
    (has_front front (get_or stacks (least front stacks) d).texts)
    (passes_at_first (λ (s : Costed). nat_lt 0 s.cost && has_front front s.texts) stacks d within)).1

-- two fronts of one length with one least stack are equal
same_least : (front other : List (List ℕ)) (stacks : List Costed) → 0 < inclusive front stacks
    → 0 < inclusive other stacks → length front ≡ length other → least front stacks ≡ least other stacks → front ≡ other
same_least front other stacks some some_other lengths leasts =
    let d : Costed = record { texts = []; cost = 0 } in
    let here =
    (has_front-Decides front (get_or stacks (least front stacks) d).texts).0 (least-has front stacks d some) in
    let there =
    (has_front-Decides other (get_or stacks (least other stacks) d).texts).0 (least-has other stacks d some_other) in
    here
    ∙ ap (λ (n : ℕ). take n (get_or stacks (least front stacks) d).texts) lengths
    ∙ ap (λ (k : ℕ). take (length other) (get_or stacks k d).texts) leasts
    ∙ sym there

-- each node but node 0 has an edge, which says its parent and its front
pub record HasEdge (names : List (List ℕ)) (edges : List Edge) (fronts : List (List (List ℕ))) (n : ℕ)
    (node : CostNode) : Type 0 where
  pub edge : Edge
  pub at : slice_get edges (n - 1) ≡ Some edge
  pub lower : node.parent < n
  pub parent_front : List (List ℕ)
  pub parent : slice_get fronts node.parent ≡ Some parent_front
  pub front : slice_get fronts n ≡ Some (parent_front ++ text_of names edge.text ∷ [])

pub HasEdge-is : (names : List (List ℕ)) (edges : List Edge) (nodes : List CostNode) (fronts : List (List (List ℕ)))
    (n : ℕ) (node : CostNode)
    → AreBranches names edges nodes fronts → 0 < n → slice_get nodes n ≡ Some node → HasEdge names edges fronts n node
HasEdge-is names edges nodes fronts zero node are above at = absurd (omega arith)
HasEdge-is names edges nodes fronts (suc place) node are above at =
    let inside = slice_get_within nodes (suc place) node at in
    let count = are.steps.count in
    let no_edge : Edge = record { parent = 0; text = 0 } in
    let edge : Edge = get_or edges place no_edge in
    let edge_at = slice_get-get_or edges place no_edge (omega (arith, are.nodes_count)) in
    let step = are.steps.step place edge edge_at in
    let next : place + 1 ≡ suc place = omega arith in
    let back : place ≡ suc place - 1 = omega arith in
    let N : ℕ → Type 0 = λ k. slice_get nodes k ≡ Some node in
    let F : ℕ → Type 0 = λ k. slice_get fronts k ≡ Some (next_front (text_of names) fronts edge) in
    let E : ℕ → Type 0 = λ k. slice_get edges k ≡ Some edge in
    let parent = are.parent place edge node edge_at (subst N (sym next) at) in
    let P : ℕ → Type 0 = λ k. slice_get fronts k ≡ Some (get_or fronts edge.parent []) in
    record {
      edge = edge;
      at = subst E back edge_at;
      lower = omega (arith, step.earlier);
      parent_front = get_or fronts edge.parent [];
      parent = subst P (sym parent) (slice_get-get_or fronts edge.parent [] (omega (arith, step.earlier)));
      front = subst F next step.front;
    }

-- a node stands below its parent
pub below-is : (names : List (List ℕ)) (edges : List Edge) (nodes : List CostNode) (n : ℕ) (front : List (List ℕ))
    (node : CostNode)
    → AreBranches names edges nodes (fronts_of names edges)
    → 0 < n → slice_get (fronts_of names edges) n ≡ Some front → slice_get nodes n ≡ Some node
    → IsBelow (record { names = names; fronts = fronts_of names edges; nodes = nodes }) n front node
below-is names edges nodes n front node are above front_at node_at =
    let fronts : List (List (List ℕ)) = fronts_of names edges in
    let edge = HasEdge-is names edges nodes fronts n node are above node_at in
    record {
      lower = edge.lower;
      text = text_of names edge.edge.text;
      parent_front = edge.parent_front;
      parent = edge.parent;
      longer =
          sym (get_or_from_slice_get fronts n front [] front_at)
          ∙ get_or_from_slice_get fronts n (edge.parent_front ++ text_of names edge.edge.text ∷ []) [] edge.front;
    }

pub IsForest-grown : (names : List (List ℕ)) (edges : List Edge) (nodes : List CostNode) (stacks : List Costed)
    (depth : ℕ)
    → HasGrown names edges nodes stacks depth
    → IsForest (record { names = names; fronts = fronts_of names edges; nodes = nodes }) stacks depth
IsForest-grown names edges nodes stacks depth has =
    let are = has.branches in
    let grown = has.grown in
    record {
      root = are.steps.root;
      count = are.nodes_count ∙ sym are.steps.count;
      distinct = are.steps.distinct;
      complete = grown.complete;
      only = grown.only;
      short = grown.short;
      firsts = grown.firsts;
      below = λ n front node above front_at node_at. below-is names edges nodes n front node are above front_at node_at;
      siblings =
          λ m n older younger above later older_at younger_at same. siblings_of m n older younger above later older_at
          younger_at same;
    }
  where
    siblings_of : (m n : ℕ) (older younger : CostNode) → 0 < m → m < n → slice_get nodes m ≡ Some older
        → slice_get nodes n ≡ Some younger → older.parent ≡ younger.parent → older.first < younger.first
    siblings_of m n older younger above later older_at younger_at same =
        let fronts : List (List (List ℕ)) = fronts_of names edges in
        let are = has.branches in
        let edge_m = HasEdge-is names edges nodes fronts m older are above older_at in
        let edge_n = HasEdge-is names edges nodes fronts n younger are (omega arith) younger_at in
        let front_m : List (List ℕ) = edge_m.parent_front ++ text_of names edge_m.edge.text ∷ [] in
        let front_n : List (List ℕ) = edge_n.parent_front ++ text_of names edge_n.edge.text ∷ [] in
        let parents : edge_m.parent_front ≡ edge_n.parent_front =
        sym (get_or_from_slice_get fronts older.parent edge_m.parent_front [] edge_m.parent)
        ∙ ap (λ (k : ℕ). get_or fronts k []) same
        ∙ get_or_from_slice_get fronts younger.parent edge_n.parent_front [] edge_n.parent in
        let parent_lengths = ap (λ (xs : List (List ℕ)). length xs) parents in
        let length_m = length_push edge_m.parent_front (text_of names edge_m.edge.text) in
        let length_n = length_push edge_n.parent_front (text_of names edge_n.edge.text) in
        let some_m = has.grown.only m front_m above edge_m.front in
        let some_n = has.grown.only n front_n (omega arith) edge_n.front in
        let first_m = has.grown.firsts m front_m older edge_m.front older_at some_m in
        let first_n = has.grown.firsts n front_n younger edge_n.front younger_at some_n in
        let order = has.grown.order m n older younger above (omega arith) older_at younger_at in
        elim (cases_eq older.first younger.first) [
          | inl equal ↦
              let fronts_same =
              same_least front_m front_n stacks some_m some_n (omega arith) (sym first_m ∙ equal ∙ first_n) in
              let places =
              are.steps.distinct m n front_n (edge_m.front ∙ ap (λ (xs : List (List ℕ)). Some xs) fronts_same)
              edge_n.front in
              absurd (omega arith)
          | inr apart ↦ omega arith
        ]

-- the text that a look-up of a number gives
pub text-found : (names : List (List ℕ)) (number : ℕ) (found : Option (Bor (List ℕ))) (other : Bor (List ℕ))
    → IsSome found → IfSome found (λ name. name_at names number ≡ Some name.now)
    → (unwrap_or found other).now ≡ text_of names number
unfolding text_of
text-found names number (Some name) other some is = sym (ap (λ (held : Option (List ℕ)). unwrap_or held []) is)
text-found names number None other some is = absurd (false≢true some)

-- the same, and none where no name has the number
pub text-read : (names : List (List ℕ)) (number : ℕ) (found : Option (Bor (List ℕ))) (other : Bor (List ℕ))
    → (((1 ≤ number) × (number ≤ length names)) → IsSome found)
    → IfSome found (λ name. name_at names number ≡ Some name.now) → other.now ≡ []
    → (unwrap_or found other).now ≡ text_of names number
unfolding text_of
text-read names number (Some name) other held is none = sym (ap (λ (read : Option (List ℕ)). unwrap_or read []) is)
text-read names zero None other held is none = none
text-read names (suc n) None other held is none =
    let above : eqb (suc n) 0 ≡ false = grind (arith, nat_tests) in
    let back : suc n - 1 ≡ n = omega arith in
    none
    ∙ sym (ap (λ (read : Option (List ℕ)). unwrap_or read [])
    (ap (λ (b : Bool). cond {A = Option (List ℕ)} b None (slice_get names (suc n - 1))) above
    ∙ ap (λ (k : ℕ). slice_get names k) back
    ∙ slice_get_past names n past))
  where
    past : length names ≤ n
    past =
        elim (cases_lt n (length names))
        [ inl less ↦ absurd (false≢true (held (omega arith, omega arith))) | inr no_less ↦ no_less ]

-- the last text of a front is that of its node's edge
pub last-text : (names : List (List ℕ)) (edges : List Edge) (nodes : List CostNode) (n place : ℕ) (edge : Edge)
    (text : List ℕ)
    → AreBranches names edges nodes (fronts_of names edges) → 0 < n → n < length nodes → place ≡ n - 1
    → Some edge ≡ slice_get edges place → text ≡ text_of names edge.text
    → (front : List (List ℕ)) × (slice_get (fronts_of names edges) n ≡ Some (front ++ text ∷ []))
last-text names edges nodes n place edge text are above within back found is =
    let no_node : CostNode = record { parent = 0; cost = 0; own = 0; first = 0 } in
    let has =
    HasEdge-is names edges nodes (fronts_of names edges) n (get_or nodes n no_node) are above
    (slice_get-get_or nodes n no_node within) in
    let same : edge ≡ has.edge = same_Some edge has.edge (found ∙ ap (λ (k : ℕ). slice_get edges k) back ∙ has.at) in (
      has.parent_front,
      has.front
          ∙ ap (λ (xs : List ℕ). Some (has.parent_front ++ xs ∷ []))
          (sym (is ∙ ap (λ (e : Edge). text_of names e.text) same)),
    )

-- the number of an edge's text is one of a name
pub edge-text : (names : List (List ℕ)) (edges : List Edge) (nodes : List CostNode) (fronts : List (List (List ℕ)))
    (place : ℕ) (edge : Edge)
    → AreBranches names edges nodes fronts → Some edge ≡ slice_get edges place → IsText names edge.text
edge-text names edges nodes fronts place edge are found = are.texts place edge (sym found)

-- and the front is the parent's and that text
pub text-below : (names : List (List ℕ)) (edges : List Edge) (nodes : List CostNode) (n place : ℕ) (edge : Edge)
    (text : List ℕ) (node : CostNode) (front : List (List ℕ))
    → AreBranches names edges nodes (fronts_of names edges) → 0 < n → slice_get nodes n ≡ Some node
    → slice_get (fronts_of names edges) node.parent ≡ Some front → place ≡ n - 1 → Some edge ≡ slice_get edges place
    → text ≡ text_of names edge.text
    → slice_get (fronts_of names edges) n ≡ Some (front ++ text ∷ [])
text-below names edges nodes n place edge text node front are above at parent_at back found is =
    let has = HasEdge-is names edges nodes (fronts_of names edges) n node are above at in
    let same : edge ≡ has.edge = same_Some edge has.edge (found ∙ ap (λ (k : ℕ). slice_get edges k) back ∙ has.at) in
    let fronts : has.parent_front ≡ front = same_Some has.parent_front front (sym has.parent ∙ parent_at) in
    has.front
    ∙ ap (λ (xs : List (List ℕ)). Some (xs ++ text_of names has.edge.text ∷ [])) fronts
    ∙ ap (λ (xs : List ℕ). Some (front ++ xs ∷ [])) (sym (is ∙ ap (λ (e : Edge). text_of names e.text) same))
