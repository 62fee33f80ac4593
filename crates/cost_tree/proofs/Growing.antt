-- Lemmas on a tree that grows, as one list is added: it is counted at node 0, reaches a node that
-- is there, makes nodes, and ends.
use Rattle.std.proofs.Common.{◌≡◌, ◌≢◌, ℕ, zero, suc, ◌+◌, ◌<◌, ◌≤◌, ◌⊎◌, inl, inr, ◌==◌, Bool, true, false}
use Rattle.std.proofs.Common.{if◌then◌else◌, List, [], ◌∷◌, ◌++◌, length, get_or, set, take, Some, refl, sym, ap, ◌∙◌}
use Rattle.std.proofs.Common.{subst, arith}
use Rattle.std.specs.Prelude.{slice_get}
use Rattle.std.proofs.lemmas.Bool.{cases_Bool, cases_lt, cond-true, cond-false, eq-eqb, false_from_ne_true, ne_eqb}
use Rattle.std.proofs.lemmas.List.{length-take, take_all}
use Rattle.std.proofs.lemmas.List.Sums.{sum_by-le-sum_by, sum_by_push}
use Rattle.std.proofs.lemmas.Option.{same_Some, slice_get_within, slice_get-get_or}
use Rattle.cost_tree.specs.declared.edge.Edge.{Edge}
use Rattle.cost_tree.specs.declared.node.CostNode.{CostNode}
use Rattle.cost_tree.specs.Building.{with_stack}
use Rattle.cost_tree.specs.Costed.{Costed}
use Rattle.cost_tree.specs.Growth.{AreBranches, IsGrown, counted, ended, ending}
use Rattle.cost_tree.specs.Inclusive.{has_front, inclusive, is_front, least, own}
use Rattle.cost_tree.proofs.Lists.{get-push_cases, get-push_old, get-push_new, get-set_cases}
use Rattle.cost_tree.proofs.Prefixes.{has_front-Decides, has_front-take, is_front-Decides}
use Rattle.cost_tree.proofs.Prefixes.{is_front-has, same_or_not}
use Rattle.cost_tree.proofs.Sums.{AddsAt, SameTo, SameTo-end, SameTo-free, inclusive-push, inclusive-shorter}
use Rattle.cost_tree.proofs.Sums.{least-push_old, least-within, own-free, own-le-inclusive, own-push_other}
use Rattle.cost_tree.proofs.Sums.{own-push_same, part, part-empty, part-free, part-has, part-other}

-- what one stack adds to what ends at a front
end_part : ℕ → List (List ℕ) → Costed → ℕ
end_part depth front stack = if is_front front (take depth stack.texts) then stack.cost else 0

ending-push : (depth : ℕ) (front : List (List ℕ)) (stacks : List Costed) (stack : Costed)
    → ending depth front (stacks ++ stack ∷ []) ≡ ending depth front stacks + end_part depth front stack
unfolding ending end_part
ending-push depth front stacks stack =
    sum_by_push (λ (s : Costed). if is_front front (take depth s.texts) then s.cost else 0) stacks stack

end_part-le : (depth : ℕ) (front : List (List ℕ)) (stack : Costed) → length front ≤ depth
    → end_part depth front stack ≤ part front stack
unfolding end_part
end_part-le depth front stack short =
    elim (cases_Bool (is_front front (take depth stack.texts))) [
      | inl is ↦
          let whole : end_part depth front stack ≡ stack.cost =
          cond-true (is_front front (take depth stack.texts)) stack.cost 0 is in
          let same =
          part-has front stack
          (sym (has_front-take front stack.texts depth short) ∙ is_front-has front (take depth stack.texts) is) in
          omega arith
      | inr other ↦ let none : end_part depth front stack ≡ 0 =
          cond-false (is_front front (take depth stack.texts)) stack.cost 0 other in omega arith
    ]

pub ending-le-inclusive : (depth : ℕ) (front : List (List ℕ)) (stacks : List Costed) → length front ≤ depth
    → ending depth front stacks ≤ inclusive front stacks
unfolding ending inclusive end_part part
ending-le-inclusive depth front stacks short =
    sum_by-le-sum_by (λ (s : Costed). if is_front front (take depth s.texts) then s.cost else 0)
    (λ (s : Costed). if has_front front s.texts then s.cost else 0) stacks (λ s. end_part-le depth front s short)

end_part-other : (depth : ℕ) (front : List (List ℕ)) (stack : Costed) → front ≢ take depth stack.texts
    → end_part depth front stack ≡ 0
unfolding end_part
end_part-other depth front stack other =
    cond-false (is_front front (take depth stack.texts)) stack.cost 0
    (false_from_ne_true (is_front front (take depth stack.texts))
    (λ is. other ((is_front-Decides front (take depth stack.texts)).0 is)))

end_part-same : (depth : ℕ) (stack : Costed) → end_part depth (take depth stack.texts) stack ≡ stack.cost
unfolding end_part
end_part-same depth stack =
    cond-true (is_front (take depth stack.texts) (take depth stack.texts)) stack.cost 0
    ((is_front-Decides (take depth stack.texts) (take depth stack.texts)).1 refl)

-- node 0 is that of the empty front, and no other is
front-root : (names : List (List ℕ)) (edges : List Edge) (nodes : List CostNode) (fronts : List (List (List ℕ))) (n : ℕ)
    (front : List (List ℕ))
    → AreBranches names edges nodes fronts → slice_get fronts n ≡ Some front → n ≡ 0 → front ≡ []
front-root names edges nodes fronts n front are at is =
    same_Some front [] (sym at ∙ ap (λ (k : ℕ). slice_get fronts k) is ∙ are.steps.root)

front-other : (names : List (List ℕ)) (edges : List Edge) (nodes : List CostNode) (fronts : List (List (List ℕ)))
    (n : ℕ) (front : List (List ℕ))
    → AreBranches names edges nodes fronts → slice_get fronts n ≡ Some front → 0 < n → front ≢ []
front-other names edges nodes fronts n front are at above same =
    let is = are.steps.distinct n 0 [] (at ∙ ap (λ (xs : List (List ℕ)). Some xs) same) are.steps.root in
    absurd (omega arith)

-- which list node 0 has as its first
counted-first : (node : CostNode) (list cost : ℕ)
    → (node.cost ≡ 0 → (counted node list cost).first ≡ list)
    × (0 < node.cost → (counted node list cost).first ≡ node.first)
counted-first node list cost = (
  (λ none. cond-true (node.cost == 0) list node.first (eq-eqb node.cost 0 none)),
  (λ some. cond-false (node.cost == 0) list node.first (ne_eqb node.cost 0 (λ none. absurd (omega arith)))),
)

-- a list is counted at node 0
pub IsGrown-counted :
    (names : List (List ℕ)) (edges : List Edge) (nodes : List CostNode) (fronts : List (List (List ℕ)))
    (old new done : List Costed) (depth : ℕ) (node : CostNode) (cost list : ℕ)
    → AreBranches names edges nodes fronts → IsGrown fronts nodes old done depth → AddsAt [] cost list old new
    → 0 < cost → slice_get nodes 0 ≡ Some node
    → IsGrown fronts (set nodes 0 (counted node list cost)) new done depth
IsGrown-counted names edges nodes fronts old new done depth node cost list are grown adds above at = record {
  short = grown.short;
  owns = λ k front child found child_at. elim (get-set_cases nodes 0 (counted node list cost) k child child_at) [
    | inl here ↦ ap (λ (x : CostNode). x.own) here.1
        ∙ grown.owns k front node found (ap (λ (i : ℕ). slice_get nodes i) here.0 ∙ at)
    | inr other ↦ grown.owns k front child found other.1
  ];
  ends = λ k front child over found child_at. elim (get-set_cases nodes 0 (counted node list cost) k child child_at) [
    | inl here ↦ absurd (omega (arith, here.0))
    | inr other ↦ grown.ends k front child over found other.1
  ];
  firsts = λ k front child found child_at some. elim (get-set_cases nodes 0 (counted node list cost) k child child_at) [
    | inl here ↦
        let empty = front-root names edges nodes fronts k front are found here.0 in
        ap (λ (x : CostNode). x.first) here.1 ∙ first_root ∙ ap (λ (xs : List (List ℕ)). least xs new) (sym empty)
    | inr other ↦
        let apart = front-other names edges nodes fronts k front are found (let not_root = other.0 in omega arith) in
        let same = adds.others front apart in
        let before : 0 < inclusive front old = omega arith in
        grown.firsts k front child found other.1 before ∙ sym (adds.kept front before)
  ];
  root = λ child child_at. elim (get-set_cases nodes 0 (counted node list cost) 0 child child_at) [
    | inl here ↦ let is =
        grown.root node at in let costs = ap (λ (x : CostNode). x.cost) here.1 in omega (arith, adds.sum)
    | inr other ↦ absurd (other.0 refl)
  ];
  empty = λ child child_at none. elim (get-set_cases nodes 0 (counted node list cost) 0 child child_at) [
    | inl here ↦ let costs = ap (λ (x : CostNode). x.cost) here.1 in absurd (omega arith)
    | inr other ↦ absurd (other.0 refl)
  ];
  complete = λ front short some. elim (same_or_not front []) [
    | inl is ↦ (0, are.steps.root ∙ ap (λ (xs : List (List ℕ)). Some xs) (sym is))
    | inr other ↦ let same = adds.others front other in grown.complete front short (omega arith)
  ];
  only = λ k front over found.
      let same = adds.others front (front-other names edges nodes fronts k front are found over) in
      let before = grown.only k front over found in
      omega arith;
  order = λ k m older younger over le older_at younger_at.
      grown.order k m older younger over le (behind k older over older_at) (behind m younger (omega arith) younger_at);
}
  where
    first_root : (counted node list cost).first ≡ least [] new
    first_root =
        let is = grown.root node at in
        elim (cases_lt 0 node.cost) [
          | inl some ↦
              let before : 0 < inclusive [] old = omega arith in
              (counted-first node list cost).1 some ∙ grown.firsts 0 [] node are.steps.root at before
              ∙ sym (adds.kept [] before)
          | inr none ↦ (counted-first node list cost).0 (omega arith) ∙ sym (adds.first (omega arith))
        ]

    behind : (k : ℕ) (child : CostNode) → 0 < k → slice_get (set nodes 0 (counted node list cost)) k ≡ Some child
        → slice_get nodes k ≡ Some child
    behind k child over child_at =
        elim (get-set_cases nodes 0 (counted node list cost) k child child_at) [
          | inl here ↦ absurd (omega (arith, here.0))
          | inr other ↦ other.1
        ]

-- a list that is counted at node 0 reaches a node that is there
pub IsGrown-reached :
    (names : List (List ℕ)) (edges : List Edge) (nodes : List CostNode) (fronts : List (List (List ℕ)))
    (before done : List Costed) (depth n : ℕ) (at : List (List ℕ)) (cost : ℕ)
    → AreBranches names edges nodes fronts → IsGrown fronts nodes (with_stack before [] cost) done depth → 0 < cost
    → slice_get fronts n ≡ Some at
    → IsGrown fronts nodes (with_stack before at cost) done depth
IsGrown-reached names edges nodes fronts before done depth zero at cost are grown above found =
    let P : List (List ℕ) → Type 0 = λ xs. IsGrown fronts nodes (with_stack before xs cost) done depth in
    subst P (sym (front-root names edges nodes fronts 0 at are found refl)) grown
IsGrown-reached names edges nodes fronts before done depth (suc n) at cost are grown above found = record {
  short = grown.short;
  owns = grown.owns;
  ends = grown.ends;
  firsts = λ k front child front_at child_at some.
      let was = from_new front some in
      grown.firsts k front child front_at child_at (to_old front was)
      ∙ least-push_old front before (record { texts = []; cost = cost }) was
      ∙ sym (least-push_old front before (record { texts = at; cost = cost }) was);
  root = λ child child_at.
      let is = grown.root child child_at in
      let old = inclusive-push [] before (record { texts = []; cost = cost }) in
      let new = inclusive-push [] before (record { texts = at; cost = cost }) in
      let old_whole = part-has [] (record { texts = []; cost = cost }) ((has_front-Decides [] []).1 refl) in
      let new_whole = part-has [] (record { texts = at; cost = cost }) ((has_front-Decides [] at).1 refl) in
      omega arith;
  empty = grown.empty;
  complete = λ front short some. grown.complete front short (to_old front (from_new front some));
  only = λ k front over front_at.
      let was = grown.only k front over front_at in
      let old = inclusive-push front before (record { texts = []; cost = cost }) in
      let new = inclusive-push front before (record { texts = at; cost = cost }) in
      let none = part-empty front cost (front-other names edges nodes fronts k front are front_at over) in
      omega arith;
  order = grown.order;
}
  where
    here : 0 < inclusive at before
    here =
        let was = grown.only (suc n) at (omega arith) found in
        let old = inclusive-push at before (record { texts = []; cost = cost }) in
        let none = part-empty at cost (front-other names edges nodes fronts (suc n) at are found (omega arith)) in
        omega arith

    to_old : (front : List (List ℕ)) → 0 < inclusive front before → 0 < inclusive front (with_stack before [] cost)
    to_old front was = let old = inclusive-push front before (record { texts = []; cost = cost }) in omega arith

    from_new : (front : List (List ℕ)) → 0 < inclusive front (with_stack before at cost) → 0 < inclusive front before
    from_new front some =
        let new = inclusive-push front before (record { texts = at; cost = cost }) in
        elim (cases_Bool (has_front front at)) [
          | inl has ↦ inclusive-shorter front at before has here
          | inr other ↦ let none = part-other front (record { texts = at; cost = cost }) other in omega arith
        ]

-- a node is made for one text more
pub IsGrown-made :
    (names : List (List ℕ)) (edges : List Edge) (nodes : List CostNode) (fronts : List (List (List ℕ)))
    (old new done : List Costed) (depth : ℕ) (at : List (List ℕ)) (node : CostNode) (cost : ℕ)
    → AreBranches names edges nodes fronts → IsGrown fronts nodes old done depth → AddsAt at cost node.first old new
    → 0 < cost
    → ((n : ℕ) → slice_get fronts n ≢ Some at) → length at ≤ depth
    → ((front : List (List ℕ)) → inclusive front done ≤ inclusive front old) → length old ≤ node.first + 1
    → node.cost ≡ 0 → node.own ≡ 0
    → IsGrown (fronts ++ at ∷ []) (nodes ++ node ∷ []) new done depth
IsGrown-made names edges nodes fronts old new done depth at node cost are grown adds above fresh within most last
    no_cost no_own =
    let fronts_count = are.steps.count in
    let nodes_count = are.nodes_count in
    record {
      short = λ n front found. elim (get-push_cases fronts at n front found) [
        | inl here ↦ grown.short n front here
        | inr next ↦ let same = ap (λ (xs : List (List ℕ)). length xs) next.1 in omega arith
      ];
      owns = λ n front child found child_at. elim (places n front child found child_at) [
        | inl both ↦ grown.owns n front child both.0 both.1
        | inr next ↦
            let owns = own-le-inclusive at done in
            let costs = most at in
            let is = ap (λ (x : CostNode). x.own) next.2 in
            let same = ap (λ (xs : List (List ℕ)). own xs done) next.1 in
            omega (arith, none)
      ];
      ends = λ n front child over found child_at. elim (places n front child found child_at) [
        | inl both ↦ grown.ends n front child over both.0 both.1
        | inr next ↦
            let ends = ending-le-inclusive depth at done within in
            let costs = most at in
            let is = ap (λ (x : CostNode). x.cost) next.2 in
            let same = ap (λ (xs : List (List ℕ)). ending depth xs done) next.1 in
            omega (arith, none)
      ];
      firsts = λ n front child found child_at some. elim (places n front child found child_at) [
        | inl both ↦
            let same = adds.others front (apart n front both.0) in
            let was : 0 < inclusive front old = omega arith in
            grown.firsts n front child both.0 both.1 was ∙ sym (adds.kept front was)
        | inr next ↦ ap (λ (x : CostNode). x.first) next.2 ∙ sym (adds.first none)
            ∙ ap (λ (xs : List (List ℕ)). least xs new) (sym next.1)
      ];
      root = λ child child_at. elim (get-push_cases nodes node 0 child child_at) [
        | inl here ↦ let is =
            grown.root child here in let same = adds.others [] (apart 0 [] are.steps.root) in omega arith
        | inr next ↦ absurd (omega (arith, next.0))
      ];
      empty = λ child child_at. elim (get-push_cases nodes node 0 child child_at) [
        | inl here ↦ grown.empty child here
        | inr next ↦ absurd (omega (arith, next.0))
      ];
      complete = λ front short some. elim (same_or_not front at) [
        | inl is ↦ (length fronts, get-push_new fronts at ∙ ap (λ (xs : List (List ℕ)). Some xs) (sym is))
        | inr other ↦
            let same = adds.others front other in
            let held = grown.complete front short (omega arith) in
            (held.0, get-push_old fronts at held.0 front held.1)
      ];
      only = λ n front over found. elim (get-push_cases fronts at n front found) [
        | inl here ↦ let same =
            adds.others front (apart n front here) in let was = grown.only n front over here in omega arith
        | inr next ↦ let is = ap (λ (xs : List (List ℕ)). inclusive xs new) next.1 in omega (arith, adds.sum)
      ];
      order = λ m n older younger over le older_at younger_at. elim (get-push_cases nodes node m older older_at) [
        | inl old_m ↦ elim (get-push_cases nodes node n younger younger_at) [
          | inl old_n ↦ grown.order m n older younger over le old_m old_n
          | inr new_n ↦ let first =
              ap (λ (x : CostNode). x.first) new_n.1 in let early = earlier m older over old_m in omega arith
        ]
        | inr new_m ↦ elim (get-push_cases nodes node n younger younger_at) [
          | inl old_n ↦ let inside = slice_get_within nodes n younger old_n in absurd (omega (arith, new_m.0))
          | inr new_n ↦ let first = ap (λ (x : CostNode). x.first) (new_m.1 ∙ sym new_n.1) in omega arith
        ]
      ];
    }
  where
    none : inclusive at old ≡ 0
    none =
        elim (cases_lt 0 (inclusive at old)) [
          | inl some ↦ let held = grown.complete at within some in absurd (fresh held.0 held.1)
          | inr nothing ↦ omega arith
        ]

    apart : (n : ℕ) (front : List (List ℕ)) → slice_get fronts n ≡ Some front → front ≢ at
    apart n front found same = fresh n (found ∙ ap (λ (xs : List (List ℕ)). Some xs) same)

    places : (n : ℕ) (front : List (List ℕ)) (child : CostNode) → slice_get (fronts ++ at ∷ []) n ≡ Some front
        → slice_get (nodes ++ node ∷ []) n ≡ Some child
        → ((slice_get fronts n ≡ Some front) × (slice_get nodes n ≡ Some child))
        ⊎ ((n ≡ length fronts) × (front ≡ at) × (child ≡ node))
    places n front child found child_at =
        let fronts_count = are.steps.count in
        let nodes_count = are.nodes_count in
        elim (get-push_cases fronts at n front found) [
          | inl here ↦ elim (get-push_cases nodes node n child child_at) [
            | inl child_here ↦ inl (here, child_here)
            | inr next ↦ let inside = slice_get_within fronts n front here in absurd (omega (arith, next.0))
          ]
          | inr next ↦ elim (get-push_cases nodes node n child child_at) [
            | inl child_here ↦ let inside = slice_get_within nodes n child child_here in absurd (omega (arith, next.0))
            | inr next_child ↦ inr (next.0, next.1, next_child.1)
          ]
        ]

    earlier : (m : ℕ) (older : CostNode) → 0 < m → slice_get nodes m ≡ Some older → older.first ≤ node.first
    earlier m older over older_at =
        let inside = slice_get_within nodes m older older_at in
        let front : List (List ℕ) = get_or fronts m [] in
        let held = slice_get-get_or fronts m [] (omega (arith, are.steps.count, are.nodes_count)) in
        let some = grown.only m front over held in
        let first = grown.firsts m front older held older_at some in
        let least_most = least-within front old some in
        omega arith

-- the list ends, and is done
pub IsGrown-ended :
    (names : List (List ℕ)) (edges : List Edge) (nodes : List CostNode) (fronts : List (List (List ℕ)))
    (before : List Costed) (depth n : ℕ) (texts : List (List ℕ)) (is_whole : Bool) (node : CostNode) (cost : ℕ)
    → AreBranches names edges nodes fronts
    → IsGrown fronts nodes (with_stack before (take depth texts) cost) before depth
    → slice_get fronts n ≡ Some (take depth texts) → slice_get nodes n ≡ Some node
    → (is_whole ≡ true → take depth texts ≡ texts) → (is_whole ≡ false → depth < length texts)
    → IsGrown fronts (set nodes n (ended n is_whole cost node)) (with_stack before texts cost)
    (with_stack before texts cost) depth
IsGrown-ended names edges nodes fronts before depth n texts is_whole node cost are grown front_at node_at whole
    cut = record {
      short = grown.short;
      owns = λ k front child found child_at. elim (get-set_cases nodes n now k child child_at) [
        | inl here ↦
            let same : front ≡ take depth texts =
            same_Some front (take depth texts) (sym found ∙ ap (λ (i : ℕ). slice_get fronts i) here.0 ∙ front_at) in
            ap (λ (x : CostNode). x.own) here.1 ∙ own_now ∙ ap (λ (xs : List (List ℕ)). own xs all) (sym same)
        | inr other ↦
            grown.owns k front child found other.1
            ∙ sym (own-push_other front before texts cost
            (λ same. apart k front found other.0 (cut_same front same (grown.short k front found))))
      ];
      ends = λ k front child over found child_at. elim (get-set_cases nodes n now k child child_at) [
        | inl here ↦
            let same : front ≡ take depth texts =
            same_Some front (take depth texts) (sym found ∙ ap (λ (i : ℕ). slice_get fronts i) here.0 ∙ front_at) in
            ap (λ (x : CostNode). x.cost) here.1 ∙ cost_now (omega (arith, here.0))
            ∙ ap (λ (xs : List (List ℕ)). ending depth xs all) (sym same)
        | inr other ↦
            let is = grown.ends k front child over found other.1 in
            let push = ending-push depth front before stack in
            let none = end_part-other depth front stack (apart k front found other.0) in
            omega arith
      ];
      firsts = λ k front child found child_at some.
          let was = same_first k child child_at in
          let short = grown.short k front found in
          let sum = same.sum front short in
          let held : 0 < inclusive front (with_stack before (take depth texts) cost) = omega arith in
          was.2 ∙ grown.firsts k front was.0 found was.1 held ∙ sym (same.kept front short held);
      root = λ child child_at. elim (get-set_cases nodes n now 0 child child_at) [
        | inl here ↦
            let is = grown.root node (ap (λ (i : ℕ). slice_get nodes i) here.0 ∙ node_at) in
            let costs =
            ap (λ (x : CostNode). x.cost) here.1
            ∙ cond-true (n == 0) node.cost (node.cost + cost) (eq-eqb n 0 (sym here.0)) in
            let sum = same.sum [] (omega arith) in
            omega arith
        | inr other ↦ let is = grown.root child other.1 in let sum = same.sum [] (omega arith) in omega arith
      ];
      empty = λ child child_at none. elim (get-set_cases nodes n now 0 child child_at) [
        | inl here ↦
            let costs =
            ap (λ (x : CostNode). x.cost) here.1
            ∙ cond-true (n == 0) node.cost (node.cost + cost) (eq-eqb n 0 (sym here.0)) in
            ap (λ (x : CostNode). x.first) here.1
            ∙ grown.empty node (ap (λ (i : ℕ). slice_get nodes i) here.0 ∙ node_at) (sym costs ∙ none)
        | inr other ↦ grown.empty child other.1 none
      ];
      complete = λ front short some. let sum = same.sum front short in grown.complete front short (omega arith);
      only =
          λ k front over found. let sum = same.sum front
          (grown.short k front found) in let was = grown.only k front over
          found in omega arith;
      order = λ k m older younger over le older_at younger_at.
          let first_k = same_first k older older_at in
          let first_m = same_first m younger younger_at in
          let was = grown.order k m first_k.0 first_m.0 over le first_k.1 first_m.1 in
          omega (arith, first_k.2, first_m.2);
    }
  where
    now : CostNode
    now = ended n is_whole cost node

    stack : Costed
    stack = record { texts = texts; cost = cost }

    all : List Costed
    all = with_stack before texts cost

    same : SameTo depth (with_stack before (take depth texts) cost) (with_stack before texts cost)
    same = SameTo-end before texts cost depth

    apart : (k : ℕ) (front : List (List ℕ)) → slice_get fronts k ≡ Some front → k ≢ n → front ≢ take depth texts
    apart k front found elsewhere is =
        elsewhere (are.steps.distinct k n (take depth texts) (found ∙ ap (λ (xs : List (List ℕ)). Some xs) is) front_at)

    cut_same : (front : List (List ℕ)) → front ≡ texts → length front ≤ depth → front ≡ take depth texts
    cut_same front is short =
        let count = ap (λ (xs : List (List ℕ)). length xs) is in is ∙ sym (take_all depth texts (omega arith))

    own_now : (ended n is_whole cost node).own ≡ own (take depth texts) (with_stack before texts cost)
    own_now =
        let is = grown.owns n (take depth texts) node front_at node_at in
        elim (cases_Bool is_whole) [
          | inl yes' ↦
              let push = own-push_same before texts cost in
              let own_is = ap (λ (xs : List (List ℕ)). own xs before) (whole yes') in
              let more = cond-true is_whole (node.own + cost) node.own yes' in
              let goal : (ended n is_whole cost node).own ≡ own texts (with_stack before texts cost) = omega arith in
              goal ∙ ap (λ (xs : List (List ℕ)). own xs (with_stack before texts cost)) (sym (whole yes'))
          | inr no' ↦
              let longer = cut no' in
              let count = length-take depth texts in
              let push =
              own-push_other (take depth texts) before texts cost
              (λ e. let counts = ap (λ (xs : List (List ℕ)). length xs) e in absurd (omega arith)) in
              let kept = cond-false is_whole (node.own + cost) node.own no' in
              omega arith
        ]

    cost_now : 0 < n
        → (ended n is_whole cost node).cost ≡ ending depth (take depth texts) (with_stack before texts cost)
    cost_now over =
        let is = grown.ends n (take depth texts) node over front_at node_at in
        let push = ending-push depth (take depth texts) before stack in
        let here = end_part-same depth stack in
        let more = cond-false (n == 0) node.cost (node.cost + cost) (ne_eqb n 0 (λ e. absurd (omega arith))) in
        omega arith

    same_first : (k : ℕ) (child : CostNode) → slice_get (set nodes n (ended n is_whole cost node)) k ≡ Some child
        → (was : CostNode) × (slice_get nodes k ≡ Some was) × (child.first ≡ was.first)
    same_first k child child_at =
        elim (get-set_cases nodes n (ended n is_whole cost node) k child child_at) [
          | inl here ↦ (node, ap (λ (i : ℕ). slice_get nodes i) here.0 ∙ node_at, ap (λ (x : CostNode). x.first) here.1)
          | inr other ↦ (child, other.1, refl)
        ]

-- a list that costs nothing
pub IsGrown-free : (fronts : List (List (List ℕ))) (nodes : List CostNode) (before : List Costed) (depth : ℕ)
    (texts : List (List ℕ))
    → IsGrown fronts nodes before before depth
    → IsGrown fronts nodes (with_stack before texts 0) (with_stack before texts 0) depth
IsGrown-free fronts nodes before depth texts grown =
    let same = SameTo-free before texts depth in
    record {
      short = grown.short;
      owns = λ n front node found node_at. grown.owns n front node found node_at ∙ sym (own-free front before texts);
      ends = λ n front node over found node_at.
          let is = grown.ends n front node over found node_at in
          let push = ending-push depth front before (record { texts = texts; cost = 0 }) in
          let most = end_part-le depth front (record { texts = texts; cost = 0 }) (grown.short n front found) in
          let none = part-free front texts in
          omega arith;
      firsts = λ n front node found node_at some.
          let short = grown.short n front found in
          let sum = same.sum front short in
          let was : 0 < inclusive front before = omega arith in
          grown.firsts n front node found node_at was ∙ sym (same.kept front short was);
      root = λ node node_at. let sum = same.sum [] (omega arith) in let is = grown.root node node_at in omega arith;
      empty = grown.empty;
      complete = λ front short some. let sum = same.sum front short in grown.complete front short (omega arith);
      only =
          λ n front over found. let sum = same.sum front
          (grown.short n front found) in let was = grown.only n front over
          found in omega arith;
      order = grown.order;
    }
