-- Lemmas on the stacks of a list of nodes with one more node at its end.
use Rattle.std.proofs.Common.{◌≡◌, ℕ, zero, suc, ◌+◌, ◌-◌, ◌<◌, ◌≤◌, List, [], ◌∷◌, ◌++◌, length, refl, sym, ap, ◌∙◌}
use Rattle.std.proofs.Common.{arith, subst, ◌⊎◌, inl, inr, length-append}
use Rattle.std.specs.Prelude.{reverse, map, sum_by, Some}
use Rattle.std.proofs.lemmas.List.{length-reverse, reverse-append, reverse-reverse}
use Rattle.std.proofs.lemmas.List.Sums.{sum_by-cons}
use Rattle.std.proofs.lemmas.Bool.{cases_lt}
use Rattle.std.proofs.lemmas.Bool.Decides.{nat_tests}
use Rattle.std.proofs.lemmas.Grind.{reverse_onto}
use Rattle.std.proofs.lemmas.Option.{same_Some, slice_get_within}
use Rattle.hp_num.proofs.Laws.{slice_get-end, slice_get-front}
use Rattle.stack_table.specs.Node.{Node, node_at}
use Rattle.stack_table.specs.Stack.{outwards, stack_nodes, stack, frame_count}
use Rattle.stack_table.specs.LowerParents.{HasLowerParents}

-- number 0 has no nodes, whatever the list
pub outwards-zero : (newest_first : List Node) → outwards newest_first 0 ≡ []
outwards-zero [] = refl
outwards-zero (node ∷ before) = grind (arith, nat_tests, outwards-zero before)

-- stack 0 has no nodes
pub stack_nodes-zero : (nodes : List Node) → stack_nodes nodes 0 ≡ []
unfolding stack_nodes
stack_nodes-zero nodes = outwards-zero (reverse nodes)

-- a number that isn't that of the newest node has the nodes that it had before
outwards-older : (node : Node) (before : List Node) (n : ℕ) → n ≤ length before
    → outwards (node ∷ before) n ≡ outwards before n
outwards-older node before n held = grind (arith, nat_tests)

-- the newest node is followed by the nodes of its parent
outwards-newest : (node : Node) (before : List Node) (n : ℕ) → n ≡ length before + 1
    → outwards (node ∷ before) n ≡ node ∷ outwards before node.parent
outwards-newest node before n is = grind (arith, nat_tests)

-- the nodes of an older stack stay as the list grows
pub stack_nodes-older : (nodes : List Node) (node : Node) (n : ℕ) → n ≤ length nodes
    → stack_nodes (nodes ++ node ∷ []) n ≡ stack_nodes nodes n
unfolding stack_nodes
stack_nodes-older nodes node n held =
    rw (reverse-append nodes (node ∷ [])) (outwards-older node (reverse nodes) n (rw length-reverse held))

-- the nodes of the new stack
pub stack_nodes-newest : (nodes : List Node) (node : Node) (n : ℕ) → n ≡ length nodes + 1
    → stack_nodes (nodes ++ node ∷ []) n ≡ node ∷ stack_nodes nodes node.parent
unfolding stack_nodes
stack_nodes-newest nodes node n is =
    rw (reverse-append nodes (node ∷ [])) (outwards-newest node (reverse nodes) n (rw length-reverse is))

-- stack 0 is empty
pub stack-zero : (nodes : List Node) → stack nodes 0 ≡ []
unfolding stack
stack-zero nodes = ap (λ (found : List Node). map (λ node. node.ip) found) (stack_nodes-zero nodes)

-- an older stack stays as the list grows
pub stack-older : (nodes : List Node) (node : Node) (n : ℕ) → n ≤ length nodes
    → stack (nodes ++ node ∷ []) n ≡ stack nodes n
unfolding stack
stack-older nodes node n held =
    ap (λ (found : List Node). map (λ node. node.ip) found) (stack_nodes-older nodes node n held)

-- the new stack is the new instruction pointer, followed by the parent's stack
pub stack-newest : (nodes : List Node) (node : Node) (n : ℕ) → n ≡ length nodes + 1
    → stack (nodes ++ node ∷ []) n ≡ node.ip ∷ stack nodes node.parent
unfolding stack
stack-newest nodes node n is =
    ap (λ (found : List Node). map (λ node. node.ip) found) (stack_nodes-newest nodes node n is)

-- stack 0 has no frames
pub frame_count-zero : (nodes : List Node) → frame_count nodes 0 ≡ 0
unfolding frame_count
frame_count-zero nodes = ap (λ (found : List Node). sum_by (λ node. node.frames) found) (stack_nodes-zero nodes)

-- the frames of an older stack stay as the list grows
pub frame_count-older : (nodes : List Node) (node : Node) (n : ℕ) → n ≤ length nodes
    → frame_count (nodes ++ node ∷ []) n ≡ frame_count nodes n
unfolding frame_count
frame_count-older nodes node n held =
    ap (λ (found : List Node). sum_by (λ node. node.frames) found) (stack_nodes-older nodes node n held)

-- the frames of the new stack are the new ones and those of the parent's stack
pub frame_count-newest : (nodes : List Node) (node : Node) (n : ℕ) → n ≡ length nodes + 1
    → frame_count (nodes ++ node ∷ []) n ≡ frame_count nodes node.parent + node.frames
unfolding frame_count
frame_count-newest nodes node n is =
    let nodes_is =
    ap (λ (found : List Node). sum_by (λ node. node.frames) found) (stack_nodes-newest nodes node n is) in
    let first = sum_by-cons (λ (node : Node). node.frames) node (stack_nodes nodes node.parent) in
    omega arith

-- an older node stays as the list grows
pub node_at-older : (nodes : List Node) (node : Node) (n : ℕ) → n ≤ length nodes
    → node_at (nodes ++ node ∷ []) n ≡ node_at nodes n
node_at-older nodes node zero held = refl
node_at-older nodes node (suc k) held = grind (arith, nat_tests, slice_get-front nodes (node ∷ []) k)

-- the new node
pub node_at-newest : (nodes : List Node) (node : Node) (n : ℕ) → n ≡ length nodes + 1
    → node_at (nodes ++ node ∷ []) n ≡ Some node
node_at-newest nodes node n is = grind (arith, nat_tests, slice_get-end nodes node (n - 1))

-- a node has a number from 1 to the count
pub node_at-within : (nodes : List Node) (n : ℕ) (node : Node) → node_at nodes n ≡ Some node
    → (0 < n) × (n ≤ length nodes)
node_at-within nodes n node is = grind (arith, nat_tests, slice_get_within nodes (n - 1) node)

-- the parents' law for a list without its last node
pub HasLowerParents-front : (nodes : List Node) (node : Node) → HasLowerParents (nodes ++ node ∷ [])
    → HasLowerParents nodes
HasLowerParents-front nodes node law = record {
  lower = λ n found is.
      let within = node_at-within nodes n found is in
      law.lower n found (node_at-older nodes node n within.1 ∙ is);
}

-- the parents' law for a list with one more node
pub HasLowerParents-push : (nodes : List Node) (node : Node) → HasLowerParents nodes → node.parent ≤ length nodes
    → HasLowerParents (nodes ++ node ∷ [])
HasLowerParents-push nodes node law held = record { lower = λ n found is. each n found is (cases_lt (length nodes) n) }
  where
    each : (n : ℕ) (found : Node) → node_at (nodes ++ node ∷ []) n ≡ Some found
        → (length nodes < n) ⊎ (n ≤ length nodes) → found.parent < n
    each n found is (inl past) =
        let within = node_at-within (nodes ++ node ∷ []) n found is in
        let count = length-append nodes (node ∷ []) in
        let same : node ≡ found = same_Some node found (sym (node_at-newest nodes node n (omega arith)) ∙ is) in
        subst (λ (x : Node). x.parent < n) same (omega arith)
    each n found is (inr older) = law.lower n found (sym (node_at-older nodes node n older) ∙ is)

-- in a list, each node's stack is the node, followed by the stack of its parent
pub record Unfolds (nodes : List Node) : Type 0 where
  pub each : (n : ℕ) (node : Node) → node_at nodes n ≡ Some node
      → stack_nodes nodes n ≡ node ∷ stack_nodes nodes node.parent

-- the same for one more node at the end
Unfolds-push : (nodes : List Node) (node : Node) → HasLowerParents (nodes ++ node ∷ []) → Unfolds nodes
    → Unfolds (nodes ++ node ∷ [])
Unfolds-push nodes node law older = record { each = λ n found is. step n found is (cases_lt (length nodes) n) }
  where
    step : (n : ℕ) (found : Node) → node_at (nodes ++ node ∷ []) n ≡ Some found
        → (length nodes < n) ⊎ (n ≤ length nodes)
        → stack_nodes (nodes ++ node ∷ []) n ≡ found ∷ stack_nodes (nodes ++ node ∷ []) found.parent
    step n found is (inl past) =
        let within = node_at-within (nodes ++ node ∷ []) n found is in
        let count = length-append nodes (node ∷ []) in
        let last : n ≡ length nodes + 1 = omega arith in
        let same : node ≡ found = same_Some node found (sym (node_at-newest nodes node n last) ∙ is) in
        let lower = law.lower n found is in
        let here = stack_nodes-newest nodes node n last in
        let there = stack_nodes-older nodes node found.parent (omega arith) in
        rw there (subst (λ (x : Node). stack_nodes (nodes ++ node ∷ []) n ≡ x ∷ stack_nodes nodes x.parent) same here)
    step n found is (inr old) =
        let lower = law.lower n found is in
        let here = stack_nodes-older nodes node n old in
        let there = stack_nodes-older nodes node found.parent (omega arith) in
        let before = older.each n found (sym (node_at-older nodes node n old) ∙ is) in
        rw there (here ∙ before)

-- the law for every list whose parents are lower, from its last node on
Unfolds-reversed : (newest_first : List Node) → HasLowerParents (reverse newest_first) → Unfolds (reverse newest_first)
Unfolds-reversed [] law =
    record { each = λ n node is. absurd (let within = node_at-within [] n node is in omega arith) }
Unfolds-reversed (node ∷ before) law =
    let P : List Node → Type 0 = λ nodes. HasLowerParents nodes in
    let Q : List Node → Type 0 = λ nodes. Unfolds nodes in
    let shape : reverse (node ∷ before) ≡ reverse before ++ node ∷ [] = reverse_onto before node [] in
    let law' = subst P shape law in
    subst Q (sym shape)
    (Unfolds-push (reverse before) node law'
    (Unfolds-reversed before (HasLowerParents-front (reverse before) node law')))

-- in a list whose parents are lower, each node's stack is the node, followed by the stack of its parent
pub Unfolds-lower : (nodes : List Node) → HasLowerParents nodes → Unfolds nodes
Unfolds-lower nodes law =
    let P : List Node → Type 0 = λ nodes. HasLowerParents nodes in
    let Q : List Node → Type 0 = λ nodes. Unfolds nodes in
    subst Q (reverse-reverse nodes) (Unfolds-reversed (reverse nodes) (subst P (sym (reverse-reverse nodes)) law))

-- stack n is the instruction pointer of node n, followed by the stack of its parent
pub stack-unfold : (nodes : List Node) → HasLowerParents nodes → (n : ℕ) (node : Node) → node_at nodes n ≡ Some node
    → stack nodes n ≡ node.ip ∷ stack nodes node.parent
unfolding stack
stack-unfold nodes law n node is =
    let unfolds = Unfolds-lower nodes law in
    ap (λ (found : List Node). map (λ node. node.ip) found) (unfolds.each n node is)

-- the frames of stack n are those of its parent's stack and those of node n
pub frame_count-unfold : (nodes : List Node) → HasLowerParents nodes → (n : ℕ) (node : Node)
    → node_at nodes n ≡ Some node → frame_count nodes n ≡ frame_count nodes node.parent + node.frames
unfolding frame_count
frame_count-unfold nodes law n node is =
    let unfolds = Unfolds-lower nodes law in
    let nodes_is = ap (λ (found : List Node). sum_by (λ node. node.frames) found) (unfolds.each n node is) in
    let first = sum_by-cons (λ (node : Node). node.frames) node (stack_nodes nodes node.parent) in
    omega arith
