-- Different nodes of the stacks of scripts have different stacks.
use Rattle.std.proofs.Common.{◌≡◌, ℕ, zero, suc, ◌+◌, ◌-◌, ◌<◌, ◌≤◌, true, false, List, [], ◌∷◌, ◌++◌, length, get_or}
use Rattle.std.proofs.Common.{None, Some, Option, refl, sym, ap, ◌∙◌, arith, ◌⊎◌, inl, inr, length-append, true≢false}
use Rattle.std.specs.Prelude.{slice_get}
use Rattle.std.specs.List.{position_or_len}
use Rattle.std.proofs.lemmas.Bool.{cases_lt}
use Rattle.std.proofs.lemmas.Bool.Decides.{nat_tests}
use Rattle.std.proofs.lemmas.List.Sums.{fails_before_first}
use Rattle.std.proofs.lemmas.Option.{same_Some, slice_get-get_or, slice_get_within}
use Rattle.hp_num.proofs.Laws.{slice_get-end, slice_get-front}
use Rattle.stack_table.specs.AreNodes.{AreNodes}
use Rattle.stack_table.specs.Interned.{of_number, stack_interned}
use Rattle.stack_table.specs.Node.{Node, node_at}
use Rattle.stack_table.specs.NodeNumber.{is_call, node_number}
use Rattle.stack_table.specs.Stack.{stack}
use Rattle.record_scripts.specs.ScriptNodes.{nodes_after, nodes_behind, nodes_in, nodes_with}
use Rattle.record_scripts.specs.Turns.{Turn, allocates, frees, reallocates}

-- no two nodes have one instruction pointer and one parent
pub record AreApart (nodes : List Node) : Type 0 where
  pub apart : (k l : ℕ) (one other : Node) → slice_get nodes k ≡ Some one → slice_get nodes l ≡ Some other
      → one.ip ≡ other.ip → one.parent ≡ other.parent → k ≡ l

-- where there is no number, no node passes
none-called : (nodes : List Node) (ip parent k : ℕ) (node : Node) → node_number nodes ip parent ≡ None
    → slice_get nodes k ≡ Some node → is_call ip parent node ≡ false
unfolding node_number
none-called nodes ip parent k node none at = by (cases_lt (position_or_len (is_call ip parent) nodes) (length nodes))
  where
    within : k < length nodes
    within = slice_get_within nodes k node at

    here : get_or nodes k node ≡ node
    here = same_Some (get_or nodes k node) node (sym (slice_get-get_or nodes k node within) ∙ at)

    by : (position_or_len (is_call ip parent) nodes < length nodes)
        ⊎ (length nodes ≤ position_or_len (is_call ip parent) nodes)
        → is_call ip parent node ≡ false
    by (inl found) = absurd (grind (arith, nat_tests, none, found))
    by (inr past) =
        ap (λ (x : Node). is_call ip parent x) (sym here)
        ∙ fails_before_first (is_call ip parent) nodes k node (omega (arith, within, past))

call-is : (ip parent : ℕ) (node : Node) → node.ip ≡ ip → node.parent ≡ parent → is_call ip parent node ≡ true
call-is ip parent node ip_is parent_is = grind (arith, nat_tests, ip_is, parent_is)

-- what stands behind nodes is the new one
newest : (nodes : List Node) (node : Node) (k : ℕ) (found : Node) → slice_get (nodes ++ node ∷ []) k ≡ Some found
    → length nodes ≤ k → (k ≡ length nodes) × (node ≡ found)
newest nodes node k found at past =
    let within = slice_get_within (nodes ++ node ∷ []) k found at in
    let place : k ≡ length nodes = omega (arith, within, past, length-append nodes (node ∷ [])) in
    (place, same_Some node found (sym (slice_get-end nodes node k place) ∙ at))

-- a node more that has no number
apart-push : (nodes : List Node) (node : Node) → AreApart nodes → node_number nodes node.ip node.parent ≡ None
    → AreApart (nodes ++ node ∷ [])
apart-push nodes node before none =
    record {
      apart = λ k l one other at there ip parent. by k l one other at there ip parent (cases_lt k (length nodes))
          (cases_lt l (length nodes));
    }
  where
    older : (k : ℕ) (found : Node) → k < length nodes → slice_get (nodes ++ node ∷ []) k ≡ Some found
        → slice_get nodes k ≡ Some found
    older k found within at = sym (slice_get-front nodes (node ∷ []) k within) ∙ at

    never : (k l : ℕ) (one other : Node) → k < length nodes → slice_get (nodes ++ node ∷ []) k ≡ Some one
        → length nodes ≤ l → slice_get (nodes ++ node ∷ []) l ≡ Some other
        → one.ip ≡ other.ip → one.parent ≡ other.parent → k ≡ l
    never k l one other within at past there ip parent =
        let new = newest nodes node l other there past in
        let ip_is : one.ip ≡ node.ip = ip ∙ ap (λ (x : Node). x.ip) (sym new.1) in
        let parent_is : one.parent ≡ node.parent = parent ∙ ap (λ (x : Node). x.parent) (sym new.1) in
        absurd
        (true≢false
        (sym (call-is node.ip node.parent one ip_is parent_is)
        ∙ none-called nodes node.ip node.parent k one none (older k one within at)))

    by : (k l : ℕ) (one other : Node) → slice_get (nodes ++ node ∷ []) k ≡ Some one
        → slice_get (nodes ++ node ∷ []) l ≡ Some other → one.ip ≡ other.ip → one.parent ≡ other.parent
        → (k < length nodes) ⊎ (length nodes ≤ k) → (l < length nodes) ⊎ (length nodes ≤ l) → k ≡ l
    by k l one other at there ip parent (inl a) (inl b) =
        before.apart k l one other (older k one a at) (older l other b there) ip parent
    by k l one other at there ip parent (inl a) (inr b) = never k l one other a at b there ip parent
    by k l one other at there ip parent (inr a) (inl b) = sym (never l k other one b there a at (sym ip) (sym parent))
    by k l one other at there ip parent (inr a) (inr b) =
        (newest nodes node k one at a).0 ∙ sym (newest nodes node l other there b).0

-- so are the nodes after a stack, a turn, a script and scripts
apart-interned : (nodes : List Node) (ips : List ℕ) → AreApart nodes → AreApart (stack_interned nodes ips).nodes
apart-interned nodes [] before = before
apart-interned nodes (ip ∷ outer) before = by (node_number mid ip parent) refl (apart-interned nodes outer before)
  where
    mid : List Node
    mid = (stack_interned nodes outer).nodes

    parent : ℕ
    parent = (stack_interned nodes outer).number

    by : (found : Option ℕ) → node_number mid ip parent ≡ found → AreApart mid
        → AreApart (of_number mid (record { ip = ip; parent = parent; frames = 1 }) found).nodes
    by (Some number) is apart = apart
    by None is apart = apart-push mid (record { ip = ip; parent = parent; frames = 1 }) apart is

apart-turn : (nodes : List Node) (turn : Turn) → AreApart nodes → AreApart (nodes_with nodes turn)
apart-turn nodes (allocates id size ips) before = apart-interned nodes ips before
apart-turn nodes (frees id) before = before
apart-turn nodes (reallocates id size ips) before = apart-interned nodes ips before

apart-after : (nodes : List Node) (turns : List Turn) → AreApart nodes → AreApart (nodes_after nodes turns)
apart-after nodes [] before = before
apart-after nodes (turn ∷ turns) before = apart-after (nodes_with nodes turn) turns (apart-turn nodes turn before)

apart-behind : (nodes : List Node) (scripts : List (List Turn)) → AreApart nodes → AreApart (nodes_behind nodes scripts)
apart-behind nodes [] before = before
apart-behind nodes (script ∷ scripts) before =
    apart-behind (nodes_after nodes script) scripts (apart-after nodes script before)

pub nodes-apart : (scripts : List (List Turn)) → AreApart (nodes_in scripts)
unfolding nodes_in
nodes-apart scripts = apart-behind [] scripts (record { apart = λ k l one other at. absurd (grind (arith, at)) })

-- the node of a number, with the stack behind it
pub record IsCall (nodes : List Node) (n : ℕ) : Type 0 where
  pub node : Node
  pub at : slice_get nodes (n - 1) ≡ Some node
  pub lower : node.parent < n
  pub stack_is : stack nodes n ≡ node.ip ∷ stack nodes node.parent

call-at : (nodes : List Node) (n : ℕ) → AreNodes nodes → 0 < n → n ≤ length nodes → IsCall nodes n
call-at nodes n are some held =
    let none : Node = record { ip = 0; parent = 0; frames = 0 } in
    let node = get_or nodes (n - 1) none in
    let at : slice_get nodes (n - 1) ≡ Some node = slice_get-get_or nodes (n - 1) none (omega (arith, some, held)) in
    let here : node_at nodes n ≡ Some node = grind (arith, nat_tests, at, some) in
    record { node = node; at = at; lower = are.parents.lower n node here; stack_is = are.stack_n n node here }

no-stack : (nodes : List Node) (n : ℕ) → AreNodes nodes → n ≤ 0 → stack nodes n ≡ []
no-stack nodes n are none = let zero_is : n ≡ 0 = omega (arith, none) in ap (stack nodes) zero_is ∙ are.stack_0

-- two numbers with one stack are the same, where lower ones are
same-step : (nodes : List Node) → AreApart nodes → AreNodes nodes → (n m : ℕ) → n ≤ length nodes → m ≤ length nodes
    → ((a b : ℕ) → a < n → a ≤ length nodes → b ≤ length nodes → stack nodes a ≡ stack nodes b → a ≡ b)
    → stack nodes n ≡ stack nodes m → n ≡ m
same-step nodes apart are n m held also lower same = by (cases_lt 0 n) (cases_lt 0 m)
  where
    by : (0 < n) ⊎ (n ≤ 0) → (0 < m) ⊎ (m ≤ 0) → n ≡ m
    by (inl some) (inl more) =
        let one = call-at nodes n are some held in
        let other = call-at nodes m are more also in
        let whole : one.node.ip ∷ stack nodes one.node.parent ≡ other.node.ip ∷ stack nodes other.node.parent =
        sym one.stack_is ∙ same ∙ other.stack_is in
        let ip : one.node.ip ≡ other.node.ip = cc in
        let behind : stack nodes one.node.parent ≡ stack nodes other.node.parent = cc in
        let parent =
        lower one.node.parent other.node.parent one.lower (omega (arith, held, one.lower))
        (omega (arith, also, other.lower)) behind in
        let place = apart.apart (n - 1) (m - 1) one.node other.node one.at other.at ip parent in
        omega (arith, place, some, more)
    by (inl some) (inr none) =
        let one = call-at nodes n are some held in
        let never : one.node.ip ∷ stack nodes one.node.parent ≡ [] =
        sym one.stack_is ∙ same ∙ no-stack nodes m are none in
        absurd (cc)
    by (inr none) (inl more) =
        let other = call-at nodes m are more also in
        let never : other.node.ip ∷ stack nodes other.node.parent ≡ [] =
        sym other.stack_is ∙ sym same ∙ no-stack nodes n are none in
        absurd (cc)
    by (inr none) (inr zero_too) = omega (arith, none, zero_too)

numbers-same : (nodes : List Node) → AreApart nodes → AreNodes nodes → (fuel n m : ℕ) → n ≤ fuel → n ≤ length nodes
    → m ≤ length nodes → stack nodes n ≡ stack nodes m → n ≡ m
numbers-same nodes apart are zero n m few held also same =
    same-step nodes apart are n m held also (λ a b less. absurd (omega (arith, few, less))) same
numbers-same nodes apart are (suc fuel) n m few held also same =
    same-step nodes apart are n m held also
    (λ a b less a_held b_held. numbers-same nodes apart are fuel a b (omega (arith, few, less)) a_held b_held) same

pub number-by-stack : (nodes : List Node) → AreApart nodes → AreNodes nodes → (n m : ℕ) → n ≤ length nodes
    → m ≤ length nodes → stack nodes n ≡ stack nodes m → n ≡ m
number-by-stack nodes apart are n m held also same = numbers-same nodes apart are n n m (omega arith) held also same
