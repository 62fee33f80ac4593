-- Stacks that are interned stay so while nodes grow, and a text that is known stays known.
use Rattle.std.proofs.Common.{◌≡◌, ℕ, ◌+◌, ◌≤◌, Bool, true, false, cond, List, [], ◌∷◌, ◌++◌, length, None, Some}
use Rattle.std.proofs.Common.{Option, refl, sym, ap, ◌∙◌, arith, subst, append-nil, length-append, eqb}
use Rattle.std.specs.Prelude.{map, nat_lt, not, position, reverse, Ok}
use Rattle.std.specs.List.{position_or_len}
use Rattle.std.specs.Option.{option_map}
use Rattle.std.proofs.lemmas.Bool.Decides.{nat_tests}
use Rattle.std.proofs.lemmas.List.Elements.{All-weaker}
use Rattle.std.proofs.lemmas.List.Folds.{position_or_len_push}
use Rattle.std.proofs.lemmas.List.Sums.{prefix_len-le-length}
use Rattle.stack_table.specs.Continues.{Continues}
use Rattle.stack_table.specs.Interned.{Interned, node_interned, of_number, stack_interned}
use Rattle.stack_table.specs.Node.{Node}
use Rattle.stack_table.specs.NodeNumber.{is_call, node_number}
use Rattle.stack_table.specs.Stack.{outwards, stack, stack_nodes}
use Rattle.stack_table.proofs.Laws.{Continues-push, Continues-refl, Continues-trans}
use Rattle.ht_lines.specs.Fields.{number, numbers}
use Rattle.ht_lines.specs.Written.{AreWords}
use Rattle.record_scripts.specs.declared.known_stacks.KnownStack.{KnownStack}
use Rattle.record_scripts.specs.KnownText.{AreKnownSlots, IsKnownText}
use Rattle.record_scripts.specs.ScriptLine.{are_ips}
use Rattle.record_scripts.specs.ScriptTurns.{AreSingle, InternsStack}
use Rattle.record_scripts.proofs.NumberLemmas.{no-fields}

-- the node that is pushed is found where none was
number-push : (nodes : List Node) (node : Node) → node_number nodes node.ip node.parent ≡ None
    → node_number (nodes ++ node ∷ []) node.ip node.parent ≡ Some (length nodes + 1)
unfolding node_number
number-push nodes node none =
    by (nat_lt (position_or_len test nodes) (length nodes)) refl none
  where
    test : Node → Bool
    test = is_call node.ip node.parent

    own : test node ≡ true
    own = grind (arith, nat_tests)

    later : nat_lt (position_or_len test nodes) (length nodes) ≡ false
        → position_or_len test (nodes ++ node ∷ []) ≡ length nodes
    later past =
        let most = prefix_len-le-length (λ x. not (test x)) nodes in
        let last : position_or_len test nodes ≡ length nodes = grind (arith, nat_tests, past, most) in
        let here : eqb (position_or_len test nodes) (length nodes) ≡ true = grind (arith, nat_tests, last) in
        position_or_len_push test nodes node
        ∙ ap (λ b. cond b (length nodes + cond (test node) 0 1) (position_or_len test nodes)) here
        ∙ ap (λ b. length nodes + cond b 0 1) own ∙ omega arith

    by : (b : Bool) → nat_lt (position_or_len test nodes) (length nodes) ≡ b
        → option_map (λ place. place + 1) (cond b (Some (position_or_len test nodes)) None) ≡ None
        → option_map (λ place. place + 1) (position test (nodes ++ node ∷ [])) ≡ Some (length nodes + 1)
    by true within is = absurd (grind (arith, is))
    by false past is =
        let count = length-append nodes (node ∷ []) in
        let within : nat_lt (position_or_len test (nodes ++ node ∷ [])) (length (nodes ++ node ∷ [])) ≡ true =
        grind (arith, nat_tests, later past, count) in
        ap (λ b. option_map (λ place. place + 1) (cond b (Some (position_or_len test (nodes ++ node ∷ []))) None))
        within
        ∙ ap (λ n. Some (n + 1)) (later past)

-- the nodes that stacks leave are the old ones and more
node-continues : (nodes : List Node) (node : Node) (number : Option ℕ)
    → Continues nodes (of_number nodes node number).nodes
node-continues nodes node None = Continues-push nodes node
node-continues nodes node (Some number) = Continues-refl nodes

stack-continues : (nodes : List Node) (ips : List ℕ)
    → Continues nodes (stack_interned nodes ips).nodes
stack-continues nodes [] = Continues-refl nodes
stack-continues nodes (ip ∷ outer) =
    let before = stack_interned nodes outer in
    Continues-trans nodes before.nodes (stack_interned nodes (ip ∷ outer)).nodes
    (stack-continues nodes outer)
    (node-continues before.nodes (record { ip = ip; parent = before.number; frames = 1 })
    (node_number before.nodes ip before.number))

-- nodes that grow by none are the same
none-more : (more : List Node) → length more ≡ 0 → more ≡ []
none-more [] is = refl
none-more (node ∷ more) is = absurd (omega arith)

not-longer : (old new : List Node) → Continues old new → length new ≤ length old → new ≡ old
not-longer old new grown few =
    let more = grown.grown.0 in
    let count : length new ≡ length old + length more =
    ap (λ (nodes : List Node). length nodes) grown.grown.1 ∙ length-append old more in
    grown.grown.1 ∙ ap (λ (nodes : List Node). old ++ nodes) (none-more more (omega arith))
    ∙ append-nil old

-- a node that is found has its number in later nodes too
found-grown : (old new : List Node) (node : Node) (number : ℕ) → Continues old new
    → (found : Option ℕ) → node_number old node.ip node.parent ≡ found
    → of_number old node found ≡ record { nodes = old; number = number }
    → node_number new node.ip node.parent ≡ Some number
found-grown old new node number grown (Some n) at is =
    grown.numbers node.ip node.parent n at ∙ ap (λ (after : Interned). Some after.number) is
found-grown old new node number grown None at is =
    let count = ap (λ (after : Interned). length after.nodes) is in
    absurd (omega (arith, count, length-append old (node ∷ [])))

-- a stack that is there is there in later nodes too
pub interned-grown : (old new : List Node) → Continues old new → (ips : List ℕ) (number : ℕ)
    → stack_interned old ips ≡ record { nodes = old; number = number }
    → stack_interned new ips ≡ record { nodes = new; number = number }
interned-grown old new grown [] number is =
    ap (λ (after : Interned). record { nodes = new; number = after.number }) is
interned-grown old new grown (ip ∷ outer) number is =
    let before = stack_interned old outer in
    let node : Node = record { ip = ip; parent = before.number; frames = 1 } in
    let all = node-continues before.nodes node (node_number before.nodes ip before.number) in
    let count = ap (λ (after : Interned). length after.nodes) is in
    let same : before.nodes ≡ old =
    not-longer old before.nodes (stack-continues old outer) (omega (arith, all.held, count)) in
    let outer_is : stack_interned old outer ≡ record { nodes = old; number = before.number } =
    ap (λ (nodes : List Node). record { nodes = nodes; number = before.number }) same in
    let later = interned-grown old new grown outer before.number outer_is in
    let found = found-grown old new node number grown (node_number old ip before.number) refl
    (subst (λ (nodes : List Node). node_interned nodes node ≡ record { nodes = old; number = number })
    same is) in
    ap (λ (after : Interned). node_interned after.nodes (record { ip = ip; parent = after.number; frames = 1 })) later
    ∙ ap (λ (found : Option ℕ). of_number new node found) found

-- the number of a node that was interned
number-then : (old new : List Node) (node : Node) (number : ℕ) → (found : Option ℕ)
    → node_number old node.ip node.parent ≡ found
    → of_number old node found ≡ record { nodes = new; number = number }
    → node_number new node.ip node.parent ≡ Some number
number-then old new node number (Some n) at is =
    ap (λ (after : Interned). node_number after.nodes node.ip node.parent) (sym is) ∙ at
    ∙ ap (λ (after : Interned). Some after.number) is
number-then old new node number None at is =
    ap (λ (after : Interned). node_number after.nodes node.ip node.parent) (sym is)
    ∙ number-push old node at ∙ ap (λ (after : Interned). Some after.number) is

-- a stack that was interned is there
pub interned-again : (old : List Node) (ips : List ℕ) (new : List Node) (number : ℕ)
    → stack_interned old ips ≡ record { nodes = new; number = number }
    → stack_interned new ips ≡ record { nodes = new; number = number }
interned-again old [] new number is =
    ap (λ (after : Interned). record { nodes = new; number = after.number }) is
interned-again old (ip ∷ outer) new number is =
    let before = stack_interned old outer in
    let node : Node = record { ip = ip; parent = before.number; frames = 1 } in
    let there = interned-again old outer before.nodes before.number refl in
    let grown : Continues before.nodes new =
    subst (λ (after : Interned). Continues before.nodes after.nodes) is
    (node-continues before.nodes node (node_number before.nodes ip before.number)) in
    let later = interned-grown before.nodes new grown outer before.number there in
    let found = number-then before.nodes new node number
    (node_number before.nodes ip before.number) refl is in
    ap (λ (after : Interned). node_interned after.nodes (record { ip = ip; parent = after.number; frames = 1 })) later
    ∙ ap (λ (found : Option ℕ). of_number new node found) found

-- a text that is known, and slots of such texts, while nodes grow
known-grown : (old new : List Node) → Continues old new → (text : List ℕ) (node : ℕ)
    → IsKnownText old text node → IsKnownText new text node
known-grown old new grown text node known = record {
  good = known.good;
  words = known.words;
  stack_is = grown.stacks node known.within ∙ known.stack_is;
  within = omega (arith, known.within, grown.held);
  interned = interned-grown old new grown (numbers text) node known.interned;
}

pub slots-grown : (old new : List Node) → Continues old new → (slots : List KnownStack)
    → AreKnownSlots old slots → AreKnownSlots new slots
slots-grown old new grown slots known =
    All-weaker (λ (slot : KnownStack). IsKnownText old slot.text.items slot.node)
    (λ (slot : KnownStack). IsKnownText new slot.text.items slot.node)
    (λ slot here. known-grown old new grown slot.text.items slot.node here) slots known

no-nodes : (back : List Node) → outwards back 0 ≡ []
no-nodes [] = refl
no-nodes (node ∷ before) = grind (arith, nat_tests, no-nodes before)

no-stack : (nodes : List Node) → stack nodes 0 ≡ []
unfolding stack stack_nodes
no-stack nodes = ap (λ (all : List Node). map (λ (node : Node). node.ip) all) (no-nodes (reverse nodes))

-- the text of no ips
pub known-none : (nodes : List Node) → IsKnownText nodes [] 0
known-none nodes =
    let none : numbers [] ≡ [] = ap (map number) (no-fields [] refl) in
    record {
      good = ap are_ips none;
      words = subst AreWords (sym none) tt;
      stack_is = no-stack nodes ∙ sym none;
      within = omega arith;
      interned = ap (λ (ips : List ℕ). stack_interned nodes ips) none;
    }

-- a stack that was interned, with its text
pub known-new : {E : Type 0} (old new : List Node) (text ips : List ℕ) (node : ℕ)
    → InternsStack {E = E} old new ips (Ok node) → ips ≡ numbers text → are_ips (numbers text) ≡ true
    → AreWords ips → IsKnownText new text node
known-new old new text ips node found is good words = record {
  good = good;
  words = subst AreWords is words;
  stack_is = found.stack_is ∙ is;
  within = found.within;
  interned = subst (λ (ips : List ℕ). stack_interned new ips ≡ record { nodes = new; number = node }) is
      (interned-again old ips new node found.interned);
}

-- good ips are few
pub few-ips : (ips : List ℕ) → are_ips ips ≡ true → length ips ≤ 256
few-ips ips good = grind (arith, nat_tests, good)

-- to intern a stack that is known
pub interns-known : {E : Type 0} (nodes : List Node) (text : List ℕ) (node : ℕ)
    → AreSingle (reverse nodes) → IsKnownText nodes text node
    → InternsStack {E = E} nodes nodes (numbers text) (Ok node)
interns-known nodes text node single known = record {
  interned = known.interned;
  stack_is = known.stack_is;
  within = known.within;
  few_more = omega arith;
  single = single;
  continues = Continues-refl nodes;
  unchanged = tt;
}
