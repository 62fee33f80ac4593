-- Lemmas on a stack that is interned from its outermost instruction pointer on.
use Rattle.std.proofs.Common.{◌≡◌, ℕ, ◌+◌, ◌≤◌, List, [], ◌∷◌, ◌++◌, length, None, Some, Option, refl, sym, ap, subst}
use Rattle.std.proofs.Common.{◌∙◌, arith, length-append}
use Rattle.std.specs.Option.{option_or}
use Rattle.stack_table.specs.declared.fault.NodeFault.{NodeFault}
use Rattle.stack_table.specs.AreNodes.{AreNodes}
use Rattle.stack_table.specs.Continues.{Continues}
use Rattle.stack_table.specs.Interned.{Interned, node_interned, node_interned_fault, of_number, stack_fault}
use Rattle.stack_table.specs.Interned.{stack_interned}
use Rattle.stack_table.specs.Node.{Node}
use Rattle.stack_table.specs.NodeNumber.{node_number}
use Rattle.stack_table.specs.Stack.{stack}
use Rattle.stack_table.proofs.Continuing.{Continues-refl, Continues-trans}
use Rattle.stack_table.proofs.Stacks.{stack-zero}

-- the outer part of a stack is interned
pub record IsInterned (old : List Node) (outer : List ℕ) (new : List Node) (number : ℕ) : Type 0 where
  pub interned : stack_interned old outer ≡ record { nodes = new; number = number }
  pub no_fault : stack_fault old outer ≡ None
  pub stack_is : stack new number ≡ outer
  pub within : number ≤ length new
  pub continues : Continues old new
  pub few_more : length new ≤ length old + length outer
  pub nodes : AreNodes new

-- all of a stack, where nothing is left of it
pub interned-all : (old : List Node) (ips rest outer : List ℕ) (new : List Node) (number : ℕ) → ips ≡ rest ++ outer
    → length rest ≡ 0 → IsInterned old outer new number → IsInterned old ips new number
interned-all old ips [] outer new number is none found =
    subst (λ (ips : List ℕ). IsInterned old ips new number) (sym is) found
interned-all old ips (ip ∷ rest) outer new number is none found = absurd (omega arith)

-- nothing of it, at first
pub interned-none : (nodes : List Node) → AreNodes nodes → IsInterned nodes [] nodes 0
interned-none nodes law = record {
  interned = refl;
  no_fault = refl;
  stack_is = stack-zero nodes;
  within = omega arith;
  continues = Continues-refl nodes;
  few_more = omega arith;
  nodes = law;
}

-- the node of an instruction pointer that is called from an interned stack
abbrev pub called : ℕ → ℕ → Node
called ip parent = record { ip = ip; parent = parent; frames = 1 }

-- one more node
pub interned-more : (old : List Node) (outer : List ℕ) (new newer : List Node) (ip parent number : ℕ)
    → IsInterned old outer new parent
    → node_interned new (called ip parent) ≡ record { nodes = newer; number = number }
    → node_interned_fault new (called ip parent) ≡ None
    → stack newer number ≡ ip ∷ stack newer parent → number ≤ length newer → Continues new newer
    → length newer ≤ length new + 1 → AreNodes newer
    → IsInterned old (ip ∷ outer) newer number
interned-more old outer new newer ip parent number before interned no_fault stack_is within continues one_more
    law = record {
      interned = ap (λ (found : Interned). node_interned found.nodes (called ip found.number)) before.interned
          ∙ interned;
      no_fault =
          ap (λ (fault : Option NodeFault). option_or fault
          (node_interned_fault (stack_interned old outer).nodes (called ip (stack_interned old outer).number)))
          before.no_fault
          ∙ ap (λ (found : Interned). node_interned_fault found.nodes (called ip found.number)) before.interned
          ∙ no_fault;
      stack_is = stack_is ∙ ap (λ (ips : List ℕ). ip ∷ ips) (continues.stacks parent before.within ∙ before.stack_is);
      within = within;
      continues = Continues-trans old new newer before.continues continues;
      few_more = omega (arith, before.few_more);
      nodes = law;
    }

-- the fault of an outer part is that of the whole
fault-outer : (old : List Node) (inner outer : List ℕ) (fault : NodeFault) → stack_fault old outer ≡ Some fault
    → stack_fault old (inner ++ outer) ≡ Some fault
fault-outer old [] outer fault is = is
fault-outer old (ip ∷ inner) outer fault is =
    let before = stack_interned old (inner ++ outer) in
    ap (λ (found : Option NodeFault). option_or found (node_interned_fault before.nodes (called ip before.number)))
    (fault-outer old inner outer fault is)

-- the fault of one more node is that of the whole
pub fault-more : (old : List Node) (inner outer : List ℕ) (new : List Node) (ip parent : ℕ) (fault : NodeFault)
    → IsInterned old outer new parent
    → node_interned_fault new (called ip parent) ≡ Some fault → stack_fault old (inner ++ ip ∷ outer) ≡ Some fault
fault-more old inner outer new ip parent fault before is =
    fault-outer old inner (ip ∷ outer) fault (
    ap (λ (found : Option NodeFault). option_or found
    (node_interned_fault (stack_interned old outer).nodes (called ip (stack_interned old outer).number)))
    before.no_fault
    ∙ ap (λ (found : Interned). node_interned_fault found.nodes (called ip found.number)) before.interned ∙ is
    )

-- interning loses no node
no_loss : (nodes : List Node) (node : Node) (found : Option ℕ)
    → length nodes ≤ length (of_number nodes node found).nodes
no_loss nodes node None = let count = length-append nodes (node ∷ []) in omega arith
no_loss nodes node (Some n) = omega arith

interned-grows : (old : List Node) (inner outer : List ℕ)
    → length (stack_interned old outer).nodes ≤ length (stack_interned old (inner ++ outer)).nodes
interned-grows old [] outer = omega arith
interned-grows old (ip ∷ inner) outer =
    let before = stack_interned old (inner ++ outer) in
    let less = interned-grows old inner outer in
    let more = no_loss before.nodes (called ip before.number) (node_number before.nodes ip before.number) in
    omega (arith, less, more)

-- a stack with a node that isn't held needs a new one
pub not_held : (old : List Node) (inner outer : List ℕ) (new : List Node) (ip parent : ℕ)
    → IsInterned old outer new parent
    → node_number new ip parent ≡ None → (stack_interned old (inner ++ ip ∷ outer)).nodes ≡ old → ⊥
not_held old inner outer new ip parent before none same =
    let more : (stack_interned old (ip ∷ outer)).nodes ≡ new ++ called ip parent ∷ [] =
    ap (λ (found : Interned). (node_interned found.nodes (called ip found.number)).nodes) before.interned
    ∙ ap (λ (found : Option ℕ). (of_number new (called ip parent) found).nodes) none in
    let lengths = ap (λ (nodes : List Node). length nodes) more in
    let count = length-append new (called ip parent ∷ []) in
    let grows = interned-grows old inner (ip ∷ outer) in
    let all = ap (λ (nodes : List Node). length nodes) same in
    omega (arith, before.continues.held, lengths, count, grows, all)
