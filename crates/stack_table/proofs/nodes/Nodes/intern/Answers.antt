use Rattle.std.proofs.Common.{◌≡◌, ℕ, ◌+◌, ◌<◌, ◌≤◌, None, Some, List, [], ◌∷◌, ◌++◌, length, refl, sym, arith, subst}
use Rattle.std.specs.Prelude.{Result, Ok, Err}
use Rattle.std.specs.Result.{IfOk, OnOk}
use Rattle.stack_table.specs.declared.fault.NodeFault.{NodeFault}
use Rattle.stack_table.specs.declared.node_entry.NodeEntry.{NodeEntry}
use Rattle.stack_table.specs.AreNodes.{AreNodes}
use Rattle.stack_table.specs.Entries.{nodes_of}
use Rattle.stack_table.specs.Node.{Node}
use Rattle.stack_table.specs.NodeNumber.{node_number}
use Rattle.stack_table.specs.Stack.{stack}
use Rattle.stack_table.proofs.EntryLemmas.{AreNodes-table}
use Rattle.stack_table.proofs.NodeNumbers.{call-is, number-is, number-push, number-unknown}
use Rattle.stack_table.proofs.nodes.Nodes.intern.Goals as goal

pub returns-then-parent-from-clause-held : goal.returns-then-parent-from-clause-held
returns-then-parent-from-clause-held c =
    let unknown = number-unknown c.args.self.now c.args.ip c.args.parent c.len.ensures.nodes.parents (omega arith) in
    rw unknown tt

-- what a held node's number says of its stack
record Held (nodes : List Node) (ip parent number : ℕ) : Type 0 where
  stack_is : stack nodes number ≡ ip ∷ stack nodes parent
  lower : parent < number
  within : number ≤ length nodes

held : (nodes : List Node) (ip parent number : ℕ) → AreNodes nodes → node_number nodes ip parent ≡ Some number
    → Held nodes ip parent number
held nodes ip parent number law is =
    let found = number-is nodes ip parent number is in
    let call = call-is ip parent found.node found.call in
    let P : ℕ → ℕ → Type 0 = λ x y. stack nodes number ≡ x ∷ stack nodes y in
    let Q : ℕ → Type 0 = λ y. y < number in
    let here : P found.node.ip found.node.parent = law.stack_n number found.node found.at in
    record {
      stack_is = subst (P ip) call.1 (subst (λ x. P x found.node.parent) call.0 here);
      lower = subst Q call.1 (law.parents.lower number found.node found.at);
      within = found.within;
    }

in_some : (c : goal.In-Some) → Held (nodes_of c.self.inside.entries.items) c.args.ip c.args.parent c.in-Some.number
in_some c =
    let nodes = nodes_of c.self.inside.entries.items in
    held nodes c.args.ip c.args.parent c.in-Some.number
    (AreNodes-table c.self.inside.entries.items nodes refl c.self.invariant.0)
    (subst (λ (entries : List NodeEntry). node_number (nodes_of entries) c.args.ip c.args.parent
    ≡ Some c.in-Some.number) c.deref-2.ensures.value (sym
    c.in-Some.ensures))

pub returns-in-Some-clause-stack : goal.returns-in-Some-clause-stack
returns-in-Some-clause-stack c = let found = in_some c in found.stack_is

pub returns-in-Some-clause-within : goal.returns-in-Some-clause-within
returns-in-Some-clause-within c = let found = in_some c in (found.lower, found.within)

-- the number of the node that was added
added : (answer : Result ℕ NodeFault) (old new : List Node) (node : Node) → node_number old node.ip node.parent ≡ None
    → OnOk answer (new ≡ old ++ node ∷ []) → IfOk answer (λ n. n ≡ length old + 1)
    → IfOk answer (λ n. node_number new node.ip node.parent ≡ Some n)
added (Ok n) old new node none grown number = rw (grown, number) (number-push old node none)
added (Err fault) old new node none grown number = tt

pub returns-clause-number : goal.returns-clause-number
returns-clause-number c =
    let none =
    subst (λ (entries : List NodeEntry). node_number (nodes_of entries) c.args.ip c.args.parent ≡ None)
    c.deref-2.ensures.value (sym c.in_default.ensures) in
    added c.add.result (nodes_of c.self.inside.entries.items) c.add.new.self
    (record { ip = c.args.ip; parent = c.args.parent; frames = c.args.frames }) none c.add.ensures.added
    c.add.ensures.number
