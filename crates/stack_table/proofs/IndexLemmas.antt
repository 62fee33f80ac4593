-- Lemmas on the index of the nodes.
use Rattle.std.proofs.Common.{◌≡◌, ℕ, ◌+◌, ◌<◌, ◌≤◌, true, false, List, length, Some, sym, ap, ◌∙◌, arith, subst, ◌⊎◌}
use Rattle.std.proofs.Common.{inl, inr}
use Rattle.std.proofs.lemmas.Bool.{cases_lt, cases_Bool}
use Rattle.std.proofs.lemmas.Bool.Decides.{nat_tests}
use Rattle.std.proofs.lemmas.Option.{same_Some}
use Rattle.stack_table.specs.declared.node_index.NodeIndex.{NodeIndex}
use Rattle.stack_table.specs.Node.{Node, node_at}
use Rattle.stack_table.specs.NodeIndexed.{IsIndexed, IsPassed, number_at, same_key}
use Rattle.stack_table.specs.NodeNumber.{is_call, node_number}
use Rattle.stack_table.proofs.NodeNumbers.{call-is, call-own, number-exists, number-is, number-shared}

-- an index of the first nodes of a list, whose numbers are the same
pub indexed-shared : (nodes others : List Node) (index other : NodeIndex) (shared : ℕ)
    → IsIndexed nodes index → ((m : ℕ) → m ≤ shared → node_at others m ≡ node_at nodes m)
    → ((ip parent : ℕ) → number_at other ip parent ≡ number_at index ip parent)
    → other.count ≤ index.count → other.count ≤ shared → shared ≤ length others → IsIndexed others other
indexed-shared nodes others index other shared indexed same numbers fewer within all = record {
  within = omega arith;
  each = λ n node few is.
      let at = sym (same n (omega arith)) ∙ is in
      let number = number-exists nodes node.ip node.parent n node at (call-own node) in
      numbers node.ip node.parent ∙ indexed.each n node (omega arith) at
      ∙ number.is
      ∙ sym (number-shared nodes others shared node.ip node.parent number.number same (omega (arith, number.few))
      number.is);
}

-- a number that is kept is that of the node which it names, where that one passes
pub indexed-number : (nodes : List Node) (index : NodeIndex) (ip parent n : ℕ) (node : Node)
    → IsIndexed nodes index → n ≤ index.count → node_at nodes n ≡ Some node → is_call ip parent node ≡ true
    → number_at index ip parent ≡ node_number nodes ip parent
indexed-number nodes index ip parent n node indexed within is call =
    let same = call-is ip parent node call in
    let P : ℕ → ℕ → Type 0 = λ x y. number_at index x y ≡ node_number nodes x y in
    let here : P node.ip node.parent = indexed.each n node within is in
    subst (P ip) same.1 (subst (λ x. P x node.parent) same.0 here)

-- none of the nodes in an index passes where the number that is kept, if there is one, names none that does
pub indexed-passed : (nodes : List Node) (index : NodeIndex) (ip parent : ℕ) → IsIndexed nodes index
    → ((m : ℕ) (node : Node) → number_at index ip parent ≡ Some m → m ≤ index.count → node_at nodes m ≡ Some node
    → is_call ip parent node ≡ false)
    → IsPassed nodes ip parent index.count
indexed-passed nodes index ip parent indexed other =
    record { none = λ n node within is. each n node within is (cases_Bool (is_call ip parent node)) }
  where
    each : (n : ℕ) (node : Node) → n ≤ index.count → node_at nodes n ≡ Some node
        → (is_call ip parent node ≡ true) ⊎ (is_call ip parent node ≡ false) → is_call ip parent node ≡ false
    each n node within is (inl call) =
        let kept = indexed-number nodes index ip parent n node indexed within is call in
        let number = number-exists nodes ip parent n node is call in
        let found = number-is nodes ip parent number.number number.is in
        absurd
        (grind
        (arith, found.call, other number.number found.node (kept ∙ number.is) (omega (arith, number.few)) found.at))
    each n node within is (inr fails) = fails

-- one more node in the index, whose number is kept beside those of the nodes before it
pub indexed-next : (nodes : List Node) (index other : NodeIndex) (node : Node)
    → IsIndexed nodes index → index.count < length nodes → node_at nodes (index.count + 1) ≡ Some node
    → other.count ≡ index.count + 1
    → number_at other node.ip node.parent ≡ node_number nodes node.ip node.parent
    → ((n : ℕ) (before : Node) → n ≤ index.count → node_at nodes n ≡ Some before
    → number_at other before.ip before.parent ≡ number_at index before.ip before.parent)
    → IsIndexed nodes other
indexed-next nodes index other node indexed more is count here stay = record {
  within = omega arith;
  each = λ n found few at. each n found few at (cases_lt index.count n);
}
  where
    each : (n : ℕ) (found : Node) → n ≤ other.count → node_at nodes n ≡ Some found
        → (index.count < n) ⊎ (n ≤ index.count)
        → number_at other found.ip found.parent ≡ node_number nodes found.ip found.parent
    each n found few at (inl past) =
        let last : index.count + 1 ≡ n = omega arith in
        let same : node ≡ found = same_Some node found (sym is ∙ ap (λ (m : ℕ). node_at nodes m) last ∙ at) in
        subst (λ (x : Node). number_at other x.ip x.parent ≡ node_number nodes x.ip x.parent) same here
    each n found few at (inr before) = stay n found before at ∙ indexed.each n found before at

-- keys of nodes of which one doesn't pass for the other
pub key-other : (ip parent : ℕ) (node : Node) → is_call ip parent node ≡ false
    → same_key (ip, parent) (node.ip, node.parent) ≡ false
key-other ip parent node other = grind (arith, nat_tests)
