-- Nodes of the trace by those of the scripts: none, and one more.
use Rattle.std.proofs.Common.{◌≡◌, ◌≢◌, ℕ, ◌+◌, ◌≤◌, ◌==◌, Bool, true, false, List, length, refl, sym, ap, ◌∙◌, arith}
use Rattle.std.specs.Prelude.{replicate}
use Rattle.std.proofs.lemmas.Bool.Decides.{nat_tests}
use Rattle.stack_table.specs.Continues.{Continues}
use Rattle.stack_table.specs.Node.{Node}
use Rattle.stack_table.specs.Stack.{stack}
use Rattle.record_scripts.specs.declared.script_line.ScriptLine.{ScriptLine}
use Rattle.record_scripts.specs.ScriptNodes.{nodes_in}
use Rattle.record_scripts.specs.ScriptTurns.{turn_said}
use Rattle.record_scripts.specs.Turns.{Turn}
use Rattle.record_book.specs.declared.node_map.NodeMap.{NodeMap}
use Rattle.record_book.specs.declared.turn_stack.TurnStack.{TurnStack}
use Rattle.record_book.specs.declared.turn_stack.TurnStack.TheVariants.{Known}
use Rattle.record_book.specs.MappedNodes.{AreMapped, ips_of, number_at}
use Rattle.record_book.specs.StreamState.{done_at}
use Rattle.record_book.proofs.StreamLemmas.{length-zeros, zero-at}

-- the turn of a line and of a node of the scripts
abbrev pub said_in : List (List Turn) → ScriptLine × ℕ → Turn
said_in scripts found = turn_said found.0 (stack (nodes_in scripts) found.1)

-- none is known
pub mapped-none : (map : NodeMap) (said nodes : List Node) (count : ℕ)
    → map.numbers.items ≡ replicate count 0 → count ≡ length said + 1 → AreMapped map said nodes
mapped-none map said nodes count zeros all = record {
  count = ap length zeros ∙ length-zeros count ∙ all;
  held = λ n. omega (arith, none n);
  stacks = λ n some. absurd (some (none n));
}
  where
    none : (n : ℕ) → number_at map n ≡ 0
    none n = ap (λ (ns : List ℕ). done_at ns n) zeros ∙ zero-at count n

-- one more is known
pub mapped-next : (map later : NodeMap) (said nodes new : List Node) (node number : ℕ)
    → AreMapped map said nodes → Continues nodes new
    → length later.numbers.items ≡ length map.numbers.items
    → ((n : ℕ) → n ≢ node → number_at later n ≡ number_at map n) → number_at later node ≡ number
    → number ≤ length new → (number ≢ 0 → stack new number ≡ stack said node)
    → AreMapped later said new
mapped-next map later said nodes new node number are grown same_count others here held is = record {
  count = same_count ∙ are.count;
  held = λ n. held-by n (n == node) refl;
  stacks = λ n. stacks-by n (n == node) refl;
}
  where
    held-by : (n : ℕ) (b : Bool) → (n == node) ≡ b → number_at later n ≤ length new
    held-by n true p =
        let same : n ≡ node = grind (arith, nat_tests, p) in
        let number_is : number_at later n ≡ number = ap (λ (k : ℕ). number_at later k) same ∙ here in
        omega (arith, number_is, held)
    held-by n false p =
        let apart : n ≢ node = λ (same : n ≡ node). absurd (grind (arith, nat_tests, p, same)) in
        omega (arith, others n apart, are.held n, grown.held)

    stacks-by : (n : ℕ) (b : Bool) → (n == node) ≡ b → number_at later n ≢ 0
        → stack new (number_at later n) ≡ stack said n
    stacks-by n true p some =
        let same : n ≡ node = grind (arith, nat_tests, p) in
        let number_is : number_at later n ≡ number = ap (λ (k : ℕ). number_at later k) same ∙ here in
        ap (λ (k : ℕ). stack new k) number_is
        ∙ is (λ (zero_is : number ≡ 0). some (number_is ∙ zero_is))
        ∙ ap (λ (k : ℕ). stack said k) (sym same)
    stacks-by n false p some =
        let apart : n ≢ node = λ (same : n ≡ node). absurd (grind (arith, nat_tests, p, same)) in
        let number_is = others n apart in
        ap (λ (k : ℕ). stack new k) number_is ∙ grown.stacks (number_at map n) (are.held n)
        ∙ are.stacks n (λ (zero_is : number_at map n ≡ 0). some (number_is ∙ zero_is))

-- the stack of a node, by what is known of it
pub ips-are : (said nodes : List Node) (turn_stack : TurnStack) (node known : ℕ) (ips : List ℕ)
    → (known ≢ 0 → stack nodes known ≡ stack said node) → (known ≡ 0 → ips ≡ stack said node)
    → (known ≢ 0 → turn_stack ≡ Known known) → (known ≡ 0 → ips_of nodes turn_stack ≡ ips)
    → ips_of nodes turn_stack ≡ stack said node
ips-are said nodes turn_stack node known ips mapped read is_known is_read =
    by (known == 0) refl
  where
    by : (b : Bool) → (known == 0) ≡ b → ips_of nodes turn_stack ≡ stack said node
    by true p = let none : known ≡ 0 = grind (arith, nat_tests, p) in is_read none ∙ read none
    by false p =
        let some : known ≢ 0 = λ (none : known ≡ 0). absurd (grind (arith, nat_tests, p, none)) in
        ap (λ (s : TurnStack). ips_of nodes s) (is_known some) ∙ mapped some
