-- Lemmas on the least number of a node with an instruction pointer and a parent.
use Rattle.std.proofs.Common.{◌≡◌, ℕ, ◌+◌, ◌-◌, ◌<◌, ◌≤◌, true, false, List, [], ◌∷◌, ◌++◌, length, get_or, None, Some}
use Rattle.std.proofs.Common.{Option, refl, sym, ap, ◌∙◌, arith, subst, ◌⊎◌, inl, inr, true≢false}
use Rattle.std.specs.Prelude.{position}
use Rattle.std.specs.List.{position_or_len}
use Rattle.std.proofs.lemmas.Bool.{cases_lt, cases_Bool}
use Rattle.std.proofs.lemmas.Bool.Decides.{nat_tests}
use Rattle.std.proofs.lemmas.List.Sums.{position_or_len_is, fails_before_first}
use Rattle.std.proofs.lemmas.List.Quantifiers.{position-Some}
use Rattle.std.proofs.lemmas.Option.{same_Some, slice_get-get_or}
use Rattle.stack_table.specs.Node.{Node, node_at}
use Rattle.stack_table.specs.NodeNumber.{is_call, node_number}
use Rattle.stack_table.specs.NodeIndexed.{IsPassed}
use Rattle.stack_table.specs.LowerParents.{HasLowerParents}
use Rattle.stack_table.proofs.Stacks.{node_at-within, node_at-older, node_at-newest}

-- the node after a place
pub node_at-get_or : (nodes : List Node) (k : ℕ) (d : Node) → k < length nodes
    → node_at nodes (k + 1) ≡ Some (get_or nodes k d)
node_at-get_or nodes k d within =
    let found = slice_get-get_or nodes k d within in
    let back : k + 1 - 1 ≡ k = omega arith in
    grind (arith, nat_tests, found, back)

-- a node stands at the place before its number
node-here : (nodes : List Node) (n : ℕ) (node d : Node) → node_at nodes n ≡ Some node → node ≡ get_or nodes (n - 1) d
node-here nodes n node d is =
    let within = node_at-within nodes n node is in
    let number : n - 1 + 1 ≡ n = omega arith in
    same_Some node (get_or nodes (n - 1) d)
    (sym is ∙ ap (λ (m : ℕ). node_at nodes m) (sym number) ∙ node_at-get_or nodes (n - 1) d (omega arith))

-- what the test says
pub call-is : (ip parent : ℕ) (node : Node) → is_call ip parent node ≡ true → (node.ip ≡ ip) × (node.parent ≡ parent)
call-is ip parent node call = (grind (arith, nat_tests), grind (arith, nat_tests))

pub call-own : (node : Node) → is_call node.ip node.parent node ≡ true
call-own node = grind (arith, nat_tests)

-- no node has a number of none
pub passed-zero : (nodes : List Node) (ip parent : ℕ) → IsPassed nodes ip parent 0
passed-zero nodes ip parent = record {
  none = λ n node few is. absurd (let within = node_at-within nodes n node is in omega arith);
}

-- one more node is passed
pub passed-next : (nodes : List Node) (ip parent k : ℕ) (node : Node) → IsPassed nodes ip parent k
    → node_at nodes (k + 1) ≡ Some node → is_call ip parent node ≡ false → IsPassed nodes ip parent (k + 1)
passed-next nodes ip parent k node passed is other =
    record { none = λ n found few at. each n found few at (cases_lt k n) }
  where
    each : (n : ℕ) (found : Node) → n ≤ k + 1 → node_at nodes n ≡ Some found → (k < n) ⊎ (n ≤ k)
        → is_call ip parent found ≡ false
    each n found few at (inl past) =
        let last : k + 1 ≡ n = omega arith in
        let same : node ≡ found = same_Some node found (sym is ∙ ap (λ (m : ℕ). node_at nodes m) last ∙ at) in
        subst (λ (x : Node). is_call ip parent x ≡ false) same other
    each n found few at (inr before) = passed.none n found before at

-- the first node that passes has its number
pub number-found : (nodes : List Node) (ip parent n : ℕ) (node : Node) → IsPassed nodes ip parent (n - 1)
    → node_at nodes n ≡ Some node → is_call ip parent node ≡ true → node_number nodes ip parent ≡ Some n
unfolding node_number
number-found nodes ip parent n node passed is call =
    let within = node_at-within nodes n node is in
    let number : n - 1 + 1 ≡ n = omega arith in
    let here = node-here nodes n node node is in
    let place : position_or_len (is_call ip parent) nodes ≡ n - 1 =
    position_or_len_is (is_call ip parent) nodes (n - 1) node (omega arith)
    (λ k before. passed.none (k + 1) (get_or nodes k node) (omega arith) (node_at-get_or nodes k node (omega arith)))
    (λ _. subst (λ (x : Node). is_call ip parent x ≡ true) here call) in
    grind (arith, nat_tests, place, number)

-- where none passes, there is no number
pub number-none : (nodes : List Node) (ip parent count : ℕ) → IsPassed nodes ip parent count → length nodes ≤ count
    → node_number nodes ip parent ≡ None
unfolding node_number
number-none nodes ip parent count passed all =
    let outside : Node = record { ip = 0; parent = 0; frames = 0 } in
    let place : position_or_len (is_call ip parent) nodes ≡ length nodes =
    position_or_len_is (is_call ip parent) nodes (length nodes) outside (omega arith)
    (λ k before. passed.none (k + 1) (get_or nodes k outside) (omega arith) (node_at-get_or nodes k outside before))
    (λ past. absurd (omega arith)) in
    grind (arith, nat_tests, place)

-- what a number says
pub record IsNumber (nodes : List Node) (ip parent n : ℕ) : Type 0 where
  pub above : 0 < n
  pub within : n ≤ length nodes
  pub node : Node
  pub at : node_at nodes n ≡ Some node
  pub call : is_call ip parent node ≡ true
  pub passed : IsPassed nodes ip parent (n - 1)

-- a node that passes has a number at most its own, which says this
pub record HasNumber (nodes : List Node) (ip parent n : ℕ) : Type 0 where
  pub number : ℕ
  pub few : number ≤ n
  pub is : node_number nodes ip parent ≡ Some number

pub number-exists : (nodes : List Node) (ip parent n : ℕ) (node : Node) → node_at nodes n ≡ Some node
    → is_call ip parent node ≡ true → HasNumber nodes ip parent n
unfolding node_number
number-exists nodes ip parent n node is call = by (cases_lt (n - 1) (position_or_len (is_call ip parent) nodes))
  where
    within : (0 < n) × (n ≤ length nodes)
    within = node_at-within nodes n node is

    by : (n - 1 < position_or_len (is_call ip parent) nodes) ⊎ (position_or_len (is_call ip parent) nodes ≤ n - 1)
        → HasNumber nodes ip parent n
    by (inl past) =
        let bounds = within in
        let fails = fails_before_first (is_call ip parent) nodes (n - 1) node past in
        absurd (true≢false (sym call ∙ ap (λ (x : Node). is_call ip parent x) (node-here nodes n node node is) ∙ fails))
    by (inr first) =
        let bounds = within in
        record {
          number = position_or_len (is_call ip parent) nodes + 1;
          few = omega arith;
          is = grind (arith, nat_tests);
        }

pub number-is : (nodes : List Node) (ip parent n : ℕ) → node_number nodes ip parent ≡ Some n
    → IsNumber nodes ip parent n
unfolding node_number
number-is nodes ip parent n is =
    let outside : Node = record { ip = 0; parent = 0; frames = 0 } in
    let place : position (is_call ip parent) nodes ≡ Some (n - 1) = grind (arith, nat_tests) in
    let above : 0 < n = grind (arith, nat_tests) in
    let found = position-Some (is_call ip parent) nodes (n - 1) outside place in
    let number : n - 1 + 1 ≡ n = omega arith in
    record {
      above = above;
      within = omega arith;
      node = get_or nodes (n - 1) outside;
      at = ap (λ (m : ℕ). node_at nodes m) (sym number) ∙ node_at-get_or nodes (n - 1) outside found.0;
      call = found.1;
      passed = record {
        none = λ m node few at.
            let bounds = node_at-within nodes m node at in
            ap (λ (x : Node). is_call ip parent x) (node-here nodes m node outside at) ∙ found.2 (m - 1) (omega arith);
      };
    }

-- lists that share their first nodes share the numbers of these
pub number-shared : (nodes others : List Node) (shared ip parent n : ℕ)
    → ((m : ℕ) → m ≤ shared → node_at others m ≡ node_at nodes m) → n ≤ shared → node_number nodes ip parent ≡ Some n
    → node_number others ip parent ≡ Some n
number-shared nodes others shared ip parent n same within is =
    let found = number-is nodes ip parent n is in
    number-found others ip parent n found.node
    (record { none = λ m node few at. found.passed.none m node few (sym (same m (omega (arith, found.above))) ∙ at) })
    (same n within ∙ found.at) found.call

-- where there is no number, none of the nodes passes
pub passed-none : (nodes : List Node) (ip parent count : ℕ) → node_number nodes ip parent ≡ None
    → IsPassed nodes ip parent count
passed-none nodes ip parent count none =
    record { none = λ n node few is. each n node is (cases_Bool (is_call ip parent node)) }
  where
    each : (n : ℕ) (node : Node) → node_at nodes n ≡ Some node
        → (is_call ip parent node ≡ true) ⊎ (is_call ip parent node ≡ false) → is_call ip parent node ≡ false
    each n node is (inl call) =
        let number = number-exists nodes ip parent n node is call in
        let both = sym none ∙ number.is in
        absurd (grind (arith, both))
    each n node is (inr fails) = fails

-- a node that is new has the number that is the new count
pub number-push : (nodes : List Node) (node : Node) → node_number nodes node.ip node.parent ≡ None
    → node_number (nodes ++ node ∷ []) node.ip node.parent ≡ Some (length nodes + 1)
number-push nodes node none =
    let back : length nodes + 1 - 1 ≡ length nodes = omega arith in
    let before = passed-none nodes node.ip node.parent (length nodes) none in
    number-found (nodes ++ node ∷ []) node.ip node.parent (length nodes + 1) node
    (record {
      none = λ n found few is. before.none n found (omega arith)
          (sym (node_at-older nodes node n (omega arith)) ∙ is);
    })
    (node_at-newest nodes node (length nodes + 1) refl) (call-own node)

-- a node that is called from none of the nodes has no number
pub number-unknown : (nodes : List Node) (ip parent : ℕ) → HasLowerParents nodes → length nodes < parent
    → node_number nodes ip parent ≡ None
number-unknown nodes ip parent law above = by (node_number nodes ip parent) refl
  where
    by : (found : Option ℕ) → node_number nodes ip parent ≡ found → found ≡ None
    by None is = refl
    by (Some n) is =
        let number = number-is nodes ip parent n is in
        let lower = law.lower n number.node number.at in
        let same = call-is ip parent number.node number.call in
        absurd (omega (arith, lower, number.within, same.1))
