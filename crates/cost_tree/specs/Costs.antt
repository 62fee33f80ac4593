-- What a closure says that stacks cost. A closure states a list of costs where it may be called on
-- each stack of the list and answers its cost there, and the costs sum to at most 2^62.
use Rattle.std.specs.Prelude.{◌≡◌, ℕ, ◌^◌, ◌<◌, ◌≤◌, List, length, sum, Some, slice_get}
use Rattle.cost_tree.specs.declared.costing.Costing.{Costing}

-- a closure with these predicates may be called on each stack below the number of stacks, and answers the stack's
-- place in the list of costs; the costs sum to at most 2^62
pub record AreCosts (may_call : ℕ → Type 0) (answers : ℕ → ℕ → Type 0) (stacks : ℕ)
    (costs : List ℕ) : Type 0 where
  pub count : length costs ≡ stacks
  pub bound : sum costs ≤ 2 ^ 62
  pub callable : (stack : ℕ) → stack < stacks → may_call stack
  pub cost : (stack : ℕ) (cost : ℕ) → stack < stacks → answers stack cost
      → slice_get costs stack ≡ Some cost

-- these are the costs of the stacks of a costing
abbrev pub HasCosts : {F : Type 0} → (F → ℕ → Type 0) → (F → ℕ → ℕ → Type 0) → Costing F → List ℕ
    → Type 0
HasCosts may_call answers costing costs =
    AreCosts (may_call costing.cost) (answers costing.cost) costing.stacks costs

-- its stacks have some costs
abbrev pub IsStated : {F : Type 0} → (F → ℕ → Type 0) → (F → ℕ → ℕ → Type 0) → Costing F → Type 0
IsStated may_call answers costing = (costs : List ℕ) × HasCosts may_call answers costing costs

-- a stack's cost is this one
abbrev pub IsCostAt : {F : Type 0} → (F → ℕ → Type 0) → (F → ℕ → ℕ → Type 0) → Costing F → ℕ → ℕ
    → Type 0
IsCostAt may_call answers costing stack cost = (costs : List ℕ)
    → HasCosts may_call answers costing costs → slice_get costs stack ≡ Some cost

-- the costs of all its stacks are these
abbrev pub AreAllCosts : {F : Type 0} → (F → ℕ → Type 0) → (F → ℕ → ℕ → Type 0) → Costing F
    → List ℕ → Type 0
AreAllCosts may_call answers costing list = (costs : List ℕ)
    → HasCosts may_call answers costing costs → list ≡ costs

-- the costs that a closure states of so many stacks are those of a costing
abbrev pub KeepsCosts : {F : Type 0} → (F → ℕ → Type 0) → (F → ℕ → ℕ → Type 0) → ℕ → F → Costing F
    → Type 0
KeepsCosts may_call answers stacks cost costing = (costs : List ℕ)
    → AreCosts (may_call cost) (answers cost) stacks costs
    → HasCosts may_call answers costing costs
