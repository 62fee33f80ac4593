-- Which nodes of the trace have the stacks of nodes of the scripts. A node of the trace that is
-- known for a node of the scripts has the same stack.
use Rattle.std.specs.Prelude.{◌≡◌, ◌≢◌, ℕ, ◌+◌, ◌-◌, ◌^◌, ◌≤◌, List, length, slice_get, unwrap_or}
use Rattle.stack_table.specs.Node.{Node}
use Rattle.stack_table.specs.Stack.{stack}
use Rattle.record_book.specs.declared.node_map.NodeMap.{NodeMap}
use Rattle.record_book.specs.declared.turn_stack.TurnStack.{TurnStack}
use Rattle.record_book.specs.declared.turn_stack.TurnStack.TheVariants.{Known, Ips}
use Rattle.record_book.specs.NodeState.{AreNumbered, PutsNodes}

-- the node of the trace for node n of the scripts, 0 where it isn't known
abbrev pub number_at : NodeMap → ℕ → ℕ
number_at map n = unwrap_or (slice_get map.numbers.items n) 0

-- each node that is known is one of the trace, and has the stack of the scripts' node
pub record AreMapped (map : NodeMap) (said nodes : List Node) : Type 0 where
  pub count : length map.numbers.items ≡ length said + 1
  pub held : (n : ℕ) → number_at map n ≤ length nodes
  pub stacks : (n : ℕ) → number_at map n ≢ 0 → stack nodes (number_at map n) ≡ stack said n

-- no node is known of these
abbrev pub IsNewMap : List Node → NodeMap → Type 0
IsNewMap said map = (nodes : List Node) → AreMapped map said nodes

-- where the node of a node isn't known, its stack is in the buffer
abbrev pub HasBuffered : NodeMap → List Node → ℕ → ℕ → Type 0
HasBuffered map said node number = number ≡ 0 → map.ips.items ≡ stack said node

-- the ips of a turn's stack
abbrev pub ips_of : List Node → TurnStack → List ℕ
ips_of nodes (Known number) = stack nodes number
ips_of nodes (Ips ips) = ips.now

-- the nodes of a turn's stack, with the lines of new ones
abbrev pub PutsStack : List Node → List Node → TurnStack → List ℕ → List ℕ → ℕ → Type 0
PutsStack old new turn_stack before after node = PutsNodes old new (ips_of old turn_stack) before
    after node

-- a node that is known is one of the trace
abbrev pub IsKnown : List Node → TurnStack → Type 0
IsKnown nodes (Known number) = number ≤ length nodes
IsKnown nodes (Ips ips) = Unit {0}

-- the nodes are those of some stacks, and there is space for those of this stack
pub record HasNodeRoom (nodes : List Node) (turn_stack : TurnStack) : Type 0 where
  pub known : IsKnown nodes turn_stack
  pub numbered : (stacks : List (List ℕ)) × AreNumbered nodes stacks
  pub room : length nodes + 256 ≤ 2 ^ 32 - 2
