-- The nodes of the code are the numbered stacks, one frame for each pointer.
use Rattle.std.specs.Prelude.{◌≡◌, ◌≢◌, ℕ, ◌+◌, ◌-◌, ◌^◌, ◌<◌, ◌≤◌, ◌==◌, if◌then◌else◌, List, ◌∷◌, ◌++◌, length}
use Rattle.std.specs.Prelude.{Result, IfOk}
use Rattle.stack_table.specs.AreNodes.{AreNodes}
use Rattle.stack_table.specs.Continues.{Continues}
use Rattle.stack_table.specs.Node.{Node}
use Rattle.stack_table.specs.Stack.{frame_count, stack}
use Rattle.record_book.specs.NodeNumbers.{number_in, with_stack, with_suffixes}
use Rattle.record_book.specs.RecordedTrace.{node_text, nodes_text}

-- the nodes are the stacks that are numbered, each of which has one frame for each of its pointers
pub record AreNumbered (nodes : List Node) (known : List (List ℕ)) : Type 0 where
  pub law : AreNodes nodes
  pub count : length known ≡ length nodes
  pub numbers : (n : ℕ) → n ≤ length nodes → number_in known (stack nodes n) ≡ n
  pub stacks : (ips : List ℕ) → number_in known ips ≢ 0 → stack nodes (number_in known ips) ≡ ips
  pub frames : (n : ℕ) → n ≤ length nodes → frame_count nodes n ≡ length (stack nodes n)

-- the node of a pointer that is called from a parent is among the new nodes, and is one more where
-- its stack wasn't known
pub record IsInterned (old : List Node) (known : List (List ℕ)) (new : List Node)
    (node ip parent : ℕ) : Type 0 where
  pub numbered : AreNumbered new (with_stack known (ip ∷ stack old parent))
  pub stack_is : stack new node ≡ ip ∷ stack old parent
  pub count : length new
      ≡ (if number_in known (ip ∷ stack old parent) == 0 then length old + 1 else length old)

-- the same, of whatever stacks the old nodes are
abbrev pub InternsNode : List Node → List Node → ℕ → ℕ → ℕ → Type 0
InternsNode old new ip parent node = (known : List (List ℕ)) → AreNumbered old known
    → IsInterned old known new node ip parent

-- the same, with the line of a new node
pub record IsNext (old : List Node) (known : List (List ℕ)) (new : List Node) (node ip parent : ℕ)
    (before after : List ℕ) : Type 0 where
  pub numbered : AreNumbered new (with_stack known (ip ∷ stack old parent))
  pub stack_is : stack new node ≡ ip ∷ stack old parent
  pub text : after ≡ before ++ node_text known ip (stack old parent)

abbrev pub PutsNode : List Node → List Node → ℕ → ℕ → List ℕ → List ℕ → ℕ → Type 0
PutsNode old new ip parent before after node = (known : List (List ℕ)) → AreNumbered old known
    → IsNext old known new node ip parent before after

-- the nodes of a stack and of those that it is called from, with the lines of new nodes
pub record ArePut (known : List (List ℕ)) (ips : List ℕ) (new : List Node) (node : ℕ)
    (before after : List ℕ) : Type 0 where
  pub numbered : AreNumbered new (with_suffixes known ips)
  pub stack_is : stack new node ≡ ips
  pub text : after ≡ before ++ nodes_text known ips

abbrev pub PutsNodes : List Node → List Node → List ℕ → List ℕ → List ℕ → ℕ → Type 0
PutsNodes old new ips before after node = (known : List (List ℕ)) → AreNumbered old known
    → ArePut known ips new node before after

-- the nodes are those of some stacks, and there is space for one that is called from a parent
pub record CanCall (nodes : List Node) (parent : ℕ) : Type 0 where
  pub numbered : (known : List (List ℕ)) × AreNumbered nodes known
  pub held : parent ≤ length nodes
  pub shallow : length (stack nodes parent) < 4096
  pub room : length nodes < 2 ^ 32 - 2

-- nodes only grow, by so many at most, and a node that is answered is one of them
pub record GrowsNodes {E : Type 0} (old new : List Node) (most : ℕ) (result : Result ℕ E) : Type 0
  where
    pub continues : Continues old new
    pub few_more : length new ≤ length old + most
    pub held : IfOk result (λ node. node ≤ length new)
