-- What a call that appends a turn asks of a trace, and what it does to it.
use Rattle.std.specs.Prelude.{◌≡◌, ◌≢◌, ℕ, ◌+◌, ◌^◌, ◌≤◌, List, length, vec_capacity, vec_len, None, Result, Vec, IfOk}
use Rattle.std.specs.Prelude.{OnErr}
use Rattle.stack_table.specs.Continues.{Continues}
use Rattle.stack_table.specs.Node.{Node}
use Rattle.stack_table.specs.Stack.{stack}
use Rattle.record_scripts.specs.declared.script_line.ScriptLine.{ScriptLine}
use Rattle.record_scripts.specs.ScriptTurns.{turn_said}
use Rattle.record_scripts.specs.Turns.{IsBounded, Turn, allocates, frees, reallocates}
use Rattle.record_book.specs.declared.heap.Heap.{Heap}
use Rattle.record_book.specs.declared.trace.Trace.{Trace}
use Rattle.record_book.specs.declared.turn_stack.TurnStack.{TurnStack}
use Rattle.record_book.specs.Actions.{Action}
use Rattle.record_book.specs.HeapPlaces.{Place}
use Rattle.record_book.specs.HeapState.{HasSpace, IsHeap, IsSameHeap, entry_at}
use Rattle.record_book.specs.MappedNodes.{HasNodeRoom, ips_of}
use Rattle.record_book.specs.NodeState.{AreNumbered}
use Rattle.record_book.specs.TraceState.{HasTurn, IsTrace, with_turn}

-- what a line of a script says, with the ips of its stack
abbrev pub turn_of : Trace → ScriptLine → TurnStack → Turn
turn_of trace turn stack = turn_said turn (ips_of trace.nodes stack)

-- the trace can take a turn with this stack
pub record HasRoom (trace : Trace) (stack : TurnStack) : Type 0 where
  pub nodes : HasNodeRoom trace.nodes stack
  pub heap : HasSpace trace.heap

-- the text has room for the longest line of an event
abbrev pub HasLineRoom : {Z : Type 0} → Vec ℕ Z → Type 0
HasLineRoom text = vec_len text + 53 ≤ vec_capacity text

-- the block of an allocation isn't live
abbrev pub IsFresh : Heap → ℕ → Turn → Type 0
IsFresh heap thread (allocates id size ips) = entry_at heap thread id ≡ None
IsFresh heap thread (frees id) = Unit {0}
IsFresh heap thread (reallocates id size ips) = Unit {0}

-- it can take this turn of a thread
pub record CanTake (trace : Trace) (thread : ℕ) (turn : ScriptLine) (stack : TurnStack) : Type 0
  where
    pub bounded : IsBounded (turn_of trace turn stack)
    pub fresh : IsFresh trace.heap thread (turn_of trace turn stack)
    pub room : HasRoom trace stack

-- the number of the node of a stack, or 0 where a turn has none
pub record IsNodeOf (nodes : List Node) (ips : List ℕ) (node : ℕ) : Type 0 where
  pub held : node ≤ length nodes
  pub stack_is : node ≢ 0 → stack nodes node ≡ ips

-- what becomes of nodes and heap while a turn is taken: the nodes only grow, and where memory is
-- wanting halfway, the blocks and the last thread are as they were
pub record TakesTurn {E : Type 0} (old new : Trace) (turn_stack : TurnStack)
    (result : Result ℕ E) : Type 0 where
  pub nodes : Continues old.nodes new.nodes
  pub few_nodes : length new.nodes ≤ length old.nodes + 256
  pub end : new.heap.end ≤ old.heap.end + 2 ^ 33
  pub node : IfOk result (IsNodeOf new.nodes (ips_of old.nodes turn_stack))
  pub same_heap : OnErr result (IsSameHeap old.heap new.heap)
  pub same_last : OnErr result (new.last ≡ old.last)

-- the lines of a turn but for that of its thread are put
abbrev pub PutsTurn : Trace → Trace → ℕ → ScriptLine → TurnStack → Type 0
PutsTurn old new thread line turn_stack = (known : List (List ℕ)) (places : List Place)
    → AreNumbered old.nodes known → IsHeap old.heap places
    → HasTurn old.text.items new known places thread (turn_of old line turn_stack)

-- all its lines are: the trace of any actions is that of these and the turn
abbrev pub AddsTurn : Trace → Trace → ℕ → ScriptLine → TurnStack → Type 0
AddsTurn old new thread line turn_stack = (gone modules : List ℕ) (actions : List Action)
    → IsTrace gone old modules actions
    → IsTrace gone new modules (with_turn thread (turn_of old line turn_stack) actions)

-- nothing is: the trace of any actions is still theirs
pub record IsUndone (old new : Trace) : Type 0 where
  pub text : new.text.items ≡ old.text.items
  pub nodes : new.nodes ≡ old.nodes
  pub unchanged : (gone modules : List ℕ) (actions : List Action)
      → IsTrace gone old modules actions → IsTrace gone new modules actions
