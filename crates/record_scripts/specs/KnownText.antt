-- Stacks that are known by the texts of their ips. A text is known for a node where the numbers of
-- its fields are pointers that are the node's stack, and to intern them changes nothing.
use Rattle.std.specs.Prelude.{◌≡◌, ℕ, ◌≤◌, true, List, length, All, Option, None, Some}
use Rattle.stack_table.specs.Interned.{stack_interned}
use Rattle.stack_table.specs.Node.{Node}
use Rattle.stack_table.specs.Stack.{stack}
use Rattle.ht_lines.specs.Fields.{numbers}
use Rattle.ht_lines.specs.Written.{AreWords}
use Rattle.record_scripts.specs.declared.known_stacks.KnownStack.{KnownStack}
use Rattle.record_scripts.specs.declared.known_stacks.KnownStacks.{KnownStacks}
use Rattle.record_scripts.specs.ScriptLine.{are_ips}

-- the text says ips, the stack of which is that of the node, and which are there: to intern them changes nothing
pub record IsKnownText (nodes : List Node) (text : List ℕ) (node : ℕ) : Type 0 where
  pub good : are_ips (numbers text) ≡ true
  pub words : AreWords (numbers text)
  pub stack_is : stack nodes node ≡ numbers text
  pub within : node ≤ length nodes
  pub interned : stack_interned nodes (numbers text) ≡ record { nodes = nodes; number = node }

-- a slot has a text that is known
abbrev pub IsKnownSlot : List Node → KnownStack → Type 0
IsKnownSlot nodes slot = IsKnownText nodes slot.text.items slot.node

-- each slot has one
abbrev pub AreKnownSlots : List Node → List KnownStack → Type 0
AreKnownSlots nodes slots = All (IsKnownSlot nodes) slots

abbrev pub AreKnown : List Node → KnownStacks → Type 0
AreKnown nodes known = AreKnownSlots nodes known.slots.items

-- whatever nodes the stacks are known by, the text is known for this one of them
abbrev pub Finds : KnownStacks → List ℕ → ℕ → Type 0
Finds known text node = (nodes : List Node) → AreKnown nodes known → IsKnownText nodes text node

-- stacks that were known still are, with a text that is known for a node
abbrev pub Learns : KnownStacks → KnownStacks → List ℕ → ℕ → Type 0
Learns old new text node = (nodes : List Node) → AreKnown nodes old → IsKnownText nodes text node
    → AreKnown nodes new

-- a stack was read by its text: its node is known, or its ips are there
abbrev pub IsSaid : List Node → List ℕ → Option ℕ → List ℕ → Type 0
IsSaid nodes text (Some node) ips = IsKnownText nodes text node
IsSaid nodes text None ips = ips ≡ numbers text

pub record IsRead (nodes : List Node) (text : List ℕ) (node : Option ℕ) (ips : List ℕ) : Type 0
  where
    pub good : are_ips (numbers text) ≡ true
    pub said : IsSaid nodes text node ips
