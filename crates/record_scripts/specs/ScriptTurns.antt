-- How scripts are kept: each turn with the node of its stack, its ID and its size in two parts
-- each. Turns are numbered where that number stands in the place of the stack.
use Rattle.std.specs.Prelude.{◌≡◌, ℕ, ◌+◌, ◌*◌, ◌^◌, ◌<◌, ◌≤◌, Bool, if◌then◌else◌, Option, None, Some, List, [], ◌∷◌}
use Rattle.std.specs.Prelude.{length, map, reverse, vec_capacity, vec_len, Result, IfOk, OnOk, OnErr, option_map}
use Rattle.std.specs.Prelude.{slice_get}
use Rattle.std.specs.List.{AllByRecursion}
use Rattle.stack_table.specs.Node.{Node}
use Rattle.stack_table.specs.Continues.{Continues}
use Rattle.stack_table.specs.Interned.{stack_interned}
use Rattle.stack_table.specs.Stack.{stack}
use Rattle.ht_lines.specs.Fields.{numbers}
use Rattle.record_scripts.specs.declared.script_line.ScriptLine.{ScriptLine}
use Rattle.record_scripts.specs.declared.script_line.ScriptLine.TheVariants.{Allocation as AllocationLine}
use Rattle.record_scripts.specs.declared.script_line.ScriptLine.TheVariants.{Free as FreeLine}
use Rattle.record_scripts.specs.declared.script_line.ScriptLine.TheVariants.{Reallocation as ReallocationLine}
use Rattle.record_scripts.specs.declared.turn_entry.TurnEntry.{TurnEntry}
use Rattle.record_scripts.specs.declared.script.Script.{Script}
use Rattle.record_scripts.specs.Turns.{AreBounded, Turn, allocates, frees, reallocates, is_live, script_at}
use Rattle.record_scripts.specs.Events.{event_count}
use Rattle.record_scripts.specs.Job.{in_last, last_script}
use Rattle.record_scripts.specs.KeptTurn.{line_kept}
use Rattle.record_scripts.specs.Playable.{IsInTurn}
use Rattle.record_scripts.specs.ScriptLine.{are_ips}
use Rattle.record_scripts.specs.ScriptNodes.{nodes_in}

-- the turn that a line says with these ips
abbrev pub turn_said : ScriptLine → List ℕ → Turn
turn_said (AllocationLine id size) ips = allocates id size ips
turn_said (FreeLine id) ips = frees id
turn_said (ReallocationLine id size) ips = reallocates id size ips

-- a turn with these numbers, where they are ips
abbrev pub stack_turn : List ℕ → Turn → Option Turn
stack_turn ips turn = if are_ips ips then Some turn else None

-- the turn that a line says with these numbers: the fields of an allocation or a reallocation have to be ips
abbrev pub turn_read : ScriptLine → List ℕ → Option Turn
turn_read (AllocationLine id size) ips = stack_turn ips (allocates id size ips)
turn_read (FreeLine id) ips = Some (frees id)
turn_read (ReallocationLine id size) ips = stack_turn ips (reallocates id size ips)

-- the same with those of a text
abbrev pub turn_by : ScriptLine → List ℕ → Option Turn
turn_by line text = turn_read line (numbers text)

-- the turn of a line and of a node of scripts
abbrev pub turn_with : List (List Turn) → ScriptLine × ℕ → Turn
turn_with scripts found = turn_said found.0 (stack (nodes_in scripts) found.1)

-- the turn at a place of a thread's script
abbrev pub turn_at : List (List Turn) → ℕ → ℕ → Option Turn
turn_at scripts thread place = slice_get (script_at scripts thread) place

-- the turn that an entry keeps
abbrev pub turn_kept : List Node → TurnEntry → Turn
turn_kept nodes entry = turn_said (line_kept entry) (stack nodes entry.node)

-- the scripts that are kept
abbrev pub script_kept : List Node → Script → List Turn
script_kept nodes script = map (turn_kept nodes) script.turns.items

abbrev pub scripts_kept : List Node → List Script → List (List Turn)
scripts_kept nodes scripts = map (script_kept nodes) scripts

-- the same with the number of a turn's node in the place of its stack, which counts for nothing where the turn has none
abbrev pub turn_numbered : TurnEntry → Turn
turn_numbered entry = turn_said (line_kept entry) (entry.node ∷ [])

abbrev pub script_numbered : Script → List Turn
script_numbered script = map turn_numbered script.turns.items

abbrev pub scripts_numbered : List Script → List (List Turn)
scripts_numbered scripts = map script_numbered scripts

-- the node of the turn is one of the first `count`, or none
abbrev pub IsHeld : ℕ → TurnEntry → Type 0
IsHeld count entry = entry.node ≤ count

-- the nodes of all turns are held
abbrev pub AreHeld : ℕ → List Script → Type 0
AreHeld count scripts = AllByRecursion (λ script. AllByRecursion (IsHeld count) script.turns.items)
    scripts

-- listed from the last to the first: each node has one frame, and its parent stands before it
abbrev pub AreSingle : List Node → Type 0
AreSingle [] = Unit {0}
AreSingle (node ∷ before) = (node.frames ≡ 1) × (node.parent ≤ length before) × AreSingle before

-- there is room for one turn more in the last script
abbrev pub HasRoom : List Script → Type 0
HasRoom [] = Unit {0}
HasRoom (script ∷ []) = vec_len script.turns < vec_capacity script.turns
HasRoom (script ∷ next ∷ more) = HasRoom (next ∷ more)

-- the scripts have so many events, no more than are allowed, and these blocks of the last one are
-- live; the nodes are those of their stacks, and each event has brought 256 at most
pub record AreScripts (nodes : List Node) (scripts : List Script) (live : ℕ → Bool)
    (events limit : ℕ) : Type 0 where
  pub held : AreHeld (length nodes) scripts
  pub single : AreSingle (reverse nodes)
  pub few_nodes : length nodes ≤ 256 * events
  pub nodes_are : nodes ≡ nodes_in (scripts_kept nodes scripts)
  pub counted : events ≡ event_count (scripts_kept nodes scripts)
  pub within : events ≤ limit
  pub few_events : limit < 2 ^ 24
  pub few_scripts : length scripts ≤ 64
  pub bounded : AreBounded (scripts_kept nodes scripts)
  pub in_turn : AllByRecursion IsInTurn (scripts_kept nodes scripts)
  pub live_blocks : (id : ℕ) → live id ≡ is_live (last_script (scripts_kept nodes scripts)) id

-- by whatever nodes, the same scripts are kept; and those of all turns stay held
abbrev pub KeepsScripts : List Script → List Script → Type 0
KeepsScripts old new = (nodes : List Node) → scripts_kept nodes new ≡ scripts_kept nodes old

abbrev pub StayHeld : List Script → List Script → Type 0
StayHeld old new = (count : ℕ) → AreHeld count old → AreHeld count new

-- they stay so with a turn more, whose node is held
abbrev pub StayHeldWith : List Script → List Script → TurnEntry → Type 0
StayHeldWith old new turn = (count : ℕ) → IsHeld count turn → AreHeld count old
    → AreHeld count new

-- by whatever nodes, a place of a thread's script has the turn that is kept so, or none
abbrev pub KeepsAt : List Script → ℕ → ℕ → Option TurnEntry → Type 0
KeepsAt scripts thread place turn = (nodes : List Node)
    → slice_get (script_at (scripts_kept nodes scripts) thread) place
    ≡ option_map (turn_kept nodes) turn

-- one turn more stands in the last script; where memory was wanting, all is as it was
pub record PushesTurn {T E : Type 0} (old new : List Script) (turn : TurnEntry)
    (result : Result T E) : Type 0 where
  pub pushed : OnOk result ((nodes : List Node)
      → scripts_kept nodes new ≡ in_last (scripts_kept nodes old) (turn_kept nodes turn))
  pub same : OnErr result (KeepsScripts old new)
  pub count : length new ≡ length old

-- the stack has the number, and its nodes are there, each of one frame; where memory was wanting,
-- the nodes are as they were
pub record InternsStack {E : Type 0} (old new : List Node) (ips : List ℕ)
    (result : Result ℕ E) : Type 0 where
  pub interned : IfOk result
      (λ node. stack_interned old ips ≡ record { nodes = new; number = node })
  pub stack_is : IfOk result (λ node. stack new node ≡ ips)
  pub within : IfOk result (λ node. node ≤ length new)
  pub few_more : length new ≤ length old + 256
  pub single : AreSingle (reverse new)
  pub continues : Continues old new
  pub unchanged : OnErr result (new ≡ old)
