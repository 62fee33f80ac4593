-- How nodes are added, and their lines written, for private clauses.
use Rattle.std.specs.Prelude.{◌≡◌, ◌≢◌, ℕ, ◌+◌, ◌≤◌, ◌==◌, false, List, [], ◌∷◌, ◌++◌, length, map, Option, Some, None}
use Rattle.std.specs.Prelude.{Result, OnOk, OnErr, IfErr}
use Rattle.std.specs.Global.{Vec}
use Rattle.std.specs.List.{list_any}
use Rattle.ht_lines.specs.Content.{node_line, string_line}
use Rattle.ht_trace.specs.declared.error.LineError.{LineError}
use Rattle.ht_trace.specs.declared.error.LineError.TheVariants.{NoMemory, TooMany}
use Rattle.ht_trace.specs.LineFault.{Tells, most_entries, most_nodes}
use Rattle.stack_table.specs.Node.{Node}
use Rattle.interpret.specs.declared.known_ips.Numbered.{Numbered}
use Rattle.interpret.specs.declared.node_lines.NewNode.{NewNode}
use Rattle.interpret.specs.AppendsLines.{AppendsInEach, AppendsLines}
use Rattle.interpret.specs.FirstAppearances.{over_fault}
use Rattle.interpret.specs.FrameKept.{resolved_kept}
use Rattle.interpret.specs.Interpreted.{new_in}
use Rattle.interpret.specs.RawFault.{lists_fault, node_fault}
use Rattle.interpret.specs.RawTables.{KnownIp, known_with, names_with}
use Rattle.interpret.specs.Resolved.{Resolved, frame_count, instruction_said}

-- a node of an instruction that has a number
abbrev pub held_node : Numbered → ℕ → Node
held_node instruction parent
    = record { ip = instruction.number; parent = parent; frames = instruction.frames }

-- its fault, where nothing else grows
abbrev pub held_fault : List Node → Node → Option LineError
held_fault nodes node =
    node_fault nodes node.frames node.parent (over_fault most_nodes (length nodes + 1))

-- it is added, and its line stands at the end of what is written; after an error all is as it was
pub record AddsNode (node : Node) (old new : List Node) (before after : Vec ℕ)
    (result : Result (Unit {0}) LineError) : Type 0 where
  pub added : OnOk result (new ≡ old ++ node ∷ [])
  pub lines : OnOk result (AppendsInEach (node_line node.ip node.parent ∷ []) before after)
  pub no_fault : OnOk result (held_fault old node ≡ None)
  pub fault : IfErr result (λ error. Tells error (held_fault old node))
  pub few : length old ≤ most_nodes → length new ≤ most_nodes
  pub unchanged : OnErr result (new ≡ old)
  pub unwritten : OnErr result (after.items ≡ before.items)

-- what stands at the address of a node whose instruction has no number yet
abbrev pub found_at : NewNode → Resolved
found_at node = resolved_kept node.instruction.now

-- its instruction has no number, and the names are no more than they may be
pub record IsNew (names : List (List ℕ)) (ips : List KnownIp) (node : NewNode) : Type 0 where
  pub unnumbered : list_any (λ k. node.instruction.now.ip == k.ip) ips ≡ false
  pub few_names : length names ≤ most_entries

-- the node, whose instruction gets the next number
abbrev pub new_node : List KnownIp → NewNode → Node
new_node held node = record {
  ip = length held + 1;
  parent = node.parent;
  frames = frame_count (found_at node);
}

-- its lines stand at the end of what is written: those of the names that are new, of the instruction and of the node
abbrev pub AppendsNode : ℕ → NewNode → List (List ℕ) → List (List ℕ) → List KnownIp → Vec ℕ → Vec ℕ
    → Type 0
AppendsNode version node old_names names old_ips before after = AppendsLines version
    (map string_line (new_in old_names names)
    ++ (instruction_said names (found_at node) ∷ node_line (length old_ips + 1) node.parent ∷ []))
    before after

-- its fault, where the tables would grow to these
abbrev pub grown_fault : List Node → NewNode → List (List ℕ) → List KnownIp → List Node
    → Option LineError
grown_fault old_nodes node names ips nodes = node_fault old_nodes (frame_count (found_at node))
    node.parent (lists_fault names ips nodes)

-- they would grow by what it calls for
abbrev pub new_node_fault : List (List ℕ) → List KnownIp → List Node → NewNode → Option LineError
new_node_fault names ips nodes node = grown_fault nodes node
    (names_with names (Some (found_at node))) (known_with ips (Some (found_at node)))
    (nodes ++ new_node ips node ∷ [])

-- it is added with its instruction and the names that this calls for. After a want of memory or a
-- full table some of them may have been, and after every other error nothing was
pub record AddsNewNode (node : NewNode) (old_names : List (List ℕ)) (old_ips : List KnownIp)
    (old_nodes : List Node) (names : List (List ℕ)) (ips : List KnownIp) (nodes : List Node)
    (result : Result (Unit {0}) LineError) : Type 0 where
  pub called : OnOk result (names ≡ names_with old_names (Some (found_at node)))
  pub known : OnOk result (ips ≡ known_with old_ips (Some (found_at node)))
  pub added : OnOk result (nodes ≡ old_nodes ++ new_node old_ips node ∷ [])
  pub unchanged : IfErr result (λ error. error ≢ NoMemory → error ≢ TooMany
      → (names ≡ old_names) × (ips ≡ old_ips) × (nodes ≡ old_nodes))
  -- in any case
  pub few_names : length old_names ≤ most_entries → length names ≤ most_entries
  pub few_ips : length old_ips ≤ most_entries → length ips ≤ most_entries
  pub few_nodes : length old_nodes ≤ most_nodes → length nodes ≤ most_nodes
