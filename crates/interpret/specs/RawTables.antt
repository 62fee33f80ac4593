-- The tables of a raw trace: what its interpretation numbers. An address other than 0 is resolved
-- at its first node, with the modules of that line. The numbers of names, of addresses and of pairs
-- of a size and a node are their places among those that the lines call for, later repeats left
-- out. A node has the number of its address and the frames of its instruction's line; address 0 has
-- number 0 and one frame. What one more line adds to these tables.
use Rattle.std.specs.Prelude.{ℕ, ◌+◌, ◌==◌, Bool, ◌&&◌, ◌||◌, List, [], ◌∷◌, ◌++◌, if◌then◌else◌, find, map, Option}
use Rattle.std.specs.Prelude.{Some, None, unwrap_or}
use Rattle.std.specs.List.{filter_map, flat_map, list_any, position_or_len}
use Rattle.std.specs.Option.{option_map, option_to_list}
use Rattle.std.specs.Str.{bytes_eq}
use Rattle.ht_lines.specs.Content.{Content, node_line, raw_allocation_line}
use Rattle.ht_trace.specs.Gathered.{gathered}
use Rattle.intern_tables.specs.WithoutRepeats.{without_repeats}
use Rattle.stack_table.specs.Node.{Node}
use Rattle.interpret.specs.declared.infos.AllocationInfo.{AllocationInfo}
use Rattle.interpret.specs.FirstAppearances.{with_all, with_new}
use Rattle.interpret.specs.Modules.{LoadedModule, modules, modules_after}
use Rattle.interpret.specs.Resolved.{Resolved, frame_count, names_called, resolved}
use Rattle.interpret.specs.SymbolLine.{Symbol}

-- an instruction pointer that has a number, and how many frames its line says
pub record KnownIp : Type 0 where
  pub ip : ℕ
  pub frames : ℕ

-- the modules that are loaded, and the names, instructions, nodes and infos by their numbers
pub record RawTables : Type 0 where
  pub loaded : List LoadedModule
  pub names : List (List ℕ)
  pub known : List KnownIp
  pub nodes : List Node
  pub infos : List AllocationInfo

-- what stands at the address of a node's line, with the modules of that moment; address 0 stands for no instruction
abbrev pub call_in : List Symbol → List Content → Content → Option Resolved
call_in symbols earlier (node_line ip parent) = if ip == 0 then None
    else Some (resolved symbols (modules earlier) ip)
call_in symbols earlier _ = None

abbrev pub same_ip : Resolved → Resolved → Bool
same_ip x y = x.ip == y.ip

-- the instructions, numbered from 1: of each address what stood there at its first node
unfoldable pub instructions : List Symbol → List Content → List Resolved
instructions symbols said = without_repeats same_ip (gathered (call_in symbols) [] said)

-- the names that the instructions call for, numbered from 1
unfoldable pub names : List Symbol → List Content → List (List ℕ)
names symbols said = without_repeats bytes_eq (flat_map names_called (instructions symbols said))

abbrev pub known_of : Resolved → KnownIp
known_of found = record { ip = found.ip; frames = frame_count found }

unfoldable pub known : List Symbol → List Content → List KnownIp
known symbols said = map known_of (instructions symbols said)

-- the number of an instruction pointer: its place; 0 for address 0
abbrev pub ip_number : List KnownIp → ℕ → ℕ
ip_number held ip = if ip == 0 then 0 else position_or_len (λ k. ip == k.ip) held + 1

-- the frames of an instruction pointer; instruction 0 has one
abbrev pub ip_frames : List KnownIp → ℕ → ℕ
ip_frames held ip = if ip == 0 then 1
    else unwrap_or (option_map (λ k. k.frames) (find (λ k. ip == k.ip) held)) 1

abbrev pub node_of : List KnownIp → ℕ → ℕ → Node
node_of held ip parent
    = record { ip = ip_number held ip; parent = parent; frames = ip_frames held ip }

-- the node of a line, whose instruction is known from that line on
abbrev pub node_in : List Symbol → List Content → Content → Option Node
node_in symbols earlier (node_line ip parent) = Some
    (node_of (known symbols (earlier ++ node_line ip parent ∷ [])) ip parent)
node_in symbols earlier _ = None

-- the nodes, numbered from 1
unfoldable pub nodes : List Symbol → List Content → List Node
nodes symbols said = gathered (node_in symbols) [] said

abbrev pub info_in : Content → Option AllocationInfo
info_in (raw_allocation_line size trace ptr) = Some (record { size = size; trace = trace })
info_in _ = None

abbrev pub same_info : AllocationInfo → AllocationInfo → Bool
same_info x y = x.size == y.size && x.trace == y.trace

-- the pairs of a size and a node that allocates it, numbered from 0
unfoldable pub infos : List Content → List AllocationInfo
infos said = without_repeats same_info (filter_map info_in said)

-- the number of a pair
abbrev pub info_number : List AllocationInfo → AllocationInfo → ℕ
info_number held info = position_or_len (same_info info) held

-- the tables of a raw trace whose lines say this
abbrev pub tables_of : List Symbol → List Content → RawTables
tables_of symbols said = record {
  loaded = modules said;
  names = names symbols said;
  known = known symbols said;
  nodes = nodes symbols said;
  infos = infos said;
}

-- whether an instruction pointer has a number
abbrev pub is_numbered : List KnownIp → ℕ → Bool
is_numbered held ip = ip == 0 || list_any (λ k. ip == k.ip) held

-- what stands at an address that is new
abbrev pub new_call : List Symbol → RawTables → ℕ → Option Resolved
new_call symbols tables ip = if is_numbered tables.known ip then None
    else Some (resolved symbols tables.loaded ip)

-- the instruction pointers with that of a call
abbrev pub known_with : List KnownIp → Option Resolved → List KnownIp
known_with held call = held ++ map known_of (option_to_list call)

-- the names with those that a call calls for
abbrev pub names_with : List (List ℕ) → Option Resolved → List (List ℕ)
names_with held call = with_all bytes_eq held (flat_map names_called (option_to_list call))

-- the tables after a node's line, which may bring a new call
abbrev pub tables_with : RawTables → Option Resolved → ℕ → ℕ → RawTables
tables_with tables call ip parent = record tables {
  names = names_with tables.names call;
  known = known_with tables.known call;
  nodes = tables.nodes ++ node_of (known_with tables.known call) ip parent ∷ [];
}

-- the tables after one more line
unfoldable pub tables_after : List Symbol → RawTables → Content → RawTables
tables_after symbols tables (node_line ip parent) = tables_with tables (new_call symbols tables ip)
    ip parent
tables_after symbols tables (raw_allocation_line size trace ptr) = record tables {
  infos = with_new same_info tables.infos (record { size = size; trace = trace });
}
tables_after symbols tables said = record tables { loaded = modules_after tables.loaded said }
