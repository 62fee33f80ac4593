-- An item is whole where its tail has numbers alone, as many as it says; its tail is what follows
-- the fields before it.
use Rattle.std.specs.Prelude.{◌≡◌, ℕ, ◌+◌, ◌*◌, List, length, IsTrue, IfOk, IfSome, Result, Ok, Err}
use Rattle.ht_lines.specs.declared.item.Item.{Item}
use Rattle.ht_lines.specs.declared.item.Item.TheVariants.{Version, Executable, Command, System, Str, ModuleClear}
use Rattle.ht_lines.specs.declared.item.Item.TheVariants.{Module, Instr, Node, Info, Alloc, Free, RawAlloc, RawFree}
use Rattle.ht_lines.specs.declared.item.Item.TheVariants.{Clock, Rss, Attached, Suppress, Comment, Other}
use Rattle.ht_lines.specs.declared.item.Malformed.{Malformed}
use Rattle.ht_lines.specs.Content.{Content, version_line, executable_line, command_line, system_line, string_line}
use Rattle.ht_lines.specs.Content.{clear_line, module_line, instruction_line, node_line, info_line, allocation_line}
use Rattle.ht_lines.specs.Content.{free_line, raw_allocation_line, raw_free_line, clock_line, resident_line}
use Rattle.ht_lines.specs.Content.{attached_line, suppression_line, comment_line, other_line}
use Rattle.ht_lines.specs.Fields.{after_field, fields, numbers, all_numbers}
use Rattle.ht_lines.specs.ModuleName.{module_name}

abbrev pub content : Item → Content
content (Version heaptrack file) = version_line heaptrack file
content (Executable text) = executable_line text.now
content (Command text) = command_line text.now
content (System page pages) = system_line page pages
content (Str text) = string_line text.now
content ModuleClear = clear_line
content (Module name start ranges tail) = module_line name.now start (numbers tail.now)
content (Instr ip module_string count tail) = instruction_line ip module_string (numbers tail.now)
content (Node ip parent) = node_line ip parent
content (Info size trace) = info_line size trace
content (Alloc info) = allocation_line info
content (Free info) = free_line info
content (RawAlloc size trace ptr) = raw_allocation_line size trace ptr
content (RawFree ptr) = raw_free_line ptr
content (Clock ms) = clock_line ms
content (Rss pages) = resident_line pages
content Attached = attached_line
content (Suppress text) = suppression_line text.now
content (Comment text) = comment_line text.now
content (Other line) = other_line line.now

-- the tail has numbers alone, as many as the item says
abbrev pub IsWhole : Item → Type 0
IsWhole (Module name start ranges tail) = IsTrue (all_numbers (fields tail.now))
    × (length (numbers tail.now) ≡ 2 * ranges)
IsWhole (Instr ip module_string count tail) = IsTrue (all_numbers (fields tail.now))
    × (length (numbers tail.now) + 2 ≡ count)
IsWhole _ = Unit {0}

-- the tail is what follows the fields before it; rest follows the kind
abbrev pub HasTail : ℕ → List ℕ → Item → Type 0
HasTail version rest (Module name start ranges tail) = IfSome (module_name version rest)
    (λ found. tail.now ≡ after_field found.1)
HasTail version rest (Instr ip module_string count tail) = tail.now ≡ after_field (after_field rest)
HasTail version rest _ = Unit {0}

-- the result is an item that says what is read, or the fault that is read
abbrev pub Gives : Result Item Malformed → Result Content Malformed → Type 0
Gives (Ok item) read = read ≡ Ok (content item)
Gives (Err fault) read = read ≡ Err fault

-- the item that is given has its tail, in whichever version it is read
abbrev pub HasTailInEach : List ℕ → Result Item Malformed → Type 0
HasTailInEach rest result = (version : ℕ) → IfOk result (HasTail version rest)
