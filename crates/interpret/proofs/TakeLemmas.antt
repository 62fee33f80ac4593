-- What each kind of line does to an interpreter, over what contracts see of it.
use Rattle.std.proofs.Common.{Bor, ◌≡◌, ◌≢◌, ◌⊎◌, inl, inr, ℕ, ◌+◌, ◌<◌, ◌≤◌, Bool, true, false, cond, eqb, ◌||◌, List}
use Rattle.std.proofs.Common.{[], ◌∷◌, ◌++◌, length, map, Option, Some, None, refl, sym, ap, ◌∙◌, arith, append-nil}
use Rattle.std.proofs.Common.{length-append, true≢false}
use Rattle.std.specs.Prelude.{◌==◌, find, is_some, nat_lt, unwrap_or}
use Rattle.std.specs.List.{list_any, position_or_len}
use Rattle.std.specs.Option.{option_or, option_to_list}
use Rattle.std.proofs.Math.Seq.{drop-length}
use Rattle.std.proofs.lemmas.Bool.Decides.{nat_tests}
use Rattle.std.proofs.lemmas.List.Folds.{position_or_len_push}
use Rattle.ht_lines.specs.Content.{Content, version_line, clear_line, module_line, string_line, node_line}
use Rattle.ht_lines.specs.Content.{allocation_line, raw_allocation_line, raw_free_line, free_line}
use Rattle.ht_lines.specs.declared.item.Item.{Item}
use Rattle.ht_lines.specs.declared.item.Item.TheVariants.{Version, ModuleClear, Module, RawAlloc, RawFree}
use Rattle.ht_lines.specs.declared.item.Item.TheVariants as kind
use Rattle.ht_lines.specs.ItemContent.{content}
use Rattle.ht_lines.specs.Written.{written}
use Rattle.stack_table.specs.Node.{Node}
use Rattle.ht_trace.specs.declared.error.LineError.{LineError}
use Rattle.ht_trace.specs.declared.error.LineError.TheVariants.{NoMemory, SecondVersion, TooMany, UnknownTrace}
use Rattle.ht_trace.specs.LineFault.{Tells, most_entries, most_nodes}
use Rattle.interpret.specs.declared.infos.AllocationInfo.{AllocationInfo}
use Rattle.interpret.specs.FirstAppearances.{new_fault, over_fault, with_new}
use Rattle.interpret.specs.Interpreted.{info_said, new_in, said_for, text_of}
use Rattle.interpret.specs.InterpreterState.{InterpreterState, IsWithin, info_at}
use Rattle.interpret.specs.Modules.{LoadedModule, ranges_said}
use Rattle.interpret.specs.RawFault.{content_fault, full_fault, lists_fault, node_fault}
use Rattle.interpret.specs.RawTables.{KnownIp, RawTables, info_number, ip_frames, ip_number, is_numbered, known_of}
use Rattle.interpret.specs.RawTables.{known_with, names_with, new_call, node_of, same_info, tables_after, tables_with}
use Rattle.interpret.specs.Resolved.{Resolved, frame_count, instruction_said, resolved, resolved_in}
use Rattle.interpret.specs.Modules as loaded
use Rattle.interpret.specs.SymbolLine.{Symbol}
use Rattle.interpret.specs.TakesLine.{Refuses, Takes}
use Rattle.interpret.proofs.AddingLemmas.{text-one}
use Rattle.interpret.proofs.FirstLemmas.{place-none}

no_error : {X : Type 0} (o : Option X) → option_or o None ≡ o
no_error None = refl
no_error (Some x) = refl

-- a version line
pub takes-version : (old : InterpreterState) (heaptrack file : ℕ) (line before after : List ℕ)
    → is_some old.version ≡ false → after ≡ before ++ (written 1 (version_line heaptrack file) ++ 10 ∷ [])
    → Takes old (record old { version = Some file }) line (version_line heaptrack file) before after
unfolding content_fault tables_after
takes-version old heaptrack file line before after none wrote = record {
  no_fault = ap (λ (b : Bool). cond {A = Option LineError} b (Some SecondVersion) None) none;
  symbols = refl;
  version = by old.version none;
  tables = refl;
  pointers = λ ptr. refl;
  failed = refl;
  lines = wrote ∙ ap (λ (l : List ℕ). before ++ l) (sym (text-one (written 1 (version_line heaptrack file))));
}
  where
    by : (v : Option ℕ) → is_some v ≡ false → Some file ≡ option_or v (Some file)
    by None none = refl
    by (Some other) none = absurd (true≢false none)

pub refuses-version : (old : InterpreterState) (heaptrack file : ℕ) → is_some old.version ≡ true
    → Refuses old old (version_line heaptrack file) SecondVersion
unfolding content_fault
refuses-version old heaptrack file some = record {
  fault = λ other. ap (λ (b : Bool). cond {A = Option LineError} b (Some SecondVersion) None) some;
  unchanged = λ one two. refl;
  symbols = refl;
  failed = refl;
}

-- lines of modules
pub takes-clear : (old : InterpreterState) (line before : List ℕ)
    → Takes old (record old { tables = record old.tables { loaded = [] } }) line clear_line before before
unfolding content_fault tables_after
takes-clear old line before =
    record {
      no_fault = refl;
      symbols = refl;
      version = sym (no_error old.version);
      tables = refl;
      pointers = λ ptr. refl;
      failed = refl;
      lines = sym (append-nil before);
    }

pub takes-module : (old : InterpreterState) (name : List ℕ) (start : ℕ) (numbers : List ℕ) (line before : List ℕ)
    (more : List LoadedModule)
    → more ≡ old.tables.loaded ++ record { name = name; start = start; ranges = ranges_said start numbers } ∷ []
    → Takes old (record old { tables = record old.tables { loaded = more } }) line (module_line name start numbers)
    before before
unfolding content_fault tables_after
takes-module old name start numbers line before more is = record {
  no_fault = refl;
  symbols = refl;
  version = sym (no_error old.version);
  tables = ap (λ (l : List LoadedModule). record old.tables { loaded = l }) is;
  pointers = λ ptr. refl;
  failed = refl;
  lines = sym (append-nil before);
}

-- a table that hasn't too many entries has no fault
no_over : (most count : ℕ) → count ≤ most → over_fault most count ≡ None
no_over most count few =
    let test : nat_lt most count ≡ false =
    grind (arith, nat_tests, few) in ap (λ (b : Bool). cond {A = Option LineError} b (Some TooMany) None) test

-- the fault of lists of which the nodes alone may be too many
lists-few : (names : List (List ℕ)) (held : List KnownIp) (nodes : List Node) → length names ≤ most_entries
    → length held ≤ most_entries → lists_fault names held nodes ≡ over_fault most_nodes (length nodes)
lists-few names held nodes few_names few_held =
    let a : nat_lt most_entries (length names) ≡ false = grind (arith, nat_tests, few_names) in
    let b : nat_lt most_entries (length held) ≡ false = grind (arith, nat_tests, few_held) in
    rw (a, b) refl

full-lists : (tables : RawTables) → length tables.infos ≤ most_entries
    → full_fault tables ≡ lists_fault tables.names tables.known tables.nodes
full-lists tables few =
    ap (λ (o : Option LineError). option_or (lists_fault tables.names tables.known tables.nodes) o)
    (no_over most_entries (length tables.infos) few)
    ∙ no_error _

-- a node whose instruction has a number adds itself alone
pub held-call : (symbols : List Symbol) (tables : RawTables) (ip : ℕ) → is_numbered tables.known ip ≡ true
    → new_call symbols tables ip ≡ None
held-call symbols tables ip held =
    ap (λ (b : Bool). cond {A = Option Resolved} b None (Some (resolved symbols tables.loaded ip))) held

held-tables : (symbols : List Symbol) (tables : RawTables) (ip parent number frames : ℕ)
    → is_numbered tables.known ip ≡ true → number ≡ ip_number tables.known ip → frames ≡ ip_frames tables.known ip
    → tables_after symbols tables (node_line ip parent)
    ≡ record tables { nodes = tables.nodes ++ record { ip = number; parent = parent; frames = frames } ∷ [] }
unfolding tables_after
held-tables symbols tables ip parent number frames held is_number is_frames =
    ap (λ (call : Option Resolved). tables_with tables call ip parent) (held-call symbols tables ip held)
    ∙ ap (λ (known : List KnownIp). record tables {
      known = known;
      nodes = tables.nodes ++ node_of known ip parent ∷ [];
    }) (append-nil
    tables.known)
    ∙ ap (λ (n : ℕ). record tables {
      nodes = tables.nodes
          ++ record { ip = n; parent = parent; frames = ip_frames tables.known ip } ∷ [];
    }) (sym
    is_number)
    ∙ ap (λ (n : ℕ). record tables { nodes = tables.nodes ++ record { ip = number; parent = parent; frames = n } ∷ [] })
    (sym is_frames)

held-fault : (symbols : List Symbol) (version : Option ℕ) (tables : RawTables) (ip parent number frames : ℕ)
    → IsWithin version tables.names tables.known tables.nodes tables.infos
    → is_numbered tables.known ip ≡ true → number ≡ ip_number tables.known ip → frames ≡ ip_frames tables.known ip
    → content_fault symbols version tables (node_line ip parent)
    ≡ node_fault tables.nodes frames parent (over_fault most_nodes (length tables.nodes + 1))
unfolding content_fault
held-fault symbols version tables ip parent number frames within held is_number is_frames =
    let after =
    record tables { nodes = tables.nodes ++ record { ip = number; parent = parent; frames = frames } ∷ [] } in
    let full : full_fault (tables_after symbols tables (node_line ip parent))
    ≡ over_fault most_nodes (length tables.nodes + 1) =
    ap full_fault (held-tables symbols tables ip parent number frames held is_number is_frames)
    ∙ full-lists after within.infos_few
    ∙ lists-few tables.names tables.known after.nodes within.names_few within.known_few
    ∙ ap (λ (n : ℕ). over_fault most_nodes n) (length-append tables.nodes _) in
    let count : ip_frames (known_with tables.known (new_call symbols tables ip)) ip ≡ frames =
    ap (λ (call : Option Resolved). ip_frames (known_with tables.known call) ip) (held-call symbols tables ip held)
    ∙ ap (λ (known : List KnownIp). ip_frames known ip) (append-nil tables.known) ∙ sym is_frames in
    ap (λ (n : ℕ). node_fault tables.nodes n parent (full_fault (tables_after symbols tables (node_line ip parent))))
    count
    ∙ ap (λ (o : Option LineError). node_fault tables.nodes frames parent o) full

held-said : (symbols : List Symbol) (tables : RawTables) (nodes : List Node) (ip parent number : ℕ)
    → is_numbered tables.known ip ≡ true → number ≡ ip_number tables.known ip
    → said_for symbols tables (record tables { nodes = nodes }) None (node_line ip parent)
    ≡ node_line number parent ∷ []
held-said symbols tables nodes ip parent number held is_number =
    ap (λ (l : List (List ℕ)). map string_line l
    ++ (map (instruction_said tables.names) (option_to_list (new_call symbols tables ip))
    ++ node_line (ip_number tables.known ip) parent ∷ []))
    (drop-length
    tables.names)
    ∙ ap (λ (call : Option Resolved). map (instruction_said tables.names) (option_to_list call)
    ++ node_line (ip_number tables.known ip) parent ∷ []) (held-call
    symbols tables ip held)
    ∙ ap (λ (n : ℕ). node_line n parent ∷ []) (sym is_number)

pub takes-held : (old : InterpreterState) (nodes : List Node) (ip parent number frames version : ℕ)
    (line before after : List ℕ)
    → IsWithin old.version old.tables.names old.tables.known old.tables.nodes old.tables.infos
    → version ≡ unwrap_or old.version 1
    → is_numbered old.tables.known ip ≡ true → number ≡ ip_number old.tables.known ip
    → frames ≡ ip_frames old.tables.known ip
    → nodes ≡ old.tables.nodes ++ record { ip = number; parent = parent; frames = frames } ∷ []
    → after ≡ before ++ text_of (written version (node_line number parent) ∷ [])
    → node_fault old.tables.nodes frames parent (over_fault most_nodes (length old.tables.nodes + 1)) ≡ None
    → Takes old (record old { tables = record old.tables { nodes = nodes } }) line (node_line ip parent) before after
takes-held old nodes ip parent number frames version line before after within is_version held is_number is_frames added
    wrote good = record {
      no_fault =
          held-fault old.symbols old.version old.tables ip parent number frames within held is_number is_frames ∙ good;
      symbols = refl;
      version = sym (no_error old.version);
      tables =
          ap (λ (l : List Node). record old.tables { nodes = l }) added
          ∙ sym (held-tables old.symbols old.tables ip parent number frames held is_number is_frames);
      pointers = λ ptr. refl;
      failed = refl;
      lines =
          wrote
          ∙ ap (λ (said : List Content). before ++ text_of (map (written version) said))
          (sym (held-said old.symbols old.tables nodes ip parent number held is_number))
          ∙ ap (λ (v : ℕ). before
          ++ text_of
          (map (written v)
          (said_for old.symbols old.tables (record old.tables { nodes = nodes }) None (node_line ip parent))))
          is_version;
    }

pub refuses-held : (old new : InterpreterState) (ip parent number frames : ℕ) (error : LineError)
    → IsWithin old.version old.tables.names old.tables.known old.tables.nodes old.tables.infos
    → is_numbered old.tables.known ip ≡ true → number ≡ ip_number old.tables.known ip
    → frames ≡ ip_frames old.tables.known ip
    → Tells error (node_fault old.tables.nodes frames parent (over_fault most_nodes (length old.tables.nodes + 1)))
    → (error ≢ NoMemory → new ≡ old) → new.symbols ≡ old.symbols → new.failed ≡ old.failed
    → Refuses old new (node_line ip parent) error
refuses-held old new ip parent number frames error within held is_number is_frames told unchanged symbols
    failed = record {
      fault =
          λ other. held-fault old.symbols old.version old.tables ip parent number frames within held is_number is_frames
          ∙ told other;
      unchanged = λ one two. unchanged one;
      symbols = symbols;
      failed = failed;
    }

-- a node whose instruction is new
pub new-call : (symbols : List Symbol) (tables : RawTables) (ip : ℕ) → is_numbered tables.known ip ≡ false
    → new_call symbols tables ip ≡ Some (resolved symbols tables.loaded ip)
new-call symbols tables ip new =
    ap (λ (b : Bool). cond {A = Option Resolved} b None (Some (resolved symbols tables.loaded ip))) new

pub resolved-ip : (symbols : List Symbol) (modules : List LoadedModule) (ip : ℕ) → (resolved symbols modules ip).ip ≡ ip
unfolding resolved
resolved-ip symbols modules ip = by (loaded.module_of modules ip)
  where
    by : (o : Option LoadedModule) → (resolved_in symbols o ip).ip ≡ ip
    by None = refl
    by (Some m) = refl

pub new-ip : (held : List KnownIp) (ip : ℕ) → is_numbered held ip ≡ false
    → (eqb ip 0 ≡ false) × (list_any (λ (k : KnownIp). ip == k.ip) held ≡ false)
new-ip held ip new = by (eqb ip 0) new
  where
    by : (b : Bool) → (b || list_any (λ (k : KnownIp). ip == k.ip) held) ≡ false
        → (b ≡ false) × (list_any (λ (k : KnownIp). ip == k.ip) held ≡ false)
    by true new = absurd (true≢false new)
    by false new = (refl, new)

find-behind : (held : List KnownIp) (k : KnownIp) (ip : ℕ) → list_any (λ (k : KnownIp). ip == k.ip) held ≡ false
    → (ip == k.ip) ≡ true → find (λ (k : KnownIp). ip == k.ip) (held ++ k ∷ []) ≡ Some k
find-behind [] k ip none here = ap (λ (b : Bool). cond {A = Option KnownIp} b (Some k) None) here
find-behind (h ∷ held) k ip none here = by (ip == h.ip) none (λ none. find-behind held k ip none here)
  where
    by : (b : Bool) → (b || list_any (λ (k : KnownIp). ip == k.ip) held) ≡ false
        → (list_any (λ (k : KnownIp). ip == k.ip) held ≡ false
        → find (λ (k : KnownIp). ip == k.ip) (held ++ k ∷ []) ≡ Some k)
        → cond {A = Option KnownIp} b (Some h) (find (λ (k : KnownIp). ip == k.ip) (held ++ k ∷ [])) ≡ Some k
    by true none rest = absurd (true≢false none)
    by false none rest = rest none

-- its number is the next one, and its frames are those of what stands there
new-node : (held : List KnownIp) (found : Resolved) (ip parent : ℕ) → found.ip ≡ ip → is_numbered held ip ≡ false
    → node_of (known_with held (Some found)) ip parent
    ≡ record { ip = length held + 1; parent = parent; frames = frame_count found }
new-node held found ip parent is new =
    let parts = new-ip held ip new in
    let here : (ip == found.ip) ≡ true = rw is (grind (arith, nat_tests)) in
    let place : position_or_len (λ (k : KnownIp). ip == k.ip) (held ++ known_of found ∷ []) ≡ length held =
    position_or_len_push (λ (k : KnownIp). ip == k.ip) held (known_of found)
    ∙ (let before = place-none (λ (k : KnownIp). ip == k.ip) held parts.1 in rw (before, here)
    (grind (arith, nat_tests))) in
    let there = find-behind held (known_of found) ip parts.1 here in
    rw (parts.0, place, there) refl

pub new-number : (held : List KnownIp) (found : Resolved) (ip : ℕ) → found.ip ≡ ip → is_numbered held ip ≡ false
    → ip_number (known_with held (Some found)) ip ≡ length held + 1
new-number held found ip is new = ap (λ (n : Node). n.ip) (new-node held found ip 0 is new)

new-tables : (symbols : List Symbol) (tables : RawTables) (ip parent : ℕ) (found : Resolved)
    → found ≡ resolved symbols tables.loaded ip → is_numbered tables.known ip ≡ false
    → tables_after symbols tables (node_line ip parent)
    ≡ record tables {
      names = names_with tables.names (Some found);
      known = known_with tables.known (Some found);
      nodes = tables.nodes ++ record { ip = length tables.known + 1; parent = parent; frames = frame_count found } ∷ [];
    }
unfolding tables_after
new-tables symbols tables ip parent found is new =
    ap (λ (call : Option Resolved). tables_with tables call ip parent)
    (new-call symbols tables ip new ∙ ap Some (sym is))
    ∙ ap (λ (n : Node). record tables {
      names = names_with tables.names (Some found);
      known = known_with tables.known (Some found);
      nodes = tables.nodes ++ n ∷ [];
    })
    (new-node tables.known found ip parent (ap (λ (r : Resolved). r.ip) is ∙ resolved-ip symbols tables.loaded ip) new)

new-fault : (symbols : List Symbol) (version : Option ℕ) (tables : RawTables) (ip parent : ℕ) (found : Resolved)
    → IsWithin version tables.names tables.known tables.nodes tables.infos → found ≡ resolved symbols tables.loaded ip
    → is_numbered tables.known ip ≡ false
    → content_fault symbols version tables (node_line ip parent)
    ≡ node_fault tables.nodes (frame_count found) parent
    (lists_fault (names_with tables.names (Some found)) (known_with tables.known (Some found))
    (tables.nodes ++ record { ip = length tables.known + 1; parent = parent; frames = frame_count found } ∷ []))
unfolding content_fault
new-fault symbols version tables ip parent found within is new =
    let full =
    ap full_fault (new-tables symbols tables ip parent found is new)
    ∙ full-lists
    (record tables {
      names = names_with tables.names (Some found);
      known = known_with tables.known (Some found);
      nodes =
          tables.nodes ++ record { ip = length tables.known + 1; parent = parent; frames = frame_count found } ∷ [];
    })
    within.infos_few in
    let count : ip_frames (known_with tables.known (new_call symbols tables ip)) ip ≡ frame_count found =
    ap (λ (call : Option Resolved). ip_frames (known_with tables.known call) ip)
    (new-call symbols tables ip new ∙ ap Some (sym is))
    ∙ ap (λ (n : Node). n.frames)
    (new-node tables.known found ip parent (ap (λ (r : Resolved). r.ip) is ∙ resolved-ip symbols tables.loaded ip)
    new) in
    ap (λ (n : ℕ). node_fault tables.nodes n parent (full_fault (tables_after symbols tables (node_line ip parent))))
    count
    ∙ ap (λ (o : Option LineError). node_fault tables.nodes (frame_count found) parent o) full

pub takes-new : (old : InterpreterState) (names : List (List ℕ)) (known : List KnownIp) (nodes : List Node)
    (found : Resolved) (ip parent version : ℕ) (line before after : List ℕ)
    → IsWithin old.version old.tables.names old.tables.known old.tables.nodes old.tables.infos
    → version ≡ unwrap_or old.version 1 → found ≡ resolved old.symbols old.tables.loaded ip
    → is_numbered old.tables.known ip ≡ false
    → names ≡ names_with old.tables.names (Some found) → known ≡ known_with old.tables.known (Some found)
    → nodes
    ≡ old.tables.nodes ++ record { ip = length old.tables.known + 1; parent = parent; frames = frame_count found } ∷ []
    → after
    ≡ before
    ++ text_of
    (map (written version)
    (map string_line (new_in old.tables.names names)
    ++ (instruction_said names found ∷ node_line (length old.tables.known + 1) parent ∷ [])))
    → node_fault old.tables.nodes (frame_count found) parent (lists_fault names known nodes) ≡ None
    → Takes old (record old { tables = record old.tables { names = names; known = known; nodes = nodes } }) line
    (node_line ip parent) before after
takes-new old names known nodes found ip parent version line before after within is_version is new is_names is_known
    is_nodes wrote good =
    let call = new-call old.symbols old.tables ip new ∙ ap Some (sym is) in
    let ip_is = ap (λ (r : Resolved). r.ip) is ∙ resolved-ip old.symbols old.tables.loaded ip in
    let number : ip_number known ip ≡ length old.tables.known + 1 =
    ap (λ (l : List KnownIp). ip_number l ip) is_known ∙ new-number old.tables.known found ip ip_is new in
    record {
      no_fault =
          new-fault old.symbols old.version old.tables ip parent found within is new
          ∙ ap
          (λ (l : List (List ℕ)). node_fault old.tables.nodes (frame_count found) parent
          (lists_fault l (known_with old.tables.known (Some found))
          (old.tables.nodes
          ++ record { ip = length old.tables.known + 1; parent = parent; frames = frame_count found } ∷ [])))
          (sym is_names)
          ∙ ap
          (λ (l : List KnownIp). node_fault old.tables.nodes (frame_count found) parent
          (lists_fault names l
          (old.tables.nodes
          ++ record { ip = length old.tables.known + 1; parent = parent; frames = frame_count found } ∷ [])))
          (sym is_known)
          ∙ ap (λ (l : List Node). node_fault old.tables.nodes (frame_count found) parent (lists_fault names known l))
          (sym is_nodes)
          ∙ good;
      symbols = refl;
      version = sym (no_error old.version);
      tables =
          ap (λ (l : List (List ℕ)). record old.tables { names = l; known = known; nodes = nodes }) is_names
          ∙ ap
          (λ (l : List KnownIp). record old.tables {
            names = names_with old.tables.names (Some found);
            known = l;
            nodes = nodes;
          })
          is_known
          ∙ ap
          (λ (l : List Node). record old.tables {
            names = names_with old.tables.names (Some found);
            known = known_with old.tables.known (Some found);
            nodes = l;
          })
          is_nodes
          ∙ sym (new-tables old.symbols old.tables ip parent found is new);
      pointers = λ ptr. refl;
      failed = refl;
      lines =
          wrote
          ∙ ap
          (λ (n : ℕ). before
          ++ text_of
          (map (written version)
          (map string_line (new_in old.tables.names names)
          ++ (instruction_said names found ∷ node_line n parent ∷ []))))
          (sym number)
          ∙ ap
          (λ (call : Option Resolved). before
          ++ text_of
          (map (written version)
          (map string_line (new_in old.tables.names names)
          ++ (map (instruction_said names) (option_to_list call) ++ node_line (ip_number known ip) parent ∷ []))))
          (sym call)
          ∙ ap
          (λ (v : ℕ). before
          ++ text_of
          (map (written v)
          (said_for old.symbols old.tables (record old.tables { names = names; known = known; nodes = nodes }) None
          (node_line ip parent))))
          is_version;
    }

pub refuses-new : (old new : InterpreterState) (found : Resolved) (ip parent : ℕ) (error : LineError)
    → IsWithin old.version old.tables.names old.tables.known old.tables.nodes old.tables.infos
    → found ≡ resolved old.symbols old.tables.loaded ip → is_numbered old.tables.known ip ≡ false
    → Tells error (node_fault old.tables.nodes (frame_count found) parent
    (lists_fault (names_with old.tables.names (Some found)) (known_with old.tables.known (Some found))
    (old.tables.nodes ++ record { ip = length old.tables.known + 1; parent = parent; frames = frame_count found }
    ∷ [])))
    → (error ≢ NoMemory → error ≢ TooMany → new ≡ old) → new.symbols ≡ old.symbols → new.failed ≡ old.failed
    → Refuses old new (node_line ip parent) error
refuses-new old new found ip parent error within is absent told unchanged symbols failed = record {
  fault = λ other. new-fault old.symbols old.version old.tables ip parent found within is absent ∙ told other;
  unchanged = unchanged;
  symbols = symbols;
  failed = failed;
}

-- an allocation
allocation-fault : (symbols : List Symbol) (version : Option ℕ) (tables : RawTables) (size trace ptr : ℕ)
    → IsWithin version tables.names tables.known tables.nodes tables.infos → nat_lt (length tables.nodes) trace ≡ false
    → content_fault symbols version tables (raw_allocation_line size trace ptr)
    ≡ over_fault most_entries (length (with_new same_info tables.infos (record { size = size; trace = trace })))
unfolding content_fault tables_after
allocation-fault symbols version tables size trace ptr within held =
    let infos = with_new same_info tables.infos (record { size = size; trace = trace }) in
    ap (λ (b : Bool). cond {A = Option LineError} b (Some UnknownTrace) (full_fault (record tables { infos = infos })))
    held
    ∙ ap (λ (o : Option LineError). option_or o (over_fault most_entries (length infos)))
    (lists-few tables.names tables.known tables.nodes within.names_few within.known_few
    ∙ no_over most_nodes (length tables.nodes) within.nodes_few)

pub takes-allocation : (old : InterpreterState) (infos : List AllocationInfo) (pointers : List (ℕ × ℕ))
    (size trace ptr number version : ℕ) (line before after : List ℕ)
    → IsWithin old.version old.tables.names old.tables.known old.tables.nodes old.tables.infos
    → trace ≤ length old.tables.nodes → version ≡ unwrap_or old.version 1
    → infos ≡ with_new same_info old.tables.infos (record { size = size; trace = trace }) → length infos ≤ most_entries
    → number ≡ info_number infos (record { size = size; trace = trace })
    → after
    ≡ before
    ++ text_of (map (written version) (map info_said (new_in old.tables.infos infos) ++ allocation_line number ∷ []))
    → ((other : ℕ)
    → info_at pointers other ≡ cond {A = Option ℕ} (ptr == other) (Some number) (info_at old.pointers other))
    → Takes old (record old { tables = record old.tables { infos = infos }; pointers = pointers }) line
    (raw_allocation_line size trace ptr) before after
unfolding tables_after
takes-allocation old infos pointers size trace ptr number version line before after within held is_version is_infos few
    is_number wrote set =
    let here : nat_lt (length old.tables.nodes) trace ≡ false = grind (arith, nat_tests, held) in
    record {
      no_fault =
          allocation-fault old.symbols old.version old.tables size trace ptr within here
          ∙ ap (λ (l : List AllocationInfo). over_fault most_entries (length l)) (sym is_infos)
          ∙ no_over most_entries (length infos) few;
      symbols = refl;
      version = sym (no_error old.version);
      tables = ap (λ (l : List AllocationInfo). record old.tables { infos = l }) is_infos;
      pointers =
          λ other. set other
          ∙ ap (λ (n : ℕ). cond {A = Option ℕ} (ptr == other) (Some n) (info_at old.pointers other)) is_number;
      failed = refl;
      lines =
          wrote
          ∙ ap
          (λ (n : ℕ). before
          ++ text_of
          (map (written version) (map info_said (new_in old.tables.infos infos) ++ allocation_line n ∷ [])))
          is_number
          ∙ ap
          (λ (v : ℕ). before
          ++ text_of
          (map (written v)
          (map info_said (new_in old.tables.infos infos)
          ++ allocation_line (info_number infos (record { size = size; trace = trace })) ∷ [])))
          is_version;
    }

pub refuses-trace : (old : InterpreterState) (size trace ptr : ℕ) → length old.tables.nodes < trace
    → Refuses old old (raw_allocation_line size trace ptr) UnknownTrace
unfolding content_fault
refuses-trace old size trace ptr above =
    let here : nat_lt (length old.tables.nodes) trace ≡ true = grind (arith, nat_tests, above) in
    record {
      fault =
          λ other. ap
          (λ (b : Bool). cond {A = Option LineError} b (Some UnknownTrace)
          (full_fault (tables_after old.symbols old.tables (raw_allocation_line size trace ptr))))
          here;
      unchanged = λ one two. refl;
      symbols = refl;
      failed = refl;
    }

-- a table that is too full has no other fault
only-over : (count : ℕ) (error : LineError) → over_fault most_entries count ≡ Some error → error ≡ TooMany
only-over count error is = by (nat_lt most_entries count) is
  where
    by : (b : Bool) → cond {A = Option LineError} b (Some TooMany) None ≡ Some error → error ≡ TooMany
    by true is = cc
    by false is = absurd (cc)

pub refuses-info : (old new : InterpreterState) (size trace ptr : ℕ) (error : LineError)
    → IsWithin old.version old.tables.names old.tables.known old.tables.nodes old.tables.infos
    → trace ≤ length old.tables.nodes
    → Tells error (new_fault same_info old.tables.infos (record { size = size; trace = trace }))
    → new.symbols ≡ old.symbols → new.failed ≡ old.failed → Refuses old new (raw_allocation_line size trace ptr) error
refuses-info old new size trace ptr error within held told symbols failed =
    let here : nat_lt (length old.tables.nodes) trace ≡ false = grind (arith, nat_tests, held) in
    record {
      fault = λ other. allocation-fault old.symbols old.version old.tables size trace ptr within here ∙ told other;
      unchanged =
          λ one two. absurd
          (two
          (only-over (length (with_new same_info old.tables.infos (record { size = size; trace = trace }))) error
          (told one)));
      symbols = symbols;
      failed = failed;
    }

-- a free
pub takes-free : (old : InterpreterState) (pointers : List (ℕ × ℕ)) (ptr version : ℕ) (freed : Option ℕ)
    (line before after : List ℕ)
    → freed ≡ info_at old.pointers ptr → version ≡ unwrap_or old.version 1
    → ((other : ℕ) → info_at pointers other ≡ cond {A = Option ℕ} (ptr == other) None (info_at old.pointers other))
    → after ≡ before ++ text_of (map (written version) (map free_line (option_to_list freed)))
    → Takes old (record old { pointers = pointers }) line (raw_free_line ptr) before after
unfolding content_fault tables_after
takes-free old pointers ptr version freed line before after is is_version taken wrote = record {
  no_fault = refl;
  symbols = refl;
  version = sym (no_error old.version);
  tables = refl;
  pointers = taken;
  failed = refl;
  lines =
      wrote ∙ ap (λ (o : Option ℕ). before ++ text_of (map (written version) (map free_line (option_to_list o)))) is
      ∙ ap (λ (v : ℕ). before ++ text_of (map (written v) (map free_line (option_to_list (info_at old.pointers ptr)))))
      is_version;
}

-- the kinds of lines that are passed on as they are
abbrev passes_on : Item → Bool
passes_on (Version heaptrack file) = false
passes_on ModuleClear = false
passes_on (Module name start ranges tail) = false
passes_on (kind.Node ip parent) = false
passes_on (RawAlloc size trace ptr) = false
passes_on (RawFree ptr) = false
passes_on other = true

-- an item of one of them, as the code names them
abbrev pub IsPassedOn : Item → Type 0
IsPassedOn item =
    ((text : Bor (List ℕ)) × item ≡ kind.Executable text)
    ⊎ ((text : Bor (List ℕ)) × item ≡ kind.Command text)
    ⊎ ((page : ℕ) × (pages : ℕ) × item ≡ kind.System page pages)
    ⊎ ((text : Bor (List ℕ)) × item ≡ kind.Str text)
    ⊎ ((ip : ℕ) × (string : ℕ) × (fields : ℕ) × (tail : Bor (List ℕ)) × item ≡ kind.Instr ip string fields tail)
    ⊎ ((size : ℕ) × (trace : ℕ) × item ≡ kind.Info size trace)
    ⊎ ((info : ℕ) × item ≡ kind.Alloc info)
    ⊎ ((info : ℕ) × item ≡ kind.Free info)
    ⊎ ((ms : ℕ) × item ≡ kind.Clock ms)
    ⊎ ((pages : ℕ) × item ≡ kind.Rss pages)
    ⊎ (item ≡ kind.Attached)
    ⊎ ((text : Bor (List ℕ)) × item ≡ kind.Suppress text)
    ⊎ ((text : Bor (List ℕ)) × item ≡ kind.Comment text)
    ⊎ ((text : Bor (List ℕ)) × item ≡ kind.Other text)

passed_on : (item : Item) → IsPassedOn item → passes_on item ≡ true
passed_on item (inl e) = ap passes_on e.1
passed_on item (inr (inl e)) = ap passes_on e.1
passed_on item (inr (inr (inl e))) = ap passes_on e.2
passed_on item (inr (inr (inr (inl e)))) = ap passes_on e.1
passed_on item (inr (inr (inr (inr (inl e))))) = ap passes_on e.4
passed_on item (inr (inr (inr (inr (inr (inl e)))))) = ap passes_on e.2
passed_on item (inr (inr (inr (inr (inr (inr (inl e))))))) = ap passes_on e.1
passed_on item (inr (inr (inr (inr (inr (inr (inr (inl e)))))))) = ap passes_on e.1
passed_on item (inr (inr (inr (inr (inr (inr (inr (inr (inl e))))))))) = ap passes_on e.1
passed_on item (inr (inr (inr (inr (inr (inr (inr (inr (inr (inl e)))))))))) = ap passes_on e.1
passed_on item (inr (inr (inr (inr (inr (inr (inr (inr (inr (inr (inl e))))))))))) = ap passes_on e
passed_on item (inr (inr (inr (inr (inr (inr (inr (inr (inr (inr (inr (inl e)))))))))))) = ap passes_on e.1
passed_on item (inr (inr (inr (inr (inr (inr (inr (inr (inr (inr (inr (inr (inl e))))))))))))) = ap passes_on e.1
passed_on item (inr (inr (inr (inr (inr (inr (inr (inr (inr (inr (inr (inr (inr e))))))))))))) = ap passes_on e.1

-- a line that is passed on as it is
pub takes-passed : (old : InterpreterState) (item : Item) (line before after : List ℕ) → IsPassedOn item
    → after ≡ before ++ text_of (line ∷ []) → Takes old old line (content item) before after
unfolding content_fault tables_after
takes-passed old item line before after is wrote = by item (passed_on item is)
  where
    by : (item : Item) → passes_on item ≡ true → Takes old old line (content item) before after
    by (Version heaptrack file) e = absurd (cc)
    by ModuleClear e = absurd (cc)
    by (Module name start ranges tail) e = absurd (cc)
    by (kind.Node ip parent) e = absurd (cc)
    by (RawAlloc size trace ptr) e = absurd (cc)
    by (RawFree ptr) e = absurd (cc)
    by other e =
        record {
          no_fault = refl;
          symbols = refl;
          version = sym (no_error old.version);
          tables = refl;
          pointers = λ ptr. refl;
          failed = refl;
          lines = wrote;
        }
