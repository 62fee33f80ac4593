-- The interpreted lines of a raw trace, read as an interpreted trace, say what was meant.
use Rattle.std.proofs.Common.{◌≡◌, ℕ, ◌+◌, ◌^◌, ◌<◌, ◌≤◌, Bool, true, false, cond, ◌||◌, List, [], ◌∷◌, ◌++◌, length}
use Rattle.std.proofs.Common.{map, Option, Some, None, Result, Ok, Err, MatchResult, refl, sym, ap, ◌∙◌, arith}
use Rattle.std.proofs.Common.{append_assoc, append-nil, subst, true≢false}
use Rattle.std.specs.Prelude.{◌==◌, is_some, nat_lt, unwrap_or}
use Rattle.std.specs.List.{AllByRecursion}
use Rattle.std.specs.Option.{option_or, option_to_list}
use Rattle.std.proofs.lemmas.Bool.{false≢true, or_parts}
use Rattle.std.proofs.lemmas.Bool.Decides.{nat_tests}
use Rattle.hp_num.specs.Hexadecimal.{hexadecimal}
use Rattle.hp_num.specs.ParsedHex.{parsed_hex}
use Rattle.ht_lines.specs.declared.item.Malformed.{Malformed}
use Rattle.ht_lines.specs.declared.item.Form.TheVariants.{Raw, Interpreted}
use Rattle.ht_lines.specs.Content.{Content, version_line, string_line, clear_line, module_line, instruction_line}
use Rattle.ht_lines.specs.Content.{node_line, info_line, allocation_line, free_line, raw_allocation_line, raw_free_line}
use Rattle.ht_lines.specs.Kinds.{IsOfKind}
use Rattle.ht_lines.specs.Reading.{reading}
use Rattle.ht_lines.specs.Reads.{Reads}
use Rattle.ht_lines.specs.Refuses.{Refuses}
use Rattle.ht_lines.specs.Written.{IsWritable, written}
use Rattle.ht_lines.proofs.Laws.{Reads-IsWritable, reading-item, reading-sides, reading-written}
use Rattle.ht_trace.specs.declared.error.LineError.{LineError}
use Rattle.ht_trace.specs.declared.error.LineError.TheVariants.{NoVersion, SecondVersion, TooDeep, TooMany}
use Rattle.ht_trace.specs.declared.error.LineError.TheVariants.{UnknownParent, UnknownTrace}
use Rattle.ht_trace.specs.Contents as trace
use Rattle.ht_trace.specs.FormContents.{version_in}
use Rattle.ht_trace.specs.Gathered.{gathered}
use Rattle.ht_trace.specs.LineFault.{most_entries, most_nodes}
use Rattle.ht_trace.specs.VersionLines.{may_stand_first}
use Rattle.ht_trace.specs.TraceEvents.{events}
use Rattle.ht_trace.proofs.Laws.{all-push, reads-by, reads-later}
use Rattle.stack_table.specs.Node.{Node}
use Rattle.interpret.specs.FirstAppearances.{over_fault}
use Rattle.interpret.specs.Interpreted.{interpreted_lines, lines_after, lines_read}
use Rattle.interpret.specs.InterpretedSaid.{events_said, interpreted_events, interpreted_said, told_after}
use Rattle.interpret.specs.InterpretedTrace.{AreInterpretable, HasShortTexts, interpreted_trace, lines_from}
use Rattle.interpret.specs.Modules.{LoadedModule, modules, modules_after}
use Rattle.interpret.specs.RawBlocks.{held}
use Rattle.interpret.specs.RawContents.{IsRaw, contents, file_version, version_of}
use Rattle.interpret.specs.RawFault.{allocation_fault, content_fault, fault_in, full_fault, node_fault, raw_fault}
use Rattle.interpret.specs.RawFault.{reading_fault}
use Rattle.interpret.specs.RawLedger.{KeepsLedger}
use Rattle.interpret.specs.RawTables.{RawTables, infos, instructions, ip_frames, known, known_with, names, new_call}
use Rattle.interpret.specs.RawTables.{nodes, tables_after, tables_of}
use Rattle.interpret.specs.SymbolLine.{Symbol}
use Rattle.interpret.proofs.GrowthLemmas.{infos-push, modules-push, names-push, tables-push}
use Rattle.interpret.proofs.KeepLemmas.{keeps-ledger}
use Rattle.interpret.proofs.LedgerLemmas.{interpreted-push}
use Rattle.interpret.proofs.StandLemmas.{raw-writable}
use Rattle.interpret.proofs.WritableLemmas.{allocation-writable, free-writable, node-writable}
use Rattle.stack_table.specs.Stack as stacks

or-none : {X : Type 0} (o : Option X) → option_or o None ≡ o
or-none None = refl
or-none (Some x) = refl

-- tables that have no more than they may have
pub record AreFew (tables : RawTables) : Type 0 where
  pub names_few : length tables.names ≤ most_entries
  pub known_few : length tables.known ≤ most_entries
  pub nodes_few : length tables.nodes ≤ most_nodes
  pub infos_few : length tables.infos ≤ most_entries

pub below : (most n : ℕ) → nat_lt most n ≡ false → n ≤ most
below most n without = grind (arith, nat_tests, without)

few-full : (tables : RawTables) → full_fault tables ≡ None → AreFew tables
few-full tables none =
    by (nat_lt most_entries (length tables.names) ||
    (nat_lt most_entries (length tables.known) || nat_lt most_nodes (length tables.nodes))) refl none
  where
    last : (b : Bool) → nat_lt most_entries (length tables.infos) ≡ b
        → cond {A = Option LineError} b (Some TooMany) None ≡ None → length tables.infos ≤ most_entries
    last true is none = absurd (cc)
    last false is none = below most_entries (length tables.infos) is

    by : (b : Bool)
        → (nat_lt most_entries (length tables.names) ||
        (nat_lt most_entries (length tables.known) || nat_lt most_nodes (length tables.nodes)))
        ≡ b
        → option_or (cond {A = Option LineError} b (Some TooMany) None) (over_fault most_entries (length tables.infos))
        ≡ None
        → AreFew tables
    by true is none = absurd (cc)
    by false is none =
        let first =
        or_parts (nat_lt most_entries (length tables.names))
        (nat_lt most_entries (length tables.known) || nat_lt most_nodes (length tables.nodes)) is in
        let second =
        or_parts (nat_lt most_entries (length tables.known)) (nat_lt most_nodes (length tables.nodes)) first.1 in
        record {
          names_few = below most_entries (length tables.names) first.0;
          known_few = below most_entries (length tables.known) second.0;
          nodes_few = below most_nodes (length tables.nodes) second.1;
          infos_few = last (nat_lt most_entries (length tables.infos)) refl none;
        }

-- a node without a fault
pub record IsGoodNode (nodes : List Node) (frames parent : ℕ) (full : Option LineError) : Type 0 where
  pub parent_held : nat_lt (length nodes) parent ≡ false
  pub shallow : nat_lt stacks.most_frames (stacks.frame_count nodes parent + frames) ≡ false
  pub has_room : full ≡ None

pub good-node : (nodes : List Node) (frames parent : ℕ) (full : Option LineError)
    → node_fault nodes frames parent full ≡ None → IsGoodNode nodes frames parent full
good-node nodes frames parent full none =
    by (nat_lt (length nodes) parent) (nat_lt stacks.most_frames (stacks.frame_count nodes parent + frames)) refl refl
    none
  where
    by : (a b : Bool) → nat_lt (length nodes) parent ≡ a
        → nat_lt stacks.most_frames (stacks.frame_count nodes parent + frames) ≡ b
        → cond {A = Option LineError} a (Some UnknownParent) (cond {A = Option LineError} b (Some TooDeep) full) ≡ None
        → IsGoodNode nodes frames parent full
    by true b is it none = absurd (cc)
    by false true is it none = absurd (cc)
    by false false is it none = record { parent_held = is; shallow = it; has_room = none }

pub good-allocation : (nodes : List Node) (trace : ℕ) (full : Option LineError)
    → allocation_fault nodes trace full ≡ None → (nat_lt (length nodes) trace ≡ false) × (full ≡ None)
good-allocation nodes trace full none = by (nat_lt (length nodes) trace) refl none
  where
    by : (b : Bool) → nat_lt (length nodes) trace ≡ b → cond {A = Option LineError} b (Some UnknownTrace) full ≡ None
        → (nat_lt (length nodes) trace ≡ false) × (full ≡ None)
    by true is none = absurd (cc)
    by false is none = (is, none)

-- tables stay so where what a line says has no fault
pub few-after : (symbols : List Symbol) (version : Option ℕ) (tables : RawTables) (said : Content) → AreFew tables
    → content_fault symbols version tables said ≡ None → AreFew (tables_after symbols tables said)
unfolding content_fault tables_after
few-after symbols version tables (node_line ip parent) few none =
    few-full (tables_after symbols tables (node_line ip parent))
    (good-node tables.nodes (ip_frames (known_with tables.known (new_call symbols tables ip)) ip) parent
    (full_fault (tables_after symbols tables (node_line ip parent))) none).has_room
few-after symbols version tables (raw_allocation_line size trace ptr) few none =
    few-full (tables_after symbols tables (raw_allocation_line size trace ptr))
    (good-allocation tables.nodes trace
    (full_fault (tables_after symbols tables (raw_allocation_line size trace ptr))) none).1
few-after symbols version tables said few none =
    record {
      names_few = few.names_few;
      known_few = few.known_few;
      nodes_few = few.nodes_few;
      infos_few = few.infos_few;
    }

-- a line without a fault
pub record IsGoodLine (symbols : List Symbol) (version : Option ℕ) (tables : RawTables) (line : List ℕ) : Type 0 where
  pub said : Content
  pub may_stand : (is_some version || may_stand_first line) ≡ true
  pub read : reading Raw (unwrap_or version 1) line ≡ Ok said
  pub no_fault : content_fault symbols version tables said ≡ None

pub good-line : (symbols : List Symbol) (version : Option ℕ) (tables : RawTables) (line : List ℕ)
    → fault_in symbols version tables line ≡ None → IsGoodLine symbols version tables line
good-line symbols version tables line none = by (is_some version || may_stand_first line) refl none
  where
    of : (r : Result Content Malformed) → reading Raw (unwrap_or version 1) line ≡ r
        → (is_some version || may_stand_first line) ≡ true → reading_fault symbols version tables r ≡ None
        → IsGoodLine symbols version tables line
    of (Ok said) is may none = record { said = said; may_stand = may; read = is; no_fault = none }
    of (Err fault) is may none = absurd (cc)

    by : (b : Bool) → (is_some version || may_stand_first line) ≡ b
        → cond {A = Option LineError} b (reading_fault symbols version tables (reading Raw (unwrap_or version 1) line))
        (Some NoVersion)
        ≡ None
        → IsGoodLine symbols version tables line
    by true is none = of (reading Raw (unwrap_or version 1) line) refl is none
    by false is none = absurd (cc)

-- what a line that is passed on says in both forms
abbrev pub IsPassed : Content → Type 0
IsPassed (version_line heaptrack file) = ⊥
IsPassed (string_line bytes) = ⊥
IsPassed clear_line = ⊥
IsPassed (module_line name start ranges) = ⊥
IsPassed (instruction_line ip module_string frames) = ⊥
IsPassed (node_line ip parent) = ⊥
IsPassed (info_line size trace) = ⊥
IsPassed (allocation_line info) = ⊥
IsPassed (free_line info) = ⊥
IsPassed (raw_allocation_line size trace ptr) = ⊥
IsPassed (raw_free_line ptr) = ⊥
IsPassed _ = Unit {0}

pub passed-reads : (v : ℕ) (line : List ℕ) (said : Content) → IsPassed said → Reads Raw v line said
    → Reads Interpreted v line said
passed-reads v line (version_line heaptrack file) passed r = absurd passed
passed-reads v line (string_line bytes) passed r = absurd passed
passed-reads v line clear_line passed r = absurd passed
passed-reads v line (module_line name start ranges) passed r = absurd passed
passed-reads v line (instruction_line ip module_string frames) passed r = absurd passed
passed-reads v line (node_line ip parent) passed r = absurd passed
passed-reads v line (info_line size trace) passed r = absurd passed
passed-reads v line (allocation_line info) passed r = absurd passed
passed-reads v line (free_line info) passed r = absurd passed
passed-reads v line (raw_allocation_line size trace ptr) passed r = absurd passed
passed-reads v line (raw_free_line ptr) passed r = absurd passed
passed-reads v line said passed r = r

pub read-of : (v : ℕ) (line : List ℕ) (said : Content) → reading Raw v line ≡ Ok said → Reads Raw v line said
read-of v line said is =
    subst (λ (r : Result Content Malformed). MatchResult r (λ said. Reads Raw v line said)
    (λ fault. Refuses Raw v line fault)) is (reading-sides
    Raw v line)

-- a line of a kind that doesn't stand before the version line
kind-first : (k : ℕ) (line : List ℕ) → IsOfKind k line → may_stand_first line ≡ (k == 35 || k == 118)
kind-first k [] kind = absurd kind
kind-first k (b ∷ []) kind = ap (λ (n : ℕ). n == 35 || n == 118) kind
kind-first k (b ∷ c ∷ rest) kind = ap (λ (n : ℕ). n == 35 || n == 118) kind.0

pub has-version : (k : ℕ) (version : Option ℕ) (line : List ℕ) → IsOfKind k line → (k == 35 || k == 118) ≡ false
    → (is_some version || may_stand_first line) ≡ true → (v : ℕ) × (version ≡ Some v)
has-version k None line kind other may = absurd (true≢false (sym may ∙ (kind-first k line kind ∙ other)))
has-version k (Some v) line kind other may = (v, refl)

-- the interpreted lines so far say what the raw lines so far give
pub record Stage (symbols : List Symbol) (lines out : List (List ℕ)) : Type 0 where
  pub version : trace.version_of out ≡ version_of lines
  pub said : trace.contents out ≡ interpreted_said symbols (contents lines)
  pub first_out : is_some (version_of lines) ≡ false → AllByRecursion (λ line. may_stand_first line ≡ true) out
  pub first : is_some (version_of lines) ≡ false → AllByRecursion (λ line. may_stand_first line ≡ true) lines
  pub raw : AllByRecursion IsRaw (contents lines)
  pub few : AreFew (tables_of symbols (contents lines))
  pub modules_short : AllByRecursion (λ (m : LoadedModule). length m.name < 2 ^ 64) (modules (contents lines))

-- more of them say more
record SaysMore (symbols : List Symbol) (lines out : List (List ℕ)) (said : Content) (more : List (List ℕ)) : Type 0
  where
    version : trace.version_of (out ++ more) ≡ option_or (version_of lines) (version_in said)
    told : trace.contents (out ++ more) ≡ trace.contents out ++ told_after symbols (contents lines) said
    first : is_some (option_or (version_of lines) (version_in said)) ≡ false
        → AllByRecursion (λ line. may_stand_first line ≡ true) (out ++ more)

modules-short : (loaded : List LoadedModule) (v : ℕ) (said : Content)
    → AllByRecursion (λ (m : LoadedModule). length m.name < 2 ^ 64) loaded → IsWritable Raw v said
    → AllByRecursion (λ (m : LoadedModule). length m.name < 2 ^ 64) (modules_after loaded said)
modules-short loaded v clear_line all writable = tt
modules-short loaded v (module_line name start ranges) all writable =
    all-push (λ (m : LoadedModule). length m.name < 2 ^ 64) loaded _ all writable.0
modules-short loaded v said all writable = all

next-stage : (symbols : List Symbol) (lines out : List (List ℕ)) (line : List ℕ) (more : List (List ℕ))
    (good : IsGoodLine symbols (version_of lines) (tables_of symbols (contents lines)) line)
    → length line < 2 ^ 32
    → Stage symbols lines out → SaysMore symbols lines out good.said more
    → Stage symbols (lines ++ line ∷ []) (out ++ more)
next-stage symbols lines out line more good short stage says =
    let said = good.said in
    let reads = reads-by Raw (version_of lines) lines line said refl stage.first good.may_stand good.read in
    let writable =
    Reads-IsWritable Raw (file_version lines) line said short (read-of (file_version lines) line said good.read) in
    record {
      version = says.version ∙ sym reads.version;
      said =
          says.told
          ∙ (ap (λ (l : List Content). l ++ told_after symbols (contents lines) said) stage.said
          ∙ (sym (interpreted-push symbols (contents lines) said)
          ∙ ap (λ (l : List Content). interpreted_said symbols l) (sym reads.said_is)));
      first_out = λ none. says.first (ap (λ (o : Option ℕ). is_some o) (sym reads.version) ∙ none);
      first = reads.first;
      raw =
          subst (λ (l : List Content). AllByRecursion IsRaw l) (sym reads.said_is)
          (all-push IsRaw (contents lines) said stage.raw (raw-writable (file_version lines) said writable));
      few =
          subst (λ (l : List Content). AreFew (tables_of symbols l)) (sym reads.said_is)
          (subst (λ (t : RawTables). AreFew t) (sym (tables-push symbols (contents lines) said))
          (few-after symbols (version_of lines) (tables_of symbols (contents lines)) said stage.few good.no_fault));
      modules_short =
          subst (λ (l : List Content). AllByRecursion (λ (m : LoadedModule). length m.name < 2 ^ 64) (modules l))
          (sym reads.said_is)
          (subst (λ (l : List LoadedModule). AllByRecursion (λ (m : LoadedModule). length m.name < 2 ^ 64) l)
          (sym (modules-push (contents lines) said))
          (modules-short (modules (contents lines)) (file_version lines) said stage.modules_short writable));
    }

-- no more lines
says-none : (symbols : List Symbol) (lines out : List (List ℕ)) (said : Content) → Stage symbols lines out
    → version_in said ≡ None → told_after symbols (contents lines) said ≡ [] → SaysMore symbols lines out said []
says-none symbols lines out said stage none told =
    let same : option_or (version_of lines) (version_in said) ≡ version_of lines =
    ap (λ (o : Option ℕ). option_or (version_of lines) o) none ∙ or-none (version_of lines) in
    record {
      version = ap (λ (l : List (List ℕ)). trace.version_of l) (append-nil out) ∙ (stage.version ∙ sym same);
      told =
          ap (λ (l : List (List ℕ)). trace.contents l) (append-nil out)
          ∙ sym (ap (λ (l : List Content). trace.contents out ++ l) told ∙ append-nil (trace.contents out));
      first =
          λ without. subst (λ (l : List (List ℕ)). AllByRecursion (λ line. may_stand_first line ≡ true) l)
          (sym (append-nil out)) (stage.first_out (sym (ap (λ (o : Option ℕ). is_some o) same) ∙ without));
    }

-- one line that says it
says-one : (symbols : List Symbol) (lines out : List (List ℕ)) (said : Content) (line : List ℕ)
    → Stage symbols lines out → (is_some (version_of lines) || may_stand_first line) ≡ true
    → reading Interpreted (file_version lines) line ≡ Ok said
    → told_after symbols (contents lines) said ≡ said ∷ [] → SaysMore symbols lines out said (line ∷ [])
says-one symbols lines out said line stage may read told =
    let reads = reads-by Interpreted (version_of lines) out line said (sym stage.version) stage.first_out may read in
    let version = reads.version ∙ ap (λ (o : Option ℕ). option_or o (version_in said)) stage.version in
    record {
      version = version;
      told = reads.said_is ∙ ap (λ (l : List Content). trace.contents out ++ l) (sym told);
      first = λ without. reads.first (ap (λ (o : Option ℕ). is_some o) version ∙ without);
    }

pub no-faults : (o : Option LineError) (rest : List LineError) → option_to_list o ++ rest ≡ []
    → (o ≡ None) × (rest ≡ [])
no-faults None rest none = (refl, none)
no-faults (Some error) rest none = absurd (cc)

module _ (back : (n : ℕ) → n < 2 ^ 64 → parsed_hex (hexadecimal n) ≡ Some n) where
  -- several lines behind the version line, written from what they say
  block-written : (v : ℕ) (out : List (List ℕ)) (cs : List Content) → trace.version_of out ≡ Some v
      → AllByRecursion (IsWritable Interpreted v) cs
      → (trace.version_of (out ++ map (written v) cs) ≡ Some v)
      × (trace.contents (out ++ map (written v) cs) ≡ trace.contents out ++ cs)
  block-written v out [] is all = (
    ap (λ (l : List (List ℕ)). trace.version_of l) (append-nil out) ∙ is,
    ap (λ (l : List (List ℕ)). trace.contents l) (append-nil out) ∙ sym (append-nil (trace.contents out)),
  )
  block-written v out (c ∷ cs) is all =
      let line = written v c in
      let reads = reads-later Interpreted v out line c is (reading-written back Interpreted v c all.0) in
      let rest =
      block-written v (out ++ line ∷ []) cs (reads.version ∙ ap (λ (o : Option ℕ). option_or o (version_in c)) is)
      all.1 in
      let lines = append_assoc out (line ∷ []) (map (written v) cs) in (
        ap (λ (l : List (List ℕ)). trace.version_of l) (sym lines) ∙ rest.0,
        ap (λ (l : List (List ℕ)). trace.contents l) (sym lines)
            ∙ (rest.1
            ∙ (ap (λ (l : List Content). l ++ cs) reads.said_is ∙ append_assoc (trace.contents out) (c ∷ []) cs)),
      )

  says-block : (symbols : List Symbol) (lines out : List (List ℕ)) (said : Content) (v : ℕ) (cs : List Content)
      → Stage symbols lines out → version_of lines ≡ Some v → told_after symbols (contents lines) said ≡ cs
      → AllByRecursion (IsWritable Interpreted v) cs
      → SaysMore symbols lines out said (map (written (file_version lines)) cs)
  says-block symbols lines out said v cs stage is told all =
      let version : file_version lines ≡ v = ap (λ (o : Option ℕ). unwrap_or o 1) is in
      let block = block-written v out cs (stage.version ∙ is) all in
      let some : option_or (version_of lines) (version_in said) ≡ Some v =
      ap (λ (o : Option ℕ). option_or o (version_in said)) is in
      subst (λ (n : ℕ). SaysMore symbols lines out said (map (written n) cs)) (sym version)
      (record {
        version = block.0 ∙ sym some;
        told = block.1 ∙ ap (λ (l : List Content). trace.contents out ++ l) (sym told);
        first = λ without. absurd (false≢true (sym without ∙ ap (λ (o : Option ℕ). is_some o) some));
      })

  -- the version line
  says-version : (symbols : List Symbol) (lines out : List (List ℕ)) (heaptrack file : ℕ) → Stage symbols lines out
      → is_some (version_of lines) ≡ false → IsWritable Raw (file_version lines) (version_line heaptrack file)
      → SaysMore symbols lines out (version_line heaptrack file)
      (written (file_version lines) (version_line heaptrack file) ∷ [])
  says-version symbols lines out heaptrack file stage none writable =
      says-one symbols lines out (version_line heaptrack file)
      (written (file_version lines) (version_line heaptrack file)) stage
      (or-true (is_some (version_of lines)))
      (reading-written back Interpreted (file_version lines) (version_line heaptrack file) writable) refl
    where
      or-true : (b : Bool) → (b || true) ≡ true
      or-true true = refl
      or-true false = refl

  -- each kind of line
  says : (symbols : List Symbol) (lines out : List (List ℕ)) (line : List ℕ) (said : Content)
      → AllByRecursion HasShortTexts symbols → Stage symbols lines out
      → (is_some (version_of lines) || may_stand_first line) ≡ true → Reads Raw (file_version lines) line said
      → IsRaw said → IsWritable Raw (file_version lines) said
      → content_fault symbols (version_of lines) (tables_of symbols (contents lines)) said ≡ None
      → SaysMore symbols lines out said (lines_after symbols (file_version lines) (contents lines) line said)
  unfolding content_fault
  says symbols lines out line (string_line bytes) texts stage may reads raw writable good = absurd raw
  says symbols lines out line (instruction_line ip module_string frames) texts stage may reads raw writable
      good = absurd raw
  says symbols lines out line (info_line size trace) texts stage may reads raw writable good = absurd raw
  says symbols lines out line (allocation_line info) texts stage may reads raw writable good = absurd raw
  says symbols lines out line (free_line info) texts stage may reads raw writable good = absurd raw
  says symbols lines out line (version_line heaptrack file) texts stage may reads raw writable good =
      says-version symbols lines out heaptrack file stage (none (is_some (version_of lines)) good) writable
    where
      none : (b : Bool) → cond {A = Option LineError} b (Some SecondVersion) None ≡ None → b ≡ false
      none true is = absurd (cc)
      none false is = refl
  says symbols lines out line clear_line texts stage may reads raw writable good =
      says-none symbols lines out clear_line stage refl refl
  says symbols lines out line (module_line name start ranges) texts stage may reads raw writable good =
      says-none symbols lines out (module_line name start ranges) stage refl refl
  says symbols lines out line (node_line ip parent) texts stage may reads raw writable good =
      let c = node_line ip parent in
      let v = has-version 116 (version_of lines) line reads.0 refl may in
      let few =
      subst (λ (t : RawTables). AreFew t) (sym (tables-push symbols (contents lines) c))
      (few-after symbols (version_of lines) (tables_of symbols (contents lines)) c stage.few good) in
      says-block symbols lines out c v.0 (told_after symbols (contents lines) c) stage v.1 refl
      (node-writable v.0 symbols (tables_of symbols (contents lines)) (names symbols (contents lines ++ c ∷ []))
      (known symbols (contents lines ++ c ∷ [])) ip parent texts stage.modules_short
      (names-push symbols (contents lines) c) few.names_few few.known_few writable)
  says symbols lines out line (raw_allocation_line size trace ptr) texts stage may reads raw writable good =
      let c = raw_allocation_line size trace ptr in
      let v = has-version 43 (version_of lines) line reads.0 refl may in
      let few =
      subst (λ (t : RawTables). AreFew t) (sym (tables-push symbols (contents lines) c))
      (few-after symbols (version_of lines) (tables_of symbols (contents lines)) c stage.few good) in
      says-block symbols lines out c v.0 (told_after symbols (contents lines) c) stage v.1 refl
      (allocation-writable v.0 (infos (contents lines)) (infos (contents lines ++ c ∷ [])) size trace
      (infos-push (contents lines) c) few.infos_few writable.0.0 writable.0.1.0)
  says symbols lines out line (raw_free_line ptr) texts stage may reads raw writable good =
      let c = raw_free_line ptr in
      let v = has-version 45 (version_of lines) line reads.0 refl may in
      says-block symbols lines out c v.0 (told_after symbols (contents lines) c) stage v.1 refl
      (free-writable v.0 (infos (contents lines)) (held (contents lines) ptr) stage.few.infos_few)
  says symbols lines out line said texts stage may reads raw writable good =
      says-one symbols lines out said line stage may
      (reading-item Interpreted (file_version lines) line said (passed-reads (file_version lines) line said tt reads))
      refl

  pub stage-step : (symbols : List Symbol) (lines out : List (List ℕ)) (line : List ℕ)
      → AllByRecursion HasShortTexts symbols → length line < 2 ^ 32 → raw_fault symbols lines line ≡ None
      → Stage symbols lines out
      → Stage symbols (lines ++ line ∷ []) (out ++ interpreted_lines symbols lines line)
  unfolding raw_fault interpreted_lines
  stage-step symbols lines out line texts short none stage =
      let good = good-line symbols (version_of lines) (tables_of symbols (contents lines)) line none in
      let reads = read-of (file_version lines) line good.said good.read in
      let writable = Reads-IsWritable Raw (file_version lines) line good.said short reads in
      let more =
      says symbols lines out line good.said texts stage good.may_stand reads
      (raw-writable (file_version lines) good.said writable) writable good.no_fault in
      subst (λ (r : Result Content Malformed). Stage symbols (lines ++ line ∷ [])
      (out ++ lines_read symbols (file_version lines) (contents lines) line r)) (sym
      good.read)
      (next-stage symbols lines out line (lines_after symbols (file_version lines) (contents lines) line good.said) good
      short stage more)

  stages : (symbols : List Symbol) (earlier lines out : List (List ℕ)) → AllByRecursion HasShortTexts symbols
      → AllByRecursion (λ line. length line < 2 ^ 32) lines → gathered (raw_fault symbols) earlier lines ≡ []
      → Stage symbols earlier out
      → Stage symbols (earlier ++ lines) (out ++ lines_from symbols earlier lines)
  stages symbols earlier [] out texts short none stage =
      subst (λ (l : List (List ℕ)). Stage symbols l (out ++ [])) (sym (append-nil earlier))
      (subst (λ (l : List (List ℕ)). Stage symbols earlier l) (sym (append-nil out)) stage)
  stages symbols earlier (line ∷ lines) out texts short none stage =
      let parts =
      no-faults (raw_fault symbols earlier line) (gathered (raw_fault symbols) (earlier ++ line ∷ []) lines) none in
      let rest =
      stages symbols (earlier ++ line ∷ []) lines (out ++ interpreted_lines symbols earlier line) texts short.1
      parts.1 (stage-step symbols earlier out line texts short.0 parts.0 stage) in
      subst (λ (l : List (List ℕ)). Stage symbols l (out ++ lines_from symbols earlier (line ∷ lines)))
      (append_assoc earlier (line ∷ []) lines)
      (subst (λ (l : List (List ℕ)). Stage symbols ((earlier ++ line ∷ []) ++ lines) l)
      (append_assoc out (interpreted_lines symbols earlier line) (lines_from symbols (earlier ++ line ∷ []) lines))
      rest)

  pub first-stage : (symbols : List Symbol) → Stage symbols [] []
  unfolding interpreted_said names known nodes infos instructions modules
  first-stage symbols = record {
    version = refl;
    said = refl;
    first_out = λ none. tt;
    first = λ none. tt;
    raw = tt;
    few = record { names_few = omega arith; known_few = omega arith; nodes_few = omega arith; infos_few = omega arith };
    modules_short = tt;
  }

  pub whole-stage : (symbols : List Symbol) (lines : List (List ℕ)) → AreInterpretable symbols lines
      → Stage symbols lines (interpreted_trace symbols lines)
  unfolding interpreted_trace
  whole-stage symbols lines are = stages symbols [] lines [] are.texts are.short are.no_fault (first-stage symbols)

  pub version-again : (symbols : List Symbol) (lines : List (List ℕ)) → AreInterpretable symbols lines
      → trace.version_of (interpreted_trace symbols lines) ≡ version_of lines
  version-again symbols lines are = (whole-stage symbols lines are).version

  pub said-again : (symbols : List Symbol) (lines : List (List ℕ)) → AreInterpretable symbols lines
      → trace.contents (interpreted_trace symbols lines) ≡ interpreted_said symbols (contents lines)
  said-again symbols lines are = (whole-stage symbols lines are).said

  pub events-again : (symbols : List Symbol) (lines : List (List ℕ)) → AreInterpretable symbols lines
      → events (interpreted_trace symbols lines) ≡ interpreted_events symbols (contents lines)
  unfolding interpreted_events events_said
  events-again symbols lines are = ap (λ (l : List Content). events_said l) (said-again symbols lines are)

  pub ledger-again : (symbols : List Symbol) (lines : List (List ℕ)) → AreInterpretable symbols lines
      → KeepsLedger symbols (contents lines)
  ledger-again symbols lines are = keeps-ledger symbols (contents lines) (whole-stage symbols lines are).raw
