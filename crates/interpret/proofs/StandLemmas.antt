-- That an interpreter stands for one line more.
use Rattle.std.proofs.Common.{◌≡◌, ◌≢◌, ℕ, true, List, [], ◌∷◌, ◌++◌, Option, None, Result, Ok, refl, sym, ap, ◌∙◌}
use Rattle.std.proofs.Common.{append-nil, subst}
use Rattle.std.specs.Prelude.{◌||◌, is_some, unwrap_or}
use Rattle.std.specs.Option.{option_or, option_to_list}
use Rattle.std.specs.List.{AllByRecursion}
use Rattle.ht_lines.specs.declared.item.Malformed.{Malformed}
use Rattle.ht_lines.specs.Content.{Content, string_line, instruction_line, info_line, allocation_line, free_line}
use Rattle.ht_lines.specs.Content.{raw_free_line}
use Rattle.ht_lines.specs.Written.{IsWritable}
use Rattle.ht_lines.specs.declared.item.Form.TheVariants.{Raw}
use Rattle.ht_lines.specs.Reading.{reading}
use Rattle.ht_trace.specs.FormContents.{version_in}
use Rattle.ht_trace.proofs.Laws.{Reads, all-push, gathered-push, reads-by}
use Rattle.ht_trace.specs.Gathered.{gathered}
use Rattle.ht_trace.specs.declared.error.LineError.{LineError}
use Rattle.ht_trace.specs.declared.error.LineError.TheVariants.{NoMemory, TooMany}
use Rattle.ht_trace.specs.LineFault.{Tells}
use Rattle.ht_trace.specs.VersionLines.{may_stand_first}
use Rattle.interpret.specs.declared.infos.AllocationInfo.{AllocationInfo}
use Rattle.interpret.specs.FirstAppearances.{with_all}
use Rattle.interpret.specs.Interpreted.{interpreted_lines, lines_for, lines_read, text_of}
use Rattle.interpret.specs.InterpreterState.{InterpreterState, PointsAs, StandsFor, failed_with}
use Rattle.interpret.specs.NextLine.{AddsLine, RefusesLine}
use Rattle.interpret.specs.RawBlocks.{freed_by, freed_info, held}
use Rattle.interpret.specs.RawContents.{IsRaw, contents, file_version, version_of}
use Rattle.interpret.specs.RawFault.{content_fault, fault_in, raw_fault}
use Rattle.interpret.specs.Modules.{modules}
use Rattle.interpret.specs.RawLedger.{KeepsLedger}
use Rattle.interpret.specs.RawTables.{RawTables, info_in, infos, instructions, known, names, nodes, same_info}
use Rattle.interpret.specs.RawTables.{tables_after, tables_of}
use Rattle.interpret.specs.SymbolLine.{Symbol}
use Rattle.interpret.specs.TakesLine.{HasRead, HasRefused, Takes, freed_at}
use Rattle.interpret.proofs.GrowthLemmas.{infos-push, tables-push}
use Rattle.interpret.proofs.KeepLemmas.{keeps-ledger}
use Rattle.interpret.proofs.PointerLemmas.{points-push}

reads-next : (old : InterpreterState) (symbols : List Symbol) (lines : List (List ℕ)) (line : List ℕ) (said : Content)
    → StandsFor old symbols lines → (is_some old.version || may_stand_first line) ≡ true
    → reading Raw (unwrap_or old.version 1) line ≡ Ok said
    → Reads Raw lines line said
reads-next old symbols lines line said stands may read =
    reads-by Raw old.version lines line said stands.version stands.first may read

-- the fault of the line after the lines is that beside the state
pub fault-is : (old : InterpreterState) (symbols : List Symbol) (lines : List (List ℕ)) (line : List ℕ)
    → StandsFor old symbols lines → raw_fault symbols lines line ≡ fault_in old.symbols old.version old.tables line
unfolding raw_fault
fault-is old symbols lines line stands =
    ap (λ (s : List Symbol). fault_in s (version_of lines) (tables_of symbols (contents lines)) line)
    (sym stands.symbols_are)
    ∙ ap (λ (v : Option ℕ). fault_in old.symbols v (tables_of symbols (contents lines)) line) (sym stands.version)
    ∙ ap (λ (t : RawTables). fault_in old.symbols old.version t line) (sym stands.tables)

fault-told : (old new : InterpreterState) (line : List ℕ) (error : LineError) → HasRefused old new line error
    → (symbols : List Symbol) (lines : List (List ℕ)) → StandsFor old symbols lines
    → Tells error (raw_fault symbols lines line)
fault-told old new line error refused symbols lines stands =
    λ other. fault-is old symbols lines line stands ∙ refused.fault other

-- a line that was taken has none
no-fault : (old new : InterpreterState) (line before after : List ℕ) → HasRead old new line before after
    → (symbols : List Symbol) (lines : List (List ℕ)) → StandsFor old symbols lines
    → raw_fault symbols lines line ≡ None
no-fault old new line before after read symbols lines stands =
    let here : fault_in old.symbols old.version old.tables line
    ≡ content_fault old.symbols old.version old.tables read.said = rw (read.may_stand, read.read) refl in
    fault-is old symbols lines line stands ∙ here ∙ read.takes.no_fault

-- the tables with what the line says
tables-after : (old new : InterpreterState) (line before after : List ℕ) (said : Content) (symbols : List Symbol)
    (lines : List (List ℕ))
    → Takes old new line said before after → StandsFor old symbols lines
    → new.tables ≡ tables_of symbols (contents lines ++ said ∷ [])
tables-after old new line before after said symbols lines takes stands =
    takes.tables ∙ ap (λ (s : List Symbol). tables_after s old.tables said) stands.symbols_are
    ∙ ap (λ (t : RawTables). tables_after symbols t said) stands.tables
    ∙ sym (tables-push symbols (contents lines) said)

-- the info of the block that a line frees
freed-is : (pointers : List (ℕ × ℕ)) (infos : List AllocationInfo) (earlier : List Content) (said : Content)
    → PointsAs pointers infos earlier → freed_at pointers said ≡ freed_info infos (freed_by earlier said)
freed-is pointers infos earlier (raw_free_line ptr) points = points.info ptr
freed-is pointers infos earlier said points = refl

-- the interpreter stands for one line more
stands-push : (old new : InterpreterState) (line before after : List ℕ) → HasRead old new line before after
    → (symbols : List Symbol) (lines : List (List ℕ)) → StandsFor old symbols lines
    → StandsFor new symbols (lines ++ line ∷ [])
stands-push old new line before after read symbols lines stands =
    let said = read.said in
    let reads = reads-next old symbols lines line said stands read.may_stand read.read in
    let version =
    read.takes.version ∙ ap (λ (v : Option ℕ). option_or v (version_in said)) stands.version ∙ sym reads.version in
    let grown = tables-after old new line before after said symbols lines read.takes stands in
    let new_infos =
    ap (λ (t : RawTables). t.infos) grown ∙ infos-push (contents lines) said
    ∙ ap (λ (l : List AllocationInfo). with_all same_info l (option_to_list (info_in said)))
    (sym (ap (λ (t : RawTables). t.infos) stands.tables)) in
    record {
      symbols_are = read.takes.symbols ∙ stands.symbols_are;
      version = version;
      tables = grown ∙ ap (λ (l : List Content). tables_of symbols l) (sym reads.said_is);
      pointers =
          subst (λ (l : List Content). PointsAs new.pointers new.tables.infos l) (sym reads.said_is)
          (points-push old.pointers new.pointers old.tables.infos new.tables.infos (contents lines) said stands.pointers
          new_infos read.takes.pointers);
      not_failed = read.takes.failed ∙ stands.not_failed;
      no_fault =
          gathered-push (raw_fault symbols) [] lines line
          ∙ (ap (λ (found : Option LineError). gathered (raw_fault symbols) [] lines ++ option_to_list found)
          (no-fault old new line before after read symbols lines stands)
          ∙ (append-nil (gathered (raw_fault symbols) [] lines) ∙ stands.no_fault));
      raw =
          subst (λ (l : List Content). AllByRecursion IsRaw l) (sym reads.said_is)
          (all-push IsRaw (contents lines) said stands.raw read.raw);
      first = λ none. reads.first (ap (λ (v : Option ℕ). is_some v) (sym version) ∙ none);
    }

-- and its lines are written
lines-push : (old new : InterpreterState) (line before after : List ℕ) → HasRead old new line before after
    → (symbols : List Symbol) (lines : List (List ℕ)) → StandsFor old symbols lines
    → after ≡ before ++ text_of (interpreted_lines symbols lines line)
unfolding interpreted_lines
lines-push old new line before after read symbols lines stands =
    let said = read.said in
    let version : unwrap_or old.version 1 ≡ file_version lines = ap (λ (v : Option ℕ). unwrap_or v 1) stands.version in
    let grown = tables-after old new line before after said symbols lines read.takes stands in
    let freed : freed_at old.pointers said
    ≡ freed_info (tables_of symbols (contents lines)).infos (freed_by (contents lines) said) =
    freed-is old.pointers old.tables.infos (contents lines) said stands.pointers
    ∙ ap (λ (t : RawTables). freed_info t.infos (freed_by (contents lines) said)) stands.tables in
    let same : lines_for old.symbols (unwrap_or old.version 1) old.tables new.tables (freed_at old.pointers said) line
    said
    ≡ lines_for symbols (file_version lines) (tables_of symbols (contents lines))
    (tables_of symbols (contents lines ++ said ∷ []))
    (freed_info (tables_of symbols (contents lines)).infos (freed_by (contents lines) said)) line said =
    ap (λ (s : List Symbol). lines_for s (unwrap_or old.version 1) old.tables new.tables (freed_at old.pointers said)
    line said) stands.symbols_are
    ∙ ap (λ (v : ℕ). lines_for symbols v old.tables new.tables (freed_at old.pointers said) line said) version
    ∙ ap (λ (t : RawTables). lines_for symbols (file_version lines) t new.tables (freed_at old.pointers said) line said)
    stands.tables
    ∙ ap (λ (t : RawTables). lines_for symbols (file_version lines) (tables_of symbols (contents lines)) t
    (freed_at old.pointers said) line said) grown
    ∙ ap (λ (o : Option ℕ). lines_for symbols (file_version lines) (tables_of symbols (contents lines))
    (tables_of symbols (contents lines ++ said ∷ [])) o line said) freed in
    let spoken : reading Raw (file_version lines) line ≡ Ok said =
    ap (λ (v : ℕ). reading Raw v line) (sym version) ∙ read.read in
    read.takes.lines ∙ ap (λ (l : List (List ℕ)). before ++ text_of l) same
    ∙ ap (λ (r : Result Content Malformed). before
    ++ text_of (lines_read symbols (file_version lines) (contents lines) line r)) (sym
    spoken)

-- an interpreter of no lines
pub stands-new : (symbols : List Symbol)
    → StandsFor
    (record {
      symbols = symbols;
      version = None;
      tables = record { loaded = []; names = []; known = []; nodes = []; infos = [] };
      pointers = [];
      failed = None;
    })
    symbols []
unfolding modules names known instructions nodes infos held
stands-new symbols = record {
  symbols_are = refl;
  version = refl;
  tables = refl;
  pointers = record { info = λ ptr. refl; within = λ ptr. tt };
  not_failed = refl;
  no_fault = refl;
  raw = tt;
  first = λ none. tt;
}

-- what can be written of a raw trace is raw
pub raw-writable : (version : ℕ) (said : Content) → IsWritable Raw version said → IsRaw said
raw-writable version (string_line bytes) writable = absurd (cc (writable.1))
raw-writable version (instruction_line ip module_string frames) writable = absurd (cc (writable.2))
raw-writable version (info_line size trace) writable = absurd (cc (writable.1))
raw-writable version (allocation_line info) writable = absurd (cc (writable.1))
raw-writable version (free_line info) writable = absurd (cc (writable.1))
raw-writable version _ writable = tt

-- the ledger of what is written is that of what was recorded, with one line more
ledger-push : (old new : InterpreterState) (line before after : List ℕ) → HasRead old new line before after
    → (symbols : List Symbol) (lines : List (List ℕ)) → StandsFor old symbols lines
    → KeepsLedger symbols (contents (lines ++ line ∷ []))
ledger-push old new line before after read symbols lines stands =
    keeps-ledger symbols (contents (lines ++ line ∷ []))
    (stands-push old new line before after read symbols lines stands).raw

-- all that a line does which was read
pub adds-line : (old new : InterpreterState) (line before after : List ℕ) → HasRead old new line before after
    → AddsLine old new line before after
adds-line old new line before after read = record {
  no_fault = no-fault old new line before after read;
  lines = lines-push old new line before after read;
  stands = stands-push old new line before after read;
  ledger = ledger-push old new line before after read;
}

-- a fault that doesn't stay leaves none behind
failed-same : (failed : Option LineError) (error : LineError) → error ≢ NoMemory → error ≢ TooMany
    → failed_with failed error ≡ failed
failed-same failed NoMemory one two = absurd (one refl)
failed-same failed TooMany one two = absurd (two refl)
failed-same failed _ one two = refl

-- and one that was refused, whose fault is kept
pub refuses-line : (old mid new : InterpreterState) (line : List ℕ) (error : LineError) → HasRefused old mid line error
    → new ≡ record mid { failed = failed_with mid.failed error } → RefusesLine old new line error
refuses-line old mid new line error refused kept = record {
  fault = fault-told old mid line error refused;
  no_memory = λ is. ap (λ (s : InterpreterState). s.failed) kept ∙ ap (λ (e : LineError). failed_with mid.failed e) is;
  too_many = λ is. ap (λ (s : InterpreterState). s.failed) kept ∙ ap (λ (e : LineError). failed_with mid.failed e) is;
  unchanged =
      λ one two. kept
      ∙ (ap (λ (f : Option LineError). record mid { failed = f }) (failed-same mid.failed error one two)
      ∙ refused.unchanged one two);
}
