-- The interpreted lines of a raw trace without a fault have none as an interpreted trace.
use Rattle.std.proofs.Common.{◌≡◌, ℕ, ◌^◌, ◌<◌, ◌≤◌, true, cond, ◌||◌, List, [], ◌∷◌, ◌++◌, length, map, Option, Some}
use Rattle.std.proofs.Common.{None, Result, Ok, refl, sym, ap, ◌∙◌, arith, append_assoc, append-nil, length-append}
use Rattle.std.proofs.Common.{subst}
use Rattle.std.specs.Prelude.{is_some, unwrap_or}
use Rattle.std.specs.List.{AllByRecursion}
use Rattle.std.specs.Option.{option_or, option_to_list}
use Rattle.hp_num.specs.Hexadecimal.{hexadecimal}
use Rattle.hp_num.specs.ParsedHex.{parsed_hex}
use Rattle.ht_lines.specs.declared.item.Malformed.{Malformed}
use Rattle.ht_lines.specs.declared.item.Form.TheVariants.{Raw, Interpreted}
use Rattle.ht_lines.specs.Content.{Content, version_line, string_line, clear_line, module_line, instruction_line}
use Rattle.ht_lines.specs.Content.{node_line, info_line, allocation_line, free_line, raw_allocation_line, raw_free_line}
use Rattle.ht_lines.specs.Content.{suppression_line}
use Rattle.ht_lines.specs.Reading.{reading}
use Rattle.ht_lines.specs.Reads.{Reads}
use Rattle.ht_lines.specs.Written.{IsWritable, written}
use Rattle.ht_lines.proofs.Laws.{Reads-IsWritable, reading-item, reading-written}
use Rattle.ht_trace.specs.declared.error.LineError.{LineError}
use Rattle.ht_trace.specs.declared.error.LineError.TheVariants.{NoVersion}
use Rattle.ht_trace.specs.Contents as trace
use Rattle.ht_trace.specs.FormContents.{version_in}
use Rattle.ht_trace.specs.Gathered.{gathered}
use Rattle.ht_trace.specs.LineFault as of_trace
use Rattle.ht_trace.specs.LineFault.{end_fault, line_fault, most_entries}
use Rattle.ht_trace.specs.VersionLines.{may_stand_first}
use Rattle.ht_trace.specs.TableState.{TableState, tables_after}
use Rattle.ht_trace.specs.TraceLists as lists
use Rattle.ht_trace.proofs.Laws as told
use Rattle.ht_trace.proofs.Laws.{gathered-push, no_fault_in}
use Rattle.interpret.specs.Interpreted.{interpreted_lines, lines_after, lines_read}
use Rattle.interpret.specs.InterpretedSaid.{interpreted_said, told_after}
use Rattle.interpret.specs.InterpretedTrace.{AreInterpretable, HasFrames, HasShortTexts, interpreted_trace, lines_from}
use Rattle.interpret.specs.RawBlocks.{held}
use Rattle.interpret.specs.RawContents.{IsRaw, contents, file_version, version_of}
use Rattle.interpret.specs.RawFault as raw_fault_of
use Rattle.interpret.specs.RawFault.{raw_end_fault, raw_fault}
use Rattle.interpret.specs.RawTables.{RawTables, infos, known, names, tables_of}
use Rattle.interpret.specs.SymbolLine.{Symbol}
use Rattle.interpret.proofs.GrowthLemmas.{infos-push, names-push, tables-push}
use Rattle.interpret.proofs.KeepLemmas.{all-hold}
use Rattle.interpret.proofs.ReadAgainLemmas.{AreFew, IsPassed, Stage, few-after, first-stage, good-line, has-version}
use Rattle.interpret.proofs.ReadAgainLemmas.{no-faults, passed-reads, read-of, stage-step, version-again}
use Rattle.interpret.proofs.StandLemmas.{raw-writable}
use Rattle.interpret.proofs.WritableLemmas.{allocation-writable, free-writable, node-writable}
use Rattle.interpret.proofs.GoodLemmas.{AreGood, allocation-good, free-good, node-good, patterns-append, patterns-told}
use Rattle.interpret.proofs.GoodLemmas.{said_tables, suppression-good}

-- tables stay small with a line that has no fault
few-with : (symbols : List Symbol) (version : Option ℕ) (said : List Content) (c : Content)
    → AreFew (tables_of symbols said)
    → raw_fault_of.content_fault symbols version (tables_of symbols said) c ≡ None
    → AreFew (tables_of symbols (said ++ c ∷ []))
few-with symbols version said c few good =
    subst (λ (t : RawTables). AreFew t) (sym (tables-push symbols said c))
    (few-after symbols version (tables_of symbols said) c few good)

first-version : (symbols : List Symbol) (version : Option ℕ) (tables : RawTables) (heaptrack file : ℕ)
    → raw_fault_of.content_fault symbols version tables (version_line heaptrack file) ≡ None → version ≡ None
unfolding raw_fault_of.content_fault
first-version symbols None tables heaptrack file none = refl
first-version symbols (Some v) tables heaptrack file none = absurd (cc)

-- one line more without a fault
line-good : (out : List (List ℕ)) (line : List ℕ) (said : Content) (version : Option ℕ) → trace.version_of out ≡ version
    → (is_some version || may_stand_first line) ≡ true → reading Interpreted (unwrap_or version 1) line ≡ Ok said
    → of_trace.content_fault (said_tables version (trace.contents out)) said ≡ None → gathered line_fault [] out ≡ []
    → gathered line_fault [] (out ++ line ∷ []) ≡ []
line-good out line said version is may read good none =
    let tables : tables_after [] out ≡ said_tables version (trace.contents out) =
    ap (λ (v : Option ℕ). said_tables v (trace.contents out)) is in
    let here : line_fault out line ≡ None =
    ap (λ (t : TableState). of_trace.fault_in t line) tables
    ∙ no_fault_in (said_tables version (trace.contents out)) said line may read good in
    gathered-push line_fault [] out line
    ∙ (ap (λ (o : Option LineError). gathered line_fault [] out ++ option_to_list o) here
    ∙ (append-nil (gathered line_fault [] out) ∙ none))

module _ (back : (n : ℕ) → n < 2 ^ 64 → parsed_hex (hexadecimal n) ≡ Some n) where
  block-good : (v : ℕ) (out : List (List ℕ)) (cs : List Content) → trace.version_of out ≡ Some v
      → AllByRecursion (IsWritable Interpreted v) cs → AreGood (Some v) (trace.contents out) cs
      → gathered line_fault [] out ≡ [] → gathered line_fault [] (out ++ map (written v) cs) ≡ []
  unfolding AreGood
  block-good v out [] is all good none = ap (λ (l : List (List ℕ)). gathered line_fault [] l) (append-nil out) ∙ none
  block-good v out (c ∷ cs) is all good none =
      let line = written v c in
      let read = reading-written back Interpreted v c all.0 in
      let reads = told.reads-later Interpreted v out line c is read in
      let version = reads.version ∙ ap (λ (o : Option ℕ). option_or o (version_in c)) is in
      let here = line-good out line c (Some v) is refl read good.0 none in
      ap (λ (l : List (List ℕ)). gathered line_fault [] l) (sym (append_assoc out (line ∷ []) (map (written v) cs)))
      ∙ block-good v (out ++ line ∷ []) cs version all.1
      (subst (λ (l : List Content). AreGood (Some v) l cs) (sym reads.said_is) good.1) here

  -- the lines of a kind that is written behind the version line
  written-good : (symbols : List Symbol) (lines out : List (List ℕ)) (v : ℕ) (cs : List Content)
      → Stage symbols lines out → version_of lines ≡ Some v → AllByRecursion (IsWritable Interpreted v) cs
      → AreGood (version_of lines) (interpreted_said symbols (contents lines)) cs
      → gathered line_fault [] out ≡ [] → gathered line_fault [] (out ++ map (written (file_version lines)) cs) ≡ []
  written-good symbols lines out v cs stage is all good none =
      let version : file_version lines ≡ v = ap (λ (o : Option ℕ). unwrap_or o 1) is in
      let here : AreGood (Some v) (trace.contents out) cs =
      subst (λ (o : Option ℕ). AreGood o (trace.contents out) cs) is
      (subst (λ (l : List Content). AreGood (version_of lines) l cs) (sym stage.said) good) in
      ap (λ (n : ℕ). gathered line_fault [] (out ++ map (written n) cs)) version
      ∙ block-good v out cs (stage.version ∙ is) all here none

  -- one that is passed on
  passed-good : (symbols : List Symbol) (lines out : List (List ℕ)) (line : List ℕ) (said : Content)
      → Stage symbols lines out → (is_some (version_of lines) || may_stand_first line) ≡ true → IsPassed said
      → Reads Raw (file_version lines) line said
      → of_trace.content_fault (said_tables (version_of lines) (interpreted_said symbols (contents lines))) said ≡ None
      → gathered line_fault [] out ≡ [] → gathered line_fault [] (out ++ line ∷ []) ≡ []
  passed-good symbols lines out line said stage may passed reads good none =
      line-good out line said (version_of lines) stage.version may
      (reading-item Interpreted (file_version lines) line said
      (passed-reads (file_version lines) line said passed reads))
      (subst (λ (l : List Content). of_trace.content_fault (said_tables (version_of lines) l) said ≡ None)
      (sym stage.said) good)
      none

  -- the version line
  version-good : (symbols : List Symbol) (lines out : List (List ℕ)) (heaptrack file : ℕ) → Stage symbols lines out
      → (o : Option ℕ) → version_of lines ≡ o → o ≡ None
      → IsWritable Raw (file_version lines) (version_line heaptrack file)
      → gathered line_fault [] out ≡ []
      → gathered line_fault [] (out ++ written (file_version lines) (version_line heaptrack file) ∷ []) ≡ []
  version-good symbols lines out heaptrack file stage o is absent writable none =
      line-good out (written (file_version lines) (version_line heaptrack file)) (version_line heaptrack file) None
      (stage.version ∙ (is ∙ absent)) refl (reading-written back Interpreted 1 (version_line heaptrack file) writable)
      refl none

  -- lines have no fewer patterns than those before them
  patterns-front : (symbols : List Symbol) (earlier lines out : List (List ℕ)) → AllByRecursion HasShortTexts symbols
      → AllByRecursion (λ line. length line < 2 ^ 32) lines → gathered (raw_fault symbols) earlier lines ≡ []
      → Stage symbols earlier out
      → length (lists.patterns (contents earlier)) ≤ length (lists.patterns (contents (earlier ++ lines)))
  unfolding raw_fault
  patterns-front symbols earlier [] out texts short none stage =
      let same =
      ap (λ (l : List (List ℕ)). length (lists.patterns (contents l))) (append-nil earlier) in omega (arith, same)
  patterns-front symbols earlier (line ∷ lines) out texts short none stage =
      let parts =
      no-faults (raw_fault symbols earlier line) (gathered (raw_fault symbols) (earlier ++ line ∷ []) lines) none in
      let here = good-line symbols (version_of earlier) (tables_of symbols (contents earlier)) line parts.0 in
      let reads =
      told.reads-by Raw (version_of earlier) earlier line here.said refl stage.first here.may_stand here.read in
      let one = ap (λ (l : List Content). length (lists.patterns l)) reads.said_is in
      let two = ap length (patterns-append (contents earlier) (here.said ∷ [])) in
      let three = length-append (lists.patterns (contents earlier)) (lists.patterns (here.said ∷ [])) in
      let rest =
      patterns-front symbols (earlier ++ line ∷ []) lines (out ++ interpreted_lines symbols earlier line) texts
      short.1 parts.1 (stage-step back symbols earlier out line texts short.0 parts.0 stage) in
      let all =
      ap (λ (l : List (List ℕ)). length (lists.patterns (contents l))) (append_assoc earlier (line ∷ []) lines) in
      omega (arith, one, two, three, rest, all)

  goods : (symbols : List Symbol) (lines out : List (List ℕ)) (line : List ℕ) (said : Content)
      → AllByRecursion HasShortTexts symbols → AllByRecursion HasFrames symbols → Stage symbols lines out
      → (is_some (version_of lines) || may_stand_first line) ≡ true → Reads Raw (file_version lines) line said
      → IsRaw said → IsWritable Raw (file_version lines) said
      → raw_fault_of.content_fault symbols (version_of lines) (tables_of symbols (contents lines)) said ≡ None
      → length (lists.patterns (contents lines ++ said ∷ [])) ≤ most_entries → gathered line_fault [] out ≡ []
      → gathered line_fault [] (out ++ lines_after symbols (file_version lines) (contents lines) line said) ≡ []
  goods symbols lines out line (string_line bytes) texts fine stage may reads raw writable good few none = absurd raw
  goods symbols lines out line (instruction_line ip module_string frames) texts fine stage may reads raw writable good
      few none = absurd raw
  goods symbols lines out line (info_line size trace) texts fine stage may reads raw writable good few none = absurd raw
  goods symbols lines out line (allocation_line info) texts fine stage may reads raw writable good few none = absurd raw
  goods symbols lines out line (free_line info) texts fine stage may reads raw writable good few none = absurd raw
  goods symbols lines out line (version_line heaptrack file) texts fine stage may reads raw writable good few none =
      version-good symbols lines out heaptrack file stage (version_of lines) refl
      (first-version symbols (version_of lines) (tables_of symbols (contents lines)) heaptrack file good) writable
      none
  goods symbols lines out line clear_line texts fine stage may reads raw writable good few none =
      ap (λ (l : List (List ℕ)). gathered line_fault [] l) (append-nil out) ∙ none
  goods symbols lines out line (module_line name start ranges) texts fine stage may reads raw writable good few none =
      ap (λ (l : List (List ℕ)). gathered line_fault [] l) (append-nil out) ∙ none
  goods symbols lines out line (node_line ip parent) texts fine stage may reads raw writable good few none =
      let c = node_line ip parent in
      let said = contents lines in
      let v = has-version 116 (version_of lines) line reads.0 refl may in
      let after = few-with symbols (version_of lines) said c stage.few good in
      written-good symbols lines out v.0 (told_after symbols said c) stage v.1
      (node-writable v.0 symbols (tables_of symbols said) (names symbols (said ++ c ∷ []))
      (known symbols (said ++ c ∷ [])) ip parent texts stage.modules_short (names-push symbols said c) after.names_few
      after.known_few writable)
      (node-good (version_of lines) symbols said ip parent fine (all-hold symbols said stage.raw) stage.few after good)
      none
  goods symbols lines out line (raw_allocation_line size trace ptr) texts fine stage may reads raw writable good few
      none =
      let c = raw_allocation_line size trace ptr in
      let said = contents lines in
      let v = has-version 43 (version_of lines) line reads.0 refl may in
      let after = few-with symbols (version_of lines) said c stage.few good in
      written-good symbols lines out v.0 (told_after symbols said c) stage v.1
      (allocation-writable v.0 (infos said) (infos (said ++ c ∷ [])) size trace (infos-push said c) after.infos_few
      writable.0.0 writable.0.1.0)
      (allocation-good (version_of lines) symbols said size trace ptr (all-hold symbols said stage.raw) after good) none
  goods symbols lines out line (raw_free_line ptr) texts fine stage may reads raw writable good few none =
      let c = raw_free_line ptr in
      let said = contents lines in
      let v = has-version 45 (version_of lines) line reads.0 refl may in
      written-good symbols lines out v.0 (told_after symbols said c) stage v.1
      (free-writable v.0 (infos said) (held said ptr) stage.few.infos_few)
      (free-good (version_of lines) symbols said ptr (held said ptr) refl (all-hold symbols said stage.raw)) none
  goods symbols lines out line (suppression_line bytes) texts fine stage may reads raw writable good few none =
      passed-good symbols lines out line (suppression_line bytes) stage may tt reads
      (suppression-good (version_of lines) (interpreted_said symbols (contents lines)) (contents lines) bytes
      (patterns-told symbols (contents lines) stage.raw) few)
      none
  goods symbols lines out line said texts fine stage may reads raw writable good few none =
      passed-good symbols lines out line said stage may tt reads refl none

  walk : (symbols : List Symbol) (earlier lines out : List (List ℕ)) → AllByRecursion HasShortTexts symbols
      → AllByRecursion HasFrames symbols → AllByRecursion (λ line. length line < 2 ^ 32) lines
      → gathered (raw_fault symbols) earlier lines ≡ [] → Stage symbols earlier out
      → length (lists.patterns (contents (earlier ++ lines))) ≤ most_entries → gathered line_fault [] out ≡ []
      → gathered line_fault [] (out ++ lines_from symbols earlier lines) ≡ []
  unfolding raw_fault interpreted_lines
  walk symbols earlier [] out texts fine short none stage few good =
      ap (λ (l : List (List ℕ)). gathered line_fault [] l) (append-nil out) ∙ good
  walk symbols earlier (line ∷ lines) out texts fine short none stage few good =
      let parts =
      no-faults (raw_fault symbols earlier line) (gathered (raw_fault symbols) (earlier ++ line ∷ []) lines) none in
      let here = good-line symbols (version_of earlier) (tables_of symbols (contents earlier)) line parts.0 in
      let reads = read-of (file_version earlier) line here.said here.read in
      let writable = Reads-IsWritable Raw (file_version earlier) line here.said short.0 reads in
      let stage_now = stage-step back symbols earlier out line texts short.0 parts.0 stage in
      let said_now =
      told.reads-by Raw (version_of earlier) earlier line here.said refl stage.first here.may_stand here.read in
      let all : (earlier ++ line ∷ []) ++ lines ≡ earlier ++ line ∷ lines = append_assoc earlier (line ∷ []) lines in
      let rest_few : length (lists.patterns (contents ((earlier ++ line ∷ []) ++ lines))) ≤ most_entries =
      subst (λ (l : List (List ℕ)). length (lists.patterns (contents l)) ≤ most_entries) (sym all) few in
      let fewer =
      patterns-front symbols (earlier ++ line ∷ []) lines (out ++ interpreted_lines symbols earlier line) texts
      short.1 parts.1 stage_now in
      let first_few : length (lists.patterns (contents earlier ++ here.said ∷ [])) ≤ most_entries =
      subst (λ (l : List Content). length (lists.patterns l) ≤ most_entries) said_now.said_is
      (omega (arith, fewer, rest_few)) in
      let line_good =
      subst (λ (r : Result Content Malformed). gathered line_fault []
      (out ++ lines_read symbols (file_version earlier) (contents earlier) line r)
      ≡ []) (sym
      here.read)
      (goods symbols earlier out line here.said texts fine stage here.may_stand reads
      (raw-writable (file_version earlier) here.said writable) writable here.no_fault first_few good) in
      ap (λ (l : List (List ℕ)). gathered line_fault [] l)
      (sym (append_assoc out (interpreted_lines symbols earlier line)
      (lines_from symbols (earlier ++ line ∷ []) lines)))
      ∙ walk symbols (earlier ++ line ∷ []) lines (out ++ interpreted_lines symbols earlier line) texts fine short.1
      parts.1 stage_now rest_few line_good

  pub no-fault-again : (symbols : List Symbol) (lines : List (List ℕ)) → AreInterpretable symbols lines
      → AllByRecursion HasFrames symbols → length (lists.patterns (contents lines)) ≤ most_entries
      → gathered line_fault [] (interpreted_trace symbols lines) ≡ []
  unfolding interpreted_trace
  no-fault-again symbols lines are fine few =
      walk symbols [] lines [] are.texts fine are.short are.no_fault (first-stage back symbols) few refl

  pub end-again : (symbols : List Symbol) (lines : List (List ℕ)) → AreInterpretable symbols lines
      → raw_end_fault lines ≡ None → end_fault (interpreted_trace symbols lines) ≡ None
  end-again symbols lines are none =
      ap (λ (o : Option ℕ). cond {A = Option LineError} (is_some o) None (Some NoVersion))
      (version-again back symbols lines are)
      ∙ none
