-- That an interpretation that ended well keeps the ledger and the stacks of the raw trace.
use Rattle.std.proofs.Common.{◌≡◌, ◌≢◌, ℕ, ◌+◌, ◌^◌, ◌<◌, ◌≤◌, Bool, true, false, cond, ◌&&◌, List, [], ◌∷◌, ◌++◌}
use Rattle.std.proofs.Common.{length, Option, Some, None, refl, sym, ap, ◌∙◌, arith, append-nil, append_assoc, drop}
use Rattle.std.proofs.Common.{take, subst, ne_eqb}
use Rattle.std.specs.Prelude.{nat_le, nat_lt, unwrap_or}
use Rattle.std.specs.List.{AllByRecursion, cons_option, onto_first, slice_split}
use Rattle.std.specs.Option.{option_map, option_or, option_to_list}
use Rattle.std.proofs.lemmas.Bool.Decides.{nat_tests}
use Rattle.std.proofs.lemmas.Grind.{flat_map-append}
use Rattle.std.proofs.lemmas.List.{take-append-drop}
use Rattle.std.proofs.lemmas.List.Elements.{All-cons, All-head, All-nil, All-tail}
use Rattle.std.proofs.lemmas.List.Sums.{sum_by-cons}
use Rattle.hp_outside.specs.Folder.{Folder, file_of}
use Rattle.hp_outside.specs.Lines.{is_line_feed, lines_of, put_first}
use Rattle.hp_num.specs.ParsedHex.{parsed_hex}
use Rattle.ht_lines.specs.Content.{Content}
use Rattle.ht_lines.specs.OneLine.{IsOneLine}
use Rattle.ht_trace.specs.Contents as trace
use Rattle.ht_trace.specs.Gathered.{gathered}
use Rattle.ht_trace.specs.TraceEvents.{events}
use Rattle.ht_trace.specs.declared.error.LineError.{LineError}
use Rattle.live_ledger.specs.InStack.{blocks_in, live_in}
use Rattle.live_ledger.specs.declared.event.Event.{Event}
use Rattle.interpret.specs.Interpreted.{interpreted_lines, text_of}
use Rattle.interpret.specs.InterpretedSaid.{interpreted_events, interpreted_said}
use Rattle.interpret.specs.InterpretedTrace.{AreInterpretable, HasShortTexts, interpreted_trace, lines_from}
use Rattle.interpret.specs.IpLists.{interpreted_ips}
use Rattle.interpret.specs.RawContents.{contents}
use Rattle.interpret.specs.RawFault.{raw_fault}
use Rattle.interpret.specs.RawLedger.{KeepsLedger}
use Rattle.interpret.specs.SymbolLine.{Symbol, are_texts, fields, is_tab, is_text, symbol_from, symbol_of}
use Rattle.interpret.specs.SymbolList.{is_skipped, symbols_of}
use Rattle.command_frame.specs.Answer.{Answer, after, lines_answer, named_answer, plan_answer}
use Rattle.command_frame.specs.FirstFault.{Bounds, Refusal, bytes_of_lines, end_refusal, file_fault, first_fault}
use Rattle.command_frame.specs.FirstFault.{length_fault, line_fault, line_faults, line_too_long, input_too_long}
use Rattle.command_frame.specs.Plan.{Ends, one_file}
use Rattle.command_frame.proofs.Laws.{bytes_of_lines-push}
use Rattle.command_frame.specs.Report.{Report, gains_from, written}
use Rattle.command_frame.specs.Texts.{Texts}
use Rattle.command_frame.specs.Told.{Told, code_of}
use Rattle.command_frame.specs.declared.fault.FaultStatus.{FaultStatus}
use Rattle.command_frame.specs.declared.fault.FaultStatus.TheVariants.{Malformed, PastLimit}
use Rattle.trace_reading.specs.TraceFault as fault
use Rattle.trace_reading.specs.declared.fault.TraceFault.TheVariants.{Line}
use Rattle.trace_reports.specs.InterpretKeeps.{KeepsFronts, KeepsTrace, lines_in, symbols_in}
use Rattle.trace_reports.specs.InterpretReport.{interpret_report, plan_with, symbols_report}

-- a text that is short and has no line feed
abbrev IsFine : ℕ → List ℕ → Type 0
IsFine most text = (length text ≤ most) × IsOneLine text

all-weaker : {X : Type 0} (P Q : X → Type 0) (xs : List X) → ((x : X) → P x → Q x) → AllByRecursion P xs
    → AllByRecursion Q xs
all-weaker P Q [] f all = tt
all-weaker P Q (x ∷ xs) f all = (f x all.0, all-weaker P Q xs f all.1)

-- lines of bytes

no-feed : (b : ℕ) → is_line_feed b ≡ false → b ≢ 10
no-feed b other = grind (arith, nat_tests, other)

-- none has a line feed
lines-one : (bytes : List ℕ) → AllByRecursion IsOneLine (lines_of bytes)
lines-one [] = tt
lines-one (b ∷ bytes) = by (is_line_feed b) refl (lines_of bytes) (lines-one bytes)
  where
    by : (t : Bool) → is_line_feed b ≡ t → (lines : List (List ℕ)) → AllByRecursion IsOneLine lines
        → AllByRecursion IsOneLine (cond t ([] ∷ lines) (put_first b lines))
    by true is lines all = (All-nil (λ b. b ≢ 10), all)
    by false is [] all = (All-cons (λ b. b ≢ 10) b [] (no-feed b is) (All-nil (λ b. b ≢ 10)), tt)
    by false is (line ∷ lines) all = (All-cons (λ b. b ≢ 10) b line (no-feed b is) all.0, all.1)

bytes-cons : (line : List ℕ) (lines : List (List ℕ))
    → bytes_of_lines (line ∷ lines) ≡ (length line + 1) + bytes_of_lines lines
bytes-cons line lines = sum_by-cons (λ each. length each + 1) line lines

-- they have no more bytes than there are, but for a line feed behind the last
lines-bytes : (bytes : List ℕ) → bytes_of_lines (lines_of bytes) ≤ length bytes + 1
lines-bytes [] = omega arith
lines-bytes (b ∷ bytes) = by (is_line_feed b) (lines_of bytes) (lines-bytes bytes)
  where
    by : (t : Bool) (lines : List (List ℕ)) → bytes_of_lines lines ≤ length bytes + 1
        → bytes_of_lines (cond t ([] ∷ lines) (put_first b lines)) ≤ length (b ∷ bytes) + 1
    by true lines few = let count = bytes-cons [] lines in omega (arith, count, few)
    by false [] few = let count = bytes-cons (b ∷ []) [] in omega (arith, count, few)
    by false (line ∷ lines) few =
        let count = bytes-cons (b ∷ line) lines in let old = bytes-cons line lines in omega (arith, count, old, few)

-- the lines of lines that have none
line-read : (line rest : List ℕ) → IsOneLine line → lines_of ((line ++ 10 ∷ []) ++ rest) ≡ line ∷ lines_of rest
line-read [] rest one = refl
line-read (b ∷ line) rest one =
    rw (ne_eqb b 10 (All-head (λ b. b ≢ 10) b line one), line-read line rest (All-tail (λ b. b ≢ 10) b line one)) refl

text-read : (lines : List (List ℕ)) → AllByRecursion IsOneLine lines → lines_of (text_of lines) ≡ lines
text-read [] all = refl
text-read (line ∷ lines) all =
    line-read line (text_of lines) all.0 ∙ ap (λ (l : List (List ℕ)). line ∷ l) (text-read lines all.1)

-- the fields of a line are no longer, and have no line feed where it has none

fields-fine : (line : List ℕ) → IsOneLine line → AllByRecursion (IsFine (length line)) (slice_split is_tab line)
fields-fine [] one = ((omega arith, All-nil (λ b. b ≢ 10)), tt)
fields-fine (b ∷ line) one =
    by (is_tab b) (slice_split is_tab line) (fields-fine line (All-tail (λ b. b ≢ 10) b line one))
  where
    more : (text : List ℕ) → IsFine (length line) text → IsFine (length (b ∷ line)) text
    more text fine = (omega (arith, fine.0), fine.1)

    by : (t : Bool) (parts : List (List ℕ)) → AllByRecursion (IsFine (length line)) parts
        → AllByRecursion (IsFine (length (b ∷ line))) (cond t ([] ∷ parts) (onto_first b parts))
    by true parts all = (
      (omega arith, All-nil (λ b. b ≢ 10)),
      all-weaker (IsFine (length line)) (IsFine (length (b ∷ line))) parts more all,
    )
    by false [] all =
        ((omega arith, All-cons (λ b. b ≢ 10) b [] (All-head (λ b. b ≢ 10) b line one) (All-nil (λ b. b ≢ 10))), tt)
    by false (part ∷ parts) all = (
      (omega (arith, all.0.0), All-cons (λ b. b ≢ 10) b part (All-head (λ b. b ≢ 10) b line one) all.0.1),
      all-weaker (IsFine (length line)) (IsFine (length (b ∷ line))) parts more all.1,
    )

-- so are the texts of symbols
texts-from : (P : List ℕ → Type 0) (name : List ℕ) (start size : Option ℕ) (texts : List (List ℕ)) (s : Symbol)
    → AllByRecursion P texts → symbol_from name start size texts ≡ Some s → AllByRecursion P s.texts
texts-from P name None size texts s all is = absurd (cc)
texts-from P name (Some start) None texts s all is = absurd (cc)
texts-from P name (Some start) (Some size) texts s all is =
    by (is_text name && (nat_lt 0 size && (nat_lt (start + size) (2 ^ 64) && are_texts texts))) is
  where
    by : (b : Bool)
        → cond {A = Option Symbol} b
        (Some (record { module_name = name; start = start; end = start + size; texts = texts })) None
        ≡ Some s
        → AllByRecursion P s.texts
    by true is =
        let same : record { module_name = name; start = start; end = start + size; texts = texts } ≡ s =
        cc in subst (λ (s : Symbol). AllByRecursion P s.texts) same all
    by false is = absurd (cc)

symbol-texts : (P : List ℕ → Type 0) (parts : List (List ℕ)) (s : Symbol) → AllByRecursion P parts
    → symbol_of parts ≡ Some s → AllByRecursion P s.texts
symbol-texts P [] s all is = absurd (cc)
symbol-texts P (name ∷ []) s all is = absurd (cc)
symbol-texts P (name ∷ start ∷ []) s all is = absurd (cc)
symbol-texts P (name ∷ start ∷ size ∷ texts) s all is =
    texts-from P name (parsed_hex start) (parsed_hex size) texts s all.1.1.1 is

symbols-fine : (most : ℕ) (lines : List (List ℕ)) → AllByRecursion (IsFine most) lines
    → AllByRecursion (λ (s : Symbol). AllByRecursion (IsFine most) s.texts) (symbols_of lines)
unfolding fields
symbols-fine most [] all = tt
symbols-fine most (line ∷ lines) all =
    by (is_skipped line) (symbol_of (fields line)) refl (symbols-fine most lines all.1)
  where
    parts : AllByRecursion (IsFine most) (slice_split is_tab line)
    parts =
        all-weaker (IsFine (length line)) (IsFine most) (slice_split is_tab line)
        (λ text fine. (omega (arith, fine.0, all.0.0), fine.1)) (fields-fine line all.0.1)

    by : (b : Bool) (o : Option Symbol) → symbol_of (fields line) ≡ o
        → AllByRecursion (λ (s : Symbol). AllByRecursion (IsFine most) s.texts) (symbols_of lines)
        → AllByRecursion (λ (s : Symbol). AllByRecursion (IsFine most) s.texts)
        (cons_option (cond {A = Option Symbol} b None o) (symbols_of lines))
    by true o is rest = rest
    by false None is rest = rest
    by false (Some s) is rest = (symbol-texts (IsFine most) (slice_split is_tab line) s parts is, rest)

-- files without a fault

-- no line of a file without a fault is too long, and none has a fault of its own
record AreGoodLines (bounds : Bounds) (report : Report) (earlier lines : List (List ℕ)) : Type 0 where
  short : AllByRecursion (λ line. length line ≤ bounds.line) lines
  no_fault : gathered report.line_fault earlier lines ≡ []

or-none : {X : Type 0} (a b : Option X) → option_or a b ≡ None → (a ≡ None) × (b ≡ None)
or-none None b is = (refl, is)
or-none (Some x) b is = absurd (cc)

within : (bounds : Bounds) (total before line : ℕ) → before + line ≤ total
    → length_fault bounds total before line ≡ None → line ≤ bounds.line
within bounds total before line inside none =
    by (nat_lt bounds.line line) (nat_le (before + bounds.line + 1) bounds.input) (nat_lt bounds.input total)
    (nat_le bounds.input (before + line)) refl refl refl refl none
  where
    by : (a b c d : Bool) → nat_lt bounds.line line ≡ a → nat_le (before + bounds.line + 1) bounds.input ≡ b
        → nat_lt bounds.input total ≡ c → nat_le bounds.input (before + line) ≡ d
        → cond {A = Option Told} (a && b) (Some line_too_long)
        (cond {A = Option Told} (c && d) (Some input_too_long) None)
        ≡ None
        → line ≤ bounds.line
    by false b c d ea eb ec ed none = grind (arith, nat_tests, ea)
    by true true c d ea eb ec ed none = absurd (cc)
    by true false true true ea eb ec ed none = absurd (cc)
    by true false true false ea eb ec ed none = absurd (grind (arith, nat_tests, ea, eb, ec, ed, inside))
    by true false false d ea eb ec ed none = absurd (grind (arith, nat_tests, ea, eb, ec, inside))

first-none : (number : ℕ) (o : Option Told) (faults : List (Option Told)) → first_fault number (o ∷ faults) ≡ None
    → (o ≡ None) × (first_fault (number + 1) faults ≡ None)
first-none number None faults none = (refl, none)
first-none number (Some told) faults none = absurd (cc)

good-lines : (bounds : Bounds) (report : Report) (total number : ℕ) (earlier lines : List (List ℕ))
    → bytes_of_lines earlier + bytes_of_lines lines ≤ total + 1
    → first_fault number (line_faults bounds report total earlier lines) ≡ None
    → AreGoodLines bounds report earlier lines
good-lines bounds report total number earlier [] inside none = record { short = tt; no_fault = refl }
good-lines bounds report total number earlier (line ∷ lines) inside none =
    let count = bytes-cons line lines in
    let push = bytes_of_lines-push earlier line in
    let first =
    first-none number (line_fault bounds report total earlier line)
    (line_faults bounds report total (earlier ++ line ∷ []) lines) none in
    let parts =
    or-none (length_fault bounds total (bytes_of_lines earlier) (length line)) (report.line_fault earlier line)
    first.0 in
    let rest =
    good-lines bounds report total (number + 1) (earlier ++ line ∷ []) lines (omega (arith, inside, count, push))
    first.1 in
    record {
      short = (
        within bounds total (bytes_of_lines earlier) (length line)
            (omega (arith, inside, count)) parts.0,
        rest.short,
      );
      no_fault =
          ap (λ (o : Option Told). option_to_list o ++ gathered report.line_fault (earlier ++ line ∷ []) lines) parts.1
          ∙ rest.no_fault;
    }

good-file : (bounds : Bounds) (report : Report) (bytes : List ℕ) → file_fault bounds report bytes ≡ None
    → AreGoodLines bounds report [] (lines_of bytes)
good-file bounds report bytes none =
    let few = lines-bytes bytes in
    let parts =
    or-none (first_fault 1 (line_faults bounds report (length bytes) [] (lines_of bytes)))
    (end_refusal report (length bytes) (lines_of bytes)) none in
    good-lines bounds report (length bytes) 1 [] (lines_of bytes) (omega (arith, few)) parts.0

fine-lines : (most : ℕ) (lines : List (List ℕ)) → AllByRecursion (λ line. length line ≤ most) lines
    → AllByRecursion IsOneLine lines → AllByRecursion (IsFine most) lines
fine-lines most [] short one = tt
fine-lines most (line ∷ lines) short one = ((short.0, one.0), fine-lines most lines short.1 one.1)

-- a file that was read: the folder has it, and it has no fault
record IsRead (bounds : Bounds) (report : Report) (file : Option (List ℕ)) (rest : List (List ℕ) → Answer)
    (given : Answer) : Type 0 where
  bytes : List ℕ
  is : file ≡ Some bytes
  good : AreGoodLines bounds report [] (lines_of bytes)
  given_is : given ≡ after (written report (lines_of bytes)) (rest (lines_of bytes))

some-code : (status : FaultStatus) → code_of status ≢ 0
some-code Malformed = λ zero. absurd (omega (arith, zero))
some-code PastLimit = λ zero. absurd (omega (arith, zero))

is-read : (texts : Texts) (bounds : Bounds) (name : List ℕ) (report : Report) (file : Option (List ℕ))
    (rest : List (List ℕ) → Answer)
    → (named_answer texts bounds name report file rest).status ≡ 0
    → IsRead bounds report file rest (named_answer texts bounds name report file rest)
is-read texts bounds name report None rest zero = absurd (omega (arith, zero))
is-read texts bounds name report (Some bytes) rest zero = by (file_fault bounds report bytes) refl zero
  where
    by : (o : Option Refusal) → file_fault bounds report bytes ≡ o
        → (lines_answer texts name report (lines_of bytes) o (rest (lines_of bytes))).status ≡ 0
        → IsRead bounds report (Some bytes) rest
        (lines_answer texts name report (lines_of bytes) o (rest (lines_of bytes)))
    by None is zero = record { bytes = bytes; is = refl; good = good-file bounds report bytes is; given_is = refl }
    by (Some refusal) is zero = absurd (some-code refusal.told.status zero)

-- a table of symbols gives nothing to the output
silent : (earlier lines : List (List ℕ)) → gains_from symbols_report earlier lines ≡ []
silent earlier [] = refl
silent earlier (line ∷ lines) = silent (earlier ++ line ∷ []) lines

-- a raw trace gives its interpreted lines
gains-are : (symbols : List Symbol) (earlier lines : List (List ℕ))
    → gains_from (interpret_report symbols) earlier lines ≡ text_of (lines_from symbols earlier lines)
gains-are symbols earlier [] = refl
gains-are symbols earlier (line ∷ lines) =
    ap (λ (l : List ℕ). text_of (interpreted_lines symbols earlier line) ++ l)
    (gains-are symbols (earlier ++ line ∷ []) lines)
    ∙ sym (flat_map-append (λ line. line ++ 10 ∷ []) (interpreted_lines symbols earlier line)
    (lines_from symbols (earlier ++ line ∷ []) lines))

no-raw-fault : (symbols : List Symbol) (earlier lines : List (List ℕ))
    → gathered (interpret_report symbols).line_fault earlier lines ≡ []
    → gathered (raw_fault symbols) earlier lines ≡ []
no-raw-fault symbols earlier [] none = refl
no-raw-fault symbols earlier (line ∷ lines) none =
    by (raw_fault symbols earlier line) none (λ rest. no-raw-fault symbols (earlier ++ line ∷ []) lines rest)
  where
    by : (o : Option LineError)
        → option_to_list (option_map (λ error. fault.told (Line error)) o)
        ++ gathered (interpret_report symbols).line_fault (earlier ++ line ∷ []) lines
        ≡ []
        → (gathered (interpret_report symbols).line_fault (earlier ++ line ∷ []) lines ≡ []
        → gathered (raw_fault symbols) (earlier ++ line ∷ []) lines ≡ [])
        → option_to_list o ++ gathered (raw_fault symbols) (earlier ++ line ∷ []) lines ≡ []
    by None none rest = rest none
    by (Some error) none rest = absurd (cc)

-- the laws of interpreted traces
pub record AreLaws : Type 0 where
  pub reads_back : (symbols : List Symbol) (lines : List (List ℕ)) → AreInterpretable symbols lines
      → trace.contents (interpreted_trace symbols lines) ≡ interpreted_said symbols (contents lines)
  pub events : (symbols : List Symbol) (lines : List (List ℕ)) → AreInterpretable symbols lines
      → events (interpreted_trace symbols lines) ≡ interpreted_events symbols (contents lines)
  pub ledger : (symbols : List Symbol) (lines : List (List ℕ)) → AreInterpretable symbols lines
      → KeepsLedger symbols (contents lines)
  pub one_line : (symbols : List Symbol) (lines : List (List ℕ)) → AreInterpretable symbols lines
      → AllByRecursion (λ (s : Symbol). AllByRecursion IsOneLine s.texts) symbols → AllByRecursion IsOneLine lines
      → AllByRecursion IsOneLine (interpreted_trace symbols lines)

keeps : AreLaws → (symbols : List Symbol) (lines : List (List ℕ)) (output : List ℕ) → AreInterpretable symbols lines
    → AllByRecursion (λ (s : Symbol). AllByRecursion IsOneLine s.texts) symbols → AllByRecursion IsOneLine lines
    → output ≡ text_of (interpreted_trace symbols lines) → KeepsTrace symbols lines output
keeps laws symbols lines output are texts one is =
    let read : lines_of output ≡ interpreted_trace symbols lines =
    ap lines_of is ∙ text-read (interpreted_trace symbols lines) (laws.one_line symbols lines are texts one) in
    let kept = laws.ledger symbols lines are in
    let same : events (lines_of output) ≡ interpreted_events symbols (contents lines) =
    ap (λ (l : List (List ℕ)). events l) read ∙ laws.events symbols lines are in
    record {
      text = is;
      read = read;
      ledger = kept;
      bytes = λ node. ap (λ (l : List Event). live_in node l) same ∙ kept.bytes node;
      blocks = λ node. ap (λ (l : List Event). blocks_in node l) same ∙ kept.blocks node;
      stacks =
          λ node. ap (λ (l : List Content). interpreted_ips l node)
          (ap (λ (l : List (List ℕ)). trace.contents l) read ∙ laws.reads_back symbols lines are)
          ∙ kept.stacks node;
    }

-- fronts of lines

all-front : {X : Type 0} (P : X → Type 0) (xs ys : List X) → AllByRecursion P (xs ++ ys) → AllByRecursion P xs
all-front P [] ys all = tt
all-front P (x ∷ xs) ys all = (all.0, all-front P xs ys all.1)

gathered-front : {X Y : Type 0} (found : List X → X → Option Y) (earlier xs ys : List X)
    → gathered found earlier (xs ++ ys) ≡ [] → gathered found earlier xs ≡ []
gathered-front found earlier [] ys none = refl
gathered-front {X} {Y} found earlier (x ∷ xs) ys none =
    by (found earlier x) none (λ rest. gathered-front found (earlier ++ x ∷ []) xs ys rest)
  where
    by : (o : Option Y) → option_to_list o ++ gathered found (earlier ++ x ∷ []) (xs ++ ys) ≡ []
        → (gathered found (earlier ++ x ∷ []) (xs ++ ys) ≡ [] → gathered found (earlier ++ x ∷ []) xs ≡ [])
        → option_to_list o ++ gathered found (earlier ++ x ∷ []) xs ≡ []
    by None none rest = rest none
    by (Some y) none rest = absurd (cc)

interpretable-front : (symbols : List Symbol) (front more : List (List ℕ)) → AreInterpretable symbols (front ++ more)
    → AreInterpretable symbols front
interpretable-front symbols front more are = record {
  texts = are.texts;
  short = all-front (λ line. length line < 2 ^ 32) front more are.short;
  no_fault = gathered-front (raw_fault symbols) [] front more are.no_fault;
}

lines-append : (symbols : List Symbol) (earlier front more : List (List ℕ))
    → lines_from symbols earlier (front ++ more)
    ≡ lines_from symbols earlier front ++ lines_from symbols (earlier ++ front) more
lines-append symbols earlier [] more =
    ap (λ (before : List (List ℕ)). lines_from symbols before more) (sym (append-nil earlier))
lines-append symbols earlier (line ∷ front) more =
    ap (λ (lines : List (List ℕ)). interpreted_lines symbols earlier line ++ lines)
    (lines-append symbols (earlier ++ line ∷ []) front more)
    ∙ (sym
    (append_assoc (interpreted_lines symbols earlier line) (lines_from symbols (earlier ++ line ∷ []) front)
    (lines_from symbols ((earlier ++ line ∷ []) ++ front) more))
    ∙ ap (λ (before : List (List ℕ)). (interpreted_lines symbols earlier line
    ++ lines_from symbols (earlier ++ line ∷ []) front)
    ++ lines_from symbols before more) (append_assoc
    earlier (line ∷ []) front))

-- every front of an interpretation is that of a front
keeps-fronts : AreLaws → (symbols : List Symbol) (lines : List (List ℕ)) (output : List ℕ)
    → AreInterpretable symbols lines → AllByRecursion (λ (s : Symbol). AllByRecursion IsOneLine s.texts) symbols
    → AllByRecursion IsOneLine lines
    → output ≡ text_of (interpreted_trace symbols lines) → KeepsFronts symbols lines output
unfolding interpreted_trace
keeps-fronts laws symbols lines output are texts one is = record {
  whole = keeps laws symbols lines output are texts one is;
  fronts = λ count.
      let front : List (List ℕ) = take count lines in
      let more : List (List ℕ) = drop count lines in
      let parts : lines ≡ front ++ more = sym (take-append-drop count lines) in
      let begins : output ≡ text_of (lines_from symbols [] front) ++ text_of (lines_from symbols front more) =
      is ∙ (ap (λ (ls : List (List ℕ)). text_of (lines_from symbols [] ls)) parts
      ∙ (ap (λ (ls : List (List ℕ)). text_of ls) (lines-append symbols [] front more)
      ∙ flat_map-append (λ line. line ++ 10 ∷ []) (lines_from symbols [] front) (lines_from symbols front more))) in (
        text_of (lines_from symbols [] front),
        (
          text_of (lines_from symbols front more),
          (
            begins,
            keeps laws symbols front (text_of (lines_from symbols [] front))
                (interpretable-front symbols front more (subst (AreInterpretable symbols) parts are)) texts
                (all-front IsOneLine front more (subst (λ (ls : List (List ℕ)). AllByRecursion IsOneLine ls) parts one))
                refl,
          ),
        ),
      );
}

-- a raw trace that was read with symbols whose texts are fine
trace-keeps : AreLaws
    → (texts : Texts) (bounds : Bounds) (folder : Folder) (name : List ℕ) (symbols : List Symbol) (last : List ℕ)
    → bounds.line < 2 ^ 32 → AllByRecursion (λ (s : Symbol). AllByRecursion (IsFine bounds.line) s.texts) symbols
    → (plan_answer texts bounds folder last (one_file name (interpret_report symbols))).status ≡ 0
    → KeepsFronts symbols (lines_in folder name)
    (plan_answer texts bounds folder last (one_file name (interpret_report symbols))).output
unfolding interpreted_trace
trace-keeps laws texts bounds folder name symbols last small fine zero =
    let read =
    is-read texts bounds name (interpret_report symbols) (file_of folder name)
    (λ lines. plan_answer texts bounds folder name (Ends ((interpret_report symbols).verdict lines))) zero in
    let lines : lines_in folder name ≡ lines_of read.bytes =
    ap (λ (o : Option (List ℕ)). lines_of (unwrap_or o [])) read.is in
    let are : AreInterpretable symbols (lines_of read.bytes) = record {
      texts =
          all-weaker (λ (s : Symbol). AllByRecursion (IsFine bounds.line) s.texts) HasShortTexts symbols
          (λ s fine. all-weaker (IsFine bounds.line) (λ text. length text < 2 ^ 64) s.texts
          (λ text fine. omega (arith, fine.0, small)) fine)
          fine;
      short =
          all-weaker (λ line. length line ≤ bounds.line) (λ line. length line < 2 ^ 32) (lines_of read.bytes)
          (λ line short. omega (arith, short, small)) read.good.short;
      no_fault = no-raw-fault symbols [] (lines_of read.bytes) read.good.no_fault;
    } in
    let whole =
    all-weaker (λ (s : Symbol). AllByRecursion (IsFine bounds.line) s.texts)
    (λ (s : Symbol). AllByRecursion IsOneLine s.texts) symbols
    (λ s fine. all-weaker (IsFine bounds.line) IsOneLine s.texts (λ text fine. fine.1) fine) fine in
    subst (λ (l : List (List ℕ)). KeepsFronts symbols l
    (plan_answer texts bounds folder last (one_file name (interpret_report symbols))).output) (sym
    lines)
    (keeps-fronts laws symbols (lines_of read.bytes) _ are whole (lines-one read.bytes)
    (ap (λ (a : Answer). a.output) read.given_is
    ∙ (append-nil (gains_from (interpret_report symbols) [] (lines_of read.bytes))
    ∙ gains-are symbols [] (lines_of read.bytes))))

-- so does what `interpret` gives at status 0, whatever the texts of the program are
pub interpret-keeps : AreLaws
    → (texts : Texts) (bounds : Bounds) (folder : Folder) (symbols : Option (List ℕ)) (name : List ℕ)
    → bounds.line < 2 ^ 32 → (plan_answer texts bounds folder [] (plan_with symbols name)).status ≡ 0
    → KeepsFronts (symbols_in folder symbols) (lines_in folder name)
    (plan_answer texts bounds folder [] (plan_with symbols name)).output
interpret-keeps laws texts bounds folder None name small zero =
    trace-keeps laws texts bounds folder name [] [] small tt zero
interpret-keeps laws texts bounds folder (Some table) name small zero =
    let rest =
    λ (lines : List (List ℕ)). plan_answer texts bounds folder table
    (one_file name (interpret_report (symbols_of lines))) in
    let read = is-read texts bounds table symbols_report (file_of folder table) rest zero in
    let lines : lines_in folder table ≡ lines_of read.bytes =
    ap (λ (o : Option (List ℕ)). lines_of (unwrap_or o [])) read.is in
    let fine =
    symbols-fine bounds.line (lines_of read.bytes)
    (fine-lines bounds.line (lines_of read.bytes) read.good.short (lines-one read.bytes)) in
    let behind : (rest (lines_of read.bytes)).status ≡ 0 = sym (ap (λ (a : Answer). a.status) read.given_is) ∙ zero in
    let output : (plan_answer texts bounds folder [] (plan_with (Some table) name)).output
    ≡ (rest (lines_of read.bytes)).output =
    ap (λ (a : Answer). a.output) read.given_is
    ∙ ap (λ (l : List ℕ). l ++ (rest (lines_of read.bytes)).output) (silent [] (lines_of read.bytes)) in
    subst (λ (l : List (List ℕ)). KeepsFronts (symbols_of l) (lines_in folder name)
    (plan_answer texts bounds folder [] (plan_with (Some table) name)).output) (sym
    lines)
    (subst (λ (l : List ℕ). KeepsFronts (symbols_of (lines_of read.bytes)) (lines_in folder name) l) (sym output)
    (trace-keeps laws texts bounds folder name (symbols_of (lines_of read.bytes)) table small fine behind))
