-- What the interpreted lines of a raw line say has no fault after what was told before.
use Rattle.std.proofs.Common.{◌≡◌, ℕ, ◌+◌, ◌%◌, ◌-◌, ◌<◌, ◌≤◌, ◌⊎◌, inl, inr, Bool, true, false, cond, ◌&&◌, List, []}
use Rattle.std.proofs.Common.{◌∷◌, ◌++◌, length, map, Option, Some, None, refl, sym, ap, ◌∙◌, arith, append_assoc}
use Rattle.std.proofs.Common.{append-nil, length-append, subst, true≢false}
use Rattle.std.specs.Prelude.{◌==◌, is_some, nat_le, nat_lt, unwrap_or}
use Rattle.std.specs.List.{AllByRecursion, cons_option, flat_map, list_all}
use Rattle.std.specs.Option.{option_map, option_to_list}
use Rattle.std.proofs.lemmas.Bool.Decides.{nat_tests}
use Rattle.std.proofs.lemmas.List.{length-map}
use Rattle.std.proofs.lemmas.List.Elements.{filter_map-append}
use Rattle.hp_num.specs.ParsedDec.{parsed_dec}
use Rattle.ht_lines.specs.Content.{Content, string_line, clear_line, module_line, instruction_line, node_line}
use Rattle.ht_lines.specs.Content.{info_line, allocation_line, free_line, raw_allocation_line, raw_free_line}
use Rattle.ht_lines.specs.Content.{suppression_line}
use Rattle.ht_trace.specs.declared.error.LineError.{LineError}
use Rattle.ht_trace.specs.declared.error.LineError.TheVariants.{TooDeep, UnknownParent}
use Rattle.ht_trace.specs.declared.frame.Frame.{Frame}
use Rattle.ht_trace.specs.FramesSaid.{frames_said, triples, without_file}
use Rattle.ht_trace.specs.Instruction.{Instruction, frame_count_of}
use Rattle.ht_trace.specs.LineFault as of_trace
use Rattle.ht_trace.specs.LineFault.{growth_fault, most_entries, most_nodes}
use Rattle.ht_trace.specs.Pattern.{pattern_of}
use Rattle.ht_trace.specs.TableState.{TableState}
use Rattle.ht_trace.specs.TraceLists as lists
use Rattle.stack_table.specs.Node.{Node}
use Rattle.stack_table.specs.Stack as stacks
use Rattle.interpret.specs.declared.infos.AllocationInfo.{AllocationInfo}
use Rattle.interpret.specs.Interpreted.{info_said, new_in}
use Rattle.interpret.specs.InterpretedSaid.{interpreted_said, told_after, told_from}
use Rattle.interpret.specs.InterpretedTrace.{HasFrames}
use Rattle.interpret.specs.FirstAppearances.{with_all}
use Rattle.interpret.specs.Modules.{LoadedModule, module_of}
use Rattle.interpret.specs.RawBlocks.{RawBlock, freed_by, freed_info, held}
use Rattle.interpret.specs.RawContents.{IsRaw}
use Rattle.interpret.specs.RawFault as raw_fault_of
use Rattle.interpret.specs.RawFault.{full_fault}
use Rattle.interpret.specs.RawTables as raw_tables
use Rattle.interpret.specs.RawTables.{KnownIp, info_number, infos, ip_frames, ip_number, is_numbered, known, known_of}
use Rattle.interpret.specs.RawTables.{known_with, names, new_call, nodes, same_info, tables_of}
use Rattle.interpret.specs.Resolved.{Resolved, SourceFrame, frame_numbers, frames_of, instruction_said, module_number}
use Rattle.interpret.specs.Resolved.{name_number, resolved, resolved_in, texts_in}
use Rattle.interpret.specs.SymbolLine.{Symbol, are_frames, are_texts, is_text}
use Rattle.interpret.specs.SymbolList.{holds, symbol_at}
use Rattle.interpret.proofs.FirstLemmas.{place-within}
use Rattle.interpret.proofs.GrowthLemmas.{infos-push, known-push, nodes-push}
use Rattle.interpret.proofs.KeepLemmas.{Holds}
use Rattle.interpret.proofs.LedgerLemmas.{held_of, infos-append, infos-of}
use Rattle.hp_num.proofs.Laws.{and-true}
use Rattle.interpret.proofs.PointerLemmas.{info-held}
use Rattle.interpret.proofs.ReadAgainLemmas.{AreFew, IsGoodNode, below, good-allocation, good-node}
use Rattle.interpret.proofs.TakeLemmas.{new-call}
use Rattle.interpret.proofs.ToldLemmas.{HasTold, all-more, has-told, instructions-append, known_by, names-grown}
use Rattle.interpret.proofs.ToldLemmas.{new-all, new-grown, no-instructions-said, nodes-append, node_calls, node_names}
use Rattle.interpret.proofs.ToldLemmas.{number-frames, strings-append, strings-said}
use Rattle.interpret.proofs.WritableLemmas.{find-all, module-few, name-few}

-- the tables when some lines were told
abbrev pub said_tables : Option ℕ → List Content → TableState
said_tables version told = record {
  version = version;
  strings = lists.strings told;
  instructions = lists.instructions told;
  nodes = lists.nodes told;
  infos = lists.infos told;
  command = lists.command told;
  patterns = lists.patterns told;
}

-- what some lines say has no fault after what was told
unfoldable pub AreGood : Option ℕ → List Content → List Content → Type 0
AreGood version earlier [] = Unit {0}
AreGood version earlier (c ∷ cs) =
    (of_trace.content_fault (said_tables version earlier) c ≡ None) × AreGood version (earlier ++ c ∷ []) cs

good-append : (version : Option ℕ) (earlier xs ys : List Content) → AreGood version earlier xs
    → AreGood version (earlier ++ xs) ys → AreGood version earlier (xs ++ ys)
unfolding AreGood
good-append version earlier [] ys a b = subst (λ (l : List Content). AreGood version l ys) (append-nil earlier) b
good-append version earlier (x ∷ xs) ys a b = (
  a.0,
  good-append version (earlier ++ x ∷ []) xs ys a.1
      (subst (λ (l : List Content). AreGood version l ys) (sym (append_assoc earlier (x ∷ []) xs)) b),
)

-- a table has room
has-room : (count most : ℕ) → count < most → growth_fault count most ≡ None
has-room count most some = let here : nat_lt count most ≡ true = grind (arith, nat_tests, some) in rw here refl

-- names
strings-good : (version : Option ℕ) (earlier : List Content) (names : List (List ℕ))
    → length (lists.strings earlier) + length names ≤ most_entries → AreGood version earlier (map string_line names)
unfolding AreGood
strings-good version earlier [] few = tt
strings-good version earlier (name ∷ names) few =
    let count =
    ap length (strings-append earlier (string_line name ∷ [])) ∙ length-append (lists.strings earlier) (name ∷ []) in (
      has-room (length (lists.strings earlier)) most_entries (omega (arith, few)),
      strings-good version (earlier ++ string_line name ∷ []) names (omega (arith, few, count)),
    )

-- the frames of an instruction's line name strings that are held

both-held : (function file line count : ℕ) → function ≤ count → file ≤ count
    → (nat_le function count && nat_le file count) ≡ true
both-held function file line count a b =
    let x : nat_le function count ≡ true = grind (arith, nat_tests, a) in
    let y : nat_le file count ≡ true = grind (arith, nat_tests, b) in
    rw (x, y) refl

frames-of-three : (held : List (List ℕ)) (texts : List (List ℕ)) → are_frames texts ≡ true
    → length (flat_map (frame_numbers held) (frames_of texts)) % 3 ≡ 0
frames-of-three held [] are = refl
frames-of-three held (function ∷ []) are = absurd (true≢false (sym are))
frames-of-three held (function ∷ file ∷ []) are = absurd (true≢false (sym are))
frames-of-three held (function ∷ file ∷ line ∷ more) are =
    let a = and-true (is_text function) (is_text file && (is_some (parsed_dec line) && are_frames more)) are in
    let b = and-true (is_text file) (is_some (parsed_dec line) && are_frames more) a.1 in
    let c = and-true (is_some (parsed_dec line)) (are_frames more) b.1 in
    let rest = frames-of-three held more c.1 in
    omega (arith, rest)

frames-rest : (function file line : List ℕ) (more : List (List ℕ)) → are_frames (function ∷ file ∷ line ∷ more) ≡ true
    → are_frames more ≡ true
frames-rest function file line more are =
    let a = and-true (is_text function) (is_text file && (is_some (parsed_dec line) && are_frames more)) are in
    let b = and-true (is_text file) (is_some (parsed_dec line) && are_frames more) a.1 in
    (and-true (is_some (parsed_dec line)) (are_frames more) b.1).1

triples-held : (held : List (List ℕ)) (count : ℕ) (texts : List (List ℕ)) → length held ≤ count
    → are_frames texts ≡ true
    → list_all (λ (frame : Frame). nat_le frame.function count && nat_le frame.file count)
    (triples (flat_map (frame_numbers held) (frames_of texts)))
    ≡ true
triples-held held count [] few are = refl
triples-held held count (function ∷ []) few are = absurd (true≢false (sym are))
triples-held held count (function ∷ file ∷ []) few are = absurd (true≢false (sym are))
triples-held held count (function ∷ file ∷ line ∷ more) few are =
    let a = name-few held function in
    let b = name-few held file in
    let here =
    both-held (name_number held function) (name_number held file) 0 count (omega (arith, a, few))
    (omega (arith, b, few)) in
    rw here (triples-held held count more few (frames-rest function file line more are))

abbrev AreFine : List (List ℕ) → Type 0
AreFine texts = (texts ≡ []) ⊎ (are_texts texts ≡ true)

frames-held : (held : List (List ℕ)) (count : ℕ) (texts : List (List ℕ)) → length held ≤ count → AreFine texts
    → of_trace.frames_held count (frames_said (flat_map (frame_numbers held) (frames_of texts))) ≡ true
frames-held held count [] few fine = let here = both-held 0 0 0 count (omega arith) (omega arith) in rw here refl
frames-held held count (function ∷ []) few fine =
    let a = name-few held function in
    let here = both-held (name_number held function) 0 0 count (omega (arith, a, few)) (omega arith) in rw here refl
frames-held held count (function ∷ file ∷ []) few (inl none) = absurd (cc)
frames-held held count (function ∷ file ∷ []) few (inr are) = absurd (true≢false (sym are))
frames-held held count (function ∷ file ∷ line ∷ more) few (inl none) = absurd (cc)
frames-held held count (function ∷ file ∷ line ∷ more) few (inr are) =
    let rest = frames-of-three held more (frames-rest function file line more are) in
    by (length (name_number held file ∷ unwrap_or (parsed_dec line) 0 ∷ flat_map (frame_numbers held) (frames_of more))
    % 3 == 0) (grind (arith, nat_tests, rest))
  where
    by : (b : Bool) → b ≡ false
        → list_all (λ (frame : Frame). nat_le frame.function count && nat_le frame.file count)
        (cond b
        (without_file (name_number held function)
        ∷ triples
        (name_number held file ∷ unwrap_or (parsed_dec line) 0
        ∷ flat_map (frame_numbers held) (frames_of more)))
        (triples (flat_map (frame_numbers held) (frames_of (function ∷ file ∷ line ∷ more)))))
        ≡ true
    by true is = absurd (true≢false is)
    by false is = triples-held held count (function ∷ file ∷ line ∷ more) few are

-- what stands at an address, with texts as a line of a table has them
resolved-fine : (symbols : List Symbol) (loaded : List LoadedModule) (ip : ℕ) → AllByRecursion HasFrames symbols
    → (texts : List (List ℕ)) × ((resolved symbols loaded ip).frames ≡ frames_of texts) × AreFine texts
unfolding resolved
resolved-fine symbols loaded ip all = by (module_of loaded ip)
  where
    at : (m : LoadedModule) (o : Option Symbol) → symbol_at symbols m.name (ip - m.start) ≡ o
        → AreFine (unwrap_or (option_map (λ (s : Symbol). s.texts) o) [])
    at m None is = inl refl
    at m (Some s) is = inr (find-all HasFrames (holds m.name (ip - m.start)) symbols s all is)

    from : (m : LoadedModule) (b : Bool)
        → AreFine
        (cond b (unwrap_or (option_map (λ (s : Symbol). s.texts) (symbol_at symbols m.name (ip - m.start))) []) [])
    from m true = at m (symbol_at symbols m.name (ip - m.start)) refl
    from m false = inl refl

    by : (o : Option LoadedModule)
        → (texts : List (List ℕ)) × ((resolved_in symbols o ip).frames ≡ frames_of texts) × AreFine texts
    by None = ([], refl, inl refl)
    by (Some m) = (texts_in symbols m ip, refl, from m (nat_le m.start ip))

-- the line of an instruction
call-good : (version : Option ℕ) (front : List Content) (held : List (List ℕ)) (symbols : List Symbol)
    (loaded : List LoadedModule) (ip : ℕ)
    → AllByRecursion HasFrames symbols → length held ≤ length (lists.strings front)
    → length (lists.instructions front) < most_entries
    → of_trace.content_fault (said_tables version front) (instruction_said held (resolved symbols loaded ip)) ≡ None
unfolding instruction_said
call-good version front held symbols loaded ip fine few room =
    let found : Resolved = resolved symbols loaded ip in
    let count = length (lists.strings front) in
    let texts = resolved-fine symbols loaded ip fine in
    let module_few = module-few held found.module_name in
    let module_held : nat_lt count (module_number held found.module_name) ≡ false =
    grind (arith, nat_tests, module_few, few) in
    let frames : of_trace.frames_held count (frames_said (flat_map (frame_numbers held) found.frames)) ≡ true =
    ap (λ (fs : List SourceFrame). of_trace.frames_held count (frames_said (flat_map (frame_numbers held) fs))) texts.1
    ∙ frames-held held count texts.0 few texts.2 in
    let more = has-room (length (lists.instructions front)) most_entries room in
    rw (module_held, frames) more

-- what a node's line gives
pub node-good : (version : Option ℕ) (symbols : List Symbol) (said : List Content) (ip parent : ℕ)
    → AllByRecursion HasFrames symbols → Holds symbols said → AreFew (tables_of symbols said)
    → AreFew (tables_of symbols (said ++ node_line ip parent ∷ []))
    → raw_fault_of.content_fault symbols version (tables_of symbols said) (node_line ip parent) ≡ None
    → AreGood version (interpreted_said symbols said) (told_after symbols said (node_line ip parent))
unfolding AreGood raw_fault_of.content_fault
node-good version symbols said ip parent fine kept few few_after none =
    let c = node_line ip parent in
    let told = interpreted_said symbols said in
    let before = tables_of symbols said in
    let after = names symbols (said ++ c ∷ []) in
    let strings = node_names symbols said c in
    let calls = node_calls symbols said c ip in
    let fresh = new_in before.names after in
    let now = has-told symbols said ip parent kept.are_tables in
    let grown = ap length (names-grown symbols said c) in
    let count = length-append before.names fresh in
    let names_told = ap length kept.are_tables.strings_are in
    let mid_strings : lists.strings (told ++ strings) ≡ after =
    strings-append told strings
    ∙ (ap (λ (l : List (List ℕ)). lists.strings told ++ l) (strings-said fresh)
    ∙ (ap (λ (l : List (List ℕ)). l ++ fresh) kept.are_tables.strings_are ∙ names-grown symbols said c)) in
    let mid_instructions : lists.instructions (told ++ strings) ≡ lists.instructions told =
    instructions-append told strings
    ∙ (ap (λ (l : List Instruction). lists.instructions told ++ l) (no-instructions-said fresh)
    ∙ append-nil (lists.instructions told)) in
    let known_count : length (lists.instructions told) ≡ length before.known =
    sym (length-map (lists.instructions told) known_by) ∙ ap length kept.are_tables.known_are in
    let good =
    good-node before.nodes (ip_frames (known_with before.known (new_call symbols before ip)) ip) parent
    (full_fault (raw_tables.tables_after symbols before c)) none in
    let front = told ++ (strings ++ calls) in
    let node : of_trace.content_fault (said_tables version front)
    (node_line (ip_number (known symbols (said ++ c ∷ [])) ip) parent)
    ≡ None =
    node-fine front now few_after good in
    good-append version told strings (calls ++ node_line (ip_number (known symbols (said ++ c ∷ [])) ip) parent ∷ [])
    (strings-good version told fresh (omega (arith, grown, count, names_told, few_after.names_few)))
    (good-append version (told ++ strings) calls (node_line (ip_number (known symbols (said ++ c ∷ [])) ip) parent ∷ [])
    (call-fine (is_numbered before.known ip) refl mid_strings mid_instructions known_count) (
      subst (λ (l : List Content). of_trace.content_fault (said_tables version l)
          (node_line (ip_number (known symbols (said ++ c ∷ [])) ip) parent)
          ≡ None) (sym
          (append_assoc told strings calls)) node,
      tt,
    ))
  where
    call-fine : (b : Bool) → is_numbered (tables_of symbols said).known ip ≡ b
        → lists.strings (interpreted_said symbols said ++ node_names symbols said (node_line ip parent))
        ≡ names symbols (said ++ node_line ip parent ∷ [])
        → lists.instructions (interpreted_said symbols said ++ node_names symbols said (node_line ip parent))
        ≡ lists.instructions (interpreted_said symbols said)
        → length (lists.instructions (interpreted_said symbols said)) ≡ length (tables_of symbols said).known
        → AreGood version (interpreted_said symbols said ++ node_names symbols said (node_line ip parent))
        (map (instruction_said (names symbols (said ++ node_line ip parent ∷ [])))
        (option_to_list
        (cond {A = Option Resolved} b None (Some (resolved symbols (tables_of symbols said).loaded ip)))))
    call-fine true new strings_are instructions_are count = tt
    call-fine false new strings_are instructions_are count =
        let held = ap length strings_are in
        let instructions = ap length instructions_are in
        let more : length (known symbols (said ++ node_line ip parent ∷ [])) ≡ length (known symbols said) + 1 =
        ap length (known-push symbols said (node_line ip parent))
        ∙ (ap (λ (call : Option Resolved). length (known_with (known symbols said) call))
        (new-call symbols (tables_of symbols said) ip new)
        ∙ length-append (known symbols said)
        (known_of (resolved symbols (tables_of symbols said).loaded ip) ∷ [])) in (
          call-good version (interpreted_said symbols said ++ node_names symbols said (node_line ip parent))
              (names symbols (said ++ node_line ip parent ∷ [])) symbols (tables_of symbols said).loaded ip fine
              (omega (arith, held)) (omega (arith, instructions, count, more, few_after.known_few)),
          tt,
        )

    node-fine : (front : List Content) → HasTold symbols said ip parent front
        → AreFew (tables_of symbols (said ++ node_line ip parent ∷ []))
        → IsGoodNode (tables_of symbols said).nodes
        (ip_frames (known_with (tables_of symbols said).known (new_call symbols (tables_of symbols said) ip)) ip) parent
        (full_fault (raw_tables.tables_after symbols (tables_of symbols said) (node_line ip parent)))
        → of_trace.content_fault (said_tables version front)
        (node_line (ip_number (known symbols (said ++ node_line ip parent ∷ [])) ip) parent)
        ≡ None
    node-fine front now few_after good =
        let held = known symbols (said ++ node_line ip parent ∷ []) in
        let count = length-append (nodes symbols said) (raw_tables.node_of held ip parent ∷ []) in
        let more = ap length (nodes-push symbols said (node_line ip parent)) in
        let frames : ip_frames held ip
        ≡ ip_frames (known_with (known symbols said) (new_call symbols (tables_of symbols said) ip)) ip =
        ap (λ (l : List KnownIp). ip_frames l ip) (known-push symbols said (node_line ip parent)) in
        let shallow : nat_lt stacks.most_frames (stacks.frame_count (nodes symbols said) parent + ip_frames held ip)
        ≡ false =
        ap (λ (n : ℕ). nat_lt stacks.most_frames (stacks.frame_count (nodes symbols said) parent + n)) frames
        ∙ good.shallow in
        let room =
        has-room (length (nodes symbols said)) most_nodes (omega (arith, more, count, few_after.nodes_few)) in
        ap (λ (l : List Node). of_trace.node_fault l (frame_count_of (lists.instructions front) (ip_number held ip))
        parent) now.nodes_now
        ∙ (ap (λ (o : Option ℕ). of_trace.node_fault (nodes symbols said) o parent)
        (number-frames (lists.instructions front) held ip now.known_now now.numbered)
        ∙ (ap
        (λ (b : Bool). cond {A = Option LineError} b (Some UnknownParent)
        (cond {A = Option LineError}
        (nat_lt stacks.most_frames (stacks.frame_count (nodes symbols said) parent + ip_frames held ip))
        (Some TooDeep) (growth_fault (length (nodes symbols said)) most_nodes)))
        good.parent_held
        ∙ (ap
        (λ (b : Bool). cond {A = Option LineError} b (Some TooDeep)
        (growth_fault (length (nodes symbols said)) most_nodes))
        shallow
        ∙ room)))

-- infos
no-nodes-told : (earlier : List Content) (info : AllocationInfo)
    → lists.nodes (earlier ++ info_said info ∷ []) ≡ lists.nodes earlier
no-nodes-told earlier info = nodes-append earlier (info_said info ∷ []) ∙ append-nil (lists.nodes earlier)

infos-good : (version : Option ℕ) (earlier : List Content) (fresh : List AllocationInfo) (count : ℕ)
    → length (lists.nodes earlier) ≡ count → AllByRecursion (λ (info : AllocationInfo). info.trace ≤ count) fresh
    → length (lists.infos earlier) + length fresh ≤ most_entries
    → AreGood version earlier (map info_said fresh)
unfolding AreGood
infos-good version earlier [] count is all few = tt
infos-good version earlier (info ∷ fresh) count is all few =
    let held : nat_lt (length (lists.nodes earlier)) info.trace ≡ false = grind (arith, nat_tests, is, all.0) in
    let room = has-room (length (lists.infos earlier)) most_entries (omega (arith, few)) in
    let more =
    ap length (infos-append earlier (info_said info ∷ []))
    ∙ length-append (lists.infos earlier) (held_of info ∷ []) in (
      rw held room,
      infos-good version (earlier ++ info_said info ∷ []) fresh count (ap length (no-nodes-told earlier info) ∙ is)
          all.1 (omega (arith, few, more)),
    )

pub allocation-good : (version : Option ℕ) (symbols : List Symbol) (said : List Content) (size trace ptr : ℕ)
    → Holds symbols said → AreFew (tables_of symbols (said ++ raw_allocation_line size trace ptr ∷ []))
    → raw_fault_of.content_fault symbols version (tables_of symbols said) (raw_allocation_line size trace ptr) ≡ None
    → AreGood version (interpreted_said symbols said) (told_after symbols said (raw_allocation_line size trace ptr))
unfolding AreGood raw_fault_of.content_fault
allocation-good version symbols said size trace ptr kept few none =
    let c = raw_allocation_line size trace ptr in
    let told = interpreted_said symbols said in
    let pair : AllocationInfo = record { size = size; trace = trace } in
    let before = infos said in
    let after = infos (said ++ c ∷ []) in
    let fresh = new_in before after in
    let good =
    good-allocation (nodes symbols said) trace
    (full_fault (raw_tables.tables_after symbols (tables_of symbols said) c)) none in
    let P = λ (info : AllocationInfo). info.trace ≤ length (nodes symbols said) in
    let held : trace ≤ length (nodes symbols said) = below (length (nodes symbols said)) trace good.0 in
    let push : after ≡ with_all same_info before (record { size = size; trace = trace } ∷ []) = infos-push said c in
    let grows = all-more P same_info before (record { size = size; trace = trace } ∷ []) (held, tt) in
    let each : AllByRecursion P fresh =
    subst (λ (l : List AllocationInfo). AllByRecursion P (new_in before l)) (sym push)
    (subst (λ (l : List AllocationInfo). AllByRecursion P l)
    (sym (new-grown P before (with_all same_info before (record { size = size; trace = trace } ∷ [])) grows))
    grows.each) in
    let whole : before ++ fresh ≡ after =
    ap (λ (l : List AllocationInfo). before ++ new_in before l) push
    ∙ (new-all same_info before (record { size = size; trace = trace } ∷ []) ∙ sym push) in
    let counts = ap length whole in
    let count = length-append before fresh in
    let infos_told : length (lists.infos told) ≡ length before =
    ap length kept.are_told.infos_are ∙ length-map before held_of in
    let nodes_told = ap length kept.are_tables.nodes_are in
    let number : info_number after (record { size = size; trace = trace }) < length after =
    subst (λ (l : List AllocationInfo). info_number l (record { size = size; trace = trace }) < length l) (sym push)
    (info-held before (record { size = size; trace = trace })) in
    let now : length (lists.infos (told ++ map info_said fresh)) ≡ length (lists.infos told) + length fresh =
    ap length (infos-append told (map info_said fresh))
    ∙ (length-append (lists.infos told) (lists.infos (map info_said fresh))
    ∙ ap (λ (n : ℕ). length (lists.infos told) + n) (ap length (infos-of fresh) ∙ length-map fresh held_of)) in
    let inside : nat_lt (info_number after (record { size = size; trace = trace }))
    (length (lists.infos (told ++ map info_said fresh)))
    ≡ true = grind (arith, nat_tests, number, now, infos_told, counts, count) in
    good-append version told (map info_said fresh)
    (allocation_line (info_number after (record { size = size; trace = trace })) ∷ [])
    (infos-good version told fresh (length (nodes symbols said)) nodes_told each
    (omega (arith, infos_told, counts, count, few.infos_few)))
    (rw inside refl, tt)

pub free-good : (version : Option ℕ) (symbols : List Symbol) (said : List Content) (ptr : ℕ) (o : Option RawBlock)
    → held said ptr ≡ o → Holds symbols said
    → AreGood version (interpreted_said symbols said) (map free_line (option_to_list (freed_info (infos said) o)))
unfolding AreGood
free-good version symbols said ptr None is kept = tt
free-good version symbols said ptr (Some block) is kept =
    let there = kept.are_told.block_infos ptr block is in
    let number = place-within (same_info block.info) (infos said) there in
    let infos_told : length (lists.infos (interpreted_said symbols said)) ≡ length (infos said) =
    ap length kept.are_told.infos_are ∙ length-map (infos said) held_of in
    let inside : nat_lt (info_number (infos said) block.info) (length (lists.infos (interpreted_said symbols said)))
    ≡ true = grind (arith, nat_tests, number, infos_told) in
    (rw inside refl, tt)

-- suppressions are passed on

no-patterns-strings : (names : List (List ℕ)) → lists.patterns (map string_line names) ≡ []
no-patterns-strings [] = refl
no-patterns-strings (name ∷ names) = no-patterns-strings names

no-patterns-calls : (names : List (List ℕ)) (calls : List Resolved)
    → lists.patterns (map (instruction_said names) calls) ≡ []
unfolding instruction_said
no-patterns-calls names [] = refl
no-patterns-calls names (call ∷ calls) = no-patterns-calls names calls

no-patterns-infos : (fresh : List AllocationInfo) → lists.patterns (map info_said fresh) ≡ []
no-patterns-infos [] = refl
no-patterns-infos (info ∷ fresh) = no-patterns-infos fresh

no-patterns-frees : (o : Option ℕ) → lists.patterns (map free_line (option_to_list o)) ≡ []
no-patterns-frees None = refl
no-patterns-frees (Some n) = refl

pub patterns-append : (xs ys : List Content) → lists.patterns (xs ++ ys) ≡ lists.patterns xs ++ lists.patterns ys
patterns-append xs ys = filter_map-append lists.pattern_in xs ys

patterns-after : (symbols : List Symbol) (said : List Content) (c : Content) → IsRaw c
    → lists.patterns (told_after symbols said c) ≡ lists.patterns (c ∷ [])
patterns-after symbols said (string_line bytes) raw = absurd raw
patterns-after symbols said (instruction_line ip module_string frames) raw = absurd raw
patterns-after symbols said (info_line size trace) raw = absurd raw
patterns-after symbols said (allocation_line info) raw = absurd raw
patterns-after symbols said (free_line info) raw = absurd raw
patterns-after symbols said (node_line ip parent) raw =
    let strings = node_names symbols said (node_line ip parent) in
    let calls = node_calls symbols said (node_line ip parent) ip in
    let after = names symbols (said ++ node_line ip parent ∷ []) in
    let last : List Content = node_line (ip_number (known symbols (said ++ node_line ip parent ∷ [])) ip) parent ∷ [] in
    patterns-append strings (calls ++ last)
    ∙ (ap (λ (l : List (List ℕ)). l ++ lists.patterns (calls ++ last))
    (no-patterns-strings (new_in (names symbols said) after))
    ∙ (patterns-append calls last
    ∙ ap (λ (l : List (List ℕ)). l ++ [])
    (no-patterns-calls after (option_to_list (new_call symbols (tables_of symbols said) ip)))))
patterns-after symbols said (raw_allocation_line size trace ptr) raw =
    let fresh = new_in (infos said) (infos (said ++ raw_allocation_line size trace ptr ∷ [])) in
    patterns-append (map info_said fresh) _ ∙ ap (λ (l : List (List ℕ)). l ++ []) (no-patterns-infos fresh)
patterns-after symbols said (raw_free_line ptr) raw =
    no-patterns-frees (freed_info (infos said) (freed_by said (raw_free_line ptr)))
patterns-after symbols said clear_line raw = refl
patterns-after symbols said (module_line name start ranges) raw = refl
patterns-after symbols said c raw = refl

patterns-from : (symbols : List Symbol) (earlier said : List Content) → AllByRecursion IsRaw said
    → lists.patterns (told_from symbols earlier said) ≡ lists.patterns said
patterns-from symbols earlier [] raw = refl
patterns-from symbols earlier (c ∷ said) raw =
    patterns-append (told_after symbols earlier c) (told_from symbols (earlier ++ c ∷ []) said)
    ∙ (ap (λ (l : List (List ℕ)). l ++ lists.patterns (told_from symbols (earlier ++ c ∷ []) said))
    (patterns-after symbols earlier c raw.0)
    ∙ (ap (λ (l : List (List ℕ)). lists.patterns (c ∷ []) ++ l) (patterns-from symbols (earlier ++ c ∷ []) said raw.1)
    ∙ sym (patterns-append (c ∷ []) said)))

pub patterns-told : (symbols : List Symbol) (said : List Content) → AllByRecursion IsRaw said
    → lists.patterns (interpreted_said symbols said) ≡ lists.patterns said
unfolding interpreted_said
patterns-told symbols said raw = patterns-from symbols [] said raw

-- a suppression that is one more
pub suppression-good : (version : Option ℕ) (told said : List Content) (bytes : List ℕ)
    → lists.patterns told ≡ lists.patterns said
    → length (lists.patterns (said ++ suppression_line bytes ∷ [])) ≤ most_entries
    → of_trace.content_fault (said_tables version told) (suppression_line bytes) ≡ None
suppression-good version told said bytes is few =
    by (pattern_of bytes) (ap length (patterns-append said (suppression_line bytes ∷ [])))
  where
    by : (o : Option (List ℕ))
        → length (lists.patterns (said ++ suppression_line bytes ∷ [])) ≡ length
        (lists.patterns said ++ cons_option o [])
        → cond {A = Option LineError} (is_some o) (growth_fault (length (lists.patterns told)) most_entries) None ≡ None
    by None count = refl
    by (Some pattern) count =
        let more =
        length-append (lists.patterns said) (pattern ∷ []) in let same =
        ap length is in has-room (length (lists.patterns told)) most_entries (omega (arith, few, count, more, same))
