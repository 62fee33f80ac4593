-- The tables that the interpreted lines give are those of the raw ones.
use Rattle.std.proofs.Common.{◌≡◌, ℕ, ◌+◌, ◌*◌, ◌-◌, ◌%◌, ◌⊎◌, inl, inr, Bool, true, false, cond, ◌||◌, List, [], ◌∷◌}
use Rattle.std.proofs.Common.{◌++◌, length, map, max, Option, Some, None, refl, sym, ap, ◌∙◌, arith, append_assoc}
use Rattle.std.proofs.Common.{append-nil, true≢false}
use Rattle.std.specs.Prelude.{◌==◌, drop, find, slice_get, unwrap_or}
use Rattle.std.specs.List.{AllByRecursion, flat_map, list_any, position_or_len}
use Rattle.std.specs.Option.{option_map, option_to_list}
use Rattle.std.specs.Str.{bytes_eq}
use Rattle.std.proofs.Math.Seq.{drop-append_seam}
use Rattle.std.proofs.lemmas.Bool.{eqb-true, eq-eqb}
use Rattle.std.proofs.lemmas.Bool.Decides.{nat_tests}
use Rattle.std.proofs.lemmas.List.{map-append}
use Rattle.std.proofs.lemmas.List.Elements.{filter_map-append}
use Rattle.std.proofs.lemmas.List.Folds.{find_at, list_any-append}
use Rattle.std.proofs.lemmas.Option.{slice_get-map}
use Rattle.ht_lines.specs.Content.{Content, string_line, instruction_line, node_line, info_line, allocation_line}
use Rattle.ht_lines.specs.Content.{free_line, raw_allocation_line, raw_free_line, clear_line, module_line}
use Rattle.ht_trace.specs.FramesSaid.{frames_said, triples, without_file}
use Rattle.ht_trace.specs.Gathered.{gathered}
use Rattle.ht_trace.specs.Instruction.{Instruction, frame_count_of}
use Rattle.ht_trace.specs.TraceLists as lists
use Rattle.stack_table.specs.Node.{Node}
use Rattle.interpret.specs.declared.infos.AllocationInfo.{AllocationInfo}
use Rattle.interpret.specs.FirstAppearances.{with_all, with_new}
use Rattle.interpret.specs.Interpreted.{info_said, new_in}
use Rattle.interpret.specs.InterpretedSaid.{interpreted_said, told_after}
use Rattle.interpret.specs.Modules.{LoadedModule, module_of}
use Rattle.interpret.specs.RawBlocks.{freed_by, freed_info, held}
use Rattle.interpret.specs.RawContents.{IsRaw}
use Rattle.interpret.specs.RawTables.{KnownIp, RawTables, ip_frames, instructions, ip_number, is_numbered, known}
use Rattle.interpret.specs.RawTables.{known_of, known_with, names, names_with, new_call, node_in, node_of, nodes}
use Rattle.interpret.specs.RawTables.{tables_of}
use Rattle.interpret.specs.Resolved.{Resolved, SourceFrame, frame_numbers, frames_of, instruction_said, module_number}
use Rattle.interpret.specs.Resolved.{names_called, resolved, resolved_in, texts_in}
use Rattle.interpret.specs.SymbolLine.{Symbol}
use Rattle.interpret.proofs.FirstLemmas.{with-absent, with-held}
use Rattle.interpret.proofs.GrowthLemmas.{added, known-push, names-push, nodes-push}
use Rattle.interpret.proofs.LedgerLemmas.{all-append, gathered-append, interpreted-push}
use Rattle.interpret.proofs.TakeLemmas.{held-call, new-call, resolved-ip}

-- the numbers of frames that texts say, and how many frames they are again

-- the frames of a symbol give three numbers each, but one that stands last may give one
pub numbers-count : (held : List (List ℕ)) (texts : List (List ℕ))
    → (length (flat_map (frame_numbers held) (frames_of texts)) ≡ 3 * length (frames_of texts))
    ⊎ (length (flat_map (frame_numbers held) (frames_of texts)) + 2 ≡ 3 * length (frames_of texts))
numbers-count held [] = inl refl
numbers-count held (function ∷ []) = inr refl
numbers-count held (function ∷ file ∷ []) = inr refl
numbers-count held (function ∷ file ∷ line ∷ more) =
    elim (numbers-count held more) [
      | inl is ↦ inl (omega (arith, is))
      | inr is ↦ inr (omega (arith, is))
    ]

triples-count : (ns : List ℕ) → 3 * length (triples ns) + length ns % 3 ≡ length ns
triples-count [] = refl
triples-count (function ∷ []) = refl
triples-count (function ∷ file ∷ []) = refl
triples-count (function ∷ file ∷ line ∷ more) = let rest = triples-count more in omega (arith, rest)

-- the frames of numbers that come so are as many again; where there are none, one frame names nothing
frames-again : (ns : List ℕ) (count : ℕ) → (length ns ≡ 3 * count) ⊎ (length ns + 2 ≡ 3 * count)
    → length (frames_said ns) ≡ max 1 count
frames-again [] count (inl is) = let none : count ≡ 0 = omega (arith, is) in rw none refl
frames-again [] count (inr is) = absurd (omega (arith, is))
frames-again (function ∷ more) count is = by (length more % 3 == 0) refl is
  where
    by : (b : Bool) → (length more % 3 == 0) ≡ b
        → (length (function ∷ more) ≡ 3 * count) ⊎ (length (function ∷ more) + 2 ≡ 3 * count)
        → length (cond b (without_file function ∷ triples more) (triples (function ∷ more))) ≡ max 1 count
    by true e (inl is) = let divided = eqb-true (length more % 3) 0 e in absurd (omega (arith, divided, is))
    by true e (inr is) =
        let rest = triples-count more in let divided = eqb-true (length more % 3) 0 e in omega
        (arith, rest, divided, is)
    by false e (inl is) = let rest = triples-count (function ∷ more) in omega (arith, rest, is)
    by false e (inr is) =
        let divided : length more % 3 ≡ 0 =
        omega (arith, is) in absurd (true≢false (sym (eq-eqb (length more % 3) 0 divided) ∙ e))

-- what stands at an address has the frames that some texts say
pub resolved-texts : (symbols : List Symbol) (loaded : List LoadedModule) (ip : ℕ)
    → (texts : List (List ℕ)) × ((resolved symbols loaded ip).frames ≡ frames_of texts)
unfolding resolved
resolved-texts symbols loaded ip = by (module_of loaded ip)
  where
    by : (o : Option LoadedModule) → (texts : List (List ℕ)) × ((resolved_in symbols o ip).frames ≡ frames_of texts)
    by None = ([], refl)
    by (Some m) = (texts_in symbols m ip, refl)

-- an instruction as its line says it, and as it is numbered
abbrev said_instruction : List (List ℕ) → Resolved → Instruction
said_instruction names found =
    record {
      ip = found.ip;
      module_string = module_number names found.module_name;
      frames = frames_said (flat_map (frame_numbers names) found.frames);
    }

abbrev pub known_by : Instruction → KnownIp
known_by instruction = record { ip = instruction.ip; frames = length instruction.frames }

said-known : (names : List (List ℕ)) (symbols : List Symbol) (loaded : List LoadedModule) (ip : ℕ)
    → known_by (said_instruction names (resolved symbols loaded ip)) ≡ known_of (resolved symbols loaded ip)
said-known names symbols loaded ip =
    let found : Resolved = resolved symbols loaded ip in
    let texts = resolved-texts symbols loaded ip in
    ap (λ (n : ℕ). record { ip = found.ip; frames = n })
    (ap (λ (fs : List SourceFrame). length (frames_said (flat_map (frame_numbers names) fs))) texts.1
    ∙ (frames-again (flat_map (frame_numbers names) (frames_of texts.0)) (length (frames_of texts.0))
    (numbers-count names texts.0)
    ∙ ap (λ (fs : List SourceFrame). max 1 (length fs)) (sym texts.1)))

call-known : (names : List (List ℕ)) (symbols : List Symbol) (loaded : List LoadedModule) (ip : ℕ) (b : Bool)
    → map known_by
    (map (said_instruction names)
    (option_to_list (cond {A = Option Resolved} b None (Some (resolved symbols loaded ip)))))
    ≡ map known_of (option_to_list (cond {A = Option Resolved} b None (Some (resolved symbols loaded ip))))
call-known names symbols loaded ip true = refl
call-known names symbols loaded ip false = ap (λ (k : KnownIp). k ∷ []) (said-known names symbols loaded ip)

-- the instruction of a number

any-found : {X : Type 0} (p : X → Bool) (xs : List X) → list_any p xs ≡ true
    → (x : X) × (find p xs ≡ Some x) × (p x ≡ true)
any-found p [] none = absurd (true≢false (sym none))
any-found {X} p (x ∷ xs) some = by (p x) refl some (λ rest. any-found p xs rest)
  where
    by : (b : Bool) → p x ≡ b → (b || list_any p xs) ≡ true
        → (list_any p xs ≡ true → (y : X) × (find p xs ≡ Some y) × (p y ≡ true))
        → (y : X) × (cond {A = Option X} b (Some x) (find p xs) ≡ Some y) × (p y ≡ true)
    by true e some rest = (x, refl, e)
    by false e some rest = rest some

-- the entry at the place of an instruction pointer
place-found : (held : List KnownIp) (ip : ℕ) → list_any (λ (k : KnownIp). ip == k.ip) held ≡ true
    → (k : KnownIp) × (find (λ (k : KnownIp). ip == k.ip) held ≡ Some k)
    × (slice_get held (position_or_len (λ (k : KnownIp). ip == k.ip) held + 1 - 1) ≡ Some k) × (k.ip ≡ ip)
place-found held ip some =
    let found = any-found (λ (k : KnownIp). ip == k.ip) held some in
    let place : position_or_len (λ (k : KnownIp). ip == k.ip) held + 1 - 1
    ≡ position_or_len (λ (k : KnownIp). ip == k.ip) held = omega arith in (
      found.0,
      found.1,
      ap (λ (n : ℕ). slice_get held n) place ∙ (sym (find_at (λ (k : KnownIp). ip == k.ip) held) ∙ found.1),
      sym (eqb-true ip found.0.ip found.2),
    )

entry-of : (instructions : List Instruction) (held : List KnownIp) (n : ℕ) → map known_by instructions ≡ held
    → option_map known_by (slice_get instructions n) ≡ slice_get held n
entry-of instructions held n is =
    sym (slice_get-map known_by instructions n) ∙ ap (λ (l : List KnownIp). slice_get l n) is

pub number-frames : (instructions : List Instruction) (held : List KnownIp) (ip : ℕ) → map known_by instructions ≡ held
    → is_numbered held ip ≡ true → frame_count_of instructions (ip_number held ip) ≡ Some (ip_frames held ip)
number-frames instructions held ip is some = by (ip == 0) some
  where
    frames-of : (o : Option Instruction)
        → option_map (λ (i : Instruction). length i.frames) o
        ≡ option_map (λ (k : KnownIp). k.frames) (option_map known_by o)
    frames-of None = refl
    frames-of (Some i) = refl

    by : (b : Bool) → (b || list_any (λ (k : KnownIp). ip == k.ip) held) ≡ true
        → frame_count_of instructions (cond b 0 (position_or_len (λ (k : KnownIp). ip == k.ip) held + 1))
        ≡ Some
        (cond b 1 (unwrap_or (option_map (λ (k : KnownIp). k.frames) (find (λ (k : KnownIp). ip == k.ip) held)) 1))
    by true some = refl
    by false some =
        let found = place-found held ip some in
        let other : (position_or_len (λ (k : KnownIp). ip == k.ip) held + 1 == 0) ≡ false = grind (arith, nat_tests) in
        let at = entry-of instructions held (position_or_len (λ (k : KnownIp). ip == k.ip) held + 1 - 1) is ∙ found.2 in
        ap (λ (b : Bool). cond {A = Option ℕ} b (Some 1)
        (option_map (λ (i : Instruction). length i.frames)
        (slice_get instructions (position_or_len (λ (k : KnownIp). ip == k.ip) held + 1 - 1))))
        other
        ∙ (frames-of (slice_get instructions (position_or_len (λ (k : KnownIp). ip == k.ip) held + 1 - 1))
        ∙ (ap (λ (o : Option KnownIp). option_map (λ (k : KnownIp). k.frames) o) at
        ∙ sym (ap (λ (o : Option KnownIp). Some (unwrap_or (option_map (λ (k : KnownIp). k.frames) o) 1)) found.1)))

-- the numbers of the addresses, in the terms of what is known
abbrev pub known_ip : List KnownIp → ℕ → Option ℕ
known_ip held n = cond {A = Option ℕ} (n == 0) (Some 0) (option_map (λ (k : KnownIp). k.ip) (slice_get held (n - 1)))

pub number-ip : (held : List KnownIp) (ip : ℕ) → is_numbered held ip ≡ true
    → known_ip held (ip_number held ip) ≡ Some ip
number-ip held ip some = by (ip == 0) refl some
  where
    by : (b : Bool) → (ip == 0) ≡ b → (b || list_any (λ (k : KnownIp). ip == k.ip) held) ≡ true
        → known_ip held (cond b 0 (position_or_len (λ (k : KnownIp). ip == k.ip) held + 1)) ≡ Some ip
    by true e some = ap Some (sym (eqb-true ip 0 e))
    by false e some =
        let found = place-found held ip some in
        let other : (position_or_len (λ (k : KnownIp). ip == k.ip) held + 1 == 0) ≡ false = grind (arith, nat_tests) in
        ap (λ (b : Bool). cond {A = Option ℕ} b (Some 0)
        (option_map (λ (k : KnownIp). k.ip)
        (slice_get held (position_or_len (λ (k : KnownIp). ip == k.ip) held + 1 - 1))))
        other
        ∙ (ap (λ (o : Option KnownIp). option_map (λ (k : KnownIp). k.ip) o) found.2 ∙ ap Some found.3)

-- the address of a line has a number from the line on
pub now-numbered : (symbols : List Symbol) (tables : RawTables) (ip : ℕ)
    → is_numbered (known_with tables.known (new_call symbols tables ip)) ip ≡ true
now-numbered symbols tables ip = by (is_numbered tables.known ip) refl
  where
    by : (b : Bool) → is_numbered tables.known ip ≡ b
        → is_numbered (known_with tables.known (new_call symbols tables ip)) ip ≡ true
    by true e =
        ap (λ (call : Option Resolved). is_numbered (known_with tables.known call) ip) (held-call symbols tables ip e)
        ∙ (ap (λ (l : List KnownIp). is_numbered l ip) (append-nil tables.known) ∙ e)
    by false e =
        let found : Resolved = resolved symbols tables.loaded ip in
        let here : (ip == found.ip) ≡ true = eq-eqb ip found.ip (sym (resolved-ip symbols tables.loaded ip)) in
        ap (λ (call : Option Resolved). is_numbered (known_with tables.known call) ip) (new-call symbols tables ip e)
        ∙ (ap (λ (b : Bool). (ip == 0) || b)
        (list_any-append (λ (k : KnownIp). ip == k.ip) tables.known (known_of found ∷ [])
        ∙ (ap (λ (b : Bool). list_any (λ (k : KnownIp). ip == k.ip) tables.known || (b || false)) here
        ∙ or-true (list_any (λ (k : KnownIp). ip == k.ip) tables.known)))
        ∙ or-true (ip == 0))
      where
        or-true : (b : Bool) → (b || true) ≡ true
        or-true true = refl
        or-true false = refl

-- a list that grows keeps its front, and what is behind it was called for
pub record Grows {X : Type 0} (P : X → Type 0) (held all : List X) : Type 0 where
  pub more : List X
  pub grown : all ≡ held ++ more
  pub each : AllByRecursion P more

pub all-more : {X : Type 0} (P : X → Type 0) (same : X → X → Bool) (held called : List X) → AllByRecursion P called
    → Grows P held (with_all same held called)
all-more P same held [] all = record { more = []; grown = sym (append-nil held); each = tt }
all-more {X} P same held (x ∷ called) all =
    by (list_any (same x) held) refl (all-more P same held called all.1) (all-more P same (held ++ x ∷ []) called all.1)
  where
    by : (b : Bool) → list_any (same x) held ≡ b → Grows P held (with_all same held called)
        → Grows P (held ++ x ∷ []) (with_all same (held ++ x ∷ []) called)
        → Grows P held (with_all same (with_new same held x) called)
    by true e rest other =
        record {
          more = rest.more;
          grown = ap (λ (l : List X). with_all same l called) (with-held same held x e) ∙ rest.grown;
          each = rest.each;
        }
    by false e other rest =
        record {
          more = x ∷ rest.more;
          grown =
              ap (λ (l : List X). with_all same l called) (with-absent same held x e)
              ∙ (rest.grown ∙ append_assoc held (x ∷ []) rest.more);
          each = (all.0, rest.each);
        }

pub new-grown : {X : Type 0} (P : X → Type 0) (held all : List X) (grows : Grows P held all)
    → new_in held all ≡ grows.more
new-grown {X} P held all grows =
    ap (λ (l : List X). drop (length held) l) grows.grown ∙ drop-append_seam held grows.more

any-all : {X : Type 0} (xs : List X) → AllByRecursion (λ x. Unit {0}) xs
any-all [] = tt
any-all (x ∷ xs) = (tt, any-all xs)

-- what is new at its end, behind what it held
pub new-all : {X : Type 0} (same : X → X → Bool) (held called : List X)
    → held ++ new_in held (with_all same held called) ≡ with_all same held called
new-all {X} same held called =
    let grows = all-more (λ x. Unit {0}) same held called (any-all called) in
    ap (λ (l : List X). held ++ l) (new-grown (λ x. Unit {0}) held (with_all same held called) grows) ∙ sym grows.grown

-- what lines give to the tables

abbrev node_behind : List Content → Content → Option Node
node_behind earlier said = lists.node_in (lists.instructions earlier) said

-- lines that give nothing
abbrev IsTableless : Content → Type 0
IsTableless said =
    (lists.string_in said ≡ None) × (lists.instruction_in said ≡ None)
    × ((held : List Instruction) → lists.node_in held said ≡ None)

no-strings : (xs : List Content) → AllByRecursion IsTableless xs → lists.strings xs ≡ []
no-strings [] all = refl
no-strings (x ∷ xs) all = rw (all.0.0) (no-strings xs all.1)

no-instructions : (xs : List Content) → AllByRecursion IsTableless xs → lists.instructions xs ≡ []
no-instructions [] all = refl
no-instructions (x ∷ xs) all = rw (all.0.1) (no-instructions xs all.1)

no-nodes : (earlier xs : List Content) → AllByRecursion IsTableless xs → gathered node_behind earlier xs ≡ []
no-nodes earlier [] all = refl
no-nodes earlier (x ∷ xs) all = rw (all.0.2 (lists.instructions earlier)) (no-nodes (earlier ++ x ∷ []) xs all.1)

infos-tableless : (more : List AllocationInfo) → AllByRecursion IsTableless (map info_said more)
infos-tableless [] = tt
infos-tableless (info ∷ more) = ((refl, refl, λ held. refl), infos-tableless more)

frees-tableless : (o : Option ℕ) → AllByRecursion IsTableless (map free_line (option_to_list o))
frees-tableless None = tt
frees-tableless (Some n) = ((refl, refl, λ held. refl), tt)

-- lines of names
pub strings-said : (names : List (List ℕ)) → lists.strings (map string_line names) ≡ names
strings-said [] = refl
strings-said (name ∷ names) = ap (λ (l : List (List ℕ)). name ∷ l) (strings-said names)

pub no-instructions-said : (names : List (List ℕ)) → lists.instructions (map string_line names) ≡ []
no-instructions-said [] = refl
no-instructions-said (name ∷ names) = no-instructions-said names

no-nodes-said : (earlier : List Content) (names : List (List ℕ))
    → gathered node_behind earlier (map string_line names) ≡ []
no-nodes-said earlier [] = refl
no-nodes-said earlier (name ∷ names) = no-nodes-said (earlier ++ string_line name ∷ []) names

-- lines of instructions
calls-strings : (names : List (List ℕ)) (calls : List Resolved)
    → lists.strings (map (instruction_said names) calls) ≡ []
unfolding instruction_said
calls-strings names [] = refl
calls-strings names (call ∷ calls) = calls-strings names calls

calls-instructions : (names : List (List ℕ)) (calls : List Resolved)
    → lists.instructions (map (instruction_said names) calls) ≡ map (said_instruction names) calls
unfolding instruction_said
calls-instructions names [] = refl
calls-instructions names (call ∷ calls) =
    ap (λ (l : List Instruction). said_instruction names call ∷ l) (calls-instructions names calls)

calls-nodes : (names : List (List ℕ)) (earlier : List Content) (calls : List Resolved)
    → gathered node_behind earlier (map (instruction_said names) calls) ≡ []
unfolding instruction_said
calls-nodes names earlier [] = refl
calls-nodes names earlier (call ∷ calls) = calls-nodes names (earlier ++ instruction_said names call ∷ []) calls

-- the tables of what is told are those of what was said
pub record AreTables (symbols : List Symbol) (said : List Content) : Type 0 where
  pub strings_are : lists.strings (interpreted_said symbols said) ≡ names symbols said
  pub known_are : map known_by (lists.instructions (interpreted_said symbols said)) ≡ known symbols said
  pub nodes_are : lists.nodes (interpreted_said symbols said) ≡ nodes symbols said

pub strings-append : (xs ys : List Content) → lists.strings (xs ++ ys) ≡ lists.strings xs ++ lists.strings ys
strings-append xs ys = filter_map-append lists.string_in xs ys

pub instructions-append : (xs ys : List Content)
    → lists.instructions (xs ++ ys) ≡ lists.instructions xs ++ lists.instructions ys
instructions-append xs ys = filter_map-append lists.instruction_in xs ys

pub nodes-append : (xs ys : List Content) → lists.nodes (xs ++ ys) ≡ lists.nodes xs ++ gathered node_behind xs ys
nodes-append xs ys = gathered-append node_behind [] xs ys

-- with a line more that gives nothing
tables-same : (symbols : List Symbol) (said : List Content) (c : Content)
    → AllByRecursion IsTableless (told_after symbols said c) → added symbols said c ≡ None
    → node_in symbols said c ≡ None → AreTables symbols said → AreTables symbols (said ++ c ∷ [])
tables-same symbols said c all none no_node are =
    let told = interpreted_said symbols said in
    let more = told_after symbols said c in
    let push = interpreted-push symbols said c in
    record {
      strings_are =
          ap (λ (l : List Content). lists.strings l) push
          ∙ (strings-append told more
          ∙ (ap (λ (l : List (List ℕ)). lists.strings told ++ l) (no-strings more all)
          ∙ (append-nil (lists.strings told)
          ∙ (are.strings_are
          ∙ sym (names-push symbols said c ∙ ap (λ (o : Option Resolved). names_with (names symbols said) o) none)))));
      known_are =
          ap (λ (l : List Content). map known_by (lists.instructions l)) push
          ∙ (ap (λ (l : List Instruction). map known_by l)
          (instructions-append told more
          ∙ (ap (λ (l : List Instruction). lists.instructions told ++ l) (no-instructions more all)
          ∙ append-nil (lists.instructions told)))
          ∙ (are.known_are
          ∙ sym
          (known-push symbols said c
          ∙ (ap (λ (o : Option Resolved). known_with (known symbols said) o) none
          ∙ append-nil (known symbols said)))));
      nodes_are =
          ap (λ (l : List Content). lists.nodes l) push
          ∙ (nodes-append told more
          ∙ (ap (λ (l : List Node). lists.nodes told ++ l) (no-nodes told more all) ∙ (append-nil (lists.nodes told)
          ∙ (are.nodes_are
          ∙ sym
          (nodes-push symbols said c
          ∙ (ap (λ (o : Option Node). nodes symbols said ++ option_to_list o) no_node
          ∙ append-nil (nodes symbols said)))))));
    }

-- what a node's line gives before it says the node: new names, and then a new instruction
abbrev pub node_names : List Symbol → List Content → Content → List Content
node_names symbols said c = map string_line (new_in (names symbols said) (names symbols (said ++ c ∷ [])))

abbrev pub node_calls : List Symbol → List Content → Content → ℕ → List Content
node_calls symbols said c ip =
    map (instruction_said (names symbols (said ++ c ∷ [])))
    (option_to_list (new_call symbols (tables_of symbols said) ip))

-- the tables when the node is said
pub record HasTold (symbols : List Symbol) (said : List Content) (ip parent : ℕ) (front : List Content) : Type 0 where
  pub strings_now : lists.strings front ≡ names symbols (said ++ node_line ip parent ∷ [])
  pub known_now : map known_by (lists.instructions front) ≡ known symbols (said ++ node_line ip parent ∷ [])
  pub nodes_now : lists.nodes front ≡ nodes symbols said
  pub numbered : is_numbered (known symbols (said ++ node_line ip parent ∷ [])) ip ≡ true

pub names-grown : (symbols : List Symbol) (said : List Content) (c : Content)
    → names symbols said ++ new_in (names symbols said) (names symbols (said ++ c ∷ []))
    ≡ names symbols (said ++ c ∷ [])
names-grown symbols said c =
    ap (λ (l : List (List ℕ)). names symbols said ++ new_in (names symbols said) l) (names-push symbols said c)
    ∙ (new-all bytes_eq (names symbols said) (flat_map names_called (option_to_list (added symbols said c)))
    ∙ sym (names-push symbols said c))

pub has-told : (symbols : List Symbol) (said : List Content) (ip parent : ℕ) → AreTables symbols said
    → HasTold symbols said ip parent
    (interpreted_said symbols said
    ++ (node_names symbols said (node_line ip parent) ++ node_calls symbols said (node_line ip parent) ip))
has-told symbols said ip parent are =
    let c = node_line ip parent in
    let told = interpreted_said symbols said in
    let before = tables_of symbols said in
    let after = names symbols (said ++ c ∷ []) in
    let call = new_call symbols before ip in
    let fresh = new_in before.names after in
    let strings = node_names symbols said c in
    let instructions = node_calls symbols said c ip in
    record {
      strings_now =
          strings-append told (strings ++ instructions)
          ∙ (ap (λ (l : List (List ℕ)). lists.strings told ++ l)
          (strings-append strings instructions
          ∙ (ap (λ (l : List (List ℕ)). lists.strings strings ++ l) (calls-strings after (option_to_list call))
          ∙ (append-nil (lists.strings strings) ∙ strings-said fresh)))
          ∙ (ap (λ (l : List (List ℕ)). l ++ fresh) are.strings_are ∙ names-grown symbols said c));
      known_now =
          ap (λ (l : List Instruction). map known_by l)
          (instructions-append told (strings ++ instructions)
          ∙ ap (λ (l : List Instruction). lists.instructions told ++ l)
          (instructions-append strings instructions
          ∙
          (ap (λ (l : List Instruction). l ++ lists.instructions instructions) (no-instructions-said fresh)
          ∙ calls-instructions after (option_to_list call))))
          ∙ (map-append known_by (lists.instructions told) (map (said_instruction after) (option_to_list call))
          ∙ (ap (λ (l : List KnownIp). l ++ map known_by (map (said_instruction after) (option_to_list call)))
          are.known_are
          ∙ (ap (λ (l : List KnownIp). known symbols said ++ l)
          (call-known after symbols before.loaded ip (is_numbered before.known ip))
          ∙ sym (known-push symbols said c))));
      nodes_now =
          nodes-append told (strings ++ instructions)
          ∙ (ap (λ (l : List Node). lists.nodes told ++ l)
          (gathered-append node_behind told strings instructions
          ∙ (ap (λ (l : List Node). l ++ gathered node_behind (told ++ strings) instructions)
          (no-nodes-said told fresh)
          ∙ calls-nodes after (told ++ strings) (option_to_list call)))
          ∙ (append-nil (lists.nodes told) ∙ are.nodes_are));
      numbered =
          ap (λ (l : List KnownIp). is_numbered l ip) (known-push symbols said c) ∙ now-numbered symbols before ip;
    }

-- with a node more
tables-node : (symbols : List Symbol) (said : List Content) (ip parent : ℕ) → AreTables symbols said
    → AreTables symbols (said ++ node_line ip parent ∷ [])
tables-node symbols said ip parent are =
    let c = node_line ip parent in
    let told = interpreted_said symbols said in
    let held = known symbols (said ++ c ∷ []) in
    let strings = node_names symbols said c in
    let instructions = node_calls symbols said c ip in
    let last : List Content = node_line (ip_number held ip) parent ∷ [] in
    let front = told ++ (strings ++ instructions) in
    let now = has-told symbols said ip parent are in
    let push : interpreted_said symbols (said ++ c ∷ []) ≡ told ++ (strings ++ (instructions ++ last)) =
    interpreted-push symbols said c in
    let node : gathered node_behind front last ≡ node_of held ip parent ∷ [] =
    ap (λ (o : Option ℕ). record { ip = ip_number held ip; parent = parent; frames = unwrap_or o 0 } ∷ [])
    (number-frames (lists.instructions front) held ip now.known_now now.numbered) in
    let split : told ++ (strings ++ (instructions ++ last)) ≡ front ++ last =
    ap (λ (l : List Content). told ++ l) (sym (append_assoc strings instructions last))
    ∙ sym (append_assoc told (strings ++ instructions) last) in
    let whole = push ∙ split in
    record {
      strings_are =
          ap (λ (l : List Content). lists.strings l) whole
          ∙ (strings-append front last ∙ (append-nil (lists.strings front) ∙ now.strings_now));
      known_are =
          ap (λ (l : List Content). map known_by (lists.instructions l)) whole
          ∙ (ap (λ (l : List Instruction). map known_by l)
          (instructions-append front last ∙ append-nil (lists.instructions front))
          ∙ now.known_now);
      nodes_are =
          ap (λ (l : List Content). lists.nodes l) whole
          ∙ (nodes-append front last
          ∙ (ap (λ (l : List Node). lists.nodes front ++ l) node
          ∙ (ap (λ (l : List Node). l ++ node_of held ip parent ∷ []) now.nodes_now
          ∙ sym (nodes-push symbols said c))));
    }

pub tables-step : (symbols : List Symbol) (said : List Content) (c : Content) → IsRaw c → AreTables symbols said
    → AreTables symbols (said ++ c ∷ [])
tables-step symbols said (string_line bytes) raw are = absurd raw
tables-step symbols said (instruction_line ip module_string frames) raw are = absurd raw
tables-step symbols said (info_line size trace) raw are = absurd raw
tables-step symbols said (allocation_line info) raw are = absurd raw
tables-step symbols said (free_line info) raw are = absurd raw
tables-step symbols said (node_line ip parent) raw are = tables-node symbols said ip parent are
tables-step symbols said (raw_allocation_line size trace ptr) raw are =
    let before = tables_of symbols said in
    let after = tables_of symbols (said ++ raw_allocation_line size trace ptr ∷ []) in
    tables-same symbols said (raw_allocation_line size trace ptr)
    (all-append IsTableless (map info_said (new_in before.infos after.infos)) _
    (infos-tableless (new_in before.infos after.infos)) ((refl, refl, λ held. refl), tt))
    refl refl are
tables-step symbols said (raw_free_line ptr) raw are =
    tables-same symbols said (raw_free_line ptr)
    (frees-tableless (freed_info (tables_of symbols said).infos (freed_by said (raw_free_line ptr)))) refl refl are
tables-step symbols said clear_line raw are = tables-same symbols said clear_line tt refl refl are
tables-step symbols said (module_line name start ranges) raw are =
    tables-same symbols said (module_line name start ranges) tt refl refl are
tables-step symbols said c raw are = tables-same symbols said c ((refl, refl, λ held. refl), tt) refl refl are

pub tables-none : (symbols : List Symbol) → AreTables symbols []
unfolding interpreted_said names known nodes instructions
tables-none symbols = record { strings_are = refl; known_are = refl; nodes_are = refl }
