-- A raw trace that is interpreted without symbols: each instruction has one frame, so that no stack
-- is deeper than its nodes are.
use Rattle.std.proofs.Common.{◌≡◌, ℕ, ◌+◌, ◌<◌, ◌≤◌, ◌==◌, ◌||◌, ◌⊎◌, inl, inr, append_assoc, Bool, true, false, cond}
use Rattle.std.proofs.Common.{List, [], ◌∷◌, ◌++◌, length, map, reverse, max, Option, Some, None, refl, sym, ap, ap₂}
use Rattle.std.proofs.Common.{◌∙◌, arith, append-nil, length-append, subst}
use Rattle.std.specs.Prelude.{find, nat_le, sum_by, unwrap_or}
use Rattle.std.specs.List.{AllByRecursion, filter_map, flat_map, list_any}
use Rattle.std.specs.Option.{option_map, option_to_list}
use Rattle.std.specs.Str.{bytes_eq}
use Rattle.std.proofs.lemmas.Bool.Decides.{nat_tests}
use Rattle.std.proofs.lemmas.Bool.{cases_lt, le-ltb}
use Rattle.std.proofs.lemmas.List.{length-reverse}
use Rattle.ht_lines.specs.Content.{Content, node_line, raw_allocation_line}
use Rattle.ht_trace.specs.declared.error.LineError.{LineError}
use Rattle.ht_trace.specs.LineFault.{most_entries, most_nodes}
use Rattle.stack_table.specs.Node.{Node}
use Rattle.stack_table.specs.Stack.{frame_count, outwards, stack_nodes}
use Rattle.stack_table.proofs.Laws.{frame_count-newest, frame_count-older}
use Rattle.ht_trace.proofs.Laws.{filter_map-push}
use Rattle.interpret.specs.FirstAppearances.{with_all, with_new}
use Rattle.interpret.specs.IpLists.{raw_node_in, raw_nodes}
use Rattle.interpret.specs.Modules.{LoadedModule, module_of}
use Rattle.interpret.specs.RawFault.{allocation_fault, content_fault, full_fault, node_fault}
use Rattle.interpret.specs.RawTables.{KnownIp, RawTables, info_in, infos, instructions, ip_frames, known, known_of}
use Rattle.interpret.specs.RawTables.{known_with, names, names_with, new_call, node_in, node_of, nodes, same_info}
use Rattle.interpret.specs.RawTables.{tables_after, tables_of}
use Rattle.interpret.specs.Resolved.{Resolved, frame_names, frames_of, names_called, resolved, resolved_in}
use Rattle.interpret.proofs.GrowthLemmas.{added, infos-push, known-push, names-push, nodes-push, tables-push}
use Rattle.interpret.proofs.LedgerLemmas.{all-append}

-- no symbol is found
resolved-frames : (loaded : List LoadedModule) (ip : ℕ) → (resolved [] loaded ip).frames ≡ []
unfolding resolved
resolved-frames loaded ip = by (module_of loaded ip)
  where
    texts : (b : Bool) → frames_of (cond b [] []) ≡ []
    texts true = refl
    texts false = refl

    by : (o : Option LoadedModule) → (resolved_in [] o ip).frames ≡ []
    by None = refl
    by (Some m) = texts (nat_le m.start ip)

-- a call of the interpretation without symbols
call-frames : (tables : RawTables) (ip : ℕ)
    → AllByRecursion (λ (k : KnownIp). k.frames ≡ 1) (map known_of (option_to_list (new_call [] tables ip)))
call-frames tables ip = by (ip == 0 || list_any (λ (k : KnownIp). ip == k.ip) tables.known)
  where
    by : (b : Bool)
        → AllByRecursion (λ (k : KnownIp). k.frames ≡ 1)
        (map known_of (option_to_list (cond {A = Option Resolved} b None (Some (resolved [] tables.loaded ip)))))
    by true = tt
    by false = (ap (λ frames. max 1 (length frames)) (resolved-frames tables.loaded ip), tt)

-- how many names, instructions and nodes a line adds
new-most : {X : Type 0} (same : X → X → Bool) (xs : List X) (x : X) → length (with_new same xs x) ≤ length xs + 1
new-most same xs x = by (list_any (same x) xs)
  where
    by : (b : Bool) → length (cond b xs (xs ++ x ∷ [])) ≤ length xs + 1
    by true = omega arith
    by false = let h = length-append xs (x ∷ []) in omega (arith, h)

all-most : {X : Type 0} (same : X → X → Bool) (xs more : List X)
    → length (with_all same xs more) ≤ length xs + length more
all-most same xs [] = omega arith
all-most same xs (x ∷ more) =
    let one = new-most same xs x in let rest = all-most same (with_new same xs x) more in omega (arith, one, rest)

name-option : (o : Option (List ℕ)) → length (option_to_list o) ≤ 1
name-option None = omega arith
name-option (Some name) = omega arith

call-names : (tables : RawTables) (ip : ℕ)
    → length (flat_map names_called (option_to_list (new_call [] tables ip)))
    ≤ length (map known_of (option_to_list (new_call [] tables ip)))
unfolding names_called
call-names tables ip = by (ip == 0 || list_any (λ (k : KnownIp). ip == k.ip) tables.known)
  where
    one : length (names_called (resolved [] tables.loaded ip)) ≤ 1
    one =
        let few = name-option (resolved [] tables.loaded ip).module_name in
        let none =
        ap (λ frames. length
        (option_to_list (resolved [] tables.loaded ip).module_name ++ flat_map frame_names frames))
        (resolved-frames
        tables.loaded ip) in
        let count = ap length (append-nil (option_to_list (resolved [] tables.loaded ip).module_name)) in
        omega (arith, few, none, count)

    by : (b : Bool)
        → length
        (flat_map names_called (option_to_list (cond {A = Option Resolved} b None
        (Some (resolved [] tables.loaded ip)))))
        ≤ length
        (map known_of (option_to_list (cond {A = Option Resolved} b None (Some (resolved [] tables.loaded ip)))))
    by true = omega arith
    by false =
        let count = ap length (append-nil (names_called (resolved [] tables.loaded ip))) in omega (arith, one, count)

call-few : (tables : RawTables) (ip : ℕ) → length (map known_of (option_to_list (new_call [] tables ip))) ≤ 1
call-few tables ip = by (ip == 0 || list_any (λ (k : KnownIp). ip == k.ip) tables.known)
  where
    by : (b : Bool)
        → length (map known_of (option_to_list (cond {A = Option Resolved} b None
        (Some (resolved [] tables.loaded ip)))))
        ≤ 1
    by true = omega arith
    by false = omega arith

-- the frames of an instruction
one-frame : (held : List KnownIp) (ip : ℕ) → AllByRecursion (λ (k : KnownIp). k.frames ≡ 1) held → ip_frames held ip ≡ 1
one-frame held ip all = by (ip == 0)
  where
    found : (held : List KnownIp) → AllByRecursion (λ (k : KnownIp). k.frames ≡ 1) held
        → unwrap_or (option_map (λ (k : KnownIp). k.frames) (find (λ (k : KnownIp). ip == k.ip) held)) 1 ≡ 1
    found [] all = refl
    found (k ∷ held) all = pick (ip == k.ip) (found held all.1)
      where
        pick : (b : Bool)
            → unwrap_or (option_map (λ (k : KnownIp). k.frames) (find (λ (k : KnownIp). ip == k.ip) held)) 1 ≡ 1
            → unwrap_or
            (option_map (λ (k : KnownIp). k.frames)
            (cond {A = Option KnownIp} b (Some k) (find (λ (k : KnownIp). ip == k.ip) held)))
            1
            ≡ 1
        pick true rest = all.0
        pick false rest = rest

    by : (b : Bool)
        → cond b 1 (unwrap_or (option_map (λ (k : KnownIp). k.frames) (find (λ (k : KnownIp). ip == k.ip) held)) 1) ≡ 1
    by true = refl
    by false = found held all

-- nodes past the last one have no frame
outwards-past : (back : List Node) (n : ℕ) → length back < n → outwards back n ≡ []
outwards-past [] n past = refl
outwards-past (node ∷ back) n past =
    let other : (n == length back + 1) ≡ false = grind (arith, nat_tests, past) in
    ap (λ (b : Bool). cond b (node ∷ outwards back node.parent) (outwards back n)) other
    ∙ outwards-past back n (omega (arith, past))

frames-past : (held : List Node) (n : ℕ) → length held < n → frame_count held n ≡ 0
unfolding frame_count stack_nodes
frames-past held n past =
    ap (λ (l : List Node). sum_by (λ (node : Node). node.frames) l)
    (outwards-past (reverse held) n (omega (arith, past, length-reverse held)))

-- what holds of the tables of a raw trace without symbols
pub record IsPlain (said : List Content) : Type 0 where
  pub one_frame : AllByRecursion (λ (k : KnownIp). k.frames ≡ 1) (known [] said)
  pub known_few : length (known [] said) ≤ length (nodes [] said)
  pub names_few : length (names [] said) ≤ length (known [] said)
  pub count : length (nodes [] said) ≡ length (raw_nodes said)
  pub frames : (n : ℕ) → frame_count (nodes [] said) n ≡ frame_count (raw_nodes said) n
  pub infos_few : length (infos said) ≤ length (filter_map info_in said)

plain-none : IsPlain []
unfolding instructions known names nodes infos
plain-none =
    record {
      one_frame = tt;
      known_few = omega arith;
      names_few = omega arith;
      count = refl;
      frames = λ n. refl;
      infos_few = omega arith;
    }

-- frames with a node more
frames-push : (held raw : List Node) (x y : Node) → length held ≡ length raw
    → ((n : ℕ) → frame_count held n ≡ frame_count raw n) → x.parent ≡ y.parent → x.frames ≡ y.frames
    → (n : ℕ) → frame_count (held ++ x ∷ []) n ≡ frame_count (raw ++ y ∷ []) n
frames-push held raw x y count same parent frames n = by (cases_lt n (length held + 1))
  where
    newest : n ≡ length held + 1 → frame_count (held ++ x ∷ []) n ≡ frame_count (raw ++ y ∷ []) n
    newest is =
        frame_count-newest held x n is ∙ ap₂ (λ (p f : ℕ). frame_count held p + f) parent frames
        ∙ ap (λ (p : ℕ). p + y.frames) (same y.parent)
        ∙ sym (frame_count-newest raw y n (omega (arith, is, count)))

    past : length held + 1 < n → frame_count (held ++ x ∷ []) n ≡ frame_count (raw ++ y ∷ []) n
    past more =
        frames-past (held ++ x ∷ []) n (let h = length-append held (x ∷ []) in omega (arith, h, more))
        ∙ sym (frames-past (raw ++ y ∷ []) n (let h = length-append raw (y ∷ []) in omega (arith, h, more, count)))

    above : (length held + 1 < n) ⊎ (n ≤ length held + 1) → length held + 1 ≤ n
        → frame_count (held ++ x ∷ []) n ≡ frame_count (raw ++ y ∷ []) n
    above (inl more) up = past more
    above (inr less) up = newest (omega (arith, less, up))

    by : (n < length held + 1) ⊎ (length held + 1 ≤ n) → frame_count (held ++ x ∷ []) n ≡ frame_count (raw ++ y ∷ []) n
    by (inl less) =
        frame_count-older held x n (omega (arith, less)) ∙ same n
        ∙ sym (frame_count-older raw y n (omega (arith, less, count)))
    by (inr up) = above (cases_lt (length held + 1) n) up

infos-most : (said : List Content) (c : Content) → length (infos said) ≤ length (filter_map info_in said)
    → length (infos (said ++ c ∷ [])) ≤ length (filter_map info_in (said ++ c ∷ []))
infos-most said c few =
    let grown = ap length (infos-push said c) in
    let most = all-most same_info (infos said) (option_to_list (info_in c)) in
    let more =
    ap length (filter_map-push info_in said c)
    ∙ length-append (filter_map info_in said) (option_to_list (info_in c)) in
    omega (arith, grown, most, more, few)

-- a line without a node
same-tables : (said : List Content) (c : Content) → added [] said c ≡ None → node_in [] said c ≡ None
    → raw_node_in c ≡ None → IsPlain said → IsPlain (said ++ c ∷ [])
same-tables said c no_call no_node no_raw plain =
    let k : known [] (said ++ c ∷ []) ≡ known [] said =
    known-push [] said c ∙ ap (known_with (known [] said)) no_call ∙ append-nil (known [] said) in
    let m : names [] (said ++ c ∷ []) ≡ names [] said =
    names-push [] said c ∙ ap (names_with (names [] said)) no_call in
    let n : nodes [] (said ++ c ∷ []) ≡ nodes [] said =
    nodes-push [] said c ∙ ap (λ (o : Option Node). nodes [] said ++ option_to_list o) no_node
    ∙ append-nil (nodes [] said) in
    let r : raw_nodes (said ++ c ∷ []) ≡ raw_nodes said =
    filter_map-push raw_node_in said c ∙ ap (λ (o : Option Node). raw_nodes said ++ option_to_list o) no_raw
    ∙ append-nil (raw_nodes said) in
    record {
      one_frame = subst (AllByRecursion (λ (k : KnownIp). k.frames ≡ 1)) (sym k) plain.one_frame;
      known_few = omega (arith, ap length k, ap length n, plain.known_few);
      names_few = omega (arith, ap length k, ap length m, plain.names_few);
      count = ap length n ∙ plain.count ∙ sym (ap length r);
      frames =
          λ i. ap (λ (l : List Node). frame_count l i) n ∙ plain.frames i
          ∙ sym (ap (λ (l : List Node). frame_count l i) r);
      infos_few = infos-most said c plain.infos_few;
    }

-- that of a node
node-tables : (said : List Content) (ip parent : ℕ) → IsPlain said → IsPlain (said ++ node_line ip parent ∷ [])
node-tables said ip parent plain =
    let c = node_line ip parent in
    let call = new_call [] (tables_of [] said) ip in
    let k : known [] (said ++ c ∷ []) ≡ known [] said ++ map known_of (option_to_list call) = known-push [] said c in
    let m : names [] (said ++ c ∷ []) ≡ names_with (names [] said) call = names-push [] said c in
    let n : nodes [] (said ++ c ∷ []) ≡ nodes [] said ++ node_of (known [] (said ++ c ∷ [])) ip parent ∷ [] =
    nodes-push [] said c in
    let r : raw_nodes (said ++ c ∷ []) ≡ raw_nodes said ++ record { ip = ip; parent = parent; frames = 1 } ∷ [] =
    filter_map-push raw_node_in said c in
    let frames : AllByRecursion (λ (k : KnownIp). k.frames ≡ 1) (known [] (said ++ c ∷ [])) =
    subst (AllByRecursion (λ (k : KnownIp). k.frames ≡ 1)) (sym k)
    (all-append (λ (k : KnownIp). k.frames ≡ 1) (known [] said) (map known_of (option_to_list call)) plain.one_frame
    (call-frames (tables_of [] said) ip)) in
    let k_count = ap length k ∙ length-append (known [] said) (map known_of (option_to_list call)) in
    let n_count = ap length n ∙ length-append (nodes [] said) (node_of (known [] (said ++ c ∷ [])) ip parent ∷ []) in
    let r_count = ap length r ∙ length-append (raw_nodes said) (record { ip = ip; parent = parent; frames = 1 } ∷ []) in
    let most = all-most bytes_eq (names [] said) (flat_map names_called (option_to_list call)) in
    record {
      one_frame = frames;
      known_few = omega (arith, k_count, n_count, call-few (tables_of [] said) ip, plain.known_few);
      names_few = omega (arith, k_count, ap length m, most, call-names (tables_of [] said) ip, plain.names_few);
      count = omega (arith, n_count, r_count, plain.count);
      frames = λ i.
          ap (λ (l : List Node). frame_count l i) n
          ∙ frames-push (nodes [] said) (raw_nodes said) (node_of (known [] (said ++ c ∷ [])) ip parent)
          (record { ip = ip; parent = parent; frames = 1 }) plain.count plain.frames refl
          (one-frame (known [] (said ++ c ∷ [])) ip frames) i
          ∙ sym (ap (λ (l : List Node). frame_count l i) r);
      infos_few = infos-most said c plain.infos_few;
    }

plain-step : (said : List Content) (c : Content) → IsPlain said → IsPlain (said ++ c ∷ [])
plain-step said (node_line ip parent) plain = node-tables said ip parent plain
plain-step said c plain = same-tables said c refl refl refl plain

plain-more : (earlier said : List Content) → IsPlain earlier → IsPlain (earlier ++ said)
plain-more earlier [] plain = subst IsPlain (sym (append-nil earlier)) plain
plain-more earlier (c ∷ said) plain =
    subst IsPlain (append_assoc earlier (c ∷ []) said)
    (plain-more (earlier ++ c ∷ []) said (plain-step earlier c plain))

plain : (said : List Content) → IsPlain said
plain said = plain-more [] said plain-none

-- tables of so many entries are not full
no-full : (tables : RawTables) → length tables.names ≤ most_entries → length tables.known ≤ most_entries
    → length tables.nodes ≤ most_nodes → length tables.infos ≤ most_entries → full_fault tables ≡ None
no-full tables names known nodes infos =
    rw (
      le-ltb most_entries (length tables.names) names,
      le-ltb most_entries (length tables.known) known,
      le-ltb most_nodes (length tables.nodes) nodes,
      le-ltb most_entries (length tables.infos) infos,
    ) refl

not-full : (said : List Content) → length (raw_nodes said) ≤ most_nodes
    → length (filter_map info_in said) ≤ most_entries → full_fault (tables_of [] said) ≡ None
not-full said nodes infos =
    let p = plain said in
    no-full (tables_of [] said) (omega (arith, p.names_few, p.known_few, p.count, nodes))
    (omega (arith, p.known_few, p.count, nodes)) (omega (arith, p.count, nodes)) (omega (arith, p.infos_few, infos))

-- a node, and an allocation, without a fault
pub plain-node : (version : Option ℕ) (said : List Content) (ip parent : ℕ) → parent ≤ length (raw_nodes said)
    → frame_count (raw_nodes said) parent < 4096 → length (raw_nodes said) < most_nodes
    → length (filter_map info_in said) ≤ most_entries
    → content_fault [] version (tables_of [] said) (node_line ip parent) ≡ None
unfolding content_fault
plain-node version said ip parent held shallow few infos =
    let c = node_line ip parent in
    let p = plain said in
    let frames : ip_frames (known_with (known [] said) (new_call [] (tables_of [] said) ip)) ip ≡ 1 =
    ap (λ (k : List KnownIp). ip_frames k ip) (sym (known-push [] said c))
    ∙ one-frame (known [] (said ++ c ∷ [])) ip (plain (said ++ c ∷ [])).one_frame in
    let raw : raw_nodes (said ++ c ∷ []) ≡ raw_nodes said ++ record { ip = ip; parent = parent; frames = 1 } ∷ [] =
    filter_map-push raw_node_in said c in
    let count = ap length raw ∙ length-append (raw_nodes said) (record { ip = ip; parent = parent; frames = 1 } ∷ []) in
    let same : filter_map info_in (said ++ c ∷ []) ≡ filter_map info_in said =
    filter_map-push info_in said c ∙ append-nil (filter_map info_in said) in
    let full : full_fault (tables_after [] (tables_of [] said) c) ≡ None =
    ap full_fault (sym (tables-push [] said c))
    ∙ not-full (said ++ c ∷ []) (omega (arith, count, few)) (omega (arith, ap length same, infos)) in
    let one : node_fault (nodes [] said) 1 parent None ≡ None =
    rw (
      le-ltb (length (nodes [] said)) parent (omega (arith, held, p.count)),
      le-ltb 4096 (frame_count (nodes [] said) parent + 1) (omega (arith, p.frames parent, shallow)),
    ) refl in
    ap₂ (λ (n : ℕ) (o : Option LineError). node_fault (nodes [] said) n parent o) frames full ∙ one

pub plain-allocation : (version : Option ℕ) (said : List Content) (size trace ptr : ℕ) → trace ≤ length (raw_nodes said)
    → length (raw_nodes said) ≤ most_nodes → length (filter_map info_in said) < most_entries
    → content_fault [] version (tables_of [] said) (raw_allocation_line size trace ptr) ≡ None
unfolding content_fault
plain-allocation version said size trace ptr held few infos =
    let c = raw_allocation_line size trace ptr in
    let p = plain said in
    let same : raw_nodes (said ++ c ∷ []) ≡ raw_nodes said =
    filter_map-push raw_node_in said c ∙ append-nil (raw_nodes said) in
    let count =
    ap length (filter_map-push info_in said c)
    ∙ length-append (filter_map info_in said) (record { size = size; trace = trace } ∷ []) in
    let full : full_fault (tables_after [] (tables_of [] said) c) ≡ None =
    ap full_fault (sym (tables-push [] said c))
    ∙ not-full (said ++ c ∷ []) (omega (arith, ap length same, few)) (omega (arith, count, infos)) in
    let one : allocation_fault (nodes [] said) trace None ≡ None =
    rw (le-ltb (length (nodes [] said)) trace (omega (arith, held, p.count))) refl in
    ap (λ (o : Option LineError). allocation_fault (nodes [] said) trace o) full ∙ one
