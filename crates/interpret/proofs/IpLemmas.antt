-- The instruction pointers outwards from a node are those of the raw trace.
use Rattle.std.proofs.Common.{◌≡◌, ℕ, zero, suc, ◌+◌, ◌-◌, Bool, true, false, cond, List, [], ◌∷◌, ◌++◌, length, map}
use Rattle.std.proofs.Common.{reverse, Option, Some, None, refl, sym, ap, ◌∙◌, arith, append-nil, subst}
use Rattle.std.specs.Prelude.{◌==◌, slice_get}
use Rattle.std.specs.Option.{option_map, option_to_list}
use Rattle.std.proofs.lemmas.List.{reverse-append}
use Rattle.std.proofs.lemmas.Option.{slice_get-map}
use Rattle.ht_lines.specs.Content.{Content, node_line}
use Rattle.ht_trace.specs.Instruction.{Instruction}
use Rattle.ht_trace.specs.TraceLists as lists
use Rattle.stack_table.specs.Node.{Node}
use Rattle.stack_table.specs.Stack.{outwards, stack, stack_nodes}
use Rattle.interpret.specs.InterpretedSaid.{interpreted_said}
use Rattle.interpret.specs.IpLists.{interpreted_ips, ip_of, raw_ips, raw_node_in, raw_nodes}
use Rattle.interpret.specs.RawTables.{KnownIp, ip_number, instructions, is_numbered, known, known_of, known_with}
use Rattle.interpret.specs.RawTables.{new_call, node_in, node_of, nodes, tables_of}
use Rattle.interpret.specs.Resolved.{Resolved}
use Rattle.interpret.specs.SymbolLine.{Symbol}
use Rattle.ht_trace.proofs.Laws.{filter_map-push}
use Rattle.interpret.proofs.GrowthLemmas.{added, known-push, nodes-push}
use Rattle.interpret.proofs.ToldLemmas.{AreTables, known_by, known_ip, now-numbered, number-ip}

map-each : {X Y : Type 0} (f g : X → Y) (xs : List X) → ((x : X) → f x ≡ g x) → map f xs ≡ map g xs
map-each f g [] same = refl
map-each f g (x ∷ xs) same = rw (same x, map-each f g xs same) refl

map-twice : {X Y Z : Type 0} (f : Y → Z) (g : X → Y) (xs : List X) → map f (map g xs) ≡ map (λ x. f (g x)) xs
map-twice f g [] = refl
map-twice {X} {Y} {Z} f g (x ∷ xs) = ap (λ (l : List Z). f (g x) ∷ l) (map-twice f g xs)

-- nodes from the last to the first: the instruction numbers of the one list stand for the addresses of the other
abbrev pub AreAlike : List KnownIp → List Node → List Node → Type 0
AreAlike held [] [] = Unit {0}
AreAlike held [] (y ∷ ys) = ⊥
AreAlike held (x ∷ xs) [] = ⊥
AreAlike held (x ∷ xs) (y ∷ ys) = (known_ip held x.ip ≡ Some y.ip) × (x.parent ≡ y.parent) × AreAlike held xs ys

alike-length : (held : List KnownIp) (xs ys : List Node) → AreAlike held xs ys → length xs ≡ length ys
alike-length held [] [] alike = refl
alike-length held [] (y ∷ ys) alike = absurd alike
alike-length held (x ∷ xs) [] alike = absurd alike
alike-length held (x ∷ xs) (y ∷ ys) alike = let rest = alike-length held xs ys alike.2 in omega (arith, rest)

-- an entry stays where more come behind it
entry-stays : (held more : List KnownIp) (k ip : ℕ) → option_map (λ (k : KnownIp). k.ip) (slice_get held k) ≡ Some ip
    → option_map (λ (k : KnownIp). k.ip) (slice_get (held ++ more) k) ≡ Some ip
entry-stays [] more k ip is = absurd (cc)
entry-stays (h ∷ held) more zero ip is = is
entry-stays (h ∷ held) more (suc k) ip is = entry-stays held more k ip is

ip-stays : (held more : List KnownIp) (n ip : ℕ) → known_ip held n ≡ Some ip → known_ip (held ++ more) n ≡ Some ip
ip-stays held more n ip is = by (n == 0) is
  where
    by : (b : Bool)
        → cond {A = Option ℕ} b (Some 0) (option_map (λ (k : KnownIp). k.ip) (slice_get held (n - 1))) ≡ Some ip
        → cond {A = Option ℕ} b (Some 0) (option_map (λ (k : KnownIp). k.ip) (slice_get (held ++ more) (n - 1))) ≡ Some
        ip
    by true is = is
    by false is = entry-stays held more (n - 1) ip is

alike-stays : (held more : List KnownIp) (xs ys : List Node) → AreAlike held xs ys → AreAlike (held ++ more) xs ys
alike-stays held more [] [] alike = tt
alike-stays held more [] (y ∷ ys) alike = absurd alike
alike-stays held more (x ∷ xs) [] alike = absurd alike
alike-stays held more (x ∷ xs) (y ∷ ys) alike =
    (ip-stays held more x.ip y.ip alike.0, alike.1, alike-stays held more xs ys alike.2)

-- so the stacks are alike
outwards-alike : (held : List KnownIp) (xs ys : List Node) → AreAlike held xs ys → (n : ℕ)
    → map (λ (node : Node). known_ip held node.ip) (outwards xs n) ≡ map (λ (node : Node). Some node.ip) (outwards ys n)
outwards-alike held [] [] alike n = refl
outwards-alike held [] (y ∷ ys) alike n = absurd alike
outwards-alike held (x ∷ xs) [] alike n = absurd alike
outwards-alike held (x ∷ xs) (y ∷ ys) alike n =
    by (n == length xs + 1) (outwards-alike held xs ys alike.2)
    ∙ ap (λ (m : ℕ). map (λ (node : Node). Some node.ip)
    (cond {A = List Node} (n == m + 1) (y ∷ outwards ys y.parent) (outwards ys n))) (alike-length
    held xs ys alike.2)
  where
    by : (b : Bool)
        → ((m : ℕ)
        → map (λ (node : Node). known_ip held node.ip) (outwards xs m)
        ≡ map (λ (node : Node). Some node.ip) (outwards ys m))
        → map (λ (node : Node). known_ip held node.ip)
        (cond {A = List Node} b (x ∷ outwards xs x.parent) (outwards xs n))
        ≡ map (λ (node : Node). Some node.ip) (cond {A = List Node} b (y ∷ outwards ys y.parent) (outwards ys n))
    by true rest =
        ap (λ (ip : Option ℕ). ip ∷ map (λ (node : Node). known_ip held node.ip) (outwards xs x.parent)) alike.0
        ∙ ap (λ (l : List (Option ℕ)). Some y.ip ∷ l)
        (rest x.parent ∙ ap (λ (m : ℕ). map (λ (node : Node). Some node.ip) (outwards ys m)) alike.1)
    by false rest = rest n

-- the nodes of what was said, by number and by address
abbrev pub AreIps : List Symbol → List Content → Type 0
AreIps symbols said = AreAlike (known symbols said) (reverse (nodes symbols said)) (reverse (raw_nodes said))

last-first : {X : Type 0} (xs : List X) (x : X) → reverse (xs ++ x ∷ []) ≡ x ∷ reverse xs
last-first xs x = reverse-append xs (x ∷ [])

ips-node : (symbols : List Symbol) (said : List Content) (ip parent : ℕ) → AreIps symbols said
    → AreIps symbols (said ++ node_line ip parent ∷ [])
ips-node symbols said ip parent are =
    let c = node_line ip parent in
    let before = tables_of symbols said in
    let call = new_call symbols before ip in
    let after = known symbols (said ++ c ∷ []) in
    let node : Node = node_of after ip parent in
    let raw : Node = record { ip = ip; parent = parent; frames = 1 } in
    let number : known_ip after (ip_number after ip) ≡ Some ip =
    number-ip after ip
    (ap (λ (l : List KnownIp). is_numbered l ip) (known-push symbols said c) ∙ now-numbered symbols before ip) in
    let stay : AreAlike after (reverse (nodes symbols said)) (reverse (raw_nodes said)) =
    subst (λ (l : List KnownIp). AreAlike l (reverse (nodes symbols said)) (reverse (raw_nodes said)))
    (sym (known-push symbols said c))
    (alike-stays (known symbols said) (map known_of (option_to_list call)) (reverse (nodes symbols said))
    (reverse (raw_nodes said)) are) in
    let all : AreAlike after (node ∷ reverse (nodes symbols said)) (raw ∷ reverse (raw_nodes said)) =
    (number, refl, stay) in
    let left : reverse (nodes symbols (said ++ c ∷ [])) ≡ node ∷ reverse (nodes symbols said) =
    ap (λ (l : List Node). reverse l) (nodes-push symbols said c) ∙ last-first (nodes symbols said) node in
    let right : reverse (raw_nodes (said ++ c ∷ [])) ≡ raw ∷ reverse (raw_nodes said) =
    ap (λ (l : List Node). reverse l) (filter_map-push raw_node_in said c) ∙ last-first (raw_nodes said) raw in
    subst (λ (l : List Node). AreAlike after l (reverse (raw_nodes (said ++ c ∷ [])))) (sym left)
    (subst (λ (l : List Node). AreAlike after (node ∷ reverse (nodes symbols said)) l) (sym right) all)

ips-same : (symbols : List Symbol) (said : List Content) (c : Content) → added symbols said c ≡ None
    → node_in symbols said c ≡ None → raw_node_in c ≡ None → AreIps symbols said → AreIps symbols (said ++ c ∷ [])
ips-same symbols said c none no_node no_raw are =
    let held =
    known-push symbols said c
    ∙ (ap (λ (o : Option Resolved). known_with (known symbols said) o) none ∙ append-nil (known symbols said)) in
    let left =
    nodes-push symbols said c
    ∙ (ap (λ (o : Option Node). nodes symbols said ++ option_to_list o) no_node
    ∙ append-nil (nodes symbols said)) in
    let right =
    filter_map-push raw_node_in said c
    ∙ (ap (λ (o : Option Node). raw_nodes said ++ option_to_list o) no_raw ∙ append-nil (raw_nodes said)) in
    subst (λ (l : List KnownIp). AreAlike l (reverse (nodes symbols (said ++ c ∷ [])))
    (reverse (raw_nodes (said ++ c ∷ [])))) (sym
    held)
    (subst (λ (l : List Node). AreAlike (known symbols said) (reverse l) (reverse (raw_nodes (said ++ c ∷ []))))
    (sym left)
    (subst (λ (l : List Node). AreAlike (known symbols said) (reverse (nodes symbols said)) (reverse l)) (sym right)
    are))

pub ips-step : (symbols : List Symbol) (said : List Content) (c : Content) → AreIps symbols said
    → AreIps symbols (said ++ c ∷ [])
ips-step symbols said (node_line ip parent) are = ips-node symbols said ip parent are
ips-step symbols said c are = ips-same symbols said c refl refl refl are

pub ips-none : (symbols : List Symbol) → AreIps symbols []
unfolding nodes known instructions
ips-none symbols = tt

-- the address of a number, by the instructions themselves
ip-said : (instructions : List Instruction) (held : List KnownIp) → map known_by instructions ≡ held → (n : ℕ)
    → ip_of instructions n ≡ known_ip held n
ip-said instructions held is n = by (n == 0)
  where
    parts : (o : Option Instruction)
        → option_map (λ (i : Instruction). i.ip) o ≡ option_map (λ (k : KnownIp). k.ip) (option_map known_by o)
    parts None = refl
    parts (Some i) = refl

    by : (b : Bool)
        → cond {A = Option ℕ} b (Some 0) (option_map (λ (i : Instruction). i.ip) (slice_get instructions (n - 1)))
        ≡ cond {A = Option ℕ} b (Some 0) (option_map (λ (k : KnownIp). k.ip) (slice_get held (n - 1)))
    by true = refl
    by false =
        parts (slice_get instructions (n - 1))
        ∙ ap (λ (o : Option KnownIp). option_map (λ (k : KnownIp). k.ip) o)
        (sym (slice_get-map known_by instructions (n - 1)) ∙ ap (λ (l : List KnownIp). slice_get l (n - 1)) is)

pub same-ips : (symbols : List Symbol) (said : List Content) → AreTables symbols said → AreIps symbols said → (node : ℕ)
    → interpreted_ips (interpreted_said symbols said) node ≡ map Some (raw_ips said node)
unfolding interpreted_ips raw_ips stack stack_nodes
same-ips symbols said tables ips node =
    let told = interpreted_said symbols said in
    let held = known symbols said in
    map-each (ip_of (lists.instructions told)) (known_ip held) (stack (lists.nodes told) node)
    (ip-said (lists.instructions told) held tables.known_are)
    ∙ (ap (λ (l : List Node). map (known_ip held) (stack l node)) tables.nodes_are
    ∙ (map-twice (known_ip held) (λ (n : Node). n.ip) (stack_nodes (nodes symbols said) node)
    ∙ (outwards-alike held (reverse (nodes symbols said)) (reverse (raw_nodes said)) ips node
    ∙ sym (map-twice (λ (ip : ℕ). Some ip) (λ (n : Node). n.ip) (stack_nodes (raw_nodes said) node)))))
