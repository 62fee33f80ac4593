-- What one line more adds to the tables of a raw trace.
use Rattle.std.proofs.Common.{◌≡◌, ℕ, Bool, true, false, cond, ◌||◌, List, [], ◌∷◌, ◌++◌, map, Option, Some, None, refl}
use Rattle.std.proofs.Common.{sym, ap, ◌∙◌, append-nil}
use Rattle.std.specs.Prelude.{◌==◌}
use Rattle.std.specs.List.{filter_map, flat_map, list_any}
use Rattle.std.specs.Option.{option_to_list}
use Rattle.std.specs.Str.{bytes_eq}
use Rattle.std.proofs.lemmas.Slice.Eq.{bytes_eq-Decides}
use Rattle.std.proofs.lemmas.List.{map-append}
use Rattle.std.proofs.lemmas.List.Sums.{fold_push}
use Rattle.std.proofs.lemmas.Grind.{flat_map-append}
use Rattle.ht_lines.specs.Content.{Content, node_line}
use Rattle.ht_trace.specs.Gathered.{gathered}
use Rattle.intern_tables.specs.WithoutRepeats.{without_repeats}
use Rattle.interpret.specs.declared.infos.AllocationInfo.{AllocationInfo}
use Rattle.interpret.specs.FirstAppearances.{with_all, with_new}
use Rattle.interpret.specs.Modules.{LoadedModule, modules, modules_after}
use Rattle.interpret.specs.RawBlocks.{held}
use Rattle.interpret.specs.RawTables.{KnownIp, call_in, info_in, infos, instructions, known, known_of, known_with}
use Rattle.interpret.specs.RawTables.{names, names_with, new_call, node_in, node_of, nodes, same_info, same_ip}
use Rattle.interpret.specs.RawTables.{tables_after, tables_of}
use Rattle.interpret.specs.Resolved.{Resolved, names_called, resolved}
use Rattle.interpret.specs.SymbolLine.{Symbol}
use Rattle.interpret.proofs.FirstLemmas.{with-absent, with-held}
use Rattle.ht_trace.proofs.Laws.{filter_map-push, gathered-push}
use Rattle.intern_tables.proofs.Laws.{repeats-push}
use Rattle.interpret.proofs.RepeatLemmas.{infos-decide, ips-decide, repeats-all}
use Rattle.interpret.proofs.TakeLemmas.{resolved-ip}

pub modules-push : (said : List Content) (c : Content) → modules (said ++ c ∷ []) ≡ modules_after (modules said) c
unfolding modules
modules-push said c = fold_push modules_after [] said c

-- whether an address has a number, by the instructions
numbered-any : (found : List Resolved) (ip : ℕ)
    → list_any (λ (k : KnownIp). ip == k.ip) (map known_of found) ≡ list_any (λ (r : Resolved). ip == r.ip) found
numbered-any [] ip = refl
numbered-any (r ∷ found) ip = ap (λ (b : Bool). (ip == r.ip) || b) (numbered-any found ip)

-- the instruction that a line adds
abbrev pub added : List Symbol → List Content → Content → Option Resolved
added symbols said (node_line ip parent) = new_call symbols (tables_of symbols said) ip
added symbols said _ = None

same-option : (held : List Resolved) (o : Option Resolved) → o ≡ None
    → without_repeats same_ip held ≡ without_repeats same_ip held ++ option_to_list o
same-option held o none =
    sym (ap (λ (o : Option Resolved). without_repeats same_ip held ++ option_to_list o) none ∙ append-nil _)

-- a node's line adds its instruction where its address is new
call-push : (symbols : List Symbol) (loaded : List LoadedModule) (calls : List Resolved) (ip : ℕ)
    → without_repeats same_ip
    (calls ++ option_to_list (cond {A = Option Resolved} (ip == 0) None (Some (resolved symbols loaded ip))))
    ≡ without_repeats same_ip calls
    ++ option_to_list
    (cond {A = Option Resolved}
    (ip == 0 || list_any (λ (k : KnownIp). ip == k.ip) (map known_of (without_repeats same_ip calls))) None
    (Some (resolved symbols loaded ip)))
call-push symbols loaded calls ip = by (ip == 0)
  where
    held : List Resolved
    held = without_repeats same_ip calls

    there : (b : Bool) → list_any (same_ip (resolved symbols loaded ip)) (without_repeats same_ip calls) ≡ b
        → with_new same_ip (without_repeats same_ip calls) (resolved symbols loaded ip)
        ≡ without_repeats same_ip calls
        ++ option_to_list (cond {A = Option Resolved} b None (Some (resolved symbols loaded ip)))
    there true e = with-held same_ip _ _ e ∙ sym (append-nil _)
    there false e = with-absent same_ip _ _ e

    same : list_any (same_ip (resolved symbols loaded ip)) (without_repeats same_ip calls)
        ≡ list_any (λ (k : KnownIp). ip == k.ip) (map known_of (without_repeats same_ip calls))
    same =
        ap (λ (n : ℕ). list_any (λ (r : Resolved). n == r.ip) (without_repeats same_ip calls))
        (resolved-ip symbols loaded ip)
        ∙ sym (numbered-any (without_repeats same_ip calls) ip)

    by : (b : Bool)
        → without_repeats same_ip
        (calls ++ option_to_list (cond {A = Option Resolved} b None (Some (resolved symbols loaded ip))))
        ≡ without_repeats same_ip calls
        ++ option_to_list
        (cond {A = Option Resolved}
        (b || list_any (λ (k : KnownIp). ip == k.ip) (map known_of (without_repeats same_ip calls))) None
        (Some (resolved symbols loaded ip)))
    by true = ap (without_repeats same_ip) (append-nil calls) ∙ sym (append-nil _)
    by false =
        repeats-push (λ (r : Resolved). r.ip) same_ip ips-decide calls (resolved symbols loaded ip)
        ∙ there (list_any (λ (k : KnownIp). ip == k.ip) (map known_of (without_repeats same_ip calls))) same

pub instructions-push : (symbols : List Symbol) (said : List Content) (c : Content)
    → instructions symbols (said ++ c ∷ []) ≡ instructions symbols said ++ option_to_list (added symbols said c)
unfolding instructions known
instructions-push symbols said (node_line ip parent) =
    ap (without_repeats same_ip) (gathered-push (call_in symbols) [] said (node_line ip parent))
    ∙ call-push symbols (modules said) (gathered (call_in symbols) [] said) ip
instructions-push symbols said c =
    ap (without_repeats same_ip) (gathered-push (call_in symbols) [] said c ∙ append-nil _) ∙ sym (append-nil _)

pub known-push : (symbols : List Symbol) (said : List Content) (c : Content)
    → known symbols (said ++ c ∷ []) ≡ known_with (known symbols said) (added symbols said c)
unfolding known
known-push symbols said c =
    ap (map known_of) (instructions-push symbols said c)
    ∙ map-append known_of (instructions symbols said) (option_to_list (added symbols said c))

pub names-push : (symbols : List Symbol) (said : List Content) (c : Content)
    → names symbols (said ++ c ∷ []) ≡ names_with (names symbols said) (added symbols said c)
unfolding names
names-push symbols said c =
    ap (λ (found : List Resolved). without_repeats bytes_eq (flat_map names_called found))
    (instructions-push symbols said c)
    ∙ ap (without_repeats bytes_eq)
    (flat_map-append names_called (instructions symbols said) (option_to_list (added symbols said c)))
    ∙ repeats-all (λ (name : List ℕ). name) bytes_eq bytes_eq-Decides
    (flat_map names_called (instructions symbols said)) (flat_map names_called (option_to_list (added symbols said c)))

pub infos-push : (said : List Content) (c : Content)
    → infos (said ++ c ∷ []) ≡ with_all same_info (infos said) (option_to_list (info_in c))
unfolding infos
infos-push said c =
    ap (without_repeats same_info) (filter_map-push info_in said c)
    ∙ repeats-all (λ (info : AllocationInfo). info) same_info infos-decide (filter_map info_in said)
    (option_to_list (info_in c))

pub nodes-push : (symbols : List Symbol) (said : List Content) (c : Content)
    → nodes symbols (said ++ c ∷ []) ≡ nodes symbols said ++ option_to_list (node_in symbols said c)
unfolding nodes
nodes-push symbols said c = gathered-push (node_in symbols) [] said c

-- the tables with one more line
pub tables-push : (symbols : List Symbol) (said : List Content) (c : Content)
    → tables_of symbols (said ++ c ∷ []) ≡ tables_after symbols (tables_of symbols said) c
unfolding tables_after
tables-push symbols said (node_line ip parent) =
    let c = node_line ip parent in
    let a = modules-push said c in
    let b = names-push symbols said c in
    let k = known-push symbols said c in
    let n =
    nodes-push symbols said c
    ∙ ap (λ (held : List KnownIp). nodes symbols said ++ node_of held ip parent ∷ []) (known-push symbols said c) in
    let i = infos-push said c in
    rw (a, b, n, k, i) refl
tables-push symbols said c =
    let a = modules-push said c in
    let b = names-push symbols said c in
    let k = known-push symbols said c in
    let n = nodes-push symbols said c in
    let i = infos-push said c in
    rw (a, b, n, k, i, append-nil, append-nil) refl
