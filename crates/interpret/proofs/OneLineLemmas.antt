-- No interpreted line has a line feed, where neither raw lines nor symbols have one.
use Rattle.std.proofs.Common.{◌≡◌, ℕ, ◌^◌, ◌<◌, List, [], ◌∷◌, ◌++◌, length, map, Option, Some, None, Result, refl, sym}
use Rattle.std.proofs.Common.{subst}
use Rattle.std.specs.List.{AllByRecursion}
use Rattle.std.specs.Option.{option_to_list}
use Rattle.hp_num.specs.Hexadecimal.{hexadecimal}
use Rattle.hp_num.specs.ParsedHex.{parsed_hex}
use Rattle.ht_lines.specs.declared.item.Malformed.{Malformed}
use Rattle.ht_lines.specs.declared.item.Form.TheVariants.{Raw}
use Rattle.ht_lines.specs.Content.{Content, version_line, string_line, clear_line, module_line, node_line, free_line}
use Rattle.ht_lines.specs.Content.{raw_allocation_line, raw_free_line}
use Rattle.ht_lines.specs.OneLine.{HasOneLineTexts, IsOneLine}
use Rattle.ht_lines.specs.Written.{written}
use Rattle.ht_lines.proofs.Laws.{Reads-one_line, written-one_line}
use Rattle.ht_trace.specs.Gathered.{gathered}
use Rattle.interpret.specs.declared.infos.AllocationInfo.{AllocationInfo}
use Rattle.interpret.specs.Interpreted.{info_said, interpreted_lines, lines_after, lines_read, new_in}
use Rattle.interpret.specs.InterpretedTrace.{AreInterpretable, HasShortTexts, interpreted_trace, lines_from}
use Rattle.interpret.specs.Modules.{LoadedModule, modules, modules_after}
use Rattle.interpret.specs.RawBlocks.{freed_by, freed_info}
use Rattle.interpret.specs.RawContents.{contents, file_version, version_of}
use Rattle.ht_trace.proofs.Laws.{all-push, reads-by}
use Rattle.interpret.specs.RawFault.{raw_fault}
use Rattle.interpret.specs.RawTables.{infos, names, new_call, tables_of}
use Rattle.interpret.specs.Resolved.{Resolved, instruction_said}
use Rattle.interpret.specs.SymbolLine.{Symbol}
use Rattle.interpret.proofs.GrowthLemmas.{modules-push, names-push}
use Rattle.interpret.proofs.LedgerLemmas.{all-append}
use Rattle.interpret.proofs.ReadAgainLemmas.{Stage, first-stage, good-line, no-faults, read-of, stage-step}
use Rattle.interpret.proofs.WritableLemmas.{fresh-all}

-- what is written of it
written-lines : (v : ℕ) (cs : List Content) → AllByRecursion HasOneLineTexts cs
    → AllByRecursion IsOneLine (map (written v) cs)
written-lines v [] all = tt
written-lines v (c ∷ cs) all = (written-one_line v c all.0, written-lines v cs all.1)

strings-one : (names : List (List ℕ)) → AllByRecursion IsOneLine names
    → AllByRecursion HasOneLineTexts (map string_line names)
strings-one [] all = tt
strings-one (name ∷ names) all = (all.0, strings-one names all.1)

calls-one : (names : List (List ℕ)) (calls : List Resolved)
    → AllByRecursion HasOneLineTexts (map (instruction_said names) calls)
unfolding instruction_said
calls-one names [] = tt
calls-one names (call ∷ calls) = (tt, calls-one names calls)

infos-one : (infos : List AllocationInfo) → AllByRecursion HasOneLineTexts (map info_said infos)
infos-one [] = tt
infos-one (info ∷ infos) = (tt, infos-one infos)

frees-one : (o : Option ℕ) → AllByRecursion HasOneLineTexts (map free_line (option_to_list o))
frees-one None = tt
frees-one (Some n) = (tt, tt)

-- the texts of symbols and the names of modules so far
record AreOneLine (symbols : List Symbol) (lines : List (List ℕ)) : Type 0 where
  texts : AllByRecursion (λ (s : Symbol). AllByRecursion IsOneLine s.texts) symbols
  names : AllByRecursion (λ (m : LoadedModule). IsOneLine m.name) (modules (contents lines))

modules-one : (loaded : List LoadedModule) (said : Content)
    → AllByRecursion (λ (m : LoadedModule). IsOneLine m.name) loaded → HasOneLineTexts said
    → AllByRecursion (λ (m : LoadedModule). IsOneLine m.name) (modules_after loaded said)
modules-one loaded clear_line all one = tt
modules-one loaded (module_line name start ranges) all one =
    all-push (λ (m : LoadedModule). IsOneLine m.name) loaded _ all one
modules-one loaded said all one = all

-- the lines of one line
lines-one : (symbols : List Symbol) (lines : List (List ℕ)) (line : List ℕ) (said : Content) → AreOneLine symbols lines
    → IsOneLine line → AllByRecursion IsOneLine (lines_after symbols (file_version lines) (contents lines) line said)
lines-one symbols lines line (version_line heaptrack file) are one =
    (written-one_line (file_version lines) (version_line heaptrack file) tt, tt)
lines-one symbols lines line clear_line are one = tt
lines-one symbols lines line (module_line name start ranges) are one = tt
lines-one symbols lines line (node_line ip parent) are one =
    let before = tables_of symbols (contents lines) in
    let after = names symbols (contents lines ++ node_line ip parent ∷ []) in
    let fresh : AllByRecursion IsOneLine (new_in before.names after) =
    subst (λ (l : List (List ℕ)). AllByRecursion IsOneLine (new_in before.names l))
    (sym (names-push symbols (contents lines) (node_line ip parent)))
    (fresh-all IsOneLine symbols before ip are.texts are.names) in
    written-lines (file_version lines) _
    (all-append HasOneLineTexts (map string_line (new_in before.names after)) _
    (strings-one (new_in before.names after) fresh)
    (all-append HasOneLineTexts (map (instruction_said after) (option_to_list (new_call symbols before ip))) _
    (calls-one after (option_to_list (new_call symbols before ip))) (tt, tt)))
lines-one symbols lines line (raw_allocation_line size trace ptr) are one =
    let fresh = new_in (infos (contents lines)) (infos (contents lines ++ raw_allocation_line size trace ptr ∷ [])) in
    written-lines (file_version lines) _ (all-append HasOneLineTexts (map info_said fresh) _ (infos-one fresh) (tt, tt))
lines-one symbols lines line (raw_free_line ptr) are one =
    written-lines (file_version lines) _
    (frees-one (freed_info (infos (contents lines)) (freed_by (contents lines) (raw_free_line ptr))))
lines-one symbols lines line said are one = (one, tt)

module _ (back : (n : ℕ) → n < 2 ^ 64 → parsed_hex (hexadecimal n) ≡ Some n) where
  one-lines : (symbols : List Symbol) (earlier lines out : List (List ℕ)) → AllByRecursion HasShortTexts symbols
      → AllByRecursion (λ line. length line < 2 ^ 32) lines → gathered (raw_fault symbols) earlier lines ≡ []
      → AreOneLine symbols earlier → AllByRecursion IsOneLine lines → Stage symbols earlier out
      → AllByRecursion IsOneLine (lines_from symbols earlier lines)
  unfolding raw_fault interpreted_lines
  one-lines symbols earlier [] out texts short none are one stage = tt
  one-lines symbols earlier (line ∷ lines) out texts short none are one stage =
      let parts =
      no-faults (raw_fault symbols earlier line) (gathered (raw_fault symbols) (earlier ++ line ∷ []) lines) none in
      let good = good-line symbols (version_of earlier) (tables_of symbols (contents earlier)) line parts.0 in
      let said_one =
      Reads-one_line Raw (file_version earlier) line one.0 good.said
      (read-of (file_version earlier) line good.said good.read) in
      let reads = reads-by Raw (version_of earlier) earlier line good.said refl stage.first good.may_stand good.read in
      let here =
      subst (λ (r : Result Content Malformed). AllByRecursion IsOneLine
      (lines_read symbols (file_version earlier) (contents earlier) line r)) (sym
      good.read) (lines-one symbols earlier line good.said are one.0) in
      let more : AreOneLine symbols (earlier ++ line ∷ []) = record {
        texts = are.texts;
        names =
            subst (λ (l : List Content). AllByRecursion (λ (m : LoadedModule). IsOneLine m.name) (modules l))
            (sym reads.said_is)
            (subst (λ (l : List LoadedModule). AllByRecursion (λ (m : LoadedModule). IsOneLine m.name) l)
            (sym (modules-push (contents earlier) good.said))
            (modules-one (modules (contents earlier)) good.said are.names said_one));
      } in
      all-append IsOneLine (interpreted_lines symbols earlier line) (lines_from symbols (earlier ++ line ∷ []) lines)
      here
      (one-lines symbols (earlier ++ line ∷ []) lines (out ++ interpreted_lines symbols earlier line) texts short.1
      parts.1 more one.1 (stage-step back symbols earlier out line texts short.0 parts.0 stage))

  pub all-one-line : (symbols : List Symbol) (lines : List (List ℕ)) → AreInterpretable symbols lines
      → AllByRecursion (λ (s : Symbol). AllByRecursion IsOneLine s.texts) symbols → AllByRecursion IsOneLine lines
      → AllByRecursion IsOneLine (interpreted_trace symbols lines)
  unfolding interpreted_trace modules
  all-one-line symbols lines are texts one =
      one-lines symbols [] lines [] are.texts are.short are.no_fault (record { texts = texts; names = tt }) one
      (first-stage back symbols)
