-- The lines of modules, which spell nothing.
use Rattle.std.proofs.Common.{◌≡◌, ℕ, true, List, [], ◌∷◌, ◌++◌, refl, sym, ap, subst, ◌∙◌, arith, true≢false}
use Rattle.std.proofs.Common.{append_assoc}
use Rattle.std.specs.Prelude.{codes}
use Rattle.std.specs.List.{AllByRecursion}
use Rattle.ht_lines.specs.Content.{Content, version_line, executable_line, command_line, system_line, string_line}
use Rattle.ht_lines.specs.Content.{clear_line, module_line, instruction_line, node_line, info_line, allocation_line}
use Rattle.ht_lines.specs.Content.{free_line, raw_allocation_line, raw_free_line, clock_line, resident_line}
use Rattle.ht_lines.specs.Content.{attached_line, suppression_line, comment_line, other_line}
use Rattle.ht_lines.specs.OneLine.{HasOneLineTexts}
use Rattle.ht_lines.specs.Written.{spelled, written}
use Rattle.record_scripts.specs.ModuleLine.{is_module}
use Rattle.record_scripts.specs.ModuleLines.{AreModuleLines, IsModuleSaid, module_lines}
use Rattle.record_book.specs.Spelled.{AreQuiet, IsQuiet}
use Rattle.record_book.proofs.LineTexts.{both-text, byte-text, literal-text, numbers-text}
use Rattle.record_book.proofs.SpelledLemmas.{unnamed}

quiet-written : (said : Content) → is_module said ≡ true → HasOneLineTexts said → IsQuiet (written 2 said)
quiet-written (module_line name start ranges) is texts = record {
  text = byte-text 109 (32 ∷ (name ++ spelled (start ∷ ranges))) (λ e. omega (arith, e))
      (byte-text 32 (name ++ spelled (start ∷ ranges)) (λ e. omega (arith, e))
      (both-text name (spelled (start ∷ ranges)) texts (numbers-text (start ∷ ranges))));
  no_event = refl;
  no_thread = unnamed 109 (32 ∷ (name ++ spelled (start ∷ ranges))) refl;
}
quiet-written clear_line is texts =
    record { text = literal-text (codes "m -") refl; no_event = refl; no_thread = unnamed 109 (codes " -") refl }
quiet-written (version_line heaptrack file) is texts = absurd (true≢false (sym is))
quiet-written (executable_line bytes) is texts = absurd (true≢false (sym is))
quiet-written (command_line bytes) is texts = absurd (true≢false (sym is))
quiet-written (system_line page pages) is texts = absurd (true≢false (sym is))
quiet-written (string_line bytes) is texts = absurd (true≢false (sym is))
quiet-written (instruction_line ip module_string frames) is texts = absurd (true≢false (sym is))
quiet-written (node_line ip parent) is texts = absurd (true≢false (sym is))
quiet-written (info_line size trace) is texts = absurd (true≢false (sym is))
quiet-written (allocation_line info) is texts = absurd (true≢false (sym is))
quiet-written (free_line info) is texts = absurd (true≢false (sym is))
quiet-written (raw_allocation_line size trace ptr) is texts = absurd (true≢false (sym is))
quiet-written (raw_free_line ptr) is texts = absurd (true≢false (sym is))
quiet-written (clock_line ms) is texts = absurd (true≢false (sym is))
quiet-written (resident_line pages) is texts = absurd (true≢false (sym is))
quiet-written attached_line is texts = absurd (true≢false (sym is))
quiet-written (suppression_line bytes) is texts = absurd (true≢false (sym is))
quiet-written (comment_line bytes) is texts = absurd (true≢false (sym is))
quiet-written (other_line bytes) is texts = absurd (true≢false (sym is))

-- one quiet line in front of quiet bytes
quiet-front : (line : List ℕ) (rest : List ℕ) → IsQuiet line → AreQuiet rest → AreQuiet ((line ++ 10 ∷ []) ++ rest)
quiet-front line rest quiet are = (
  line ∷ are.0,
  (quiet, are.1),
  append_assoc line (10 ∷ []) rest ∙ ap (λ (behind : List ℕ). line ++ (10 ∷ behind)) are.2,
)

quiet-said : (said : List Content) → AllByRecursion IsModuleSaid said → AreQuiet (module_lines said)
quiet-said [] all = ([], tt, refl)
quiet-said (first ∷ more) all =
    quiet-front (written 2 first) (module_lines more) (quiet-written first all.0.about all.0.texts)
    (quiet-said more all.1)

pub quiet-modules : (modules : List ℕ) → AreModuleLines modules → AreQuiet modules
quiet-modules modules are = subst AreQuiet (sym are.2) (quiet-said are.0 are.1)
