-- No generated trace has a fault.
use Rattle.std.proofs.Common.{rules, ◌≡◌, ℕ, zero, suc, ◌^◌, ◌<◌, ◌≤◌, cond, List, [], ◌∷◌, ◌++◌, codes, decimal, false}
use Rattle.std.proofs.Common.{length, Option, Some, None, is_some, refl, ap, sym, subst, ◌∙◌, append-nil, arith}
use Rattle.std.proofs.lemmas.Fmt.{hex_one_digit}
use Rattle.hp_num.specs.Hexadecimal.{hexadecimal}
use Rattle.hp_num.specs.ParsedHex.{parsed_hex}
use Rattle.hp_num.proofs.Laws.{hexadecimal_step}
use Rattle.ht_lines.specs.Written.{written}
use Rattle.stack_table.specs.Stack.{frame_count}
use Rattle.stack_table.proofs.Laws.{frame_count-zero}
use Rattle.live_ledger.specs.declared.event.Event.{Event}
use Rattle.ht_lines.specs.Content.{command_line, string_line, version_line}
use Rattle.ht_trace.specs.declared.error.LineError.{LineError}
use Rattle.ht_trace.specs.declared.error.LineError.TheVariants.{NoVersion}
use Rattle.ht_trace.specs.Instruction.{frame_count_of}
use Rattle.ht_trace.specs.StandsFor.{StandsFor}
use Rattle.ht_trace.specs.TableState.{TableState, tables_of}
use Rattle.trace_gen.specs.GeneratedTrace.{event_line, generated_lines, info_line, instruction_line, lines_from}
use Rattle.trace_gen.specs.GeneratedTrace.{name_line, node_line}
use Rattle.trace_gen.specs.Sizes.{Sizes}
use Rattle.sound_traces.specs.NoFault.{HasNoFault}
use Rattle.sound_traces.proofs.Events.{BeforeEvent, event_follows, event_reads, says_event}
use Rattle.sound_traces.proofs.Figures.{no_figures}
use Rattle.sound_traces.proofs.Groups.{BeforeInfo, BeforeInstruction, BeforeName, BeforeNode, Quiet, info_follows}
use Rattle.sound_traces.proofs.Groups.{info_reads, instruction_follows, instruction_reads, name_follows, name_reads}
use Rattle.sound_traces.proofs.Groups.{node_follows, node_reads, quiet, says_info, says_instruction, says_name}
use Rattle.sound_traces.proofs.Groups.{says_node}
use Rattle.sound_traces.proofs.Held.{Held, has_room, string_more}
use Rattle.sound_traces.proofs.Walk.{Reached, next_line, one_line, walk}

-- the text of the version line
version_text : hexadecimal 66816 ≡ codes "10500"
version_text =
    hexadecimal_step 66816 (omega arith) (omega arith)
    ∙ ap (λ front. front ++ codes "0") (hexadecimal_step 4176 (omega arith) (omega arith)
    ∙ ap (λ front. front ++ codes "0") (hexadecimal_step 261 (omega arith) (omega arith)
    ∙ ap (λ front. front ++ codes "5")
    (hexadecimal_step 16 (omega arith) (omega arith)
    ∙ ap (λ front. front ++ codes "0") (hex_one_digit false 1 (omega arith)))))

pub version_written : codes "v 10500 2" ≡ written 1 (version_line 66816 2)
version_written =
    ap (λ file. codes "v 10500 " ++ file) (sym (hex_one_digit false 2 (omega arith)))
    ∙ ap (λ heaptrack. codes "v " ++ (heaptrack ++ (32 ∷ hexadecimal 2))) (sym version_text)
    ∙ ap (λ tail. codes "v " ++ (hexadecimal 66816 ++ (32 ∷ tail))) (sym (append-nil (hexadecimal 2)))

-- no line
none_held : (version : Option ℕ) → Held 0 0 0 0 (record (tables_of []) { version = version })
none_held version = record {
  strings_are = refl;
  instructions_are = refl;
  one_frame = only_zero;
  nodes_are = refl;
  shallow =
      λ n within. let zero_is : n
      ≡ 0 = omega (arith, within) in omega (arith, ap (frame_count []) zero_is, frame_count-zero []);
  infos_are = refl;
  small = λ n within. absurd (omega (arith, within));
}
  where
    only_zero : (n : ℕ) → n ≤ 0 → frame_count_of [] n ≡ Some 1
    only_zero zero within = refl
    only_zero (suc n) within = absurd (omega (arith, within))

-- the command is none of it
held_with_command : (tables : TableState) (command : Option (List ℕ)) → Held 0 0 0 0 tables
    → Held 0 0 0 0 (record tables { command = command })
held_with_command tables command held = search rules

nothing_stands : StandsFor (tables_of []) []
nothing_stands = record { tables_is = refl; no_fault = refl; first = λ none. tt }

-- the end has no fault
ends : (P : TableState → List Event → Type 0) (before : List (List ℕ)) → Reached P before → HasNoFault before []
ends P before reached =
    ap (λ (t : TableState). cond {A = Option LineError} (is_some t.version) None (Some NoVersion))
    (sym reached.stands.tables_is)
    ∙ ap (λ version. cond {A = Option LineError} (is_some version) None (Some NoVersion)) reached.version

module _ (back : (n : ℕ) → n < 2 ^ 64 → parsed_hex (hexadecimal n) ≡ Some n)
    (short : (n : ℕ) → n < 2 ^ 64 → length (decimal n) ≤ 20) (sizes : Sizes) (some : 1 ≤ sizes.stacks)
    (most : sizes.stacks ≤ 4000) (few : sizes.events ≤ 10000000) where
  events_good : (before : List (List ℕ)) → Reached (BeforeEvent sizes 0) before
      → HasNoFault before (lines_from (event_line sizes) 0 sizes.events)
  events_good before reached =
      let lines : List (List ℕ) = lines_from (event_line sizes) 0 sizes.events in
      subst (HasNoFault before) (append-nil lines)
      (walk back (BeforeEvent sizes) (event_line sizes) (says_event sizes) sizes.events []
      (λ k within. event_reads sizes some most k)
      (λ k within tables taken version holds. event_follows sizes some most k (omega (arith, within, few)) tables taken
      version holds)
      (ends (BeforeEvent sizes sizes.events)) sizes.events 0 (omega arith) before reached)

  infos_good : (before : List (List ℕ)) → Reached (BeforeInfo sizes 0) before
      → HasNoFault before (lines_from (info_line sizes) 0 sizes.stacks ++ lines_from (event_line sizes) 0 sizes.events)
  infos_good before reached =
      walk back (BeforeInfo sizes) (info_line sizes) (says_info sizes) sizes.stacks
      (lines_from (event_line sizes) 0 sizes.events) (info_reads sizes most) (info_follows sizes most) events_good
      sizes.stacks 0 (omega arith) before reached

  nodes_good : (before : List (List ℕ)) → Reached (BeforeNode sizes 0) before
      → HasNoFault before
      (lines_from (node_line sizes) 0 sizes.stacks
      ++ (lines_from (info_line sizes) 0 sizes.stacks ++ lines_from (event_line sizes) 0 sizes.events))
  nodes_good before reached =
      walk back (BeforeNode sizes) (node_line sizes) (says_node sizes) sizes.stacks
      (lines_from (info_line sizes) 0 sizes.stacks ++ lines_from (event_line sizes) 0 sizes.events)
      (node_reads sizes most)
      (node_follows sizes most) infos_good sizes.stacks 0 (omega arith) before reached

  instructions_good : (before : List (List ℕ)) → Reached (BeforeInstruction sizes 0) before
      → HasNoFault before
      (lines_from instruction_line 0 sizes.stacks
      ++ (lines_from (node_line sizes) 0 sizes.stacks
      ++ (lines_from (info_line sizes) 0 sizes.stacks ++ lines_from (event_line sizes) 0 sizes.events)))
  instructions_good before reached =
      walk back (BeforeInstruction sizes) instruction_line says_instruction sizes.stacks
      (lines_from (node_line sizes) 0 sizes.stacks
      ++ (lines_from (info_line sizes) 0 sizes.stacks ++ lines_from (event_line sizes) 0 sizes.events))
      (instruction_reads sizes most) (instruction_follows sizes most) nodes_good
      sizes.stacks 0 (omega arith) before reached

  pub generated_good : HasNoFault [] (generated_lines sizes)
  generated_good =
      let no_line : TableState = tables_of [] in
      let first =
      one_line back (Quiet sizes (Held 0 0 0 0)) no_line 1 (codes "v 10500 2") (version_line 66816 2) []
      nothing_stands refl refl version_written (omega arith, omega arith, omega arith)
      (quiet sizes (Held 0 0 0 0) (version_line 66816 2) no_line [] refl refl refl (none_held (Some 2))
      (no_figures sizes)) in
      let second =
      next_line back (Quiet sizes (Held 0 0 0 0)) (Quiet sizes (Held 0 0 0 0)) (codes "X gen")
      (command_line (codes "gen")) refl (omega arith)
      (λ tables taken version before. quiet sizes (Held 0 0 0 0) (command_line (codes "gen")) tables taken refl refl
      version (held_with_command tables _ before.0) before.1)
      (codes "v 10500 2" ∷ []) first.1 in
      let third =
      next_line back (Quiet sizes (Held 0 0 0 0)) (BeforeName sizes 0) (codes "s m") (string_line (codes "m")) refl
      (omega arith, refl)
      (λ tables taken version before. quiet sizes (Held 1 0 0 0) (string_line (codes "m")) tables taken
      (has_room _ _ (omega (arith, before.0.strings_are))) refl version
      (string_more 0 0 0 0 tables (codes "m") before.0) before.1) (codes "v 10500 2" ∷ codes "X gen" ∷ []) second.1 in (
        first.0,
        (
          second.0,
          (
            third.0,
            walk back (BeforeName sizes) name_line says_name sizes.stacks
                (lines_from instruction_line 0 sizes.stacks
                ++
                (lines_from (node_line sizes) 0 sizes.stacks
                ++ (lines_from (info_line sizes) 0 sizes.stacks ++ lines_from (event_line sizes) 0 sizes.events)))
                (name_reads sizes most short) (name_follows sizes most) instructions_good sizes.stacks 0 (omega arith)
                (codes "v 10500 2" ∷ codes "X gen" ∷ codes "s m" ∷ []) third.1,
          ),
        ),
      )
