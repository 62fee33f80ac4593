-- The lines of the tables of a generated trace: what they say, and that it follows.
use Rattle.std.proofs.Common.{◌≡◌, ℕ, ◌+◌, ◌-◌, ◌/◌, ◌^◌, ◌<◌, ◌≤◌, List, [], ◌∷◌, ◌++◌, codes, decimal, false, length}
use Rattle.std.proofs.Common.{Some, None, unwrap_or, refl, ap, sym, subst, ◌∙◌, inl, append-nil, arith}
use Rattle.std.proofs.Math.Nat.{mod-lt}
use Rattle.std.proofs.lemmas.Fmt.{hex_one_digit}
use Rattle.std.proofs.lemmas.Bool.{le-leb, le-ltb}
use Rattle.hp_num.specs.Hexadecimal.{hexadecimal}
use Rattle.stack_table.specs.Stack.{frame_count}
use Rattle.live_ledger.specs.declared.event.Event.{Event}
use Rattle.ht_lines.specs.Content.{Content, info_line as said_info, instruction_line as said_instruction}
use Rattle.ht_lines.specs.Content.{node_line as said_node, string_line}
use Rattle.ht_lines.specs.declared.item.Form.TheVariants.{Interpreted}
use Rattle.ht_lines.specs.Written.{IsWritable, written}
use Rattle.ht_trace.specs.LineFault.{content_fault, node_fault}
use Rattle.ht_trace.specs.StateAfter.{state_after}
use Rattle.ht_trace.specs.StepOf.{event_of, step_in}
use Rattle.ht_trace.specs.TableState.{TableState}
use Rattle.trace_gen.specs.Draws.{draw, next_state, state_after as drawn_after}
use Rattle.trace_gen.specs.GeneratedTrace.{info_line, instruction_line, name_line, node_line}
use Rattle.trace_gen.specs.Sizes.{Sizes}
use Rattle.sound_traces.proofs.Figures.{Figures}
use Rattle.sound_traces.proofs.Held.{Held, has_room, info_more, instruction_more, node_more, string_more}
use Rattle.sound_traces.proofs.Walk.{Follows}

-- a draw is below its bound
pub drawn_below : (seed draws bound : ℕ) → 0 < bound → draw seed draws bound < bound
drawn_below seed draws bound some = mod-lt (next_state (drawn_after seed draws) / 65536) some

-- the tables hold so much, and there was no event
abbrev pub Quiet : Sizes → (TableState → Type 0) → TableState → List Event → Type 0
Quiet sizes H tables taken = H tables × Figures sizes 0 taken

-- a line that brings no event follows
pub quiet : (sizes : Sizes) (H : TableState → Type 0) (said : Content) (tables : TableState) (taken : List Event)
    → content_fault tables said ≡ None → event_of (step_in tables.infos said) ≡ None
    → (state_after tables said).version ≡ Some 2 → H (state_after tables said) → Figures sizes 0 taken
    → Follows (Quiet sizes H) said tables taken
quiet sizes H said tables taken good brings version holds figures = record {
  no_fault = good;
  event = None;
  brings = brings;
  no_event_fault = refl;
  version = version;
  holds = (holds, subst (Figures sizes 0) (sym (append-nil taken)) figures);
}

-- what the lines say
abbrev pub says_name : ℕ → Content
says_name k = string_line (codes "f" ++ decimal (k + 1))

abbrev pub says_instruction : ℕ → Content
says_instruction k = said_instruction (k + 1) 1 ((k + 2) ∷ [])

abbrev pub says_node : Sizes → ℕ → Content
says_node sizes k = said_node (k + 1) (draw sizes.seed k (k + 1))

abbrev pub says_info : Sizes → ℕ → Content
says_info sizes k = said_info (draw sizes.seed (sizes.stacks + k) 4096 + 1) (k + 1)

-- what holds before each
abbrev pub BeforeName : Sizes → ℕ → TableState → List Event → Type 0
BeforeName sizes k = Quiet sizes (Held (k + 1) 0 0 0)

abbrev pub BeforeInstruction : Sizes → ℕ → TableState → List Event → Type 0
BeforeInstruction sizes k = Quiet sizes (Held (sizes.stacks + 1) k 0 0)

abbrev pub BeforeNode : Sizes → ℕ → TableState → List Event → Type 0
BeforeNode sizes k = Quiet sizes (Held (sizes.stacks + 1) sizes.stacks k 0)

abbrev pub BeforeInfo : Sizes → ℕ → TableState → List Event → Type 0
BeforeInfo sizes k = Quiet sizes (Held (sizes.stacks + 1) sizes.stacks sizes.stacks k)

module _ (sizes : Sizes) (most : sizes.stacks ≤ 4000) where
  module _ (short : (n : ℕ) → n < 2 ^ 64 → length (decimal n) ≤ 20) where
    pub name_reads : (k : ℕ) → k < sizes.stacks
        → (name_line k ≡ written 2 (says_name k)) × IsWritable Interpreted 2 (says_name k)
    name_reads k within =
        let few : length (decimal (k + 1)) ≤ 20 =
        short (k + 1) (omega (arith, within, most)) in (refl, (omega (arith, few), refl))

  pub name_follows : (k : ℕ) → k < sizes.stacks → (tables : TableState) (taken : List Event) → tables.version ≡ Some 2
      → BeforeName sizes k tables taken
      → Follows (BeforeName sizes (k + 1)) (says_name k) tables taken
  name_follows k within tables taken version before =
      quiet sizes (Held (k + 1 + 1) 0 0 0) (says_name k) tables taken
      (has_room _ _ (omega (arith, before.0.strings_are, within, most))) refl version
      (string_more (k + 1) 0 0 0 tables (codes "f" ++ decimal (k + 1)) before.0) before.1

  pub instruction_reads : (k : ℕ) → k < sizes.stacks
      → (instruction_line k ≡ written 2 (says_instruction k)) × IsWritable Interpreted 2 (says_instruction k)
  instruction_reads k within = (
    ap (λ one. codes "i " ++ (hexadecimal (k + 1) ++ (32 ∷ (one ++ (32 ∷ hexadecimal (k + 2))))))
        (sym (hex_one_digit false 1 (omega arith)))
        ∙ ap (λ tail. codes "i " ++ (hexadecimal (k + 1) ++ (32 ∷ (hexadecimal 1 ++ (32 ∷ tail)))))
        (sym (append-nil (hexadecimal (k + 2)))),
    ((omega (arith, within, most), (omega arith, (omega (arith, within, most), tt))), inl refl, refl),
  )

  pub instruction_follows : (k : ℕ) → k < sizes.stacks → (tables : TableState) (taken : List Event)
      → tables.version ≡ Some 2 → BeforeInstruction sizes k tables taken
      → Follows (BeforeInstruction sizes (k + 1)) (says_instruction k) tables taken
  instruction_follows k within tables taken version before =
      let strings : ℕ = length tables.strings in
      let room =
      has_room (length tables.instructions) (2 ^ 32 - 1) (omega (arith, before.0.instructions_are, within, most)) in
      quiet sizes (Held (sizes.stacks + 1) (k + 1) 0 0) (says_instruction k) tables taken
      (rw (
        le-ltb strings 1 (omega (arith, before.0.strings_are)),
        le-leb (k + 2) strings (omega (arith, before.0.strings_are, within)),
        le-leb 0 strings (omega arith),
      ) room)
      refl version
      (instruction_more (sizes.stacks + 1) k 0 0 tables _ refl before.0) before.1

  pub node_reads : (k : ℕ) → k < sizes.stacks
      → (node_line sizes k ≡ written 2 (says_node sizes k)) × IsWritable Interpreted 2 (says_node sizes k)
  node_reads k within =
      let parent : draw sizes.seed k (k + 1) < k + 1 = drawn_below sizes.seed k (k + 1) (omega arith) in (
        ap (λ tail. codes "t " ++ (hexadecimal (k + 1) ++ (codes " " ++ tail)))
            (sym (append-nil (hexadecimal (draw sizes.seed k (k + 1))))),
        (omega (arith, within, most), (omega (arith, parent, within, most), tt)),
      )

  pub node_follows : (k : ℕ) → k < sizes.stacks → (tables : TableState) (taken : List Event) → tables.version ≡ Some 2
      → BeforeNode sizes k tables taken
      → Follows (BeforeNode sizes (k + 1)) (says_node sizes k) tables taken
  node_follows k within tables taken version before =
      let held = before.0 in
      let number : ℕ = draw sizes.seed k (k + 1) in
      let parent : number < k + 1 = drawn_below sizes.seed k (k + 1) (omega arith) in
      let one = held.one_frame (k + 1) (omega (arith, within)) in
      let shallow : frame_count tables.nodes number ≤ number = held.shallow number (omega (arith, parent)) in
      let room = has_room (length tables.nodes) (2 ^ 32 - 2) (omega (arith, held.nodes_are, within, most)) in
      let good : node_fault tables.nodes (Some 1) number ≡ None =
      rw (
        le-ltb (length tables.nodes) number (omega (arith, held.nodes_are, parent)),
        le-ltb 4096 (frame_count tables.nodes number + 1) (omega (arith, shallow, parent, within, most)),
      ) room in
      quiet sizes (Held (sizes.stacks + 1) sizes.stacks (k + 1) 0) (says_node sizes k) tables taken
      (ap (λ found. node_fault tables.nodes found number) one ∙ good) refl version
      (node_more (sizes.stacks + 1) sizes.stacks k 0 tables _ (ap (λ found. unwrap_or found 0) one)
      (omega (arith, parent)) held)
      before.1

  pub info_reads : (k : ℕ) → k < sizes.stacks
      → (info_line sizes k ≡ written 2 (says_info sizes k)) × IsWritable Interpreted 2 (says_info sizes k)
  info_reads k within =
      let size : draw sizes.seed (sizes.stacks + k) 4096 < 4096 =
      drawn_below sizes.seed (sizes.stacks + k) 4096 (omega arith) in (
        ap (λ tail. codes "a " ++ (hexadecimal (draw sizes.seed (sizes.stacks + k) 4096 + 1) ++ (codes " " ++ tail)))
            (sym (append-nil (hexadecimal (k + 1)))),
        ((omega (arith, size), (omega (arith, within, most), tt)), refl),
      )

  pub info_follows : (k : ℕ) → k < sizes.stacks → (tables : TableState) (taken : List Event) → tables.version ≡ Some 2
      → BeforeInfo sizes k tables taken
      → Follows (BeforeInfo sizes (k + 1)) (says_info sizes k) tables taken
  info_follows k within tables taken version before =
      let held = before.0 in
      let size : draw sizes.seed (sizes.stacks + k) 4096 < 4096 =
      drawn_below sizes.seed (sizes.stacks + k) 4096 (omega arith) in
      let room = has_room (length tables.infos) (2 ^ 32 - 1) (omega (arith, held.infos_are, within, most)) in
      quiet sizes (Held (sizes.stacks + 1) sizes.stacks sizes.stacks (k + 1)) (says_info sizes k) tables taken
      (rw (le-ltb (length tables.nodes) (k + 1) (omega (arith, held.nodes_are, within))) room) refl version
      (info_more (sizes.stacks + 1) sizes.stacks sizes.stacks k tables _ (omega (arith, size)) held) before.1
