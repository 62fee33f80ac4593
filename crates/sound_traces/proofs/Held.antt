-- What the tables of a generated trace hold so far.
use Rattle.std.proofs.Common.{◌≡◌, ℕ, suc, zero, ◌+◌, ◌-◌, ◌<◌, ◌≤◌, List, [], ◌∷◌, ◌++◌, length, slice_get, Some, None}
use Rattle.std.proofs.Common.{refl, ap, ◌∙◌, inl, inr, arith}
use Rattle.std.proofs.lemmas.Bool.{lt-ltb}
use Rattle.std.proofs.lemmas.Bool.Decides.{eqb_tells, nat_tests}
use Rattle.std.proofs.lemmas.List.{length_push}
use Rattle.stack_table.specs.Node.{Node}
use Rattle.stack_table.specs.Stack.{frame_count}
use Rattle.hp_num.proofs.Laws.{slice_get-end, slice_get-front}
use Rattle.stack_table.proofs.Laws.{frame_count-newest, frame_count-older}
use Rattle.live_ledger.specs.LedgerState.{HeldInfo}
use Rattle.ht_trace.specs.Instruction.{Instruction, frame_count_of}
use Rattle.ht_trace.specs.LineFault.{growth_fault}
use Rattle.ht_trace.specs.TableState.{TableState}
use Rattle.ht_trace.proofs.Laws.{frame_count_of-more}

-- each instruction has one frame, the stack of a node has no more frames than its number says, and
-- infos have at most 4,096 bytes
pub record Held (strings instructions nodes infos : ℕ) (tables : TableState) : Type 0 where
  pub strings_are : length tables.strings ≡ strings
  pub instructions_are : length tables.instructions ≡ instructions
  pub one_frame : (n : ℕ) → n ≤ instructions → frame_count_of tables.instructions n ≡ Some 1
  pub nodes_are : length tables.nodes ≡ nodes
  pub shallow : (n : ℕ) → n ≤ nodes → frame_count tables.nodes n ≤ n
  pub infos_are : length tables.infos ≡ infos
  pub small : (n : ℕ) → n < infos → (found : HeldInfo) × ((slice_get tables.infos n ≡ Some found) × (found.size ≤ 4096))

-- a table has room
pub has_room : (count most : ℕ) → count < most → growth_fault count most ≡ None
has_room count most some = rw (lt-ltb count most some) refl

-- one string more
pub string_more : (strings instructions nodes infos : ℕ) (tables : TableState) (text : List ℕ)
    → Held strings instructions nodes infos tables
    → Held (strings + 1) instructions nodes infos (record tables { strings = tables.strings ++ text ∷ [] })
string_more strings instructions nodes infos tables text held = record {
  strings_are = length_push tables.strings text ∙ ap (λ n. n + 1) held.strings_are;
  instructions_are = held.instructions_are;
  one_frame = held.one_frame;
  nodes_are = held.nodes_are;
  shallow = held.shallow;
  infos_are = held.infos_are;
  small = held.small;
}

-- one instruction more, with one frame
last_count : (held : List Instruction) (instruction : Instruction) (n : ℕ) → n ≡ length held + 1
    → length instruction.frames ≡ 1 → frame_count_of (held ++ instruction ∷ []) n ≡ Some 1
last_count held instruction zero is one = absurd (omega (arith, is))
last_count held instruction (suc n) is one =
    grind (arith, nat_tests, one, slice_get-end held instruction (suc n - 1) (omega (arith, is)))

pub instruction_more : (strings instructions nodes infos : ℕ) (tables : TableState) (instruction : Instruction)
    → length instruction.frames ≡ 1 → Held strings instructions nodes infos tables
    → Held strings (instructions + 1) nodes infos
    (record tables { instructions = tables.instructions ++ instruction ∷ [] })
instruction_more strings instructions nodes infos tables instruction one held = record {
  strings_are = held.strings_are;
  instructions_are = length_push tables.instructions instruction ∙ ap (λ n. n + 1) held.instructions_are;
  one_frame = λ n within.
      elim (eqb_tells n (instructions + 1)) [
        | inl last ↦ last_count tables.instructions instruction n (omega (arith, last.1, held.instructions_are)) one
        | inr other ↦ frame_count_of-more tables.instructions (instruction ∷ []) n
            (omega (arith, within, other.1, held.instructions_are))
            ∙ held.one_frame n (omega (arith, within, other.1))
      ];
  nodes_are = held.nodes_are;
  shallow = held.shallow;
  infos_are = held.infos_are;
  small = held.small;
}

-- one node more, with one frame
pub node_more : (strings instructions nodes infos : ℕ) (tables : TableState) (node : Node) → node.frames ≡ 1
    → node.parent ≤ nodes → Held strings instructions nodes infos tables
    → Held strings instructions (nodes + 1) infos (record tables { nodes = tables.nodes ++ node ∷ [] })
node_more strings instructions nodes infos tables node one parent held = record {
  strings_are = held.strings_are;
  instructions_are = held.instructions_are;
  one_frame = held.one_frame;
  nodes_are = length_push tables.nodes node ∙ ap (λ n. n + 1) held.nodes_are;
  shallow = λ n within.
      elim (eqb_tells n (nodes + 1)) [
        | inl last ↦ omega (
          arith,
          frame_count-newest tables.nodes node n (omega (arith, last.1, held.nodes_are)),
          held.shallow node.parent parent,
          one,
          last.1,
          parent,
        )
        | inr other ↦ omega (
          arith,
          frame_count-older tables.nodes node n (omega (arith, within, other.1, held.nodes_are)),
          held.shallow n (omega (arith, within, other.1)),
        )
      ];
  infos_are = held.infos_are;
  small = held.small;
}

-- one info more
pub info_more : (strings instructions nodes infos : ℕ) (tables : TableState) (info : HeldInfo) → info.size ≤ 4096
    → Held strings instructions nodes infos tables
    → Held strings instructions nodes (infos + 1) (record tables { infos = tables.infos ++ info ∷ [] })
info_more strings instructions nodes infos tables info fits held = record {
  strings_are = held.strings_are;
  instructions_are = held.instructions_are;
  one_frame = held.one_frame;
  nodes_are = held.nodes_are;
  shallow = held.shallow;
  infos_are = length_push tables.infos info ∙ ap (λ n. n + 1) held.infos_are;
  small = λ n within.
      elim (eqb_tells n infos) [
        | inl last ↦ (info, (slice_get-end tables.infos info n (omega (arith, last.1, held.infos_are)), fits))
        | inr other ↦
            let found = held.small n (omega (arith, within, other.1)) in (
              found.0,
              (
                slice_get-front tables.infos (info ∷ []) n (omega (arith, within, other.1, held.infos_are)) ∙ found.1.0,
                found.1.1,
              ),
            )
      ];
}
