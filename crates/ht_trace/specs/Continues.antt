-- That tables only grow. Tables continue others where each of their lists is the other's and more
-- at the end; then stacks keep their frames, and frames their texts.
use Rattle.std.specs.Prelude.{◌≡◌, ℕ, ◌≤◌, List, ◌++◌, length, Some}
use Rattle.stack_table.specs.Continues as nodes
use Rattle.ht_trace.specs.declared.frame.FrameAt.{FrameAt}
use Rattle.ht_trace.specs.declared.frame.Style.{Style}
use Rattle.ht_trace.specs.FrameText.{frame_text, function_at}
use Rattle.ht_trace.specs.IsFrame.{IsFrame}
use Rattle.ht_trace.specs.StackFrames.{stack_frames}
use Rattle.ht_trace.specs.TableState.{TableState}

-- the new list is the old one and more at the end
abbrev pub Extends : {X : Type 0} → List X → List X → Type 0
Extends {X} old new = (more : List X) × (new ≡ old ++ more)

-- version and command stay where there is one, and each list is the old one and more at the end
pub record IsGrown (old new : TableState) : Type 0 where
  pub version : (version : ℕ) → old.version ≡ Some version → new.version ≡ Some version
  pub command : (text : List ℕ) → old.command ≡ Some text → new.command ≡ Some text
  pub strings : Extends old.strings new.strings
  pub instructions : Extends old.instructions new.instructions
  pub nodes : nodes.Continues old.nodes new.nodes
  pub infos : Extends old.infos new.infos
  pub patterns : Extends old.patterns new.patterns

-- so each stack of the old tables is one of the new with the same frames, and each frame is one with the same text
-- and the same function
pub record Continues (old new : TableState) : Type 0 where
  pub grown : IsGrown old new
  pub held : length old.nodes ≤ length new.nodes
  pub frames : (n : ℕ) → n ≤ length old.nodes
      → stack_frames new.instructions new.nodes n ≡ stack_frames old.instructions old.nodes n
  pub places : (at : FrameAt) → IsFrame old at → IsFrame new at
  pub texts : (style : Style) (at : FrameAt) → IsFrame old at
      → frame_text style new at ≡ frame_text style old at
  pub functions : (at : FrameAt) → IsFrame old at → function_at new at ≡ function_at old at
