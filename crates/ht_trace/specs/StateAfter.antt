-- What one line does to the tables, or why it does nothing.
use Rattle.std.specs.Prelude.{◌≡◌, ℕ, List, [], ◌∷◌, ◌++◌, Some, None, unwrap_or}
use Rattle.std.specs.Option.{option_or, option_to_list}
use Rattle.ht_lines.specs.Content.{Content, version_line, command_line, string_line, instruction_line, node_line}
use Rattle.ht_lines.specs.Content.{info_line, suppression_line}
use Rattle.ht_trace.specs.declared.error.LineError.{LineError}
use Rattle.ht_trace.specs.declared.step.Step.{Step}
use Rattle.ht_trace.specs.FramesSaid.{frames_said}
use Rattle.ht_trace.specs.Instruction.{frame_count_of}
use Rattle.ht_trace.specs.LineFault.{Tells, content_fault}
use Rattle.ht_trace.specs.Pattern.{pattern_of}
use Rattle.ht_trace.specs.StepOf.{step_in}
use Rattle.ht_trace.specs.TableState.{TableState}

-- the tables with the pattern of a text, where it has one, at the end of the patterns
abbrev pub with_pattern : TableState → List ℕ → TableState
with_pattern tables text = record tables
    { patterns = tables.patterns ++ option_to_list (pattern_of text) }

-- the tables with what a line says at the end of the list that it belongs to
abbrev pub state_after : TableState → Content → TableState
state_after tables (version_line heaptrack file) = record tables
    { version = option_or tables.version (Some file) }
state_after tables (command_line bytes) = record tables
    { command = option_or tables.command (Some bytes) }
state_after tables (string_line bytes) = record tables { strings = tables.strings ++ bytes ∷ [] }
state_after tables (instruction_line ip module_string numbers) = record tables {
  instructions = tables.instructions
      ++ record { ip = ip; module_string = module_string; frames = frames_said numbers } ∷ [];
}
state_after tables (node_line instruction parent) = record tables {
  nodes = tables.nodes
      ++ record {
        ip = instruction;
        parent = parent;
        frames = unwrap_or (frame_count_of tables.instructions instruction) 0;
      } ∷ [];
}
state_after tables (info_line size trace) = record tables
    { infos = tables.infos ++ record { stack = trace; size = size } ∷ [] }
state_after tables (suppression_line bytes) = with_pattern tables bytes
state_after tables _ = tables

-- what the line says has no fault, is added, and brings this step
pub record Takes (old : TableState) (said : Content) (step : Step) (new : TableState) : Type 0 where
  pub no_fault : content_fault old said ≡ None
  pub step_is : step ≡ step_in old.infos said
  pub added : new ≡ state_after old said

-- the error is the fault of what the line says, unless memory was wanting, and the tables are as before
pub record Refuses (old : TableState) (said : Content) (error : LineError) (new : TableState) : Type
    0 where
  pub fault : Tells error (content_fault old said)
  pub unchanged : new ≡ old
