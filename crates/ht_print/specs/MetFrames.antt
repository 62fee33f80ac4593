-- In which frames a pattern of a trace stands, for private clauses.
use Rattle.std.specs.Prelude.{◌≡◌, ℕ, ◌+◌, List, Bool, length, map}
use Rattle.std.specs.List.{list_any, range_with_len}
use Rattle.ht_trace.specs.declared.frame.FrameAt.{FrameAt}
use Rattle.ht_trace.specs.declared.frame.Style.TheVariants.{Plain}
use Rattle.ht_trace.specs.FrameText.{frame_text}
use Rattle.ht_trace.specs.StackFrames.{frames_of, no_stack}
use Rattle.ht_trace.specs.TableState.{TableState}
use Rattle.ht_print.specs.Suppressed.{meets_any}
use Rattle.ht_print.specs.declared.met_frames.MetFrames.{MetFrames}

-- whether some pattern stands in the text of a frame
abbrev pub meets_frame : TableState → FrameAt → Bool
meets_frame tables at = meets_any tables.patterns (frame_text Plain tables at)

-- the same of some frames, and of an instruction's
abbrev pub meets_frames : TableState → List FrameAt → Bool
meets_frames tables frames = list_any (meets_frame tables) frames

abbrev pub meets_instruction : TableState → ℕ → Bool
meets_instruction tables n = meets_frames tables (frames_of tables.instructions n)

-- the answers for all instructions, by their numbers
abbrev pub met_instructions : TableState → List Bool
met_instructions tables = map (meets_instruction tables)
    (range_with_len 0 (length tables.instructions + 1))

-- the answers are those of the tables
pub record AreMet (tables : TableState) (met : MetFrames) : Type 0 where
  pub no_stack : met.no_stack ≡ meets_frame tables no_stack
  pub instructions : met.instructions.items ≡ met_instructions tables
