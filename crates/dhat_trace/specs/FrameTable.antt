-- The table of frames is `[root]` and then each text of the frames of the points where it first
-- comes; a text's place is its first one.
use Rattle.std.specs.Prelude.{◌≡◌, ℕ, ◌+◌, List, ◌∷◌, ◌++◌, map, position, unwrap_or, codes, Some}
use Rattle.std.specs.List.{flat_map}
use Rattle.std.specs.Str.{bytes_eq}
use Rattle.intern_tables.specs.Numbers.{number_of}
use Rattle.intern_tables.specs.WithoutRepeats.{without_repeats}
use Rattle.ht_trace.specs.declared.frame.FrameAt.{FrameAt}
use Rattle.ht_trace.specs.declared.frame.Style.TheVariants.{Addressed}
use Rattle.ht_trace.specs.FrameText.{frame_text}
use Rattle.ht_trace.specs.StackFrames.{stack_frames}
use Rattle.ht_trace.specs.TableState.{TableState}
use Rattle.dhat_trace.specs.ProfileTexts.{utf8_text}

-- the text of a frame in a profile
abbrev pub profile_frame : TableState → FrameAt → List ℕ
profile_frame tables at = utf8_text (frame_text Addressed tables at)

-- the texts of some frames
abbrev pub profile_frames : TableState → List FrameAt → List (List ℕ)
profile_frames tables = map (profile_frame tables)

-- the texts of the frames of a stack, from the innermost on
unfoldable pub frame_texts : TableState → ℕ → List (List ℕ)
frame_texts tables stack = map (profile_frame tables)
    (stack_frames tables.instructions tables.nodes stack)

-- the table for some stacks: the root, and then each text of their frames where it first comes
unfoldable pub table_of : TableState → List ℕ → List (List ℕ)
table_of tables stacks = without_repeats bytes_eq
    (codes "[root]" ∷ flat_map (frame_texts tables) stacks)

-- the place of a text in a table
abbrev pub place_in : List (List ℕ) → List ℕ → ℕ
place_in table text = unwrap_or (position (bytes_eq text) table) 0

-- the places of texts
abbrev pub places_in : List (List ℕ) → List (List ℕ) → List ℕ
places_in table texts = map (place_in table) texts

-- a table has the text at the place
abbrev pub StandsAt : List (List ℕ) → List ℕ → ℕ → Type 0
StandsAt table text place = number_of table text ≡ Some (place + 1)

-- the new table has each text of the old one at its place
abbrev pub Keeps : List (List ℕ) → List (List ℕ) → Type 0
Keeps old new = (text : List ℕ) (number : ℕ) → number_of old text ≡ Some number
    → number_of new text ≡ Some number

-- the new table has the texts of the old one at their places, and those of these texts that it lacked behind them
pub record AddsTexts (old : List (List ℕ)) (texts : List (List ℕ)) (new : List (List ℕ)) : Type
    0 where
  pub first_places : (came : List (List ℕ)) → old ≡ without_repeats bytes_eq came
      → new ≡ without_repeats bytes_eq (came ++ texts)
  pub keeps : Keeps old new
