-- The places of the frames of instructions and of stacks, which are kept so that texts are made
-- once, for private clauses.
use Rattle.std.specs.Prelude.{◌≡◌, ℕ, ◌+◌, ◌<◌, List, [], ◌∷◌, ◌++◌, length, map, slice_get, Some}
use Rattle.ht_trace.specs.declared.frame.FrameAt.{FrameAt}
use Rattle.ht_trace.specs.StackFrames.{frames_of}
use Rattle.ht_trace.specs.TableState.{TableState}
use Rattle.dhat_trace.specs.FrameTable.{AddsTexts, StandsAt, frame_texts, profile_frame, profile_frames}

-- the texts of the frames of an instruction, from the innermost on
abbrev pub instruction_texts : TableState → ℕ → List (List ℕ)
instruction_texts tables instruction = map (profile_frame tables)
    (frames_of tables.instructions instruction)

-- a table has these texts at these places
abbrev pub HavePlaces : List (List ℕ) → List (List ℕ) → List ℕ → Type 0
HavePlaces table [] [] = Unit {0}
HavePlaces table [] (place ∷ places) = ⊥
HavePlaces table (text ∷ texts) [] = ⊥
HavePlaces table (text ∷ texts) (place ∷ places) =
    StandsAt table text place × HavePlaces table texts places

-- what a list of places has under a number, if anything, are the places of the instruction's frames
abbrev pub IsKnown : TableState → ℕ → List (List ℕ) → List (List ℕ) → Type 0
IsKnown tables instruction table known = (places : List ℕ)
    → slice_get known instruction ≡ Some places
    → HavePlaces table (instruction_texts tables instruction) places

-- the texts of the frames of an instruction come to the table
abbrev pub AddsInstruction : TableState → ℕ → List (List ℕ) → List (List ℕ) → Type 0
AddsInstruction tables instruction old new =
    AddsTexts old (instruction_texts tables instruction) new

-- the texts come to the table, and their places to those of the texts before
pub record GainsPlaces (old : List (List ℕ)) (before : List ℕ) (texts new : List (List ℕ))
    (after : List ℕ) : Type 0 where
  pub added : AddsTexts old texts new
  pub told : (front : List (List ℕ)) → HavePlaces old front before
      → HavePlaces new (front ++ texts) after

-- the texts of these frames do
abbrev pub GainsFrames : TableState → List FrameAt → List (List ℕ) → List ℕ → List (List ℕ)
    → List ℕ → Type 0
GainsFrames tables frames old before = GainsPlaces old before (profile_frames tables frames)

-- each number has a list: that of the places of its texts, unless it is empty still
pub record AreLists (texts_of : ℕ → List (List ℕ)) (numbers : ℕ) (table : List (List ℕ))
    (lists : List (List ℕ)) : Type 0 where
  pub count : length lists ≡ numbers
  pub told : (number : ℕ) (places : List ℕ) → slice_get lists number ≡ Some places
      → 0 < length places → HavePlaces table (texts_of number) places

-- those of instructions
abbrev pub AreKnown : TableState → List (List ℕ) → List (List ℕ) → Type 0
AreKnown tables = AreLists (instruction_texts tables) (length tables.instructions + 1)

-- those of stacks
abbrev pub AreTold : TableState → List (List ℕ) → List (List ℕ) → Type 0
AreTold tables = AreLists (frame_texts tables) (length tables.nodes + 1)
