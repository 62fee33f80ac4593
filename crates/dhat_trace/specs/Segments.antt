-- The places of a stack's frames, and where those of stacks stand among them that it's called from,
-- for private clauses.
use Rattle.std.specs.Prelude.{◌≡◌, ◌⊎◌, ℕ, ◌≤◌, List, [], ◌∷◌, ◌++◌, All, Option, drop, length}
use Rattle.cost_tree.specs.Following.{following}
use Rattle.ht_trace.specs.TableState.{TableState}
use Rattle.dhat_trace.specs.declared.segment.Segment.{Segment}
use Rattle.dhat_trace.specs.FrameTable.{AddsTexts, frame_texts}
use Rattle.dhat_trace.specs.KnownPlaces.{HavePlaces}

-- the places from the segment's start on are those of its stack's frames
pub record IsSegment (tables : TableState) (table : List (List ℕ)) (whole : List ℕ) (segment : Segment) : Type
    0 where
  pub held : segment.stack ≤ length tables.nodes
  pub places : HavePlaces table (frame_texts tables segment.stack) (drop segment.start whole)

-- the texts of a stack's frames came to the table, and these are their places, with segments
pub record IsGathered (tables : TableState) (stack : ℕ) (old new : List (List ℕ)) (whole : List ℕ)
    (segments : List Segment) : Type 0 where
  pub added : AddsTexts old (frame_texts tables stack) new
  pub places : HavePlaces new (frame_texts tables stack) whole
  pub each : All (IsSegment tables new whole) segments

-- the same of places and those of the list that they go on with, if any
abbrev pub Gathers : TableState → ℕ → List (List ℕ) → List (List ℕ) → List (List ℕ) → List ℕ
    → List Segment → Option ℕ → Type 0
Gathers tables stack old new told places segments next =
    IsGathered tables stack old new (places ++ following told next) segments

-- a segment began behind the others, or none did
abbrev pub MayBegin : ℕ → ℕ → List Segment → List Segment → Type 0
MayBegin stack start old new = (new ≡ old)
    ⊎ (new ≡ old ++ record { stack = stack; start = start } ∷ [])
