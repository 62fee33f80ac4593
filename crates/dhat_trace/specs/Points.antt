-- The points of a trace, one for each stack that allocated. There is a point for each stack that
-- allocated, by ascending number.
use Rattle.std.specs.Prelude.{◌≡◌, ℕ, nat_lt, if◌then◌else◌, List, [], ◌∷◌}
use Rattle.std.specs.Prelude.{◌++◌, filter, map, slice_index_or, Some, None, Ok}
use Rattle.std.specs.List.{range_with_len}
use Rattle.dhat_json.specs.declared.profile.Dhat.{Dhat}
use Rattle.dhat_json.specs.declared.profile.Point.{Point}
use Rattle.dhat_json.specs.declared.point_writer.PointWriter.{PointWriter}
use Rattle.dhat_json.specs.Begun.{with_points}
use Rattle.dhat_json.specs.DhatValue.{dhat_text}
use Rattle.dhat_json.specs.Document.{document_of}
use Rattle.dhat_json.specs.IsSound.{IsSound}
use Rattle.dhat_json.specs.PointWriter.{HasWritten}
use Rattle.dhat_metrics.specs.LifeState.{LifeState}
use Rattle.ht_trace.specs.TableState.{TableState}
use Rattle.peak_costs.specs.PeakState.{PeakState}
use Rattle.dhat_trace.specs.declared.points.CalledStack.{CalledStack}
use Rattle.dhat_trace.specs.declared.points.PointFigures.{PointFigures}
use Rattle.dhat_trace.specs.FrameTable.{frame_texts, places_in}
use Rattle.dhat_trace.specs.PointFigures.{figures_of}

-- the stack, where it allocated
abbrev pub if_called : (ℕ → PointFigures) → ℕ → List ℕ
if_called figures stack = if nat_lt 0 (figures stack).tbk then stack ∷ [] else []

-- those of the first stacks that allocated, by ascending number
unfoldable pub called : (ℕ → PointFigures) → ℕ → List ℕ
called figures count = filter (λ stack. nat_lt 0 (figures stack).tbk) (range_with_len 0 count)

-- the point with these figures and frames
abbrev pub point_with : PointFigures → List ℕ → Point
point_with figures fs = record {
  tb = figures.tb;
  tbk = figures.tbk;
  life = Some figures.life;
  access = None;
  fs = fs;
}

-- the points of stacks, whose frames are told by their places in a table
abbrev pub points_of : List (List ℕ) → TableState → (ℕ → PointFigures) → List ℕ → List Point
points_of table tables figures stacks = map
    (λ stack. point_with (figures stack) (places_in table (frame_texts tables stack))) stacks

-- stacks with their figures, for private clauses
abbrev pub called_with : (ℕ → PointFigures) → List ℕ → List CalledStack
called_with figures stacks = map (λ stack. record { stack = stack; figures = figures stack }) stacks

-- their points, where the places of each stack's frames are told
abbrev pub points_in : List CalledStack → List (List ℕ) → List Point
points_in stacks told = map
    (λ called. point_with called.figures (slice_index_or told called.stack [])) stacks

-- the stacks that allocated, by what peaks and lifetimes hold
abbrev pub called_by : PeakState → LifeState → List CalledStack
called_by peaks lifetimes = called_with (figures_of peaks lifetimes)
    (called (figures_of peaks lifetimes) peaks.ledger.stacks)

-- the stack with its figures came behind the others, where it allocated
abbrev pub AddsCalled : ℕ → PointFigures → List CalledStack → List CalledStack → Type 0
AddsCalled stack figures old new = (all : ℕ → PointFigures) → all stack ≡ figures
    → new ≡ old ++ called_with all (if_called all stack)

-- the profile with the points of these stacks
abbrev pub with_stacks : Dhat → List CalledStack → List (List ℕ) → Dhat
with_stacks head stacks told = with_points head (points_in stacks told)

-- the bytes are its text
abbrev pub IsTextWith : Dhat → List CalledStack → List (List ℕ) → List ℕ → Type 0
IsTextWith head stacks told text = text ≡ dhat_text (with_stacks head stacks told)

-- the bytes are read as it, where it is sound
abbrev pub ReadsBackWith : Dhat → List CalledStack → List (List ℕ) → List ℕ → Type 0
ReadsBackWith head stacks told text = IsSound (with_stacks head stacks told)
    → document_of text ≡ Ok (with_stacks head stacks told)

-- the points of these stacks were put behind none
abbrev pub WritesStacks : PointWriter → PointWriter → List CalledStack → List (List ℕ) → Type 0
WritesStacks old new stacks told = (head : Dhat) → HasWritten old (with_points head [])
    → HasWritten new (with_stacks head stacks told)
