-- What a run of a plan may come to, whatever a store tells and does.
use Rattle.std.specs.Prelude.{◌≡◌, ◌⊎◌, ℕ, List, [], ◌∷◌, take, Option}
use Rattle.std.specs.Io.KnownBytes.{append_known}
use Rattle.hp_outside.specs.Folder.{Folder}
use Rattle.command_frame.specs.Report.{Report, written}
use Rattle.command_frame.specs.FirstFault.{Bounds}
use Rattle.command_frame.specs.Moment.{Moment}
use Rattle.command_frame.specs.FileRead.{FileEnd, FileRead, Passed, end_answer, end_output}
use Rattle.command_frame.specs.DocumentRead.{DocumentEnd, DocumentRead, Whole, document_end_answer}
use Rattle.command_frame.specs.Plan.{Plan, Document, Ends, Lines, Pieces}
use Rattle.command_frame.specs.Texts.{Texts}
use Rattle.command_frame.specs.Answer.{Answer, after, done, memory_answer, verdict_answer, write_answer}

-- a run goes on behind a file whose lines were all taken, and its answer is that of any other end
abbrev pub GoesOn : Texts → List ℕ → Report → FileEnd → (List (List ℕ) → Answer → Type 0)
    → (now last : Moment) → Answer → Type 0
GoesOn texts name report (Passed taken) rest now last given =
    (answer : Answer) × (given ≡ after (written report taken) answer) × rest taken answer
GoesOn texts name report end rest now last given
    = (given ≡ after (end_output report end) (end_answer texts name end)) × (last ≡ now)

-- a run goes on behind a file that was read whole, and its answer is that of any other end
abbrev pub GoesOnWith : Texts → List ℕ → DocumentEnd → (List ℕ → Answer → Type 0)
    → (now last : Moment) → Answer → Type 0
GoesOnWith texts name (Whole taken) rest now last given = rest taken given
GoesOnWith texts name end rest now last given = (given ≡ document_end_answer texts name end)
    × (last ≡ now)

-- a text was written while it was made: all of it, or so many bytes until memory was wanting or a write failed
abbrev pub WasMade : Texts → List ℕ → Answer → Type 0
WasMade texts text given =
    (given ≡ done text) ⊎ ((count : ℕ)
    × ((given ≡ after (take count text) (memory_answer texts))
    ⊎ (given ≡ after (take count text) (write_answer texts))))

-- a run of a plan over files of these names, from one moment of the store to another, may come to
-- this answer. The file that was read last has the name `last`. The names are those of the plan's
-- files in order; with any others there is no run
abbrev pub Ran : Texts → Bounds → Option Folder → List ℕ → List (List ℕ) → Plan → Moment → Moment
    → Answer → Type 0
Ran texts bounds files last [] (Ends verdict) before now given =
    (now ≡ before) × ((given ≡ verdict_answer texts last verdict) ⊎ (given ≡ memory_answer texts))
Ran texts bounds files last (name ∷ names) (Ends verdict) before now given = ⊥
Ran texts bounds files last [] (Pieces text) before now given = (now ≡ before)
    × WasMade texts text given
Ran texts bounds files last (name ∷ names) (Pieces text) before now given = ⊥
Ran texts bounds files last [] (Lines wanted report next) before now given = ⊥
Ran texts bounds files last (name ∷ names) (Lines wanted report next) before now given =
    (name ≡ wanted) × ((end : FileEnd)
    × ((mid : Moment) × FileRead bounds files wanted report before mid end
    × GoesOn texts wanted report end
    (λ lines answer. Ran texts bounds files wanted names (next lines) mid now answer) mid now
    given))
Ran texts bounds files last [] (Document wanted next) before now given = ⊥
Ran texts bounds files last (name ∷ names) (Document wanted next) before now given =
    (name ≡ wanted) × ((end : DocumentEnd)
    × ((mid : Moment) × DocumentRead bounds files wanted before mid end
    × GoesOnWith texts wanted end
    (λ bytes answer. Ran texts bounds files wanted names (next bytes) mid now answer) mid now
    given))

-- a run wrote some bytes to an output early, and may come to the answer that is yet to be delivered behind them
abbrev pub RanTo : Texts → Bounds → Option Folder → List ℕ → List (List ℕ) → Plan → Moment → Moment
    → Option (List ℕ) → Option (List ℕ) → Answer → Type 0
RanTo texts bounds files last names plan before now old new answer =
    (early : List ℕ) × ((new ≡ append_known old early)
    × Ran texts bounds files last names plan before now (after early answer))
