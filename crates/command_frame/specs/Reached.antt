-- The first fault of a plan is reached, by what a store gave, where files behind its own were
-- opened, or where the bytes taken of its file show it: the refused line and its line feed are
-- among them, or one byte more than the line or the file may have. The end of a file, a last line
-- without a line feed and a file that is read whole have faults that only the end shows.
use Rattle.std.specs.Prelude.{◌≡◌, ◌⊎◌, ◌+◌, ◌-◌, ◌<◌, ◌≤◌, ℕ, if◌then◌else◌, List, length, take, Option, Some, None}
use Rattle.std.specs.Prelude.{unwrap_or}
use Rattle.hp_outside.specs.Folder.{Folder, file_of}
use Rattle.hp_outside.specs.Lines.{lines_of}
use Rattle.command_frame.specs.Told.{Told}
use Rattle.command_frame.specs.Report.{Report}
use Rattle.command_frame.specs.FirstFault.{Bounds, Refusal, bytes_of_lines, file_fault, input_too_long, line_too_long}
use Rattle.command_frame.specs.Moment.{Moment}
use Rattle.command_frame.specs.Plan.{Document, Ends, Lines, Pieces, Plan}
use Rattle.command_frame.specs.Task.{Task}
use Rattle.command_frame.specs.WholeFault.{whole_fault}

-- the first so many bytes of a file with these lines show its refusal: the refused line and its
-- line feed are among them, or, where the line or the file is too long, one byte more than it may
-- have. The end of a file has no line, and a last line without a line feed is told from a longer
-- one by the end alone, so no bytes show a fault of these
abbrev pub ShowsRefusal : Bounds → List (List ℕ) → Refusal → ℕ → Type 0
ShowsRefusal bounds lines refusal taken =
    ((refusal.number ≤ length lines) × (bytes_of_lines (take refusal.number lines) ≤ taken))
    ⊎ (((refusal.told ≡ line_too_long)
    × (bytes_of_lines (take (refusal.number - 1) lines) + bounds.line + 1 ≤ taken))
    ⊎ ((refusal.told ≡ input_too_long) × (bounds.input < taken)))

-- how many bytes of a file were taken, which was opened last: all but those that are left, and none
-- where it couldn't be opened
abbrev pub taken_of : Moment → List ℕ → ℕ
taken_of now bytes = if now.current then length bytes - length (unwrap_or now.left bytes) else 0

-- the refusal of a file was reached, if it has one: more files than it were opened, or it alone
-- was, and the bytes taken show it. In a file without one nothing is reached but behind it
abbrev pub RefusalReached : Bounds → List ℕ → ℕ → Moment → Type 0 → Option Refusal → Type 0
RefusalReached bounds bytes opened now later (Some refusal) = (1 < opened)
    ⊎ ((opened ≡ 1) × ShowsRefusal bounds (lines_of bytes) refusal (taken_of now bytes))
RefusalReached bounds bytes opened now later None = later

-- the same of a file that the folder has; one that it lacks has no fault
abbrev pub FileReached : Bounds → Report → ℕ → Moment → (List (List ℕ) → Type 0)
    → Option (List ℕ) → Type 0
FileReached bounds report opened now later None = ⊥
FileReached bounds report opened now later (Some bytes) =
    RefusalReached bounds bytes opened now (later (lines_of bytes)) (file_fault bounds report bytes)

-- the same of the fault of a file that is read whole: no read of it failed, so more files than it were opened
abbrev pub WholeReached : ℕ → Type 0 → Option Told → Type 0
WholeReached opened later (Some told) = 1 < opened
WholeReached opened later None = later

abbrev pub DocumentReached : Bounds → ℕ → (List ℕ → Type 0) → Option (List ℕ) → Type 0
DocumentReached bounds opened later None = ⊥
DocumentReached bounds opened later (Some bytes) = WholeReached opened (later bytes)
    (whole_fault bounds bytes)

-- the first fault of a plan was reached, so many of whose files were opened. What is made of all
-- that was read is judged behind the last call
abbrev pub PlanReached : Bounds → Folder → Moment → Plan → ℕ → Type 0
PlanReached bounds folder now (Ends verdict) opened = ⊥
PlanReached bounds folder now (Pieces text) opened = ⊥
PlanReached bounds folder now (Lines name report next) opened =
    FileReached bounds report opened now
    (λ lines. PlanReached bounds folder now (next lines) (opened - 1)) (file_of folder name)
PlanReached bounds folder now (Document name next) opened =
    DocumentReached bounds opened
    (λ bytes. PlanReached bounds folder now (next bytes) (opened - 1)) (file_of folder name)

-- the first fault of what was asked for was reached by what the store gave until now
abbrev pub IsReached : Bounds → Folder → Option Task → Moment → Moment → Type 0
IsReached bounds folder None before now = ⊥
IsReached bounds folder (Some task) before now =
    PlanReached bounds folder now task.plan (now.opens - before.opens)
