-- What a taker of lines says of its faults, and of what it makes of all lines. A refusal of a taker
-- is the fault that its report says, unless memory was wanting.
use Rattle.std.specs.Prelude.{◌≡◌, ℕ, Bool, List, [], ◌∷◌, ◌++◌, IfErr, IfOk, None, OnOk, Option, Result, Some, Vec}
use Rattle.command_frame.specs.Told.{Told}
use Rattle.command_frame.specs.Report as report
use Rattle.command_frame.specs.declared.taker.LineRefusal.{LineRefusal}
use Rattle.command_frame.specs.declared.taker.LineRefusal.TheVariants.{Fault, NoMemory}

-- the refusal is this fault, unless memory was wanting
abbrev pub Tells : {F : Type 0} → (F → Told) → LineRefusal F → Option Told → Type 0
Tells told (Fault fault) found = found ≡ Some (told fault)
Tells told NoMemory found = Unit {0}

-- what is made of all lines is this fault, unless memory was wanting
abbrev pub Refuses : {F : Type 0} → (F → Told) → LineRefusal F → report.Verdict → Type 0
Refuses told (Fault fault) verdict = verdict ≡ report.Refuses (told fault)
Refuses told NoMemory verdict = Unit {0}

-- it has taken this line behind all that it had taken
abbrev pub TakesMore : (old new : List (List ℕ) → Type 0) → List ℕ → Type 0
TakesMore old new line = (lines : List (List ℕ)) → old lines → new (lines ++ line ∷ [])

-- the line has no fault after those that were taken
abbrev pub IsGood : report.Report → (List (List ℕ) → Type 0) → List ℕ → Type 0
IsGood given has_taken line =
    (lines : List (List ℕ)) → has_taken lines → given.line_fault lines line ≡ None

-- a refusal is the fault of the line after those that were taken
abbrev pub TellsLine : {F X : Type 0} → (F → Told) → report.Report → (List (List ℕ) → Type 0)
    → List ℕ → Result X (LineRefusal F) → Type 0
TellsLine told given has_taken line result = IfErr result
    (λ refusal. (lines : List (List ℕ)) → has_taken lines
    → Tells told refusal (given.line_fault lines line))

-- what a line without a fault gives after those that were taken stands behind what stood there
abbrev pub GainsLine : {X E Z : Type 0} → report.Report → (List (List ℕ) → Type 0) → List ℕ
    → Vec ℕ Z → Vec ℕ Z → Result X E → Type 0
GainsLine given has_taken line before after result = OnOk result
    ((lines : List (List ℕ)) → has_taken lines
    → after.items ≡ before.items ++ given.gains lines line)

-- the file may end behind the lines that were taken
abbrev pub MayEnd : report.Report → (List (List ℕ) → Type 0) → Bool → Type 0
MayEnd given has_taken ended =
    (lines : List (List ℕ)) → has_taken lines → given.end_fault lines ended ≡ None

-- a fault is that of the file's end behind the lines that were taken
abbrev pub TellsEnd : {F X : Type 0} → (F → Told) → report.Report → (List (List ℕ) → Type 0) → Bool
    → Result X F → Type 0
TellsEnd told given has_taken ended result = IfErr result
    (λ fault. (lines : List (List ℕ)) → has_taken lines
    → given.end_fault lines ended ≡ Some (told fault))

-- the rest of the output is what is made of all lines that were taken
abbrev pub WritesRest : {R E : Type 0} → (R → List ℕ) → report.Report → (List (List ℕ) → Type 0)
    → Result R E → Type 0
WritesRest bytes given has_taken result = IfOk result
    (λ rest. (lines : List (List ℕ)) → has_taken lines
    → given.verdict lines ≡ report.Writes (bytes rest))

-- a refusal is what is made of all lines that were taken, unless memory was wanting
abbrev pub RefusesRest : {F R : Type 0} → (F → Told) → report.Report → (List (List ℕ) → Type 0)
    → Result R (LineRefusal F) → Type 0
RefusesRest told given has_taken result = IfErr result
    (λ refusal. (lines : List (List ℕ)) → has_taken lines
    → Refuses told refusal (given.verdict lines))

-- the taker of a second file makes of its lines what is wanted behind those of the first one, which were taken
abbrev pub Reports : {T E : Type 0} → (List (List ℕ) → Type 0) → (List (List ℕ) → report.Report)
    → (T → report.Report) → Result T E → Type 0
Reports has_taken wanted given result = IfOk result
    (λ second. (lines : List (List ℕ)) → has_taken lines → given second ≡ wanted lines)
