-- What the tables answer to a line, and at the end, of all lines that they may stand for.
use Rattle.std.specs.Prelude.{◌≡◌, ℕ, List, [], ◌∷◌, ◌++◌, None, Some}
use Rattle.std.specs.Option.{option_to_list}
use Rattle.live_ledger.specs.LedgerState.{LedgerState}
use Rattle.ht_trace.specs.declared.error.LineError.{LineError}
use Rattle.ht_trace.specs.declared.error.LineError.TheVariants.{TooMany}
use Rattle.ht_trace.specs.declared.frame.FrameAt.{FrameAt}
use Rattle.ht_trace.specs.declared.step.Step.{Step}
use Rattle.ht_trace.specs.LedgerFits.{CanTake, IsBeside}
use Rattle.ht_trace.specs.LineFault.{Tells, end_fault, line_fault_after, pattern_fault}
use Rattle.ht_trace.specs.StackFrames.{frames}
use Rattle.ht_trace.specs.StandsFor.{StandsAfter}
use Rattle.ht_trace.specs.StepOf.{event_of, step_of}
use Rattle.ht_trace.specs.TableState.{TableState}
use Rattle.ht_trace.specs.TraceEvents.{events}

-- the new tables stand for the lines with this one
abbrev pub StandsWith : TableState → List ℕ → TableState → Type 0
StandsWith old line new =
    (given lines : List (List ℕ)) → StandsAfter old given lines
    → StandsAfter new given (lines ++ line ∷ [])

-- the line has no fault after the lines
abbrev pub HasNoFault : TableState → List ℕ → Type 0
HasNoFault tables line =
    (given lines : List (List ℕ)) → StandsAfter tables given lines
    → line_fault_after given lines line ≡ None

-- the error is the line's fault after the lines, unless memory was wanting
abbrev pub TellsFault : TableState → List ℕ → LineError → Type 0
TellsFault tables line error =
    (given lines : List (List ℕ)) → StandsAfter tables given lines
    → Tells error (line_fault_after given lines line)

-- the step is what the line brings after the lines
abbrev pub Brings : TableState → List ℕ → Step → Type 0
Brings tables line step =
    (given lines : List (List ℕ)) → StandsAfter tables given lines → step ≡ step_of lines line

-- the events are those of the lines, and then that of the step
abbrev pub AddsEvent : TableState → List ℕ → Step → Type 0
AddsEvent tables line step =
    (given lines : List (List ℕ)) → StandsAfter tables given lines
    → events (lines ++ line ∷ []) ≡ events lines ++ option_to_list (event_of step)

-- every ledger beside the tables has room for the step
abbrev pub HasRoomFor : TableState → Step → Type 0
HasRoomFor tables step = (ledger : LedgerState) → IsBeside tables ledger → CanTake ledger step

-- the lines may be all of a trace
abbrev pub MayEnd : TableState → Type 0
MayEnd tables =
    (given lines : List (List ℕ)) → StandsAfter tables given lines → end_fault lines ≡ None

-- they may not, for this reason
abbrev pub TellsEndFault : TableState → LineError → Type 0
TellsEndFault tables error =
    (given lines : List (List ℕ)) → StandsAfter tables given lines → end_fault lines ≡ Some error

-- before there is a line, the new tables stand for the texts of suppressions with this one
abbrev pub StandsBehind : TableState → List ℕ → TableState → Type 0
StandsBehind old text new =
    (given : List (List ℕ)) → StandsAfter old given [] → StandsAfter new (given ++ text ∷ []) []

-- beside so many patterns there is no room for that of the text
abbrev pub HasNoRoom : ℕ → List ℕ → Type 0
HasNoRoom count text = pattern_fault count text ≡ Some TooMany

-- they are the frames of this stack of the lines
abbrev pub AreFramesOf : TableState → ℕ → List FrameAt → Type 0
AreFramesOf tables stack listed =
    (given lines : List (List ℕ)) → StandsAfter tables given lines → listed ≡ frames lines stack
