-- What the runs of the program come to over a store and outputs, as they are before a run and after it.
use Rattle.std.specs.Prelude.{ℕ, ◌^◌, List, [], ◌∷◌, Option, Some, Result, Vec, map, string_bytes}
use Rattle.std.specs.declared.string.String.{String}
use Rattle.hp_outside.specs.declared.limits.Limits.{Limits}
use Rattle.hp_outside.specs.declared.sink.Sink as sink
use Rattle.hp_outside.specs.declared.store.Store as store
use Rattle.command_frame.specs.declared.context.RunContext.{RunContext}
use Rattle.command_frame.specs.declared.halt.Halt.{Halt}
use Rattle.command_frame.specs.FirstFault.{bounds_of}
use Rattle.command_frame.specs.Outside.{outside}
use Rattle.command_frame.specs.Plan.{one_file}
use Rattle.command_frame.specs.RunEnds.{HasNotBegun}
use Rattle.command_frame.specs.RunsTo.{Runs, rest_of, shown, taken}
use Rattle.record_scripts.specs.Job.{Job}
use Rattle.heaprec_commands.specs.declared.request.RecordRequest.{RecordRequest}
use Rattle.heaprec_commands.specs.CheckReport.{check_report}
use Rattle.heaprec_commands.specs.HeaprecRan.{HeaprecRan}
use Rattle.heaprec_commands.specs.Recorded.{IsRecorded}
use Rattle.heaprec_commands.specs.RecordWords.{RecordAsked}
use Rattle.heaprec_commands.specs.Requests.{asked_by, asked_in}
use Rattle.heaprec_commands.specs.Run.{WordsRecord}
use Rattle.heaprec_commands.specs.Texts.{heaprec_texts}

-- the trace of a name is checked against scripts
abbrev pub Checks : {S O Z : Type 0} → store.Ghosts S → sink.Ghosts O → RunContext → List ℕ → Job
    → S → S → O → O → Result (Vec ℕ Z) Halt → Type 0
Checks s o context name scripts before now old new result = Runs s o context (name ∷ [])
    (one_file name (check_report scripts)) before now old new result

-- what was asked for is done or halts by its cause, or words that aren't taken are refused
abbrev pub RunsAsked : {S O Z : Type 0} → store.Ghosts S → sink.Ghosts O → RunContext
    → Option RecordAsked → S → S → O → O → Result (Vec ℕ Z) Halt → Type 0
RunsAsked s o context asking before now old new result =
    WordsRecord IsRecorded (bounds_of context.limits) context.limits.order asking (shown s before)
    (shown s now) (taken o old) (taken o new) (rest_of heaprec_texts result)

abbrev pub RunsRequest : {S O Z : Type 0} → store.Ghosts S → sink.Ghosts O → RunContext → RecordRequest
    → S → S → O → O → Result (Vec ℕ Z) Halt → Type 0
RunsRequest s o context request = RunsAsked s o context (Some (asked_by request))

abbrev pub RunsWords : {S O Y Z : Type 0} → store.Ghosts S → sink.Ghosts O → RunContext
    → List (String Y) → S → S → O → O → Result (Vec ℕ Z) Halt → Type 0
RunsWords s o context words = RunsAsked s o context (asked_in words)

-- the whole program has run with words, and with its own limits
abbrev pub HasRun : {S O E Z : Type 0} → store.Ghosts S → sink.Ghosts O → sink.Ghosts E → Limits
    → List (String Z) → S → O → E → S → O → E → ℕ → Type 0
HasRun s o e limits words store out err store_now out_now err_now status =
    HeaprecRan (bounds_of limits) limits.order (map string_bytes words)
    (outside s o e store out err) (outside s o e store_now out_now err_now) status

abbrev pub HasRunMain : {S O E Y Z : Type 0} → store.Ghosts S → sink.Ghosts O → sink.Ghosts E
    → S → O → E → S → O → E → ℕ → Vec (String Y) Z → Type 0
HasRunMain s o e store out err store_now out_now err_now status words =
    HeaprecRan (record { input = 2 ^ 34; line = 1048576 }) 10000000 (map string_bytes words.items)
    (outside s o e store out err) (outside s o e store_now out_now err_now) status

-- memory was wanting for its words
abbrev pub IsWanting : {S O E : Type 0} → store.Ghosts S → sink.Ghosts O → sink.Ghosts E
    → S → O → E → S → O → E → ℕ → Type 0
IsWanting s o e store out err store_now out_now err_now status = HasNotBegun heaprec_texts
    (outside s o e store out err) (outside s o e store_now out_now err_now) status
