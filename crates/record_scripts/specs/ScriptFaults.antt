-- The fault of a line after the lines before it: first that of its grammar, then that of its block,
-- then that of the number of events; and what a line without a fault adds.
use Rattle.std.specs.Prelude.{◌≡◌, ◌≢◌, ℕ, ◌+◌, if◌then◌else◌, List, [], ◌++◌, length, nat_lt, Option, None, Some}
use Rattle.std.specs.Prelude.{Result, IfErr, OnOk, OnErr, unwrap_or, false}
use Rattle.record_scripts.specs.declared.fault.ScriptFault.{ScriptFault}
use Rattle.record_scripts.specs.declared.fault.ScriptFault.TheVariants.{BadScriptLine, BlockLive, BlockNotLive}
use Rattle.record_scripts.specs.declared.fault.ScriptFault.TheVariants.{TooManyEvents, NoMemory}
use Rattle.ht_lines.specs.Fields.{numbers}
use Rattle.record_scripts.specs.Skipped.{is_skipped}
use Rattle.record_scripts.specs.Turns.{Turn, allocates, frees, reallocates, is_live}
use Rattle.record_scripts.specs.ScriptLine.{turn_in, are_ips}
use Rattle.record_scripts.specs.ModuleLine.{module_in}
use Rattle.record_scripts.specs.Events.{event_count, events_of_turn}
use Rattle.record_scripts.specs.Job.{Job, in_last, last_script}

-- what is wrong with the block of a turn: an allocation's is live, or that of a free or a reallocation isn't
abbrev pub block_fault : List Turn → Turn → Option ScriptFault
block_fault script (allocates id size ips) = if is_live script id then Some BlockLive else None
block_fault script (frees id) = if is_live script id then None else Some BlockNotLive
block_fault script (reallocates id size ips) = if is_live script id then None else Some BlockNotLive

-- with the events of the turn there would be more than are allowed
abbrev pub count_fault : Job → Turn → Option ScriptFault
count_fault job turn =
    if nat_lt job.limit (event_count job.scripts + length (events_of_turn turn))
    then Some TooManyEvents else None

-- the fault of a turn in the last script: that of its block comes first
abbrev pub first_fault : Option ScriptFault → Option ScriptFault → Option ScriptFault
first_fault (Some fault) later = Some fault
first_fault None later = later

abbrev pub turn_fault : Job → Option Turn → Option ScriptFault
turn_fault job None = Some BadScriptLine
turn_fault job (Some turn) = first_fault (block_fault (last_script job.scripts) turn)
    (count_fault job turn)

-- the fault of a line of the last script
abbrev pub line_fault : Job → List ℕ → Option ScriptFault
line_fault job line = if is_skipped line then None else turn_fault job (turn_in line)

-- the job with one turn more in the last script
abbrev pub with_turn : Job → Option Turn → Job
with_turn job None = job
with_turn job (Some turn) = record job { scripts = in_last job.scripts turn }

-- the job with a line of the last script, which has no fault
abbrev pub with_line : Job → List ℕ → Job
with_line job line = if is_skipped line then job else with_turn job (turn_in line)

-- the fault of a line of a modules file
abbrev pub is_faulty : Option (List ℕ) → Option ScriptFault
is_faulty None = Some BadScriptLine
is_faulty (Some text) = None

abbrev pub module_fault : List ℕ → Option ScriptFault
module_fault line = if is_skipped line then None else is_faulty (module_in line)

-- the job with a line of a modules file, which has no fault
abbrev pub with_module_line : Job → List ℕ → Job
with_module_line job line =
    if is_skipped line then job
    else record job { modules = job.modules ++ unwrap_or (module_in line) [] }

-- the fault is this one, unless memory was wanting
abbrev pub Tells : ScriptFault → Option ScriptFault → Type 0
Tells fault found = fault ≢ NoMemory → found ≡ Some fault

-- a text of ips is refused, unless memory was wanting: one of its numbers is none, or there are too many
abbrev pub RefusesIps : List ℕ → ScriptFault → Type 0
RefusesIps text fault = fault ≢ NoMemory
    → (fault ≡ BadScriptLine) × (are_ips (numbers text) ≡ false)

-- a turn, or a line that says none, was taken and had no fault; or its fault is told, and all is as it was
pub record JudgesTurn {T : Type 0} (old new : Job) (said : Option Turn)
    (result : Result T ScriptFault) : Type 0 where
  pub no_fault : OnOk result (turn_fault old said ≡ None)
  pub fault : IfErr result (λ fault. Tells fault (turn_fault old said))
  pub unchanged : OnErr result (new ≡ old)
