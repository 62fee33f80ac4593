-- Words were run, and the answer to them delivered, of what the store and both outputs show before
-- and after.
use Rattle.std.specs.Prelude.{◌≡◌, ◌≢◌, ℕ, List, [], ◌∷◌, Option, Some, None, Result, String, Vec, map, string_bytes}
use Rattle.hp_outside.specs.declared.store.Store as store
use Rattle.hp_outside.specs.declared.sink.Sink as sink
use Rattle.command_words.specs.declared.taken.WordsFault.{WordsFault}
use Rattle.command_words.specs.declared.taken.WordsFault.TheVariants.{NoMemory, NotTaken}
use Rattle.command_frame.specs.declared.context.RunContext.{RunContext}
use Rattle.command_frame.specs.declared.halt.Halt.{Halt}
use Rattle.command_frame.specs.Answer.{Answer, memory_answer, usage_answer}
use Rattle.command_frame.specs.FirstFault.{bounds_of}
use Rattle.command_frame.specs.Outside.{Outside, outside}
use Rattle.command_frame.specs.RunEnds.{IsDelivered}
use Rattle.command_frame.specs.Plan.{Ends}
use Rattle.command_frame.specs.Report.{Writes}
use Rattle.command_frame.specs.RunsTo.{RunsTo, Shown, Taken, taken}
use Rattle.command_frame.specs.Task.{Task}
use Rattle.command_frame.specs.Texts.{Texts, texts_of}
use Rattle.command_frame.specs.WordsRan.{WordsRan}
use Rattle.commands.specs.Command.{CommandOf, Reads, task_by}
use Rattle.commands.specs.Commands.{Command, command_named, help_task}

-- a task was run, or there is none since the words aren't taken, or memory was wanting for them
pub record HasEnded (context : RunContext) (task : Option Task) (before now : Outside) (status : ℕ)
    : Type 0 where
  pub given : Answer
  pub ran : WordsRan (texts_of context.texts) (bounds_of context.limits) before.store.files task
      before.store.moment now.store.moment given
  pub delivered : IsDelivered (texts_of context.texts) given status before now
  pub files : now.store.files ≡ before.store.files

-- the words behind what the first one names were run; where it names nothing, memory isn't wanting
abbrev pub NamedHasEnded : RunContext → Option Command → List (List ℕ) → Outside → Outside → ℕ
    → Type 0
NamedHasEnded context None words before now status =
    HasEnded context None before now status × (status ≢ 5)
NamedHasEnded context (Some command) words before now status =
    HasEnded context (command.task words) before now status

-- the same of all words
abbrev pub WordsHaveEnded : RunContext → List (List ℕ) → Outside → Outside → ℕ → Type 0
WordsHaveEnded context [] before now status = NamedHasEnded context None [] before now status
WordsHaveEnded context (name ∷ words) before now status =
    NamedHasEnded context (command_named name) words before now status

-- all words were run, over this store and these outputs
abbrev pub EndsWords : {S O E Z : Type 0} → store.Ghosts S → sink.Ghosts O → sink.Ghosts E → RunContext
    → List (String Z) → S → O → E → S → O → E → ℕ → Type 0
EndsWords s o e context words store out err store_now out_now err_now status =
    WordsHaveEnded context (map string_bytes words) (outside s o e store out err)
    (outside s o e store_now out_now err_now) status

-- the words of a command were run, as they were read
abbrev pub EndsRead : {S O E R : Type 0} → store.Ghosts S → sink.Ghosts O → sink.Ghosts E
    → RunContext → CommandOf R → Result R WordsFault → S → O → E → S → O → E → ℕ → Type 0
EndsRead s o e context command request store out err store_now out_now err_now status =
    (words : List (List ℕ)) → Reads command words request
    → HasEnded context (task_by command words) (outside s o e store out err)
    (outside s o e store_now out_now err_now) status

-- a task was run beside any store, which isn't touched
abbrev pub EndsBeside : {O E : Type 0} → sink.Ghosts O → sink.Ghosts E → RunContext → Option Task
    → O → E → O → E → ℕ → Type 0
EndsBeside o e context task out err out_now err_now status =
    (store : Shown)
    → HasEnded context task (record { store = store; out = taken o out; err = taken e err })
    (record { store = store; out = taken o out_now; err = taken e err_now }) status

-- the usage text was asked for, if these words are taken
abbrev pub EndsHelp : {O E Z : Type 0} → sink.Ghosts O → sink.Ghosts E → RunContext → List (String Z)
    → O → E → O → E → ℕ → Type 0
EndsHelp o e context words out err out_now err_now status =
    EndsBeside o e context (help_task (map string_bytes words)) out err out_now err_now status

-- it was told why words ask for nothing: whatever they ask for, where memory was wanting
abbrev pub EndsRefused : {O E : Type 0} → sink.Ghosts O → sink.Ghosts E → RunContext → WordsFault
    → O → E → O → E → ℕ → Type 0
EndsRefused o e context fault out err out_now err_now status =
    (task : Option Task) → (fault ≡ NotTaken → task ≡ None)
    → EndsBeside o e context task out err out_now err_now status

-- what is told where words ask for nothing
abbrev pub fault_answer : Texts → WordsFault → Answer
fault_answer texts NotTaken = usage_answer texts
fault_answer texts NoMemory = memory_answer texts

-- the usage text is given, beside any store and output
abbrev pub GivesUsage : {Z : Type 0} → RunContext → Result (Vec ℕ Z) Halt → Type 0
GivesUsage context result =
    (store : Shown) (out : Taken)
    → RunsTo context [] (Ends (Writes (texts_of context.texts).usage)) store store out out result
