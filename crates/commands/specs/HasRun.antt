-- What a run of the program comes to, of what the store and both outputs show before it and after
-- it. All that is promised of a run of `heapsuite`: the defined answer unless something failed, and
-- also then where its first fault was reached before; one that the words and the files allow
-- whatever failed; and what every run promises.
use Rattle.std.specs.Prelude.{◌≡◌, ◌≢◌, ◌⊎◌, ℕ, List, false, Some, None, String, map, string_bytes}
use Rattle.std.specs.Io.KnownBytes.{append_known}
use Rattle.hp_outside.specs.declared.limits.Limits.{Limits}
use Rattle.hp_outside.specs.declared.store.Store as store
use Rattle.hp_outside.specs.declared.sink.Sink as sink
use Rattle.hp_outside.specs.Folder.{Folder}
use Rattle.hp_outside.specs.Taken.{GainsFront}
use Rattle.command_frame.specs.Answer.{Answer}
use Rattle.command_frame.specs.FirstFault.{Bounds, bounds_of}
use Rattle.command_frame.specs.Outside.{ErrFaulted, Gives, OutFaulted, Outside, StoreFaulted, outside}
use Rattle.command_frame.specs.Reached.{IsReached}
use Rattle.command_frame.specs.ReadToEnd.{AreReadToEnd}
use Rattle.command_frame.specs.RunEnds.{IsDelivered, RunEnds}
use Rattle.command_frame.specs.WordsRan.{WordsRan}
use Rattle.command_frame.specs.Task.{IsSilentTask, task_names}
use Rattle.commands.specs.Answer.{answer}
use Rattle.commands.specs.Commands.{knows_first, task_of}
use Rattle.commands.specs.InterpretCommand.{KeepsLedgerOf}
use Rattle.commands.specs.Texts.{heapsuite_texts as the_texts}

-- an answer that the words and the files allow was delivered
pub record HasGiven (bounds : Bounds) (words : List (List ℕ)) (before now : Outside) (status : ℕ)
    (given : Answer) : Type 0 where
  pub ran : WordsRan the_texts bounds before.store.files (task_of words)
      before.store.moment now.store.moment given
  pub delivered : IsDelivered the_texts given status before now

pub record HasRun (bounds : Bounds) (words : List (List ℕ)) (before now : Outside)
    (status : ℕ) : Type 0 where
  -- The headline: over a store that tells its files, with no failed call and memory not wanting, output, message and
  -- status are the defined ones.
  pub defined : (folder : Folder) → before.store.files ≡ Some folder
      → ¬ StoreFaulted before now → ¬ OutFaulted before now → ¬ ErrFaulted before now → status ≢ 5
      → Gives before now (answer words bounds folder) status
  -- Completeness: where the defined answer has no fault, it is given.
  pub complete : (folder : Folder) → before.store.files ≡ Some folder
      → (answer words bounds folder).status ≡ 0
      → ¬ StoreFaulted before now → ¬ OutFaulted before now → ¬ ErrFaulted before now → status ≢ 5
      → (status ≡ 0) × (now.out.written
      ≡ append_known before.out.written (answer words bounds folder).output)
      × (now.err.written ≡ before.err.written)
  -- Whatever failed: one answer that the words and the files allow was delivered.
  pub run : (given : Answer) × HasGiven bounds words before now status given
  pub front : (folder : Folder) → before.store.files ≡ Some folder
      → GainsFront before.out.written now.out.written (answer words bounds folder).output
  -- Statuses 0, 1 and 6: exactly where the words and the files define them.
  pub judged : (folder : Folder) → before.store.files ≡ Some folder → status ≢ 3 → status ≢ 4
      → status ≢ 5
      → Gives before now (answer words bounds folder) status
  pub malformed : (folder : Folder) → before.store.files ≡ Some folder → ¬ StoreFaulted before now
      → (answer words bounds folder).status ≡ 1 → status ≢ 4 → status ≢ 5 → status ≡ 1
  pub past_limit : (folder : Folder) → before.store.files ≡ Some folder → ¬ StoreFaulted before now
      → (answer words bounds folder).status ≡ 6 → status ≢ 4 → status ≢ 5 → status ≡ 6
  -- The same where a call on the store failed, once the first fault was reached: once the bytes
  -- that show it were taken.
  pub reached : (folder : Folder) → before.store.files ≡ Some folder
      → IsReached bounds folder (task_of words) before.store.moment now.store.moment
      → status ≢ 4 → status ≢ 5
      → Gives before now (answer words bounds folder) status
  -- And only then: at statuses 1 and 6 no call on the store failed until the first fault was told, nor behind it.
  pub only_reached : (folder : Folder) → before.store.files ≡ Some folder
      → (status ≡ 1) ⊎ (status ≡ 6)
      → (now.store.moment.faults ≡ before.store.moment.faults)
      × Gives before now (answer words bounds folder) status
  -- Status 0: each file that the words name was read to its end, before the next one was opened.
  pub read_to_end : status ≡ 0
      → AreReadToEnd before.store.files (task_names (task_of words)) before.store.moment now.store.moment
  -- `interpret` at status 0: what was written has the ledger and the stacks of the raw trace, front for front.
  pub keeps_ledger : (folder : Folder) → before.store.files ≡ Some folder → status ≡ 0
      → (output : List ℕ) × (now.out.written ≡ append_known before.out.written output)
      × KeepsLedgerOf folder words output
  -- Unless the status is 0 or 4, a command that writes nothing while it reads has written nothing.
  pub silent : IsSilentTask (task_of words) → status ≢ 0 → status ≢ 4
      → now.out.written ≡ before.out.written
  -- No words and an unknown first word take no memory.
  pub unknown : knows_first words ≡ false → status ≢ 5
  -- What every run promises: the files that were opened, what statuses 2, 3 and 5 say, and that no
  -- failed call of the store is passed over in silence.
  pub ends : RunEnds the_texts (task_of words ≡ None) (task_names (task_of words)) before now status

-- the same, of words and limits of the code, and of a store and outputs
abbrev pub HasRunOver : {S O E Z : Type 0} → store.Ghosts S → sink.Ghosts O → sink.Ghosts E → Limits
    → List (String Z) → S → O → E → S → O → E → ℕ → Type 0
HasRunOver s o e limits words store out err store_now out_now err_now status =
    HasRun (bounds_of limits) (map string_bytes words) (outside s o e store out err)
    (outside s o e store_now out_now err_now) status
