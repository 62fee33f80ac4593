-- What a run of the program comes to, by what its store and its outputs show before it and after it:
-- the answer that was delivered, and what follows for each status.
use Rattle.std.specs.Prelude.{◌≡◌, ◌≢◌, ◌⊎◌, ℕ, List, [], Option, None, Some}
use Rattle.std.specs.Io.KnownBytes.{append_known}
use Rattle.hp_outside.specs.Folder.{Folder}
use Rattle.hp_outside.specs.Taken.{WhereTold}
use Rattle.command_frame.specs.Answer.{Answer}
use Rattle.command_frame.specs.FirstFault.{Bounds}
use Rattle.command_frame.specs.Outside.{ErrFaulted, Gives, OutFaulted, Outside, StoreFaulted}
use Rattle.command_frame.specs.RunEnds.{IsDelivered, RunEnds}
use Rattle.command_frame.specs.WordsRan.{WordsRan}
use Rattle.heaprec_commands.specs.Answer.{HaveNoFault, job_asked, names_asked, rec_answer, task_asked, trace_asked}
use Rattle.heaprec_commands.specs.Recorded.{IsRecorded}
use Rattle.heaprec_commands.specs.RecordWords.{RecordAsked, record_asked}
use Rattle.heaprec_commands.specs.Run.{IsChecked, IsDone, IsRecordingOutput, IsRefused}
use Rattle.heaprec_commands.specs.Texts.{heaprec_texts}

-- whatever failed: one answer that the words and the files allow was delivered. Where that answer
-- is done, its output is a recording, so that at status 4 standard output has gained a front of
-- one; or it says of a trace that it is one
pub record HasDelivered (bounds : Bounds) (limit : ℕ) (asking : Option RecordAsked)
    (before now : Outside) (status : ℕ)
    : Type 0 where
  pub text : List ℕ
  pub given : Answer
  pub ran : WordsRan heaprec_texts bounds before.store.files (task_asked limit text asking)
      before.store.moment now.store.moment given
  pub done : given.status ≡ 0 → IsDone IsRecorded limit before.store.files asking given.output
  pub delivered : IsDelivered heaprec_texts given status before now

-- the same, and what follows
pub record HeaprecRan (bounds : Bounds) (limit : ℕ) (words : List (List ℕ)) (before now : Outside)
    (status : ℕ) : Type 0 where
  pub run : HasDelivered bounds limit (record_asked words) before now status
  -- no words at all take no memory: the status is 2, or 4 by its cause
  pub none : words ≡ [] → (status ≡ 2) ⊎ (status ≡ 4)
  -- without a trace to check, the recording, at status 0: the order that the bytes written spell is
  -- an interleaving of the scripts, and the bytes are the trace of the scripts in this order, and
  -- behind it the summary where the words ask for it. Where the store tells its files, the scripts
  -- are what they say
  pub recorded : trace_asked (record_asked words) ≡ None → status ≡ 0
      → (output : List ℕ) × ((now.out.written ≡ append_known before.out.written output)
      × IsRecordingOutput IsRecorded limit before.store.files (record_asked words) output)
  -- with one, at status 0: where the store tells its files, the order that the trace's bytes spell
  -- is an interleaving of the scripts, the bytes are the trace of the scripts in this order, and
  -- what was written is the line with the number of its events
  pub checked : (trace : List ℕ) → trace_asked (record_asked words) ≡ Some trace → status ≡ 0
      → (output : List ℕ) × ((now.out.written ≡ append_known before.out.written output)
      × IsChecked limit before.store.files (record_asked words) trace output)
  -- and at status 1, where the store tells its files, and the modules file and the scripts have no
  -- fault: the trace's bytes are no recording of the scripts in any order, and the message names
  -- the first line with which none of theirs goes on, or the end
  pub refused : (trace : List ℕ) → trace_asked (record_asked words) ≡ Some trace → status ≡ 1
      → WhereTold before.store.files (λ folder.
      HaveNoFault bounds limit folder (record_asked words)
      → (message : List ℕ) × ((now.err.written ≡ append_known before.err.written message)
      × IsRefused folder trace (job_asked limit folder (record_asked words)) message))
  -- the headline: over a store that tells its files, with no failed call and memory not wanting,
  -- output, message and status are the defined ones, with a text that at status 0 is that of such
  -- an order, unless a trace was to be checked
  pub defined : (folder : Folder) → before.store.files ≡ Some folder
      → ¬ StoreFaulted before now → ¬ OutFaulted before now → ¬ ErrFaulted before now → status ≢ 5
      → (text : List ℕ) × (Gives before now (rec_answer words bounds limit folder text) status
      × (status ≡ 0
      → IsDone IsRecorded limit before.store.files (record_asked words)
      (rec_answer words bounds limit folder text).output))
  -- completeness: where no file has a fault, the status is 0
  pub complete : (folder : Folder) → before.store.files ≡ Some folder
      → ((text : List ℕ) → (rec_answer words bounds limit folder text).status ≡ 0)
      → ¬ StoreFaulted before now → ¬ OutFaulted before now → ¬ ErrFaulted before now → status ≢ 5
      → status ≡ 0
  -- statuses 0, 1 and 6: exactly where the words and the files define them
  pub judged : (folder : Folder) → before.store.files ≡ Some folder → status ≢ 3 → status ≢ 4
      → status ≢ 5
      → (text : List ℕ) × Gives before now (rec_answer words bounds limit folder text) status
  pub faulty : (folder : Folder) (code : ℕ) → before.store.files ≡ Some folder
      → ¬ StoreFaulted before now
      → ((text : List ℕ) → (rec_answer words bounds limit folder text).status ≡ code)
      → status ≢ 4 → status ≢ 5 → status ≡ code
  -- unless the status is 0 or 4, nothing was written to standard output
  pub silent : status ≢ 0 → status ≢ 4 → now.out.written ≡ before.out.written
  -- what every run promises: the files that were opened, what statuses 2, 3 and 5 say, and that no
  -- failed call of the store is passed over in silence
  pub ends : RunEnds heaprec_texts (record_asked words ≡ None) (names_asked (record_asked words))
      before now status
