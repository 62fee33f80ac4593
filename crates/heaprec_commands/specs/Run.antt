-- What a run may come to, whatever the store and the threads do. At status 0 the output is that of a
-- job with as many scripts as are named and, where files are told, of the job that they say; or it is
-- the line that calls a trace a recording of so many events, where files are told one of what they
-- say. At status 1 a trace may be refused: the message names the first line with which no recording
-- goes on, or the line after the last.
use Rattle.std.specs.Prelude.{◌≡◌, ◌+◌, ◌⊎◌, ℕ, Bool, List, [], ◌++◌, length, Option, None, Some}
use Rattle.hp_outside.specs.Folder.{Folder, file_of}
use Rattle.hp_outside.specs.Taken.{WhereTold}
use Rattle.command_frame.specs.Answer.{Answer, after}
use Rattle.command_frame.specs.FirstFault.{Bounds}
use Rattle.command_frame.specs.RunsTo.{Shown, Taken}
use Rattle.command_frame.specs.Texts.{at_line}
use Rattle.command_frame.specs.WordsRan.{WordsRan, WordsRunTo}
use Rattle.order_check.specs.Fronts.{BreaksOff, IsRecording as IsRecordingOf}
use Rattle.record_book.specs.Spelled.{spelled}
use Rattle.record_scripts.specs.Job.{Job}
use Rattle.heaprec_commands.specs.CheckReport.{checked_text, not_a_recording}
use Rattle.heaprec_commands.specs.RecordWords.{RecordAsked}
use Rattle.heaprec_commands.specs.Answer.{count_asked, job_asked, summary_asked, task_asked, trace_asked, unchecked}
use Rattle.heaprec_commands.specs.Texts.{heaprec_texts}

-- the output is one that `may_write` allows of a job: the job has as many scripts as are named, and where the files
-- are told, it is what they say
pub record IsRecordingOutput (may_write : Bool → Job → List ℕ → Type 0) (limit : ℕ)
    (files : Option Folder) (asking : Option RecordAsked) (output : List ℕ) : Type 0 where
  pub job : Job
  pub may : may_write (summary_asked asking) job output
  pub count : length job.scripts ≡ count_asked asking
  pub told : WhereTold files (λ folder. job ≡ job_asked limit folder asking)

-- a trace of a folder is a recording of a job, of so many events
pub record IsFileOf (folder : Folder) (trace : List ℕ) (job : Job) (events : ℕ) : Type 0 where
  pub bytes : List ℕ
  pub file : file_of folder trace ≡ Some bytes
  pub recording : IsRecordingOf job bytes
  pub count : events ≡ length (spelled bytes)

-- the output is the line that says of how many events a trace is a recording. Where the files are
-- told, it is one of what they say
pub record IsChecked (limit : ℕ) (files : Option Folder) (asking : Option RecordAsked)
    (trace output : List ℕ) : Type 0 where
  pub events : ℕ
  pub output_is : output ≡ checked_text events
  pub told : WhereTold files
      (λ folder. IsFileOf folder trace (job_asked limit folder asking) events)

-- a trace of a folder is no recording of a job in any order: the message names the first line with which no recording
-- goes on, or the line after the last
pub record IsRefused (folder : Folder) (trace : List ℕ) (job : Job) (message : List ℕ)
    : Type 0 where
  pub bytes : List ℕ
  pub count : ℕ
  pub file : file_of folder trace ≡ Some bytes
  pub breaks : BreaksOff job bytes count
  pub message_is : message ≡ at_line heaprec_texts trace (count + 1) not_a_recording.text

-- a run with a trace to check came to its answer before the trace was judged, or the trace is refused
abbrev pub IsFaulty : Bounds → ℕ → Option RecordAsked → List ℕ → Shown → Shown → Answer → Type 0
IsFaulty bounds limit asking trace before now answer =
    WordsRan heaprec_texts bounds before.files (task_asked limit [] (unchecked asking))
    before.moment now.moment answer
    ⊎ WhereTold before.files
    (λ folder. IsRefused folder trace (job_asked limit folder asking) answer.message)

-- what is said by the output of a run that is done: it is a recording, or says so of the trace that is checked
abbrev pub IsDoneBy : (may_write : Bool → Job → List ℕ → Type 0) → ℕ → Option Folder
    → Option RecordAsked → List ℕ → Option (List ℕ) → Type 0
IsDoneBy may_write limit files asking output None = IsRecordingOutput may_write limit files asking output
IsDoneBy may_write limit files asking output (Some trace) = IsChecked limit files asking trace
    output

abbrev pub IsDone : (may_write : Bool → Job → List ℕ → Type 0) → ℕ → Option Folder
    → Option RecordAsked → List ℕ → Type 0
IsDone may_write limit files asking output = IsDoneBy may_write limit files asking output
    (trace_asked asking)

-- the words were run, with some text as the recording. Where that is done, what was written early
-- and what is yet to be delivered are together the output of a run that is done; and where a trace
-- was to be checked, status 1 tells of a fault before it, or refuses it
pub record WordsRecord (may_write : Bool → Job → List ℕ → Type 0) (bounds : Bounds) (limit : ℕ)
    (asking : Option RecordAsked) (before now : Shown) (old new : Taken) (answer : Answer) : Type
    0 where
  pub text : List ℕ
  pub run : WordsRunTo heaprec_texts bounds (task_asked limit text asking) before now old new answer
  pub done : answer.status ≡ 0
      → IsDone may_write limit before.files asking (run.early ++ answer.output)
  pub faulty : (trace : List ℕ) → trace_asked asking ≡ Some trace → answer.status ≡ 1
      → IsFaulty bounds limit asking trace before now (after run.early answer)
