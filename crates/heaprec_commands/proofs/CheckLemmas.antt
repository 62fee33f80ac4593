-- From a run over a trace to what it says of it.
use Rattle.std.proofs.Common.{◌≡◌, ◌⊎◌, ℕ, ◌+◌, Bool, true, false, List, [], ◌∷◌, length, Option, None, Some, refl, ap}
use Rattle.std.proofs.Common.{ap₂, sym, subst, ◌∙◌, inl, inr, arith}
use Rattle.std.specs.Option.{option_map, option_or}
use Rattle.hp_outside.specs.Folder.{Folder, file_of}
use Rattle.hp_outside.specs.Lines.{lines_of}
use Rattle.hp_outside.specs.Taken.{WhereTold}
use Rattle.hp_outside.specs.WholeLines.{text_of_lines}
use Rattle.command_frame.specs.Answer.{Answer, after, line_answer, memory_answer, verdict_answer}
use Rattle.command_frame.specs.FileRead.{Absent, CannotOpen, CannotRead, EndsIn, FileEnd, Passed, PassedWhole, Refused}
use Rattle.command_frame.specs.FileRead.{Unopened, Unwritten, Wanting}
use Rattle.command_frame.specs.FirstFault.{Bounds, Refusal, end_refusal, first_fault, is_ended, line_faults}
use Rattle.command_frame.specs.Told.{Told, code_of}
use Rattle.command_frame.specs.Moment.{Moment}
use Rattle.command_frame.specs.Plan.{one_file}
use Rattle.command_frame.specs.Report.{written}
use Rattle.command_frame.specs.Run.{GoesOn, Ran}
use Rattle.command_frame.specs.Texts.{Texts}
use Rattle.command_frame.proofs.Laws.{ended_text, fault_isnt_zero, gives_nothing}
use Rattle.order_check.specs.Following.{Following, events_at_end, followed, whole_events}
use Rattle.order_check.specs.FrontLaws.{FrontLaws}
use Rattle.order_check.specs.Fronts.{IsRecording as IsRecordingOf}
use Rattle.record_book.specs.Spelled.{spelled}
use Rattle.record_scripts.specs.Job.{Job}
use Rattle.heaprec_commands.specs.CheckReport.{check_report, check_verdict, checked_text, end_told}
use Rattle.heaprec_commands.specs.FilesPlan.{job_in}
use Rattle.heaprec_commands.specs.RecordWords.{Checks}
use Rattle.heaprec_commands.specs.Run.{IsChecked, IsFileOf, IsRefused}
use Rattle.heaprec_commands.specs.Texts.{heaprec_texts}
use Rattle.heaprec_commands.proofs.BreakLemmas.{broken}

-- the lines of a trace give nothing to the output
nothing_written : (job : Job) (lines : List (List ℕ)) → written (check_report job) lines ≡ []
nothing_written job lines = gives_nothing (check_report job) [] lines (λ earlier line. refl)

-- an end that isn't the last line
passed_end : (texts : Texts) (name : List ℕ) (job : Job) (end : FileEnd) (rest : List (List ℕ) → Answer → Type 0)
    (now last : Moment) (given : Answer)
    → given.status ≡ 0
    → GoesOn texts name (check_report job) end rest now last given
    → (taken : List (List ℕ)) × ((end ≡ Passed taken) × ((answer : Answer) × ((given ≡ answer) × rest taken answer)))
passed_end texts name job Unopened rest now last given zero goes =
    absurd (omega (arith, zero, ap (λ (a : Answer). a.status) goes.0))
passed_end texts name job Absent rest now last given zero goes =
    absurd (omega (arith, zero, ap (λ (a : Answer). a.status) goes.0))
passed_end texts name job CannotOpen rest now last given zero goes =
    absurd (omega (arith, zero, ap (λ (a : Answer). a.status) goes.0))
passed_end texts name job (CannotRead taken) rest now last given zero goes =
    absurd (omega (arith, zero, ap (λ (a : Answer). a.status) goes.0))
passed_end texts name job (Refused taken number told) rest now last given zero goes =
    absurd (fault_isnt_zero told.status (sym (ap (λ (a : Answer). a.status) goes.0) ∙ zero))
passed_end texts name job (Wanting taken) rest now last given zero goes =
    absurd (omega (arith, zero, ap (λ (a : Answer). a.status) goes.0))
passed_end texts name job (Unwritten taken count) rest now last given zero goes =
    absurd (omega (arith, zero, ap (λ (a : Answer). a.status) goes.0))
passed_end texts name job (Passed taken) rest now last given zero goes =
    (taken, (refl, (goes.0, (goes.1 ∙ ap (λ bytes. after bytes goes.0) (nothing_written job taken), goes.2))))

-- what was made of the lines of a trace, with a status of 0
verdict_says : (texts : Texts) (name : List ℕ) (found : Option ℕ) (answer : Answer) → answer.status ≡ 0
    → (answer ≡ verdict_answer texts name (check_verdict found)) ⊎ (answer ≡ memory_answer texts)
    → (events : ℕ) × ((found ≡ Some events) × (answer.output ≡ checked_text events))
verdict_says texts name found answer zero (inr memory) =
    absurd (omega (arith, zero, ap (λ (a : Answer). a.status) memory))
verdict_says texts name None answer zero (inl is) = absurd (omega (arith, zero, ap (λ (a : Answer). a.status) is))
verdict_says texts name (Some events) answer zero (inl is) = (events, (refl, ap (λ (a : Answer). a.output) is))

-- neither of two is there
second_none : (first second : Option Refusal) → option_or first second ≡ None → second ≡ None
second_none None second is = is
second_none (Some refusal) second is = absurd (cc)

-- an end without a fault
end_says : (found : Option ℕ) (number : ℕ)
    → option_map {U = Refusal} (λ told. record { number = number; told = told }) (end_told found) ≡ None
    → (events : ℕ) × (found ≡ Some events)
end_says None number is = absurd (cc)
end_says (Some events) number is = (events, refl)

-- lines of which the last one lacks its line feed are no recording
never_cut : (job : Job) (lines : List (List ℕ)) {events : ℕ} → whole_events job lines false ≡ Some events → ⊥
never_cut job lines is = by (followed job lines) is
  where
    by : (now : Option Following) {events : ℕ} → events_at_end job false now ≡ Some events → ⊥
    by None is = absurd (cc)
    by (Some now) is = absurd (cc)

-- the lines of a trace without a fault are all of a recording, and the last one ended with its line feed
record IsPassed (job : Job) (bytes : List ℕ) (taken : List (List ℕ)) : Type 0 where
  events : ℕ
  whole : whole_events job taken true ≡ Some events
  text : bytes ≡ text_of_lines (lines_of bytes)

passed_whole : (job : Job) (bounds : Bounds) (bytes : List ℕ) (taken : List (List ℕ))
    → PassedWhole bounds (check_report job) bytes taken → IsPassed job bytes taken
passed_whole job bounds bytes taken passed =
    let none : end_refusal (check_report job) (length bytes) (lines_of bytes) ≡ None =
    second_none (first_fault 1 (line_faults bounds (check_report job) (length bytes) [] (lines_of bytes)))
    (end_refusal (check_report job) (length bytes) (lines_of bytes)) passed.no_fault in
    let found =
    end_says (whole_events job (lines_of bytes) (is_ended (length bytes) (lines_of bytes)))
    (length (lines_of bytes) + 1) none in
    by (is_ended (length bytes) (lines_of bytes)) refl found.0 found.1
  where
    by : (e : Bool) → is_ended (length bytes) (lines_of bytes) ≡ e → (n : ℕ)
        → whole_events job (lines_of bytes) e ≡ Some n → IsPassed job bytes taken
    by true ended n found =
        record {
          events = n;
          whole = ap (λ lines. whole_events job lines true) passed.lines_are ∙ found;
          text = ended_text bytes ended;
        }
    by false ended n found = absurd (never_cut job (lines_of bytes) found)

-- a trace without a fault is a recording
passed_recording : (job : Job) (bounds : Bounds) (bytes : List ℕ) (taken : List (List ℕ)) (events : ℕ) → FrontLaws job
    → whole_events job taken true ≡ Some events → PassedWhole bounds (check_report job) bytes taken
    → IsRecordingOf job bytes × (events ≡ length (spelled bytes))
passed_recording job bounds bytes taken events laws whole passed =
    laws.whole bytes true events (λ same. (passed_whole job bounds bytes taken passed).text)
    (ap (λ lines. whole_events job lines true) (sym passed.lines_are) ∙ whole)

-- a trace that the folder has
file_says : (job : Job) (bounds : Bounds) (folder : Folder) (trace : List ℕ) (file left : Option (List ℕ))
    (taken : List (List ℕ)) (events : ℕ)
    → file_of folder trace ≡ file → FrontLaws job → whole_events job taken true ≡ Some events
    → EndsIn bounds (check_report job) file left (Passed taken) → IsFileOf folder trace job events
file_says job bounds folder trace None left taken events is laws whole ends = absurd ends
file_says job bounds folder trace (Some bytes) left taken events is laws whole ends =
    let says =
    passed_recording job bounds bytes taken events laws whole
    ends in record { bytes = bytes; file = is; recording = says.0; count = says.1 }

-- a run over a trace that is done says of how many events it is a recording
pub checked_run : (texts : Texts) (bounds : Bounds) (limit : ℕ) (files : Option Folder) (modules : Option (List ℕ))
    (scripts : List (List ℕ)) (last trace : List ℕ) (job : Job) (before now : Moment) (given : Answer)
    → FrontLaws job
    → WhereTold files (λ folder. job ≡ job_in folder modules scripts limit)
    → Ran texts bounds files last (trace ∷ []) (one_file trace (check_report job)) before now given → given.status ≡ 0
    → IsChecked limit files (Some (record { modules = modules; scripts = scripts; task = Checks trace })) trace
    given.output
checked_run texts bounds limit files modules scripts last trace job before now given laws job_is ran zero =
    let end = ran.1.0 in
    let mid = ran.1.1.0 in
    let read = ran.1.1.1 in
    let passed =
    passed_end texts trace job end
    (λ lines answer. (now ≡ mid)
    × ((answer ≡ verdict_answer texts trace (check_verdict (whole_events job lines true)))
    ⊎ (answer ≡ memory_answer texts)))
    mid now given zero ran.1.1.2 in
    let taken = passed.0 in
    let answer = passed.1.1.0 in
    let given_is : given ≡ answer = passed.1.1.1.0 in
    let says =
    verdict_says texts trace (whole_events job taken true) answer
    (ap (λ (a : Answer). a.status) (sym given_is) ∙ zero) passed.1.1.1.1.1 in
    record {
      events = says.0;
      output_is = ap (λ (a : Answer). a.output) given_is ∙ says.1.1;
      told = λ folder known. subst (λ (j : Job). IsFileOf folder trace j says.0) (job_is folder known)
          (file_says job bounds folder trace (file_of folder trace) mid.left taken says.0 refl laws says.1.0
          (subst (λ (e : FileEnd). EndsIn bounds (check_report job) (file_of folder trace) mid.left e) passed.1.0
          (read.told folder known)));
    }

-- where the folder has the trace, whose first fault is told with status 1
refused_file : (bounds : Bounds) (folder : Folder) (trace : List ℕ) (job : Job) (file left : Option (List ℕ))
    (taken : List (List ℕ)) (number : ℕ) (told : Told) (given : Answer)
    → FrontLaws job
    → file_of folder trace ≡ file → EndsIn bounds (check_report job) file left (Refused taken number told)
    → given.message ≡ (line_answer heaprec_texts trace number told).message → code_of told.status ≡ 1
    → IsRefused folder trace job given.message
refused_file bounds folder trace job None left taken number told given laws is ends message one = absurd ends
refused_file bounds folder trace job (Some bytes) left taken number told given laws is ends message one =
    let breaks = broken bounds job bytes (record { number = number; told = told }) laws ends.refusal one in
    record {
      bytes = bytes;
      count = breaks.count;
      file = is;
      breaks = breaks.breaks;
      message_is =
          message
          ∙ ap₂ (λ (n : ℕ) (t : Told). (line_answer heaprec_texts trace n t).message) breaks.number_is breaks.told_is;
    }

-- where it has no fault, the status isn't 1
passed_file : (bounds : Bounds) (folder : Folder) (trace : List ℕ) (job : Job) (file left : Option (List ℕ))
    (taken : List (List ℕ)) (answer : Answer)
    → EndsIn bounds (check_report job) file left (Passed taken)
    → (answer ≡ verdict_answer heaprec_texts trace (check_verdict (whole_events job taken true)))
    ⊎ (answer ≡ memory_answer heaprec_texts)
    → answer.status ≡ 1 → ⊥
passed_file bounds folder trace job None left taken answer ends is one = ends
passed_file bounds folder trace job (Some bytes) left taken answer ends (inr memory) one =
    omega (arith, one, ap (λ (a : Answer). a.status) memory)
passed_file bounds folder trace job (Some bytes) left taken answer ends (inl is) one =
    let status : answer.status ≡ 0 =
    ap (λ (a : Answer). a.status)
    (is
    ∙ ap (λ found. verdict_answer heaprec_texts trace (check_verdict found))
    (passed_whole job bounds bytes taken ends).whole) in
    omega (arith, one, status)

-- a run over a trace that ends with status 1 refuses it
pub refused_run : (bounds : Bounds) (files : Option Folder) (last trace : List ℕ) (job : Job) (before now : Moment)
    (given : Answer)
    → FrontLaws job
    → Ran heaprec_texts bounds files last (trace ∷ []) (one_file trace (check_report job)) before now given
    → given.status ≡ 1
    → WhereTold files (λ folder. IsRefused folder trace job given.message)
refused_run bounds files last trace job before now given laws ran one folder known =
    by ran.1.0 (ran.1.1.1.told folder known) ran.1.1.2
  where
    mid : Moment
    mid = ran.1.1.0

    rest : List (List ℕ) → Answer → Type 0
    rest lines answer =
        (now ≡ mid)
        × ((answer ≡ verdict_answer heaprec_texts trace (check_verdict (whole_events job lines true)))
        ⊎ (answer ≡ memory_answer heaprec_texts))

    by : (end : FileEnd) → EndsIn bounds (check_report job) (file_of folder trace) mid.left end
        → GoesOn heaprec_texts trace (check_report job) end rest mid now given
        → IsRefused folder trace job given.message
    by Unopened ends goes = absurd (omega (arith, one, ap (λ (a : Answer). a.status) goes.0))
    by Absent ends goes = absurd (omega (arith, one, ap (λ (a : Answer). a.status) goes.0))
    by CannotOpen ends goes = absurd (omega (arith, one, ap (λ (a : Answer). a.status) goes.0))
    by (CannotRead taken) ends goes = absurd (omega (arith, one, ap (λ (a : Answer). a.status) goes.0))
    by (Refused taken number told) ends goes =
        refused_file bounds folder trace job (file_of folder trace) mid.left taken number told given laws refl ends
        (ap (λ (a : Answer). a.message) goes.0) (sym (ap (λ (a : Answer). a.status) goes.0) ∙ one)
    by (Wanting taken) ends goes = absurd (omega (arith, one, ap (λ (a : Answer). a.status) goes.0))
    by (Unwritten taken count) ends goes = absurd (omega (arith, one, ap (λ (a : Answer). a.status) goes.0))
    by (Passed taken) ends goes =
        absurd
        (passed_file bounds folder trace job (file_of folder trace) mid.left taken goes.0 ends goes.2.1
        (sym (ap (λ (a : Answer). a.status) goes.1) ∙ one))
