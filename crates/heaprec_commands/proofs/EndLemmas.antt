-- From the reading of files to the run of the words, and from there to all that is promised of a run.
use Rattle.std.proofs.Common.{◌≡◌, ◌≢◌, ◌⊎◌, ℕ, Bool, false, IsErrAnd, List, [], ◌∷◌, option_to_list, Option, Some}
use Rattle.std.proofs.Common.{None, Ok, Err, refl, ap, sym, subst, ◌∙◌, inl, inr, Vec, Result, arith}
use Rattle.std.specs.Prelude.{vec_items}
use Rattle.std.specs.Io.KnownBytes.{append_known}
use Rattle.std.proofs.lemmas.Bool.Decides.{eqb_tells}
use Rattle.hp_outside.specs.Faults.{Faulted}
use Rattle.hp_outside.specs.Folder.{Folder}
use Rattle.command_frame.specs.declared.context.RunContext.{RunContext}
use Rattle.command_frame.specs.declared.halt.Halt.{Halt}
use Rattle.command_frame.specs.declared.halt.Message.TheVariants.{OutOfMemory}
use Rattle.command_frame.specs.declared.halt.Status.TheVariants.{NoMemory}
use Rattle.command_frame.specs.Answer.{Answer, after, done, memory_answer, usage_answer}
use Rattle.command_frame.specs.FirstFault.{Bounds, bounds_of}
use Rattle.command_frame.specs.Halts.{halt_answer}
use Rattle.command_frame.specs.Moment.{Moment}
use Rattle.command_frame.specs.Outside.{Outside}
use Rattle.command_frame.specs.Plan.{one_file}
use Rattle.command_frame.specs.Run.{Ran}
use Rattle.command_frame.specs.RunEnds.{RunEnds}
use Rattle.command_frame.specs.RunsTo.{RunsTo, Shown, Taken, rest_of, status_of}
use Rattle.command_frame.specs.Task.{IsSilentTask, task_names}
use Rattle.command_frame.specs.Texts.{Texts, texts_of}
use Rattle.command_frame.specs.WordsRan.{WordsRan}
use Rattle.command_frame.proofs.Laws.{TaskEnded, append_nothing, defined_by, gives_as, judged_by, run_ends, silent_by}
use Rattle.command_frame.proofs.Laws.{status_told, told_by, words_not_ran, wrote}
use Rattle.order_check.specs.FrontLaws.{FrontLaws}
use Rattle.record_scripts.specs.Job.{Job}
use Rattle.heaprec_commands.specs.Answer.{names_asked, names_of, record_plan, task_asked, task_plan, trace_asked}
use Rattle.heaprec_commands.specs.Answer.{unchecked}
use Rattle.heaprec_commands.specs.CheckReport.{check_report}
use Rattle.heaprec_commands.specs.FileLines.{no_job}
use Rattle.heaprec_commands.specs.FilesPlan.{files_front, job_in}
use Rattle.heaprec_commands.specs.FrontRead.{FrontRead}
use Rattle.heaprec_commands.specs.HeaprecRan.{HasDelivered, HeaprecRan}
use Rattle.heaprec_commands.specs.Recorded.{IsRecorded}
use Rattle.heaprec_commands.specs.RecordWords.{Checks, RecordAsked, Records, Task, record_asked, trace_of}
use Rattle.heaprec_commands.specs.Run.{IsDone, IsDoneBy, IsFaulty, IsRefused, WordsRecord}
use Rattle.heaprec_commands.specs.Texts.{heaprec_texts}
use Rattle.heaprec_commands.proofs.CheckLemmas.{checked_run, refused_run}
use Rattle.heaprec_commands.proofs.HaltLemmas.{code_isnt_zero}
use Rattle.heaprec_commands.proofs.SilentLemmas.{files_silent, task_silent}

-- a run of what was asked, with the texts of the program
ran_asked : (context : RunContext) (limit : ℕ) (files : Option Folder) (asked : RecordAsked) (text : List ℕ)
    (before now : Moment) (answer : Texts → Answer)
    → texts_of context.texts ≡ heaprec_texts
    → Ran (texts_of context.texts) (bounds_of context.limits) files [] (names_of asked)
    (record_plan limit text asked) before
    now (answer (texts_of context.texts))
    → WordsRan heaprec_texts (bounds_of context.limits) files (task_asked limit text (Some asked)) before now
    (answer heaprec_texts)
ran_asked context limit files asked text before now answer texts ran =
    inr (subst
    (λ (t : Texts). Ran t (bounds_of context.limits) files [] (names_of asked) (record_plan limit text asked) before now
    (answer t))
    texts ran)

-- what is asked for, by its parts
abbrev pub asks : Option (List ℕ) → List (List ℕ) → Task → RecordAsked
asks modules scripts task = record { modules = modules; scripts = scripts; task = task }

-- the files weren't read
pub asked_halted : (may_write : Bool → Job → List ℕ → Type 0) (context : RunContext) (limit : ℕ) (asked : RecordAsked)
    (before now : Shown) (old new : Taken) (halt : Halt)
    → texts_of context.texts ≡ heaprec_texts
    → FrontRead context (files_front asked.modules asked.scripts (no_job limit)) before now old new (Err halt)
    → WordsRecord may_write (bounds_of context.limits) limit (Some asked) before now old new
    (halt_answer heaprec_texts halt)
asked_halted may_write context limit asked before now old new halt texts read = record {
  text = [];
  run = record {
    early = [];
    written = read.silent ∙ sym (append_nothing old.written);
    ran =
        ran_asked context limit before.files asked [] before.moment now.moment (λ t. halt_answer t halt) texts
        (read.goes_on [] (option_to_list (trace_of asked.task)) (task_plan [] asked.task));
    files = read.files;
    unwritten = read.unwritten;
    sound = read.sound;
  };
  done = λ zero. absurd (code_isnt_zero halt.status zero);
  faulty =
      λ trace is one. inl
      (ran_asked context limit before.files (asks asked.modules asked.scripts (Records false)) [] before.moment
      now.moment
      (λ t. halt_answer t halt) texts (read.goes_on [] [] (task_plan [] (Records false))));
}

-- the files were read, and what they say was recorded
pub asked_done : (may_write : Bool → Job → List ℕ → Type 0) (context : RunContext) (limit : ℕ)
    (modules : Option (List ℕ))
    (scripts : List (List ℕ)) (summary : Bool) (before now : Shown) (old new : Taken) (job : Job) (text : List ℕ)
    → texts_of context.texts ≡ heaprec_texts
    → FrontRead context (files_front modules scripts (no_job limit)) before now old new (Ok job)
    → may_write summary job text
    → WordsRecord may_write (bounds_of context.limits) limit
    (Some (asks modules scripts (Records summary))) before now old
    new (done text)
asked_done may_write context limit modules scripts summary before now old new job text texts read may =
    let leads = read.goes_on.runs [] [] (task_plan text (Records summary)) in
    record {
      text = text;
      run = record {
        early = [];
        written = read.silent ∙ sym (append_nothing old.written);
        ran =
            ran_asked context limit before.files (asks modules scripts (Records summary)) text before.moment now.moment
            (λ t. done text) texts (leads.1 now.moment (done text) (refl, inl refl));
        files = read.files;
        unwritten = λ four. absurd (omega (arith, four));
        sound = λ other. read.sound (λ four. absurd (omega (arith, four)));
      };
      done =
          λ zero. record {
            job = job;
            may = may;
            count = omega
                (arith, read.goes_on.threads);
            told = read.goes_on.gives;
          };
      faulty = λ trace is one. absurd (cc);
    }

-- the files were read, and memory was wanting for a recording
pub asked_wanting : (may_write : Bool → Job → List ℕ → Type 0) (context : RunContext) (limit : ℕ)
    (modules : Option (List ℕ))
    (scripts : List (List ℕ)) (summary : Bool) (before now : Shown) (old new : Taken) (job : Job) {Z : Type 0}
    (result : Result (Vec ℕ Z) Halt)
    → texts_of context.texts ≡ heaprec_texts
    → FrontRead context (files_front modules scripts (no_job limit)) before now old new (Ok job)
    → IsErrAnd result (λ halt. halt ≡ record { message = OutOfMemory; status = NoMemory })
    → WordsRecord may_write (bounds_of context.limits) limit
    (Some (asks modules scripts (Records summary))) before now old
    new (rest_of heaprec_texts result)
asked_wanting may_write context limit modules scripts summary before now old new job (Ok rest) texts read is = absurd is
asked_wanting may_write context limit modules scripts summary before now old new job (Err halt) texts read is =
    let leads = read.goes_on.runs [] [] (task_plan [] (Records summary)) in
    let five : (halt_answer heaprec_texts halt).status ≡ 5 =
    ap (λ (h : Halt). (halt_answer heaprec_texts h).status) is in
    record {
      text = [];
      run = record {
        early = [];
        written = read.silent ∙ sym (append_nothing old.written);
        ran =
            ran_asked context limit before.files (asks modules scripts (Records summary)) [] before.moment now.moment
            (λ t. halt_answer t halt) texts
            (leads.1 now.moment (halt_answer (texts_of context.texts) halt)
            (refl, inr (ap (halt_answer (texts_of context.texts)) is)));
        files = read.files;
        unwritten = λ four. absurd (omega (arith, four, five));
        sound = λ other. read.sound (λ four. absurd (omega (arith, four)));
      };
      done = λ zero. absurd (code_isnt_zero halt.status zero);
      faulty = λ trace is one. absurd (cc);
    }

-- the files were read, and a trace was run over
pub asked_checked : {Z : Type 0} (may_write : Bool → Job → List ℕ → Type 0) (context : RunContext) (limit : ℕ)
    (modules : Option (List ℕ)) (scripts : List (List ℕ)) (trace : List ℕ) (before mid now : Shown)
    (old between new : Taken) (job : Job)
    (result : Result (Vec ℕ Z) Halt) → texts_of context.texts ≡ heaprec_texts → FrontLaws job
    → FrontRead context (files_front modules scripts (no_job limit)) before mid old between (Ok job)
    → RunsTo context (trace ∷ []) (one_file trace (check_report job)) mid now between new result
    → WordsRecord may_write (bounds_of context.limits) limit (Some (asks modules scripts (Checks trace))) before now old
    new (rest_of heaprec_texts result)
asked_checked may_write context limit modules scripts trace before mid now old between new job result texts laws read
    check =
    let leads = read.goes_on.runs [] (trace ∷ []) (task_plan [] (Checks trace)) in
    let run = check.ran leads.0 in
    let ran : Ran (texts_of context.texts) (bounds_of context.limits) before.files leads.0 (trace ∷ [])
    (one_file trace (check_report job)) mid.moment now.moment (after run.0 (rest_of (texts_of context.texts) result)) =
    subst (λ files. Ran (texts_of context.texts) (bounds_of context.limits) files leads.0 (trace ∷ [])
    (one_file trace (check_report job)) mid.moment now.moment
    (after run.0 (rest_of (texts_of context.texts) result))) read.files run.1.1 in
    let said : Ran heaprec_texts (bounds_of context.limits) before.files leads.0 (trace ∷ [])
    (one_file trace (check_report job)) mid.moment now.moment (after run.0 (rest_of heaprec_texts result)) =
    subst (λ (t : Texts). Ran t (bounds_of context.limits) before.files leads.0 (trace ∷ [])
    (one_file trace (check_report job)) mid.moment now.moment (after run.0 (rest_of t result))) texts ran in
    let same : between.faults ≡ old.faults = read.sound (λ four. absurd (omega (arith, four))) in
    let status : (rest_of heaprec_texts result).status ≡ status_of result =
    status_told vec_items heaprec_texts result in
    record {
      text = [];
      run = record {
        early = run.0;
        written = run.1.0 ∙ ap (λ o. append_known o run.0) read.silent;
        ran =
            ran_asked context limit before.files (asks modules scripts (Checks trace)) [] before.moment now.moment
            (λ t. after run.0 (rest_of t result)) texts
            (leads.1 now.moment (after run.0 (rest_of (texts_of context.texts) result)) ran);
        files = check.files ∙ read.files;
        unwritten = λ four. subst (λ n. Faulted n new.faults) same (check.unwritten (sym status ∙ four));
        sound = λ other. check.sound (λ four. other (status ∙ four)) ∙ same;
      };
      done =
          λ zero. checked_run heaprec_texts (bounds_of context.limits) limit before.files modules scripts leads.0 trace
          job
          mid.moment now.moment (after run.0 (rest_of heaprec_texts result)) laws read.goes_on.gives said zero;
      faulty = λ other is one. inr (λ folder known.
          let same : trace ≡ other = cc in
          subst
          (λ (name : List ℕ). IsRefused folder name (job_in folder modules scripts limit)
          (rest_of heaprec_texts result).message)
          same
          (subst (λ (j : Job). IsRefused folder trace j (rest_of heaprec_texts result).message)
          (read.goes_on.gives folder known)
          (refused_run (bounds_of context.limits) before.files leads.0 trace job mid.moment now.moment
          (after run.0 (rest_of heaprec_texts result)) laws said one folder known)));
    }

-- what runs of a request come to, runs of the words that ask for it come to
pub words_run : (may_write : Bool → Job → List ℕ → Type 0) (bounds : Bounds) (limit : ℕ) (asking : Option RecordAsked)
    (asked : RecordAsked) (before now : Shown) (old new : Taken) (given answer : Answer)
    → asking ≡ Some asked → answer ≡ given → WordsRecord may_write bounds limit (Some asked) before now old new given
    → WordsRecord may_write bounds limit asking before now old new answer
words_run may_write bounds limit asking asked before now old new given answer asks is ran =
    subst (λ (o : Option RecordAsked). WordsRecord may_write bounds limit o before now old new answer) (sym asks)
    (subst (λ (a : Answer). WordsRecord may_write bounds limit (Some asked) before now old new a) (sym is) ran)

-- nothing was run
pub words_not_run : (may_write : Bool → Job → List ℕ → Type 0) (bounds : Bounds) (limit : ℕ)
    (asking : Option RecordAsked) (store : Shown) (out : Taken) (answer : Answer)
    → answer.status ≢ 0
    → answer.status ≢ 1
    → ((answer ≡ memory_answer heaprec_texts) ⊎ ((answer ≡ usage_answer heaprec_texts) × (asking ≡ None)))
    → WordsRecord may_write bounds limit asking store store out out answer
words_not_run may_write bounds limit asking store out answer other sound is = record {
  text = [];
  run = words_not_ran heaprec_texts bounds (task_asked limit [] asking) store out answer (elim is [
    | inl memory ↦ inl memory
    | inr usage ↦ inr (usage.0, ap (task_asked limit []) usage.1)
  ]);
  done = λ zero. absurd (other zero);
  faulty = λ trace checks one. absurd (sound one);
}

-- the files of a task are those that the words name, and nothing is written before they are read
names-are : (limit : ℕ) (text : List ℕ) (asking : Option RecordAsked)
    → task_names (task_asked limit text asking) ≡ names_asked asking
names-are limit text None = refl
names-are limit text (Some asked) = refl

task-silent : (limit : ℕ) (text : List ℕ) (asking : Option RecordAsked) → IsSilentTask (task_asked limit text asking)
task-silent limit text None = tt
task-silent limit text (Some asked) =
    files_silent asked.modules asked.scripts (no_job limit) (task_plan text asked.task)
    (λ read. task_silent text asked.task read)

no-task : (limit : ℕ) (text : List ℕ) (asking : Option RecordAsked) → asking ≡ None
    → task_asked limit text asking ≡ None
no-task limit text None none = refl
no-task limit text (Some asked) none = absurd (cc)

nothing-asked : (limit : ℕ) (text : List ℕ) (asking : Option RecordAsked) → task_asked limit text asking ≡ None
    → asking ≡ None
nothing-asked limit text None none = refl
nothing-asked limit text (Some asked) none = absurd (cc)

-- all that follows where an answer was delivered
pub heaprec_ran : (bounds : Bounds) (limit : ℕ) (words : List (List ℕ)) (before now : Outside) (status : ℕ)
    → (run : HasDelivered bounds limit (record_asked words) before now status)
    → now.store.files ≡ before.store.files → (words ≡ [] → run.given.status ≡ 2)
    → ((trace : List ℕ) → trace_asked (record_asked words) ≡ Some trace → run.given.status ≡ 1
    → IsFaulty bounds limit (record_asked words) trace before.store now.store run.given)
    → HeaprecRan bounds limit words before now status
heaprec_ran bounds limit words before now status run files none faulty =
    let asking = record_asked words in
    let e : TaskEnded heaprec_texts bounds (task_asked limit run.text asking) before now status run.given =
    record { ran = run.ran; delivered = run.delivered; files = files } in
    let whole = run.delivered.whole in
    let done_is : (zero : status ≡ 0) → run.given.status ≡ 0 =
    λ zero. sym (told_by e (λ four. omega (arith, zero, four))) ∙ zero in
    record {
      run = run;
      none = λ is. elim (eqb_tells status 4) [
        | inl four ↦ inr four.1
        | inr other ↦ inl (told_by e other.1 ∙ none is)
      ];
      recorded = λ none zero. (
        run.given.output,
        (
          (whole (λ four. omega (arith, zero, four))).output,
          subst (λ (o : Option (List ℕ)). IsDoneBy IsRecorded limit before.store.files asking run.given.output o) none
              (run.done (done_is zero)),
        ),
      );
      checked = λ trace is zero. (
        run.given.output,
        (
          (whole (λ four. omega (arith, zero, four))).output,
          subst (λ (o : Option (List ℕ)). IsDoneBy IsRecorded limit before.store.files asking run.given.output o) is
              (run.done (done_is zero)),
        ),
      );
      refused = λ trace is one folder known sound.
          let given_one : run.given.status ≡ 1 = sym (told_by e (λ four. omega (arith, one, four))) ∙ one in
          elim (faulty trace is given_one) [
            | inl ran ↦
                let other : TaskEnded heaprec_texts bounds (task_asked limit [] (unchecked asking)) before now status
                run.given = record { ran = ran; delivered = run.delivered; files = files } in
                let same =
                judged_by other folder known (λ three. omega (arith, one, three)) (λ four. omega (arith, one, four))
                (λ five. omega (arith, one, five)) in
                absurd (omega (arith, given_one, ap (λ (a : Answer). a.status) same, sound))
            | inr says ↦ (run.given.message, ((whole (λ four. omega (arith, one, four))).message, says folder known))
          ];
      defined = λ folder known quiet out_quiet err_quiet five.
          let same = defined_by e folder known quiet (wrote e out_quiet err_quiet) five in (
            run.text,
            (
              gives_as before now status same (whole (wrote e out_quiet err_quiet)),
              λ zero. subst (λ (a : Answer). IsDone IsRecorded limit before.store.files asking a.output) same
                  (run.done (done_is zero)),
            ),
          );
      complete = λ folder known zero quiet out_quiet err_quiet five.
          let four = wrote e out_quiet err_quiet in
          told_by e four ∙ (ap (λ (a : Answer). a.status) (defined_by e folder known quiet four five) ∙ zero run.text);
      judged =
          λ folder known three four
          five. (run.text, gives_as before now status (judged_by e folder known three four five) (whole four));
      faulty =
          λ folder fault known quiet always four five. told_by e four
          ∙ (ap (λ (a : Answer). a.status) (defined_by e folder known quiet four five) ∙ always run.text);
      silent = silent_by e (task-silent limit run.text asking);
      ends =
          subst (λ (names : List (List ℕ)). RunEnds heaprec_texts (asking ≡ None) names before now status)
          (names-are limit run.text asking)
          (run_ends e (no-task limit run.text asking) (nothing-asked limit run.text asking));
    }
