-- From the reading of one file to that of the first files of a run.
use Rattle.std.proofs.Common.{◌≡◌, ◌≢◌, ℕ, ◌+◌, ◌<◌, ◌≤◌, suc, Bor, IsErrAnd, List, [], ◌∷◌, ◌++◌, length}
use Rattle.std.proofs.Common.{length-append, map, drop, drop-cons, drop_of_length-le, get_or, take, take_all, unwrap_or}
use Rattle.std.proofs.Common.{Option, None, Some, Result, Ok, Err, refl, ap, sym, subst, ◌∙◌, arith}
use Rattle.std.specs.Io.KnownBytes.{append_known}
use Rattle.hp_outside.specs.Faults.{Faulted}
use Rattle.hp_outside.specs.Folder.{Folder, file_of}
use Rattle.hp_outside.specs.Lines.{lines_of}
use Rattle.hp_outside.specs.Taken.{WhereTold}
use Rattle.command_frame.specs.declared.context.RunContext.{RunContext}
use Rattle.command_frame.specs.declared.halt.Halt.{Halt}
use Rattle.command_frame.specs.declared.halt.Message.TheVariants.{OutOfMemory}
use Rattle.command_frame.specs.declared.halt.Status.TheVariants.{NoMemory}
use Rattle.command_frame.specs.Answer.{Answer, after}
use Rattle.command_frame.specs.FileRead.{Absent, Calls, CannotOpen, CannotRead, EndsIn, FileEnd, FileRead, Passed}
use Rattle.command_frame.specs.FileRead.{Refused, Unopened, Unwritten, Wanting, end_answer, end_output}
use Rattle.command_frame.specs.FirstFault.{Bounds, bounds_of}
use Rattle.command_frame.specs.Halts.{halt_answer, status_code}
use Rattle.command_frame.specs.Moment.{Moment}
use Rattle.command_frame.specs.Outcome.{IsStop}
use Rattle.command_frame.specs.Plan.{Plan}
use Rattle.command_frame.specs.Report.{Report, gains_from, written}
use Rattle.command_frame.specs.Run.{Ran}
use Rattle.command_frame.specs.RunsTo.{ReadsTo, Shown, Taken}
use Rattle.command_frame.specs.Texts.{Texts, texts_of}
use Rattle.command_frame.proofs.Laws.{append_nothing}
use Rattle.record_scripts.specs.Job.{Job}
use Rattle.heaprec_commands.specs.declared.reader.InputKind.{InputKind}
use Rattle.heaprec_commands.specs.declared.reader.InputKind.TheVariants.{Modules, Script}
use Rattle.heaprec_commands.specs.FileLines.{begun, file_report, with_lines}
use Rattle.heaprec_commands.specs.FilesPlan.{file_front, file_plan, files_front, files_named, lines_in, modules_front}
use Rattle.heaprec_commands.specs.FilesPlan.{scripts_front, scripts_in, scripts_plan}
use Rattle.heaprec_commands.specs.FrontRead.{Front, FrontRead, GoesOn, LeadsTo, read_to}
use Rattle.heaprec_commands.proofs.LineLemmas.{count-lines}

-- no line gives a byte to standard output
nothing_from : (kind : InputKind) (job : Job) (earlier lines : List (List ℕ))
    → gains_from (file_report kind job) earlier lines ≡ []
nothing_from kind job earlier [] = refl
nothing_from kind job earlier (line ∷ lines) = nothing_from kind job (earlier ++ line ∷ []) lines

nothing_written : (kind : InputKind) (job : Job) (lines : List (List ℕ)) → written (file_report kind job) lines ≡ []
nothing_written kind job lines = nothing_from kind job [] lines

take_none : (count : ℕ) → take {A = ℕ} count [] ≡ []
take_none count = take_all count [] (omega arith)

-- so an end of a file has given none
none_gained : (kind : InputKind) (job : Job) (end : FileEnd) → end_output (file_report kind job) end ≡ []
none_gained kind job Unopened = refl
none_gained kind job Absent = refl
none_gained kind job CannotOpen = refl
none_gained kind job (CannotRead taken) = nothing_written kind job taken
none_gained kind job (Refused taken number told) = nothing_written kind job taken
none_gained kind job (Wanting taken) = nothing_written kind job taken
none_gained kind job (Unwritten taken count) = ap (take count) (nothing_written kind job taken) ∙ take_none count
none_gained kind job (Passed taken) = nothing_written kind job taken

pub silent_end : (kind : InputKind) (job : Job) (end : FileEnd) (old new : Option (List ℕ))
    → new ≡ append_known old (end_output (file_report kind job) end) → new ≡ old
silent_end kind job end old new gained = gained ∙ ap (append_known old) (none_gained kind job end) ∙ append_nothing old

-- nothing before an answer is the answer
after_nothing : (answer : Answer) → after [] answer ≡ answer
after_nothing answer = refl

behind_nothing : (early : List ℕ) (answer : Answer) → early ≡ [] → after early answer ≡ answer
behind_nothing early answer none = ap (λ bytes. after bytes answer) none ∙ after_nothing answer

-- a file of which not all lines were taken
halts_at : (texts : Texts) (bounds : Bounds) (files : Option Folder) (kind : InputKind) (name : List ℕ) (start : Job)
    (before now : Moment) (end : FileEnd) (answer : Answer)
    → FileRead bounds files name (file_report kind start) before now end → IsStop end
    → answer ≡ end_answer texts name end
    → (last : List ℕ) (names : List (List ℕ)) (next : Job → Plan)
    → Ran texts bounds files last (name ∷ names) (file_plan kind name start next) before now answer
halts_at texts bounds files kind name start before now Unopened answer read stops is last names next = absurd stops
halts_at texts bounds files kind name start before now Absent answer read stops is last names next =
    (refl, (Absent, (now, read, (is, refl))))
halts_at texts bounds files kind name start before now CannotOpen answer read stops is last names next =
    (refl, (CannotOpen, (now, read, (is, refl))))
halts_at texts bounds files kind name start before now (CannotRead taken) answer read stops is last names next = (
  refl,
  (
    CannotRead taken,
    (
      now,
      read,
      (
        is
            ∙ sym
            (behind_nothing (written (file_report kind start) taken) (end_answer texts name (CannotRead taken))
            (nothing_written kind start taken)),
        refl,
      ),
    ),
  ),
)
halts_at texts bounds files kind name start before now (Refused taken number told) answer read stops is last names
    next = (
      refl,
      (
        Refused taken number told,
        (
          now,
          read,
          (
            is
                ∙ sym
                (behind_nothing (written (file_report kind start) taken)
                (end_answer texts name (Refused taken number told)) (nothing_written kind start taken)),
            refl,
          ),
        ),
      ),
    )
halts_at texts bounds files kind name start before now (Wanting taken) answer read stops is last names next = (
  refl,
  (
    Wanting taken,
    (
      now,
      read,
      (
        is
            ∙ sym
            (behind_nothing (written (file_report kind start) taken) (end_answer texts name (Wanting taken))
            (nothing_written kind start taken)),
        refl,
      ),
    ),
  ),
)
halts_at texts bounds files kind name start before now (Unwritten taken count) answer read stops is last names next = (
  refl,
  (
    Unwritten taken count,
    (
      now,
      read,
      (
        is
            ∙ sym
            (behind_nothing (end_output (file_report kind start) (Unwritten taken count))
            (end_answer texts name (Unwritten taken count)) (none_gained kind start (Unwritten taken count))),
        refl,
      ),
    ),
  ),
)
halts_at texts bounds files kind name start before now (Passed taken) answer read stops is last names next = absurd
    stops

-- the lines of a file that was read to its end are those of the folder's file
told_lines : (bounds : Bounds) (report : Report) (file left : Option (List ℕ)) (taken : List (List ℕ))
    → EndsIn bounds report file left (Passed taken) → taken ≡ lines_of (unwrap_or file [])
told_lines bounds report None left taken ends = absurd ends
told_lines bounds report (Some bytes) left taken ends = ends.lines_are

lines_told : (bounds : Bounds) (report : Report) (files : Option Folder) (name : List ℕ) (before now : Moment)
    (end : FileEnd) (taken : List (List ℕ))
    → FileRead bounds files name report before now end → end ≡ Passed taken
    → WhereTold files (λ folder. taken ≡ lines_in folder name)
lines_told bounds report files name before now end taken read is folder known =
    told_lines bounds report (file_of folder name) now.left taken
    (subst (λ (e : FileEnd). EndsIn bounds report (file_of folder name) now.left e) is (read.told folder known))

-- and the store was called once
opened_once : (files : Option Folder) (before now : Moment) (end : FileEnd) (taken : List (List ℕ))
    → Calls files before now end → end ≡ Passed taken → now.opens ≡ before.opens + 1
opened_once files before now end taken calls is = (subst (λ (e : FileEnd). Calls files before now e) is calls).0.opens

-- behind a file whose lines were all taken
leads_on : (texts : Texts) (bounds : Bounds) (files : Option Folder) (kind : InputKind) (name : List ℕ)
    (start job : Job)
    (before now : Moment) (end : FileEnd) (taken : List (List ℕ))
    → FileRead bounds files name (file_report kind start) before now end → end ≡ Passed taken
    → job ≡ with_lines kind start taken
    → LeadsTo texts bounds files (file_front kind name start) before (read_to job) now
leads_on texts bounds files kind name start job before now end taken read is said = record {
  runs = λ last names next. (
    name,
    λ later answer rest. (
      refl,
      (
        Passed taken,
        (
          now,
          subst (λ e. FileRead bounds files name (file_report kind start) before now e) is read,
          (
            answer,
            sym (behind_nothing (written (file_report kind start) taken) answer (nothing_written kind start taken)),
            subst (λ (j : Job). Ran texts bounds files name names (next j) now later answer) said rest,
          ),
        ),
      ),
    ),
  );
  gives =
      λ folder known. said
      ∙ ap (with_lines kind start)
      (lines_told bounds (file_report kind start) files name before now end taken read is folder known);
  threads = ap (λ (j : Job). length j.scripts) said ∙ count-lines kind start taken;
  opens = let one = opened_once files before now end taken read.calls is in omega (arith, one);
}

-- memory was wanting before a file was opened
unopened_told : (bounds : Bounds) (report : Report) (file left : Option (List ℕ))
    → EndsIn bounds report file left Unopened
unopened_told bounds report None left = tt
unopened_told bounds report (Some bytes) left = tt

no_failed_write : (halt : Halt) → halt ≡ record { message = OutOfMemory; status = NoMemory }
    → status_code halt.status ≢ 4
no_failed_write halt is = λ four. omega (arith, sym (ap (λ (h : Halt). status_code h.status) is) ∙ four)

wants_file : (context : RunContext) (files : Option Folder) (kind : InputKind) (name : List ℕ) (start : Job)
    (now : Moment)
    (halt : Halt)
    → halt ≡ record { message = OutOfMemory; status = NoMemory }
    → GoesOn (texts_of context.texts) (bounds_of context.limits) files (file_front kind name start) now now (Err halt)
wants_file context files kind name start now halt is = λ last names next. (
  refl,
  (
    Unopened,
    (
      now,
      record {
        told =
            λ folder known. unopened_told (bounds_of context.limits) (file_report kind start) (file_of folder name)
            now.left;
        calls = refl;
      },
      (ap (halt_answer (texts_of context.texts)) is, refl),
    ),
  ),
)

-- nothing was read, and the run ended for want of memory
wanting_front : (context : RunContext) (front : Front) (store : Shown) (out : Taken) (halt : Halt)
    → halt ≡ record { message = OutOfMemory; status = NoMemory }
    → GoesOn (texts_of context.texts) (bounds_of context.limits) store.files front store.moment store.moment (Err halt)
    → FrontRead context front store store out out (Err halt)
wanting_front context front store out halt is ran =
    record {
      goes_on = ran;
      silent = refl;
      files = refl;
      unwritten = λ four. absurd (no_failed_write halt is four);
      sound = λ other. refl;
    }

pub wanting_file : (context : RunContext) (kind : InputKind) (name : List ℕ) (start : Job) (store : Shown) (out : Taken)
    (result : Result Job Halt)
    → IsErrAnd result (λ halt. halt ≡ record { message = OutOfMemory; status = NoMemory })
    → FrontRead context (file_front kind name start) store store out out result
wanting_file context kind name start store out (Ok job) is = absurd is
wanting_file context kind name start store out (Err halt) is =
    wanting_front context (file_front kind name start) store out halt is
    (wants_file context store.files kind name start store.moment halt is)

wants_files : (context : RunContext) (files : Option Folder) (modules : Option (List ℕ)) (names : List (List ℕ))
    (start : Job)
    (now : Moment) (halt : Halt)
    → halt ≡ record { message = OutOfMemory; status = NoMemory }
    → 1 ≤ length names
    → GoesOn (texts_of context.texts) (bounds_of context.limits) files (files_front modules names start) now now
    (Err halt)
wants_files context files None [] start now halt is some = absurd (omega (arith, some))
wants_files context files None (name ∷ names) start now halt is some =
    λ last more next. wants_file context files Script name (begun start) now halt is last (names ++ more)
    (λ read. scripts_plan names read next)
wants_files context files (Some modules) names start now halt is some =
    λ last more next. wants_file context files Modules modules start now halt is last (names ++ more)
    (λ read. scripts_plan names read next)

pub wanting_files : (context : RunContext) (modules : Option (List ℕ)) (names : List (List ℕ)) (start : Job)
    (store : Shown)
    (out : Taken) (result : Result Job Halt)
    → IsErrAnd result (λ halt. halt ≡ record { message = OutOfMemory; status = NoMemory })
    → 1 ≤ length names → FrontRead context (files_front modules names start) store store out out result
wanting_files context modules names start store out (Ok job) is some = absurd is
wanting_files context modules names start store out (Err halt) is some =
    wanting_front context (files_front modules names start) store out halt is
    (wants_files context store.files modules names start store.moment halt is some)

-- a file that was read to its end, and one that wasn't
pub file_passed : (context : RunContext) (kind : InputKind) (name : List ℕ)
    (start job : Job) {has_taken : List (List ℕ) → Type 0}
    (before now : Shown) (old new : Taken)
    → ReadsTo context name (file_report kind start) has_taken before now old new (Ok tt)
    → ((taken : List (List ℕ)) → has_taken taken → job ≡ with_lines kind start taken)
    → FrontRead context (file_front kind name start) before now old new (Ok job)
file_passed context kind name start job before now old new read said = record {
  goes_on =
      leads_on (texts_of context.texts) (bounds_of context.limits) before.files kind name start job before.moment
      now.moment
      read.end read.halts.0 read.read read.halts.1.0 (said read.halts.0 read.halts.1.1);
  silent = silent_end kind start read.end old.written new.written read.written;
  files = read.files;
  unwritten = read.unwritten;
  sound = read.sound;
}

pub file_stopped : (context : RunContext) (kind : InputKind) (name : List ℕ)
    (start : Job) {has_taken : List (List ℕ) → Type 0}
    (before now : Shown) (old new : Taken) (halt : Halt)
    → ReadsTo context name (file_report kind start) has_taken before now old new (Err halt)
    → FrontRead context (file_front kind name start) before now old new (Err halt)
file_stopped context kind name start before now old new halt read = record {
  goes_on =
      halts_at (texts_of context.texts) (bounds_of context.limits) before.files kind name start before.moment now.moment
      read.end (halt_answer (texts_of context.texts) halt) read.read read.halts.0 read.halts.1;
  silent = silent_end kind start read.end old.written new.written read.written;
  files = read.files;
  unwritten = read.unwritten;
  sound = read.sound;
}

-- from the first files to some, and from these to others
leads_by : (texts : Texts) (bounds : Bounds) (files : Option Folder) (front mid left : Front)
    (before between now : Moment)
    → LeadsTo texts bounds files front before mid between → LeadsTo texts bounds files mid between left now
    → LeadsTo texts bounds files front before left now
leads_by texts bounds files front mid left before between now leads goes = record {
  runs = λ last names next.
      let first = leads.runs last names next in
      let second =
      goes.runs first.0 names
      next in (second.0, λ later answer ran. first.1 later answer (second.1 later answer ran));
  gives = λ folder known. goes.gives folder known ∙ leads.gives folder known;
  threads = goes.threads ∙ leads.threads;
  opens = goes.opens ∙ leads.opens;
}

-- the first files, and those that are left behind them
goes_behind : (texts : Texts) (bounds : Bounds) (files : Option Folder) (front left : Front) (before mid now : Moment)
    (result : Result Job Halt)
    → LeadsTo texts bounds files front before left mid → GoesOn texts bounds files left mid now result
    → GoesOn texts bounds files front before now result
goes_behind texts bounds files front left before mid now (Ok job) leads goes =
    leads_by texts bounds files front left (read_to job) before mid now leads goes
goes_behind texts bounds files front left before mid now (Err halt) leads goes = λ last names next.
    let first = leads.runs last names next in first.1 now (halt_answer texts halt) (goes first.0 names next)

pub front_behind : (context : RunContext) (front left : Front) (before mid now : Shown) (old between new : Taken)
    (result : Result Job Halt)
    → LeadsTo (texts_of context.texts) (bounds_of context.limits) before.files front before.moment left mid.moment
    → mid.files ≡ before.files → between.written ≡ old.written → between.faults ≡ old.faults
    → FrontRead context left mid now between new result → FrontRead context front before now old new result
front_behind context front left before mid now old between new result leads same silent sound read = record {
  goes_on =
      goes_behind (texts_of context.texts) (bounds_of context.limits) before.files front left before.moment mid.moment
      now.moment result leads
      (subst (λ files. GoesOn (texts_of context.texts)
      (bounds_of context.limits) files left mid.moment now.moment result)
      same read.goes_on);
  silent = read.silent ∙ silent;
  files = read.files ∙ same;
  unwritten = λ four. subst (λ faults. Faulted faults new.faults) sound (read.unwritten four);
  sound = λ other. read.sound other ∙ sound;
}

-- a script with others behind it
script_then : (context : RunContext) (name : List ℕ) (names : List (List ℕ)) (start job : Job) (before now : Shown)
    (old new : Taken)
    → FrontRead context (file_front Script name (begun start)) before now old new (Ok job)
    → LeadsTo (texts_of context.texts) (bounds_of context.limits) before.files (scripts_front (name ∷ names) start)
    before.moment (scripts_front names job) now.moment
script_then context name names start job before now old new read = record {
  runs = λ last more next. read.goes_on.runs last (names ++ more) (λ job. scripts_plan names job next);
  gives = λ folder known. ap (scripts_in folder names) (read.goes_on.gives folder known);
  threads = omega (arith, read.goes_on.threads, length-append start.scripts ([] ∷ []));
  opens = omega (arith, read.goes_on.opens);
}

pub scripts_further : (context : RunContext) (files : Option Folder) (all left rest : List (List ℕ)) (name : List ℕ)
    (start job new : Job) (before : Moment) (mid now : Shown) (between after : Taken)
    → mid.files ≡ files → left ≡ name ∷ rest
    → LeadsTo (texts_of context.texts) (bounds_of context.limits) files (scripts_front all start) before
    (scripts_front left job) mid.moment
    → FrontRead context (file_front Script name (begun job)) mid now between after (Ok new)
    → LeadsTo (texts_of context.texts) (bounds_of context.limits) files (scripts_front all start) before
    (scripts_front rest new) now.moment
scripts_further context files all left rest name start job new before mid now between after same is leads read =
    leads_by (texts_of context.texts) (bounds_of context.limits) files (scripts_front all start)
    (scripts_front (name ∷ rest) job) (scripts_front rest new) before mid.moment now.moment
    (subst (λ (names : List (List ℕ)). LeadsTo (texts_of context.texts) (bounds_of context.limits) files
    (scripts_front all start) before (scripts_front names job) mid.moment) is leads)
    (subst (λ (f : Option Folder). LeadsTo (texts_of context.texts) (bounds_of context.limits) f
    (scripts_front (name ∷ rest) job) mid.moment (scripts_front rest new) now.moment) same
    (script_then context name rest job new mid now between after read))

pub script_ends : (context : RunContext) (name : List ℕ) (names : List (List ℕ)) (start : Job) (before now : Shown)
    (old new : Taken) (halt : Halt)
    → FrontRead context (file_front Script name (begun start)) before now old new (Err halt)
    → FrontRead context (scripts_front (name ∷ names) start) before now old new (Err halt)
script_ends context name names start before now old new halt read = record {
  goes_on = λ last more next. read.goes_on last (names ++ more) (λ job. scripts_plan names job next);
  silent = read.silent;
  files = read.files;
  unwritten = read.unwritten;
  sound = read.sound;
}

-- the modules file with the scripts behind it
pub modules_then : (context : RunContext) (modules : Option (List ℕ)) (names : List (List ℕ)) (start job : Job)
    (before now : Shown) (old new : Taken)
    → FrontRead context (modules_front modules start) before now old new (Ok job)
    → LeadsTo (texts_of context.texts) (bounds_of context.limits) before.files
    (files_front modules names start) before.moment
    (scripts_front names job) now.moment
modules_then context None names start job before now old new read = record {
  runs = λ last more next. read.goes_on.runs last (names ++ more) (λ job. scripts_plan names job next);
  gives = λ folder known. ap (scripts_in folder names) (read.goes_on.gives folder known);
  threads = omega (arith, read.goes_on.threads);
  opens = omega (arith, read.goes_on.opens);
}
modules_then context (Some modules) names start job before now old new read = record {
  runs = λ last more next. read.goes_on.runs last (names ++ more) (λ job. scripts_plan names job next);
  gives = λ folder known. ap (scripts_in folder names) (read.goes_on.gives folder known);
  threads = omega (arith, read.goes_on.threads);
  opens = omega (arith, read.goes_on.opens);
}

modules_halt : (texts : Texts) (bounds : Bounds) (files : Option Folder) (modules : Option (List ℕ))
    (names : List (List ℕ)) (start : Job) (before now : Moment) (halt : Halt)
    → GoesOn texts bounds files (modules_front modules start) before now (Err halt)
    → GoesOn texts bounds files (files_front modules names start) before now (Err halt)
modules_halt texts bounds files None names start before now halt ran =
    λ last more next. ran last (names ++ more) (λ job. scripts_plan names job next)
modules_halt texts bounds files (Some modules) names start before now halt ran =
    λ last more next. ran last (names ++ more) (λ job. scripts_plan names job next)

pub modules_end : (context : RunContext) (modules : Option (List ℕ)) (names : List (List ℕ)) (start : Job) (before now : Shown)
    (old new : Taken) (halt : Halt)
    → FrontRead context (modules_front modules start) before now old new (Err halt)
    → FrontRead context (files_front modules names start) before now old new (Err halt)
modules_end context modules names start before now old new halt read = record {
  goes_on =
      modules_halt (texts_of context.texts) (bounds_of context.limits) before.files modules names start before.moment
      now.moment
      halt read.goes_on;
  silent = read.silent;
  files = read.files;
  unwritten = read.unwritten;
  sound = read.sound;
}

-- no file
stays : (texts : Texts) (bounds : Bounds) (files : Option Folder) (job : Job) (now : Moment)
    → LeadsTo texts bounds files (read_to job) now (read_to job) now
stays texts bounds files job now =
    record {
      runs = λ last names next. (last, λ later answer ran. ran);
      gives = λ folder known. refl;
      threads = refl;
      opens = refl;
    }

pub none_read : (context : RunContext) (job : Job) (store : Shown) (out : Taken)
    → FrontRead context (read_to job) store store out out (Ok job)
none_read context job store out = record {
  goes_on = stays (texts_of context.texts) (bounds_of context.limits) store.files job store.moment;
  silent = refl;
  files = refl;
  unwritten = λ four. absurd (omega (arith, four));
  sound = λ other. refl;
}

-- no script is left
pub no_script : (texts : Texts) (bounds : Bounds) (files : Option Folder) (front : Front) (job : Job)
    (before now : Moment)
    → LeadsTo texts bounds files front before (scripts_front [] job) now
    → LeadsTo texts bounds files front before (read_to job) now
no_script texts bounds files front job before now leads =
    record { runs = leads.runs; gives = leads.gives; threads = omega (arith, leads.threads); opens = leads.opens }

-- at most one file more than scripts
pub few_named : (modules : Option (List ℕ)) (names : List (List ℕ))
    → length (files_named modules names) ≤ length names + 1
few_named None names = omega arith
few_named (Some modules) names = omega arith

-- the names of scripts that are left
abbrev pub bytes_of : List (Bor (List ℕ)) → List (List ℕ)
bytes_of names = map (λ (name : Bor (List ℕ)). name.now) names

-- the next name of those that are left, whatever stands for a name that isn't there
pub next_name : (names : List (Bor (List ℕ))) (k : ℕ) (other : Bor (List ℕ)) → k < length names
    → bytes_of (drop k names) ≡ (get_or names k other).now ∷ bytes_of (drop (k + 1) names)
next_name names k other within =
    let after : suc k ≡ k + 1 = omega arith in
    ap bytes_of (drop-cons names k other within) ∙ ap (λ j. (get_or names k other).now ∷ bytes_of (drop j names)) after

-- none is left
pub no_name : (names : List (Bor (List ℕ))) (k : ℕ) → length names ≤ k → bytes_of (drop k names) ≡ []
no_name names k past = ap bytes_of (drop_of_length-le names {i = k} past)
