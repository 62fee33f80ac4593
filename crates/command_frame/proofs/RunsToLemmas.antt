-- From the reading of files to the record of a run.
use Rattle.std.proofs.Common.{◌≡◌, ◌≢◌, ◌⊎◌, ℕ, List, [], ◌∷◌, Option, Result, Ok, Err, IsErrAnd, refl, ap, sym, subst}
use Rattle.std.proofs.Common.{◌∙◌, inl, inr, arith}
use Rattle.std.proofs.lemmas.Bool.Decides.{eqb_tells}
use Rattle.hp_outside.specs.Faults.{Faulted}
use Rattle.hp_outside.specs.Folder.{Folder}
use Rattle.command_frame.specs.declared.context.RunContext.{RunContext}
use Rattle.command_frame.specs.declared.halt.Halt.{Halt}
use Rattle.command_frame.specs.declared.halt.Message.TheVariants.{OutOfMemory}
use Rattle.command_frame.specs.declared.halt.Status.TheVariants.{NoMemory}
use Rattle.command_frame.specs.Answer.{Answer, file_answer, memory_answer, verdict_answer}
use Rattle.command_frame.specs.FirstFault.{bounds_of}
use Rattle.command_frame.specs.Halts.{halt_answer, status_code}
use Rattle.command_frame.specs.Plan.{Document, Ends, Lines, Plan, one_document, one_file}
use Rattle.command_frame.specs.Report as report
use Rattle.command_frame.specs.Report.{Report, Verdict}
use Rattle.command_frame.specs.Run.{RanTo}
use Rattle.command_frame.specs.RunsTo.{ReadsTo, RunsReady, Shown, Taken, WholeReadTo, answer_of, status_of}
use Rattle.command_frame.specs.Texts.{Texts, texts_of}
use Rattle.command_frame.specs.Told.{Told}
use Rattle.command_frame.proofs.DocumentLemmas.{ran_on_with, ran_unread}
use Rattle.command_frame.proofs.RunLemmas.{ran_halted, ran_on, ran_on_to, ran_unopened}

-- want of memory is no failed write
pub not_four : (halt : Halt) → halt ≡ record { message = OutOfMemory; status = NoMemory } → status_code halt.status ≢ 4
not_four halt is = λ four. omega (arith, sym (ap (λ (h : Halt). status_code h.status) is) ∙ four)

-- the status of a result is that of its answer
pub status_told : {R : Type 0} (text : R → List ℕ) (texts : Texts) (result : Result R Halt)
    → (answer_of text texts result).status ≡ status_of result
status_told text texts (Ok rest) = refl
status_told text texts (Err halt) = refl

-- a run that writes nothing and doesn't end at status 4
pub runs_quiet : {R : Type 0} {text : R → List ℕ} (context : RunContext) (names : List (List ℕ)) (plan : Plan)
    (before now : Shown) (out : Taken) (result : Result R Halt)
    → ((last : List ℕ)
    → RanTo (texts_of context.texts) (bounds_of context.limits) before.files last names plan before.moment now.moment
    out.written out.written (answer_of text (texts_of context.texts) result))
    → now.files ≡ before.files → status_of result ≢ 4
    → RunsReady text context names plan before now out out result
runs_quiet context names plan before now out result ran files other =
    record { ran = ran; files = files; unwritten = λ four. absurd (other four); sound = λ _. refl }

-- another result with the same answer
pub runs_as : {R Q : Type 0} {text : R → List ℕ} {other : Q → List ℕ} (context : RunContext) (names : List (List ℕ))
    (plan : Plan) (before now : Shown) (old new : Taken) (result : Result R Halt) (same : Result Q Halt)
    → ((texts : Texts) → answer_of other texts same ≡ answer_of text texts result)
    → RunsReady text context names plan before now old new result
    → RunsReady other context names plan before now old new same
runs_as {R} {Q} {text} {other} context names plan before now old new result same is run =
    let texts = texts_of context.texts in
    let status : status_of same ≡ status_of result =
    sym (status_told other texts same) ∙ (ap (λ (a : Answer). a.status) (is texts) ∙ status_told text texts result) in
    record {
      ran =
          λ last. subst
          (λ a. RanTo texts (bounds_of context.limits) before.files last names plan before.moment now.moment old.written
          new.written a)
          (sym (is texts)) (run.ran last);
      files = run.files;
      unwritten = λ four. run.unwritten (sym status ∙ four);
      sound = λ other. run.sound (λ four. other (status ∙ four));
    }

-- memory was wanting before the first file, which is read by lines, was opened
pub runs_wanting : {R : Type 0} {text : R → List ℕ} (context : RunContext) (name : List ℕ) (names : List (List ℕ))
    (report : Report) (next : List (List ℕ) → Plan) (store : Shown) (out : Taken) (halt : Halt)
    → halt ≡ record { message = OutOfMemory; status = NoMemory }
    → RunsReady {R = R} text context (name ∷ names) (Lines name report next) store store out out (Err halt)
runs_wanting context name names report next store out halt is =
    runs_quiet context (name ∷ names) (Lines name report next) store store out (Err halt)
    (λ last. ran_unopened (texts_of context.texts) (bounds_of context.limits) store.files last name names report next
    store.moment out.written (halt_answer (texts_of context.texts) halt) (ap (halt_answer (texts_of context.texts)) is))
    refl (not_four halt is)

-- the same of a result that `?` made of want of memory
pub runs_wanting_by : {R : Type 0} {text : R → List ℕ} (context : RunContext) (name : List ℕ) (names : List (List ℕ))
    (report : Report) (next : List (List ℕ) → Plan) (store : Shown) (out : Taken) (result : Result R Halt)
    → IsErrAnd result (λ halt. halt ≡ record { message = OutOfMemory; status = NoMemory })
    → RunsReady text context (name ∷ names) (Lines name report next) store store out out result
runs_wanting_by context name names report next store out (Ok rest) is = absurd is
runs_wanting_by context name names report next store out (Err halt) is =
    runs_wanting context name names report next store out halt is

-- a file of which not all lines were taken ends the run
pub runs_stopped : {R : Type 0} {text : R → List ℕ} (context : RunContext) (name : List ℕ) (names : List (List ℕ))
    (report : Report) (next : List (List ℕ) → Plan) {has_taken : List (List ℕ) → Type 0} (before now : Shown)
    (old new : Taken) (halt : Halt)
    → ReadsTo context name report has_taken before now old new (Err halt)
    → RunsReady {R = R} text context (name ∷ names) (Lines name report next) before now old new (Err halt)
runs_stopped context name names report next before now old new halt read = record {
  ran =
      λ last. ran_halted (texts_of context.texts) (bounds_of context.limits) before.files last name names report next
      before.moment now.moment old.written new.written
      read.end (halt_answer (texts_of context.texts) halt) read.read read.halts.0 read.halts.1 read.written;
  files = read.files;
  unwritten = read.unwritten;
  sound = read.sound;
}

-- behind a file whose lines were all taken the rest of the plan is run
pub runs_on : {R : Type 0} {text : R → List ℕ} (context : RunContext) (name : List ℕ) (names : List (List ℕ))
    (report : Report)
    (next : List (List ℕ) → Plan) {has_taken : List (List ℕ) → Type 0} {all : Unit {0}} (before mid now : Shown)
    (old middle new : Taken) (result : Result R Halt)
    → ReadsTo context name report has_taken before mid old middle (Ok all)
    → ((taken : List (List ℕ)) → has_taken taken → RunsReady text context names (next taken) mid now middle new result)
    → RunsReady text context (name ∷ names) (Lines name report next) before now old new result
runs_on {text = text} context name names report next before mid now old middle new result read rest =
    let texts = texts_of context.texts in
    let bounds = bounds_of context.limits in
    let taken = read.halts.0 in
    let run = rest taken read.halts.1.1 in
    let same : middle.faults ≡ old.faults = read.sound (λ four. omega (arith, four)) in
    record {
      ran =
          λ last. ran_on_to texts bounds before.files last name names report next before.moment mid.moment now.moment
          old.written middle.written new.written
          read.end taken (answer_of text texts result) read.read read.halts.1.0 read.written
          (subst
          (λ (files : Option Folder). RanTo texts bounds files name names (next taken) mid.moment now.moment
          middle.written new.written (answer_of text texts result))
          read.files (run.ran name));
      files = run.files ∙ read.files;
      unwritten = λ four. subst (λ n. Faulted n new.faults) same (run.unwritten four);
      sound = λ other. run.sound other ∙ same;
    }

-- the answer is this verdict on what was read last, or memory was wanting
abbrev pub Judges : Texts → List ℕ → Verdict → Answer → Type 0
Judges texts name verdict given = (given ≡ verdict_answer texts name verdict) ⊎ (given ≡ memory_answer texts)

-- a fault was told, or memory was wanting for its message
pub judges_fault : (texts : Texts) (name : List ℕ) (verdict : Verdict) (told : Told) (halt : Halt)
    → verdict ≡ report.Refuses told
    → (status_code halt.status ≢ 5 → halt_answer texts halt ≡ file_answer texts name told)
    → (status_code halt.status ≡ 5 → halt_answer texts halt ≡ memory_answer texts)
    → Judges texts name verdict (halt_answer texts halt)
judges_fault texts name verdict told halt is answer memory = elim (eqb_tells (status_code halt.status) 5) [
  | inl five ↦ inr (memory five.1)
  | inr other ↦ inl (answer other.1 ∙ ap (verdict_answer texts name) (sym is))
]

-- behind the last file, whose lines were all taken, stands the verdict
pub runs_to_verdict : {R : Type 0} {text : R → List ℕ} (context : RunContext) (name : List ℕ)
    (report : Report) {has_taken : List (List ℕ) → Type 0} {all : Unit {0}} (before now : Shown) (old new : Taken)
    (result : Result R Halt)
    → ReadsTo context name report has_taken before now old new (Ok all)
    → ((taken : List (List ℕ)) → has_taken taken
    → Judges (texts_of context.texts) name (report.verdict taken) (answer_of text (texts_of context.texts) result))
    → status_of result ≢ 4
    → RunsReady text context (name ∷ []) (one_file name report) before now old new result
runs_to_verdict {text = text} context name report before now old new result read judges other =
    let texts = texts_of context.texts in
    let same : new.faults ≡ old.faults = read.sound (λ four. omega (arith, four)) in
    record {
      ran =
          λ last. ran_on texts (bounds_of context.limits) before.files last name [] report
          (λ lines. Ends (report.verdict lines)) before.moment now.moment now.moment old.written new.written
          read.end read.halts.0 (answer_of text texts result) read.read read.halts.1.0 read.written
          (refl, judges read.halts.0 read.halts.1.1);
      files = read.files;
      unwritten = λ four. absurd (other four);
      sound = λ _. same;
    }

-- a document whose bytes weren't given ends the run, and behind one that was given stands the verdict
pub runs_unread : {R : Type 0} {text : R → List ℕ} (context : RunContext) (name : List ℕ) (names : List (List ℕ))
    (next : List ℕ → Plan) (before now : Shown) (out : Taken) (halt : Halt)
    → WholeReadTo context name before now (Err halt)
    → RunsReady {R = R} text context (name ∷ names) (Document name next) before now out out (Err halt)
runs_unread context name names next before now out halt read =
    runs_quiet context (name ∷ names) (Document name next) before now out (Err halt)
    (λ last. ran_unread (texts_of context.texts) (bounds_of context.limits) before.files last name names next
    before.moment
    now.moment out.written
    read.end (halt_answer (texts_of context.texts) halt) read.read read.gives.0 read.gives.1)
    read.files read.no_write

pub runs_to_judgement : {R : Type 0} {text : R → List ℕ} (context : RunContext) (name : List ℕ)
    (verdict : List ℕ → Verdict)
    (bytes : List ℕ) (before now : Shown) (out : Taken) (result : Result R Halt)
    → WholeReadTo context name before now (Ok bytes)
    → Judges (texts_of context.texts) name (verdict bytes) (answer_of text (texts_of context.texts) result)
    → status_of result ≢ 4
    → RunsReady text context (name ∷ []) (one_document name verdict) before now out out result
runs_to_judgement {text = text} context name verdict bytes before now out result read judges other =
    runs_quiet context (name ∷ []) (one_document name verdict) before now out result
    (λ last. ran_on_with (texts_of context.texts) (bounds_of context.limits) before.files last name []
    (λ bytes. Ends (verdict bytes)) before.moment now.moment now.moment out.written
    read.end bytes (answer_of text (texts_of context.texts) result) read.read read.gives (refl, judges))
    read.files other
