-- At status 0 each file was read to its end.
use Rattle.std.proofs.Common.{◌≡◌, ℕ, List, [], ◌∷◌, Option, Some, None, IsSome, refl, ap, sym, subst, ◌∙◌, inl, inr}
use Rattle.std.proofs.Common.{arith}
use Rattle.hp_outside.specs.Folder.{Folder, file_of}
use Rattle.command_frame.specs.Report.{Report}
use Rattle.command_frame.specs.FirstFault.{Bounds}
use Rattle.command_frame.specs.Plan.{Document, Ends, Lines, Pieces, Plan}
use Rattle.command_frame.specs.Texts.{Texts}
use Rattle.command_frame.specs.Answer.{Answer}
use Rattle.command_frame.specs.Moment.{Moment}
use Rattle.command_frame.specs.Outside.{Outside}
use Rattle.command_frame.specs.FileRead as ending
use Rattle.command_frame.specs.FileRead.{EndsIn, FileEnd, FileRead}
use Rattle.command_frame.specs.DocumentRead as document
use Rattle.command_frame.specs.DocumentRead.{DocumentEnd, DocumentRead, EndsWhere}
use Rattle.command_frame.specs.ReadToEnd.{AreReadToEnd}
use Rattle.command_frame.specs.Run.{GoesOn, GoesOnWith, Ran}
use Rattle.command_frame.specs.Task.{Task, task_names}
use Rattle.command_frame.specs.WordsRan.{WordsRan}
use Rattle.command_frame.proofs.EndsLemmas.{TaskEnded, told_by}
use Rattle.command_frame.proofs.QuietLemmas.{fault_isnt_zero}

-- a file that was read is there
lines_found : (bounds : Bounds) (report : Report) (file left : Option (List ℕ)) (taken : List (List ℕ))
    → EndsIn bounds report file left (ending.Passed taken) → IsSome file
lines_found bounds report None left taken ends = absurd ends
lines_found bounds report (Some bytes) left taken ends = refl

whole_found : (bounds : Bounds) (file : Option (List ℕ)) (taken : List ℕ) → EndsWhere bounds file (document.Whole taken)
    → IsSome file
whole_found bounds None taken ends = absurd ends
whole_found bounds (Some bytes) taken ends = refl

-- behind a file that was read to its end
lines_to_end : (texts : Texts) (bounds : Bounds) (files : Option Folder) (name wanted : List ℕ) (names : List (List ℕ))
    (report : Report) (next : List (List ℕ) → Plan) (before mid now : Moment) (given : Answer) (end : FileEnd)
    → name ≡ wanted → FileRead bounds files wanted report before mid end
    → GoesOn texts wanted report end (λ lines answer. Ran texts bounds files wanted names (next lines) mid now answer)
    mid now given
    → given.status ≡ 0
    → ((taken : List (List ℕ)) (answer : Answer) → Ran texts bounds files wanted names (next taken) mid now answer
    → answer.status ≡ 0 → AreReadToEnd files names mid now)
    → AreReadToEnd files (name ∷ names) before now
lines_to_end texts bounds files name wanted names report next before mid now given ending.Unopened named read goes zero
    later = absurd (omega (arith, zero, ap (λ (a : Answer). a.status) goes.0))
lines_to_end texts bounds files name wanted names report next before mid now given ending.Absent named read goes zero
    later = absurd (omega (arith, zero, ap (λ (a : Answer). a.status) goes.0))
lines_to_end texts bounds files name wanted names report next before mid now given ending.CannotOpen named read goes
    zero later = absurd (omega (arith, zero, ap (λ (a : Answer). a.status) goes.0))
lines_to_end texts bounds files name wanted names report next before mid now given (ending.CannotRead taken) named read
    goes zero later = absurd (omega (arith, zero, ap (λ (a : Answer). a.status) goes.0))
lines_to_end texts bounds files name wanted names report next before mid now given (ending.Refused taken number told)
    named read goes zero later =
    absurd (fault_isnt_zero told.status (sym (ap (λ (a : Answer). a.status) goes.0) ∙ zero))
lines_to_end texts bounds files name wanted names report next before mid now given (ending.Wanting taken) named read
    goes zero later = absurd (omega (arith, zero, ap (λ (a : Answer). a.status) goes.0))
lines_to_end texts bounds files name wanted names report next before mid now given (ending.Unwritten taken count) named
    read goes zero later = absurd (omega (arith, zero, ap (λ (a : Answer). a.status) goes.0))
lines_to_end texts bounds files name wanted names report next before mid now given (ending.Passed taken) named read goes
    zero later = (
      mid,
      record {
        found =
            λ folder known. subst (λ n. IsSome (file_of folder n)) (sym named)
            (lines_found bounds report (file_of folder wanted) mid.left taken (read.told folder known));
        opened = read.calls.0;
        sound = read.calls.1;
        ended = read.calls.2;
      },
      later taken goes.0 goes.2 (sym (ap (λ (a : Answer). a.status) goes.1) ∙ zero),
    )

whole_to_end : (texts : Texts) (bounds : Bounds) (files : Option Folder) (name wanted : List ℕ) (names : List (List ℕ))
    (next : List ℕ → Plan) (before mid now : Moment) (given : Answer) (end : DocumentEnd)
    → name ≡ wanted → DocumentRead bounds files wanted before mid end
    → GoesOnWith texts wanted end (λ bytes answer. Ran texts bounds files wanted names (next bytes) mid now answer) mid
    now given
    → given.status ≡ 0
    → ((taken : List ℕ) (answer : Answer) → Ran texts bounds files wanted names (next taken) mid now answer
    → answer.status ≡ 0 → AreReadToEnd files names mid now)
    → AreReadToEnd files (name ∷ names) before now
whole_to_end texts bounds files name wanted names next before mid now given document.Unopened named read goes zero
    later = absurd (omega (arith, zero, ap (λ (a : Answer). a.status) goes.0))
whole_to_end texts bounds files name wanted names next before mid now given document.Absent named read goes zero later =
    absurd (omega (arith, zero, ap (λ (a : Answer). a.status) goes.0))
whole_to_end texts bounds files name wanted names next before mid now given document.CannotOpen named read goes zero
    later = absurd (omega (arith, zero, ap (λ (a : Answer). a.status) goes.0))
whole_to_end texts bounds files name wanted names next before mid now given document.CannotRead named read goes zero
    later = absurd (omega (arith, zero, ap (λ (a : Answer). a.status) goes.0))
whole_to_end texts bounds files name wanted names next before mid now given document.TooLong named read goes zero
    later = absurd (omega (arith, zero, ap (λ (a : Answer). a.status) goes.0))
whole_to_end texts bounds files name wanted names next before mid now given document.Wanting named read goes zero
    later = absurd (omega (arith, zero, ap (λ (a : Answer). a.status) goes.0))
whole_to_end texts bounds files name wanted names next before mid now given (document.Whole taken) named read goes zero
    later = (
      mid,
      record {
        found =
            λ folder known. subst (λ n. IsSome (file_of folder n)) (sym named)
            (whole_found bounds (file_of folder wanted) taken (read.told folder known));
        opened = read.calls.0;
        sound = read.calls.1;
        ended = read.calls.2;
      },
      later taken given goes zero,
    )

-- of a run at status 0
plan_to_end : (texts : Texts) (bounds : Bounds) (files : Option Folder) (last : List ℕ) (names : List (List ℕ))
    (plan : Plan) (before now : Moment) (given : Answer)
    → Ran texts bounds files last names plan before now given → given.status ≡ 0 → AreReadToEnd files names before now
plan_to_end texts bounds files last [] (Ends verdict) before now given ran zero = ran.0
plan_to_end texts bounds files last (name ∷ names) (Ends verdict) before now given ran zero = absurd ran
plan_to_end texts bounds files last [] (Pieces text) before now given ran zero = ran.0
plan_to_end texts bounds files last (name ∷ names) (Pieces text) before now given ran zero = absurd ran
plan_to_end texts bounds files last [] (Lines wanted report next) before now given ran zero = absurd ran
plan_to_end texts bounds files last (name ∷ names) (Lines wanted report next) before now given ran zero =
    lines_to_end texts bounds files name wanted names report next before ran.1.1.0 now given ran.1.0 ran.0 ran.1.1.1
    ran.1.1.2 zero
    (λ taken answer rest. plan_to_end texts bounds files wanted names (next taken) ran.1.1.0 now answer rest)
plan_to_end texts bounds files last [] (Document wanted next) before now given ran zero = absurd ran
plan_to_end texts bounds files last (name ∷ names) (Document wanted next) before now given ran zero =
    whole_to_end texts bounds files name wanted names next before ran.1.1.0 now given ran.1.0 ran.0 ran.1.1.1 ran.1.1.2
    zero
    (λ taken answer rest. plan_to_end texts bounds files wanted names (next taken) ran.1.1.0 now answer rest)

words_to_end : (texts : Texts) (bounds : Bounds) (files : Option Folder) (task : Option Task) (before now : Moment)
    (given : Answer)
    → WordsRan texts bounds files task before now given → given.status ≡ 0
    → AreReadToEnd files (task_names task) before now
words_to_end texts bounds files None before now given (inl memory) zero = memory.0
words_to_end texts bounds files None before now given (inr ran) zero = ran.0
words_to_end texts bounds files (Some task) before now given (inl memory) zero =
    absurd (omega (arith, zero, ap (λ (a : Answer). a.status) memory.1))
words_to_end texts bounds files (Some task) before now given (inr ran) zero =
    plan_to_end texts bounds files [] task.names task.plan before now given ran zero

pub to_end_by : {texts : Texts} {bounds : Bounds} {task : Option Task} {before
    now : Outside} {status : ℕ} {given : Answer}
    → TaskEnded texts bounds task before now status given
    → status ≡ 0 → AreReadToEnd before.store.files (task_names task) before.store.moment now.store.moment
to_end_by {texts} {bounds} {task} {before} {now} {status} {given} e zero =
    words_to_end texts bounds before.store.files task before.store.moment now.store.moment given e.ran
    (sym (told_by e (λ four. omega (arith, zero, four))) ∙ zero)
