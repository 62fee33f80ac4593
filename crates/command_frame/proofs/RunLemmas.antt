-- From the reading of files to the run of a plan.
use Rattle.std.proofs.Common.{◌≡◌, ℕ, List, [], ◌∷◌, ◌++◌, append_assoc, Option, Some, None, refl, ap, sym, subst, ◌∙◌}
use Rattle.std.specs.Io.KnownBytes.{append_known}
use Rattle.hp_outside.specs.Folder.{Folder, file_of}
use Rattle.command_frame.specs.Answer.{Answer, after, memory_answer}
use Rattle.command_frame.specs.FirstFault.{Bounds}
use Rattle.command_frame.specs.Outcome.{IsStop}
use Rattle.command_frame.specs.Plan.{Plan, Lines}
use Rattle.command_frame.specs.Report.{Report, written}
use Rattle.command_frame.specs.Moment.{Moment}
use Rattle.command_frame.specs.FileRead.{Absent, CannotOpen, CannotRead, EndsIn, FileEnd, FileRead, Passed, Refused}
use Rattle.command_frame.specs.FileRead.{Unopened, Unwritten, Wanting, end_answer, end_output}
use Rattle.command_frame.specs.Run.{Ran, RanTo}
use Rattle.command_frame.specs.Texts.{Texts}
use Rattle.command_frame.proofs.OutputLemmas.{append_further, append_nothing}

-- a file that wasn't opened for want of memory
unopened_told : (bounds : Bounds) (report : Report) (file left : Option (List ℕ))
    → EndsIn bounds report file left Unopened
unopened_told bounds report None left = tt
unopened_told bounds report (Some bytes) left = tt

pub ran_unopened : (texts : Texts) (bounds : Bounds) (files : Option Folder) (last name : List ℕ)
    (names : List (List ℕ)) (report : Report) (next : List (List ℕ) → Plan) (now : Moment) (out : Option (List ℕ))
    (answer : Answer)
    → answer ≡ memory_answer texts
    → (early : List ℕ)
    × ((out ≡ append_known out early)
    × Ran texts bounds files last (name ∷ names) (Lines name report next) now now (after early answer))
ran_unopened texts bounds files last name names report next now out answer is = (
  [],
  (
    sym (append_nothing out),
    (
      refl,
      (
        Unopened,
        (
          now,
          record { told = λ folder known. unopened_told bounds report (file_of folder name) now.left; calls = refl },
          (ap (after []) is, refl),
        ),
      ),
    ),
  ),
)

-- a file of which not all lines were taken
goes_no_further : (texts : Texts) (bounds : Bounds) (files : Option Folder) (last name : List ℕ) (names : List (List ℕ))
    (report : Report) (next : List (List ℕ) → Plan) (before now : Moment) (end : FileEnd) (answer : Answer)
    → FileRead bounds files name report before now end → IsStop end → answer ≡ end_answer texts name end
    → Ran texts bounds files last (name ∷ names) (Lines name report next) before now
    (after (end_output report end) answer)
goes_no_further texts bounds files last name names report next before now Unopened answer read stops is = absurd stops
goes_no_further texts bounds files last name names report next before now Absent answer read stops is =
    (refl, (Absent, (now, read, (ap (after []) is, refl))))
goes_no_further texts bounds files last name names report next before now CannotOpen answer read stops is =
    (refl, (CannotOpen, (now, read, (ap (after []) is, refl))))
goes_no_further texts bounds files last name names report next before now (CannotRead taken) answer read stops is =
    (refl, (CannotRead taken, (now, read, (ap (after (written report taken)) is, refl))))
goes_no_further texts bounds files last name names report next before now (Refused taken number told) answer read stops
    is =
    (refl, (Refused taken number told, (now, read, (ap (after (written report taken)) is, refl))))
goes_no_further texts bounds files last name names report next before now (Wanting taken) answer read stops is =
    (refl, (Wanting taken, (now, read, (ap (after (written report taken)) is, refl))))
goes_no_further texts bounds files last name names report next before now (Unwritten taken count) answer read stops is =
    (refl, (Unwritten taken count, (now, read, (ap (after (end_output report (Unwritten taken count))) is, refl))))
goes_no_further texts bounds files last name names report next before now (Passed taken) answer read stops is = absurd
    stops

pub ran_halted : (texts : Texts) (bounds : Bounds) (files : Option Folder) (last name : List ℕ) (names : List (List ℕ))
    (report : Report) (next : List (List ℕ) → Plan) (before now : Moment) (old new : Option (List ℕ)) (end : FileEnd)
    (answer : Answer)
    → FileRead bounds files name report before now end → IsStop end → answer ≡ end_answer texts name end
    → new ≡ append_known old (end_output report end)
    → (early : List ℕ)
    × ((new ≡ append_known old early)
    × Ran texts bounds files last (name ∷ names) (Lines name report next) before now (after early answer))
ran_halted texts bounds files last name names report next before now old new end answer read stops is gained = (
  end_output report end,
  (gained, goes_no_further texts bounds files last name names report next before now end answer read stops is),
)

-- a file of which all lines were taken, and the rest of the run
pub ran_on : (texts : Texts) (bounds : Bounds) (files : Option Folder) (last name : List ℕ) (names : List (List ℕ))
    (report : Report) (next : List (List ℕ) → Plan) (before mid now : Moment) (old new : Option (List ℕ))
    (end : FileEnd)
    (taken : List (List ℕ)) (answer : Answer) → FileRead bounds files name report before mid end → end ≡ Passed taken
    → new ≡ append_known old (end_output report end)
    → Ran texts bounds files name names (next taken) mid now answer
    → (early : List ℕ)
    × ((new ≡ append_known old early)
    × Ran texts bounds files last (name ∷ names) (Lines name report next) before now (after early answer))
ran_on texts bounds files last name names report next before mid now old new end taken answer read is gained rest = (
  written report taken,
  (
    gained ∙ ap (λ e. append_known old (end_output report e)) is,
    (
      refl,
      (Passed taken, (mid, subst (λ e. FileRead bounds files name report before mid e) is read, (answer, refl, rest))),
    ),
  ),
)

-- the same, where the rest of the run wrote more early
pub ran_on_to : (texts : Texts) (bounds : Bounds) (files : Option Folder) (last name : List ℕ) (names : List (List ℕ))
    (report : Report) (next : List (List ℕ) → Plan) (before mid now : Moment) (old middle new : Option (List ℕ))
    (end : FileEnd)
    (taken : List (List ℕ)) (answer : Answer) → FileRead bounds files name report before mid end → end ≡ Passed taken
    → middle ≡ append_known old (end_output report end)
    → RanTo texts bounds files name names (next taken) mid now middle new answer
    → RanTo texts bounds files last (name ∷ names) (Lines name report next) before now old new answer
ran_on_to texts bounds files last name names report next before mid now old middle new end taken answer read is gained
    rest = (
      written report taken ++ rest.0,
      (
        rest.1.0
            ∙ (ap (λ known. append_known known rest.0) (gained ∙ ap (λ e. append_known old (end_output report e)) is)
            ∙ append_further old (written report taken) rest.0),
        (
          refl,
          (
            Passed taken,
            (
              mid,
              subst (λ e. FileRead bounds files name report before mid e) is read,
              (
                after rest.0 answer,
                ap (λ bytes. record answer { output = bytes })
                    (append_assoc (written report taken) rest.0 answer.output),
                rest.1.1,
              ),
            ),
          ),
        ),
      ),
    )
