-- The ends of reading a file.
use Rattle.std.proofs.Common.{◌≡◌, ◌≢◌, ◌↔◌, inl, inr, subst, ℕ, List, [], ◌++◌, length, take, min, nat_le, ◌<◌, ◌≤◌}
use Rattle.std.proofs.Common.{take_all, length-take, take-take, true, false, Option, Some, None, Result, Ok, Err}
use Rattle.std.proofs.Common.{IsSome, refl, ap, sym, ◌∙◌, append-nil, arith}
use Rattle.std.proofs.lemmas.Bool.{leb-false, leb-true}
use Rattle.std.proofs.lemmas.Bool.Decides.{eqb_tells}
use Rattle.std.specs.Option.{option_or}
use Rattle.std.specs.Io.KnownBytes.{append_known}
use Rattle.hp_outside.specs.declared.store.OpenFault.{OpenFault}
use Rattle.hp_outside.specs.declared.store.OpenFault.TheVariants as opening
use Rattle.hp_outside.specs.Faults.{Faulted}
use Rattle.hp_outside.specs.Folder.{Folder, file_of}
use Rattle.hp_outside.specs.Lines.{lines_of}
use Rattle.hp_outside.specs.Taken.{WhereTold}
use Rattle.command_frame.specs.declared.lines.LinesStop.{LinesStop}
use Rattle.command_frame.specs.declared.lines.LinesStop.TheVariants.{AtLine, ReadFailed, WriteFailed, NoMemory}
use Rattle.command_frame.specs.Told.{Told}
use Rattle.command_frame.specs.Report.{Report, written}
use Rattle.command_frame.specs.FirstFault.{Bounds, Refusal, end_refusal, first_fault, line_faults}
use Rattle.command_frame.specs.Moment.{Moment, Opened}
use Rattle.command_frame.specs.FileRead.{Calls, EndsAt, EndsIn, FileEnd, FileRead, GoodFront, Passed, PassedWhole}
use Rattle.command_frame.specs.FileRead.{StoppedBefore, Wanting, end_answer, end_output}
use Rattle.command_frame.specs.LinesRun.{LinesRun, end_of}
use Rattle.command_frame.specs.declared.halt.Halt.{Halt}
use Rattle.command_frame.specs.Answer.{memory_answer}
use Rattle.command_frame.specs.Halts.{halt_answer, status_code}
use Rattle.command_frame.specs.Outcome.{HaltsAt, IsStop, end_of_open}
use Rattle.command_frame.specs.Texts.{Texts}
use Rattle.command_frame.proofs.OutputLemmas.{append_nothing}

-- neither of two is there
first_none : (first second : Option Refusal) → option_or first second ≡ None → first ≡ None
first_none None second is = refl
first_none (Some refusal) second is = absurd (cc)

pub stopped_front : {bounds : Bounds} {report : Report} {bytes : List ℕ} {left : Option (List ℕ)} {taken : List
    (List ℕ)}
    → StoppedBefore bounds report bytes left taken → GoodFront bounds report bytes taken
stopped_front before =
    record { more = lines_of (before.kept ++ before.unread); lines_are = before.lines_are; no_fault = before.no_fault }

passed_front : (bounds : Bounds) (report : Report) (bytes : List ℕ) (taken : List (List ℕ))
    → PassedWhole bounds report bytes taken → GoodFront bounds report bytes taken
passed_front bounds report bytes taken whole = record {
  more = [];
  lines_are = sym whole.lines_are ∙ sym (append-nil taken);
  no_fault = ap (λ ls. first_fault 1 (line_faults bounds report (length bytes) [] ls)) whole.lines_are
      ∙ first_none (first_fault 1 (line_faults bounds report (length bytes) [] (lines_of bytes)))
      (end_refusal report (length bytes) (lines_of bytes)) whole.no_fault;
}

-- however lines stopped, those that were taken are a front without a fault
pub any_front : {F : Type 0} (told : F → Told) (bounds : Bounds) (report : Report) (bytes : List ℕ)
    (left : Option (List ℕ)) (result : Result (Unit {0}) (LinesStop F)) (taken : List (List ℕ)) (count : ℕ)
    → EndsAt bounds report bytes left (end_of told result taken count) → GoodFront bounds report bytes taken
any_front told bounds report bytes left (Ok all) taken count ends = passed_front bounds report bytes taken ends
any_front told bounds report bytes left (Err (AtLine number fault)) taken count ends = ends.front
any_front told bounds report bytes left (Err ReadFailed) taken count ends = stopped_front ends
any_front told bounds report bytes left (Err WriteFailed) taken count ends = ends
any_front told bounds report bytes left (Err NoMemory) taken count ends = ends

-- a front of a front
pub take_take : (more count : ℕ) (bytes : List ℕ) → take more (take count bytes) ≡ take (min more count) bytes
take_take more count bytes =
    elim (nat_le more count) as
    (λ b. nat_le more count ≡ b → take more (take count bytes) ≡ take (min more count) bytes) [
      | true ↦ λ is.
          let less : more ≤ count = leb-true _ _ is in
          let least : more ≡ min more count = omega (arith, less) in
          take-take more count bytes less ∙ ap (λ n. take n bytes) least
      | false ↦ λ is.
          let less : count < more = leb-false _ _ is in
          let least : count ≡ min more count = omega (arith, less) in
          take_all more (take count bytes) (omega (arith, length-take count bytes, less)) ∙ ap (λ n. take n bytes) least
    ] refl

-- a front of what lines gave
pub output_front : {F : Type 0} (told : F → Told) (report : Report) (result : Result (Unit {0}) (LinesStop F))
    (taken : List (List ℕ)) (count more : ℕ)
    → (front : ℕ) × (take more (end_output report (end_of told result taken count)) ≡ take front (written report taken))
output_front told report (Ok all) taken count more = (more, refl)
output_front told report (Err (AtLine number fault)) taken count more = (more, refl)
output_front told report (Err ReadFailed) taken count more = (more, refl)
output_front told report (Err WriteFailed) taken count more =
    (min more count, take_take more count (written report taken))
output_front told report (Err NoMemory) taken count more = (more, refl)

-- a file that wasn't opened
open_told : (bounds : Bounds) (report : Report) (file left : Option (List ℕ)) (fault : OpenFault)
    (result : Result (Unit {0}) OpenFault)
    → result ≡ Err fault → ((result ≡ Err opening.Absent) ↔ (file ≡ None))
    → EndsIn bounds report file left (end_of_open fault)
open_told bounds report None left opening.Absent result is tells = tt
open_told bounds report None left opening.Failed result is tells = let other = tells.1 refl in absurd (cc)
open_told bounds report (Some bytes) left opening.Absent result is tells = let other = tells.0 is in absurd (cc)
open_told bounds report (Some bytes) left opening.Failed result is tells = tt

-- no line was taken
none_taken : (bounds : Bounds) (report : Report) (file left : Option (List ℕ))
    → EndsIn bounds report file left (Wanting [])
none_taken bounds report None left = refl
none_taken bounds report (Some bytes) left = record { more = lines_of bytes; lines_are = refl; no_fault = refl }

open_calls : (files : Option Folder) (before now : Moment) (fault : OpenFault) → Opened before now false
    → (fault ≡ opening.Absent → files ≡ None → Faulted before.faults now.faults)
    → (fault ≡ opening.Failed → Faulted before.faults now.faults) → Calls files before now (end_of_open fault)
open_calls files before now opening.Absent opened absent failed = (opened, absent refl)
open_calls files before now opening.Failed opened absent failed = (opened, failed refl)

open_output : (report : Report) (fault : OpenFault) → end_output report (end_of_open fault) ≡ []
open_output report opening.Absent = refl
open_output report opening.Failed = refl

open_stops : (fault : OpenFault) → IsStop (end_of_open fault)
open_stops opening.Absent = tt
open_stops opening.Failed = tt

pub unopened_end : (texts : Texts) (bounds : Bounds) (files : Option Folder) (name : List ℕ) (report : Report)
    (has : List (List ℕ) → Type 0) (before now : Moment) (old : Option (List ℕ))
    (fault : OpenFault) (result : Result (Unit {0}) OpenFault) (halt : Halt) → result ≡ Err fault
    → WhereTold files (λ folder. (result ≡ Err opening.Absent) ↔ (file_of folder name ≡ None)) → Opened before now false
    → (fault ≡ opening.Absent → files ≡ None → Faulted before.faults now.faults)
    → (fault ≡ opening.Failed → Faulted before.faults now.faults)
    → (status_code halt.status ≢ 5 → halt_answer texts halt ≡ end_answer texts name (end_of_open fault))
    → (status_code halt.status ≡ 5 → halt_answer texts halt ≡ memory_answer texts)
    → (end : FileEnd)
    × (FileRead bounds files name report before now end × HaltsAt texts name has end (Err halt)
    × (old ≡ append_known old (end_output report end)))
unopened_end texts bounds files name report has before now old fault result halt is tells opened absent failed answer
    memory =
    elim (eqb_tells (status_code halt.status) 5) [
      | inl five ↦ (
        Wanting [],
        (
          record {
            told = λ folder known. none_taken bounds report (file_of folder name) now.left;
            calls = opened.opens;
          },
          (tt, memory five.1),
          sym (append_nothing old),
        ),
      )
      | inr other ↦ (
        end_of_open fault,
        (
          record {
            told =
                λ folder known. open_told bounds report (file_of folder name) now.left fault result is
                (tells folder known);
            calls = open_calls files before now fault opened absent failed;
          },
          (open_stops fault, answer other.1),
          sym (ap (append_known old) (open_output report fault) ∙ append_nothing old),
        ),
      )
    ]

-- from the file's bytes, which the store has left once it is opened, to the named file
file_told : (bounds : Bounds) (report : Report) (file start left : Option (List ℕ)) (end : FileEnd) → start ≡ file
    → IsSome file → WhereTold start (λ bytes. EndsAt bounds report bytes left end)
    → EndsIn bounds report file left end
file_told bounds report None start left end is some told = absurd (cc)
file_told bounds report (Some bytes) start left end is some told = told bytes is

-- all lines of a file were taken
pub passed_end : (texts : Texts) (bounds : Bounds) (files : Option Folder) (name : List ℕ) (report : Report)
    (has : List (List ℕ) → Type 0) (before now : Moment) (start old new : Option (List ℕ)) (taken : List (List ℕ))
    → LinesRun bounds report start now.left old new [] (Passed taken) → has taken
    → WhereTold files (λ folder. start ≡ file_of folder name) → WhereTold files (λ folder. IsSome (file_of folder name))
    → Opened before now true → now.faults ≡ before.faults → WhereTold now.left (λ left. left ≡ [])
    → (end : FileEnd)
    × (FileRead bounds files name report before now end × HaltsAt texts name has end (Ok tt)
    × (new ≡ append_known old (end_output report end)))
passed_end texts bounds files name report has before now start old new taken run has_taken start_is found opened faults
    ended = (
      Passed taken,
      (
        record {
          told = λ folder known. file_told bounds report (file_of folder name) start now.left (Passed taken)
              (start_is folder known) (found folder known) run.told;
          calls = (opened, faults, ended);
        },
        (taken, (refl, has_taken)),
        run.gained.written ∙ ap (append_known old) (sym (append-nil run.gained.early) ∙ run.gained.all),
      ),
    )

-- the lines of a file weren't all taken
stop_calls : {F : Type 0} (told : F → Told) (files : Option Folder) (before now : Moment) (stop : LinesStop F)
    (taken : List (List ℕ)) (count : ℕ)
    → Opened before now true
    → (stop ≡ ReadFailed → Faulted before.faults now.faults)
    → (stop ≢ ReadFailed → stop ≢ WriteFailed → now.faults ≡ before.faults)
    → Calls files before now (end_of told (Err stop) taken count)
stop_calls told files before now (AtLine number fault) taken count opened failed sound =
    (opened, sound (λ is. absurd (cc)) (λ is. absurd (cc)))
stop_calls told files before now ReadFailed taken count opened failed sound = (opened, failed refl)
stop_calls told files before now WriteFailed taken count opened failed sound = opened.opens
stop_calls told files before now NoMemory taken count opened failed sound = opened.opens

stop_stops : {F : Type 0} (told : F → Told) (stop : LinesStop F) (taken : List (List ℕ)) (count : ℕ)
    → IsStop (end_of told (Err stop) taken count)
stop_stops told (AtLine number fault) taken count = tt
stop_stops told ReadFailed taken count = tt
stop_stops told WriteFailed taken count = tt
stop_stops told NoMemory taken count = tt

stop_output : {F : Type 0} (told : F → Told) (report : Report) (stop : LinesStop F) (taken : List (List ℕ)) (count : ℕ)
    → (stop ≢ WriteFailed) → end_output report (end_of told (Err stop) taken count) ≡ written report taken
stop_output told report (AtLine number fault) taken count wrote = refl
stop_output told report ReadFailed taken count wrote = refl
stop_output told report WriteFailed taken count wrote = absurd (wrote refl)
stop_output told report NoMemory taken count wrote = refl

pub stopped_end : {F : Type 0} (tells : F → Told) (texts : Texts) (bounds : Bounds) (files : Option Folder)
    (name : List ℕ) (report : Report) (has : List (List ℕ) → Type 0) (before now : Moment)
    (start old new : Option (List ℕ)) (stop : LinesStop F) (result : Result (Unit {0}) (LinesStop F))
    (taken : List (List ℕ)) (count : ℕ) (halt : Halt)
    → result ≡ Err stop
    → LinesRun bounds report start now.left old new [] (end_of tells result taken count)
    → WhereTold files (λ folder. start ≡ file_of folder name) → WhereTold files (λ folder. IsSome (file_of folder name))
    → Opened before now true → (stop ≡ ReadFailed → Faulted before.faults now.faults)
    → (stop ≢ ReadFailed → stop ≢ WriteFailed → now.faults ≡ before.faults)
    → (status_code halt.status ≢ 5
    → halt_answer texts halt ≡ end_answer texts name (end_of tells (Err stop) taken count))
    → (status_code halt.status ≡ 5 → halt_answer texts halt ≡ memory_answer texts)
    → (stop ≡ WriteFailed → status_code halt.status ≡ 4)
    → (end : FileEnd)
    × (FileRead bounds files name report before now end × HaltsAt texts name has end (Err halt)
    × (new ≡ append_known old (end_output report end)))
stopped_end {F} tells texts bounds files name report has before now start old new stop result taken count halt is runs
    start_is found opened failed sound answer memory write =
    let run = subst (λ r. LinesRun bounds report start now.left old new [] (end_of tells r taken count)) is runs in
    let gained = run.gained.written ∙ ap (append_known old) (sym (append-nil run.gained.early) ∙ run.gained.all) in
    elim (eqb_tells (status_code halt.status) 5) [
      | inl five ↦ (
        Wanting taken,
        (
          record {
            told =
                λ folder known. file_told bounds report (file_of folder name) start now.left (Wanting taken)
                (start_is folder known) (found folder known)
                (λ bytes is_known. any_front tells bounds report bytes now.left (Err stop) taken count
                (run.told bytes is_known));
            calls = opened.opens;
          },
          (tt, memory five.1),
          gained
              ∙ ap (append_known old)
              (stop_output tells report stop taken count
              (λ failed_write. let four = write failed_write in absurd (omega (arith, four, five.1)))),
        ),
      )
      | inr other ↦ (
        end_of tells (Err stop) taken count,
        (
          record {
            told =
                λ folder known. file_told bounds report (file_of folder name) start now.left
                (end_of tells (Err stop) taken count) (start_is folder known) (found folder known) run.told;
            calls = stop_calls tells files before now stop taken count opened failed sound;
          },
          (stop_stops tells stop taken count, answer other.1),
          gained,
        ),
      )
    ]
