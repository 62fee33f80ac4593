-- The ends of reading a document, and what follows for a run.
use Rattle.std.proofs.Common.{◌≡◌, ◌≢◌, ◌↔◌, ◌+◌, ◌<◌, ◌≤◌, ℕ, nat_lt, List, [], ◌∷◌, length, true, false, Option, Some}
use Rattle.std.proofs.Common.{None, Result, Ok, Err, IsSome, refl, sym, subst, inl, inr, arith}
use Rattle.std.proofs.lemmas.Bool.{false_from_ne_true, lt-ltb, ltb-true}
use Rattle.std.proofs.lemmas.Bool.Decides.{eqb_tells}
use Rattle.hp_outside.specs.declared.store.OpenFault.{OpenFault}
use Rattle.hp_outside.specs.declared.store.OpenFault.TheVariants as opening
use Rattle.hp_outside.specs.declared.whole.WholeFault.{WholeFault}
use Rattle.hp_outside.specs.declared.whole.WholeFault.TheVariants as reading
use Rattle.hp_outside.specs.Faults.{Faulted}
use Rattle.hp_outside.specs.Folder.{Folder, file_of}
use Rattle.hp_outside.specs.Taken.{WhereTold}
use Rattle.hp_outside.specs.Whole.{WholeAnswer}
use Rattle.command_frame.specs.declared.halt.Halt.{Halt}
use Rattle.command_frame.specs.Answer.{Answer, memory_answer}
use Rattle.command_frame.specs.FirstFault.{Bounds, input_too_long}
use Rattle.command_frame.specs.WholeFault.{whole_fault}
use Rattle.command_frame.specs.Halts.{halt_answer, status_code}
use Rattle.command_frame.specs.Moment.{Moment, Opened}
use Rattle.command_frame.specs.FileRead.{end_answer}
use Rattle.command_frame.specs.DocumentRead.{Absent, CannotOpen, CannotRead, DocumentCalls, DocumentEnd, DocumentRead}
use Rattle.command_frame.specs.DocumentRead.{EndsWhere, TooLong, Unopened, Wanting, Whole, document_end_answer}
use Rattle.command_frame.specs.Outcome.{GivesWhole, IsUnread, end_of_document, end_of_open, end_of_whole}
use Rattle.command_frame.specs.Plan.{Document, Plan}
use Rattle.command_frame.specs.Run.{Ran, RanTo}
use Rattle.command_frame.specs.Texts.{Texts}
use Rattle.command_frame.proofs.OutputLemmas.{append_nothing}

-- the size of a file tells whether it has a fault
pub long_has_fault : (bounds : Bounds) (bytes : List ℕ) → bounds.input < length bytes
    → whole_fault bounds bytes ≡ Some input_too_long
long_has_fault bounds bytes long =
    let past : nat_lt bounds.input (length bytes) ≡ true = lt-ltb _ _ long in rw past refl

pub short_has_none : (bounds : Bounds) (bytes : List ℕ) → length bytes ≤ bounds.input → whole_fault bounds bytes ≡ None
short_has_none bounds bytes short =
    let within : nat_lt bounds.input (length bytes) ≡ false =
    false_from_ne_true _
    (λ past. let long : bounds.input < length bytes = ltb-true _ _ past in omega (arith, long, short)) in
    rw within refl

-- a document that wasn't opened
wanting_where : (bounds : Bounds) (file : Option (List ℕ)) → EndsWhere bounds file Wanting
wanting_where bounds None = tt
wanting_where bounds (Some bytes) = tt

unopened_where : (bounds : Bounds) (file : Option (List ℕ)) → EndsWhere bounds file Unopened
unopened_where bounds None = tt
unopened_where bounds (Some bytes) = tt

open_where : (bounds : Bounds) (file : Option (List ℕ)) (fault : OpenFault) (result : Result (Unit {0}) OpenFault)
    → result ≡ Err fault → ((result ≡ Err opening.Absent) ↔ (file ≡ None))
    → EndsWhere bounds file (end_of_document fault)
open_where bounds None opening.Absent result is tells = tt
open_where bounds None opening.Failed result is tells = let other = tells.1 refl in absurd (cc)
open_where bounds (Some bytes) opening.Absent result is tells = let other = tells.0 is in absurd (cc)
open_where bounds (Some bytes) opening.Failed result is tells = tt

open_calls : (files : Option Folder) (before now : Moment) (fault : OpenFault) → Opened before now false
    → (fault ≡ opening.Absent → files ≡ None → Faulted before.faults now.faults)
    → (fault ≡ opening.Failed → Faulted before.faults now.faults) → DocumentCalls files before now
    (end_of_document fault)
open_calls files before now opening.Absent opened absent failed = (opened, absent refl)
open_calls files before now opening.Failed opened absent failed = (opened, failed refl)

open_unread : (texts : Texts) (name : List ℕ) (fault : OpenFault) (answer : Answer)
    → answer ≡ end_answer texts name (end_of_open fault)
    → IsUnread (end_of_document fault) × (answer ≡ document_end_answer texts name (end_of_document fault))
open_unread texts name opening.Absent answer is = (tt, is)
open_unread texts name opening.Failed answer is = (tt, is)

-- memory was wanting, or the bytes weren't given for another reason
document_ended : (texts : Texts) (bounds : Bounds) (files : Option Folder) (name : List ℕ) (before now : Moment)
    (halt : Halt)
    → now.opens ≡ before.opens + 1 → (status_code halt.status ≡ 5 → halt_answer texts halt ≡ memory_answer texts)
    → (status_code halt.status ≢ 5
    → (end : DocumentEnd) × (DocumentRead bounds files name before now end × GivesWhole texts name end (Err halt)))
    → (end : DocumentEnd) × (DocumentRead bounds files name before now end × GivesWhole texts name end (Err halt))
document_ended texts bounds files name before now halt opens memory unread =
    elim (eqb_tells (status_code halt.status) 5) [
      | inl five ↦ (
        Wanting,
        (
          record { told = λ folder known. wanting_where bounds (file_of folder name); calls = opens },
          (tt, memory five.1),
        ),
      )
      | inr other ↦ unread other.1
    ]

pub document_unopened : (texts : Texts) (bounds : Bounds) (files : Option Folder) (name : List ℕ) (before now : Moment)
    (fault : OpenFault) (result : Result (Unit {0}) OpenFault) (halt : Halt)
    → result ≡ Err fault
    → WhereTold files (λ folder. (result ≡ Err opening.Absent) ↔ (file_of folder name ≡ None)) → Opened before now false
    → (fault ≡ opening.Absent → files ≡ None → Faulted before.faults now.faults)
    → (fault ≡ opening.Failed → Faulted before.faults now.faults)
    → (status_code halt.status ≢ 5 → halt_answer texts halt ≡ end_answer texts name (end_of_open fault))
    → (status_code halt.status ≡ 5 → halt_answer texts halt ≡ memory_answer texts)
    → (end : DocumentEnd) × (DocumentRead bounds files name before now end × GivesWhole texts name end (Err halt))
document_unopened texts bounds files name before now fault result halt is tells opened absent failed answer memory =
    document_ended texts bounds files name before now halt opened.opens memory (λ other. (
      end_of_document fault,
      (
        record {
          told =
              λ folder known. open_where bounds (file_of folder name) fault result is (tells folder known);
          calls = open_calls files before now fault opened absent failed;
        },
        open_unread texts name fault (halt_answer texts halt) (answer other),
      ),
    ))

-- the bytes of an open document weren't given
fault_where : (bounds : Bounds) (file start : Option (List ℕ)) (fault : WholeFault) → start ≡ file → IsSome file
    → WhereTold start (λ bytes. WholeAnswer bounds.input bytes (Err fault))
    → EndsWhere bounds file (end_of_whole fault)
fault_where bounds None start fault is some told = absurd (cc)
fault_where bounds (Some bytes) start reading.ReadFailed is some told = tt
fault_where bounds (Some bytes) start reading.InputTooLong is some told = long_has_fault bounds bytes (told bytes is)
fault_where bounds (Some bytes) start reading.NoMemory is some told = tt

fault_calls : (files : Option Folder) (before now : Moment) (fault : WholeFault) → Opened before now true
    → (fault ≡ reading.ReadFailed → Faulted before.faults now.faults)
    → (fault ≢ reading.ReadFailed → now.faults ≡ before.faults) → DocumentCalls files before now (end_of_whole fault)
fault_calls files before now reading.ReadFailed opened failed sound = (opened, failed refl)
fault_calls files before now reading.InputTooLong opened failed sound = (opened, sound (λ is. absurd (cc)))
fault_calls files before now reading.NoMemory opened failed sound = opened.opens

fault_unread : (fault : WholeFault) → IsUnread (end_of_whole fault)
fault_unread reading.ReadFailed = tt
fault_unread reading.InputTooLong = tt
fault_unread reading.NoMemory = tt

pub document_stopped : (texts : Texts) (bounds : Bounds) (files : Option Folder) (name : List ℕ) (before now : Moment)
    (start : Option (List ℕ)) (fault : WholeFault) (halt : Halt)
    → WhereTold files (λ folder. start ≡ file_of folder name) → WhereTold files (λ folder. IsSome (file_of folder name))
    → WhereTold start (λ bytes. WholeAnswer bounds.input bytes (Err fault))
    → Opened before now true → (fault ≡ reading.ReadFailed → Faulted before.faults now.faults)
    → (fault ≢ reading.ReadFailed → now.faults ≡ before.faults)
    → (status_code halt.status ≢ 5 → halt_answer texts halt ≡ document_end_answer texts name (end_of_whole fault))
    → (status_code halt.status ≡ 5 → halt_answer texts halt ≡ memory_answer texts)
    → (end : DocumentEnd) × (DocumentRead bounds files name before now end × GivesWhole texts name end (Err halt))
document_stopped texts bounds files name before now start fault halt start_is found told opened failed sound answer
    memory =
    document_ended texts bounds files name before now halt opened.opens memory (λ other. (
      end_of_whole fault,
      (
        record {
          told =
              λ folder known. fault_where bounds (file_of folder name) start fault (start_is folder known)
              (found folder known) told;
          calls = fault_calls files before now fault opened failed sound;
        },
        (fault_unread fault, answer other),
      ),
    ))

-- all bytes of a document were given
whole_where : (bounds : Bounds) (file start : Option (List ℕ)) (whole : List ℕ) → start ≡ file → IsSome file
    → WhereTold start (λ bytes. WholeAnswer bounds.input bytes (Ok whole)) → EndsWhere bounds file (Whole whole)
whole_where bounds None start whole is some told = absurd (cc)
whole_where bounds (Some bytes) start whole is some told =
    let given = told bytes is in (given.0, short_has_none bounds bytes given.1)

pub document_given : (texts : Texts) (bounds : Bounds) (files : Option Folder) (name : List ℕ) (before now : Moment)
    (start : Option (List ℕ)) (whole : List ℕ)
    → WhereTold files (λ folder. start ≡ file_of folder name) → WhereTold files (λ folder. IsSome (file_of folder name))
    → WhereTold start (λ bytes. WholeAnswer bounds.input bytes (Ok whole))
    → Opened before now true → now.faults ≡ before.faults → WhereTold now.left (λ left. left ≡ [])
    → (end : DocumentEnd) × (DocumentRead bounds files name before now end × GivesWhole texts name end (Ok whole))
document_given texts bounds files name before now start whole start_is found told opened faults ended = (
  Whole whole,
  (
    record {
      told =
          λ folder known. whole_where bounds (file_of folder name) start whole (start_is folder known)
          (found folder known) told;
      calls = (opened, faults, ended);
    },
    refl,
  ),
)

-- nothing was written early
pub ran_quiet : (texts : Texts) (bounds : Bounds) (files : Option Folder) (last : List ℕ) (names : List (List ℕ))
    (plan : Plan) (before now : Moment) (out : Option (List ℕ)) (answer : Answer)
    → Ran texts bounds files last names plan before now answer
    → RanTo texts bounds files last names plan before now out out answer
ran_quiet texts bounds files last names plan before now out answer ran = ([], (sym (append_nothing out), ran))

-- a document whose bytes weren't given
goes_no_further : (texts : Texts) (bounds : Bounds) (files : Option Folder) (last name : List ℕ) (names : List (List ℕ))
    (next : List ℕ → Plan) (before now : Moment) (end : DocumentEnd) (answer : Answer)
    → DocumentRead bounds files name before now end → IsUnread end → answer ≡ document_end_answer texts name end
    → Ran texts bounds files last (name ∷ names) (Document name next) before now answer
goes_no_further texts bounds files last name names next before now Unopened answer read unread is = absurd unread
goes_no_further texts bounds files last name names next before now Absent answer read unread is =
    (refl, (Absent, (now, read, (is, refl))))
goes_no_further texts bounds files last name names next before now CannotOpen answer read unread is =
    (refl, (CannotOpen, (now, read, (is, refl))))
goes_no_further texts bounds files last name names next before now CannotRead answer read unread is =
    (refl, (CannotRead, (now, read, (is, refl))))
goes_no_further texts bounds files last name names next before now TooLong answer read unread is =
    (refl, (TooLong, (now, read, (is, refl))))
goes_no_further texts bounds files last name names next before now Wanting answer read unread is =
    (refl, (Wanting, (now, read, (is, refl))))
goes_no_further texts bounds files last name names next before now (Whole taken) answer read unread is = absurd unread

pub ran_unread : (texts : Texts) (bounds : Bounds) (files : Option Folder) (last name : List ℕ) (names : List (List ℕ))
    (next : List ℕ → Plan) (before now : Moment) (out : Option (List ℕ)) (end : DocumentEnd) (answer : Answer)
    → DocumentRead bounds files name before now end → IsUnread end → answer ≡ document_end_answer texts name end
    → RanTo texts bounds files last (name ∷ names) (Document name next) before now out out answer
ran_unread texts bounds files last name names next before now out end answer read unread is =
    ran_quiet texts bounds files last (name ∷ names) (Document name next) before now out answer
    (goes_no_further texts bounds files last name names next before now end answer read unread is)

-- a document that was given, and the rest of the run
pub ran_on_with : (texts : Texts) (bounds : Bounds) (files : Option Folder) (last name : List ℕ) (names : List (List ℕ))
    (next : List ℕ → Plan) (before mid now : Moment) (out : Option (List ℕ)) (end : DocumentEnd) (taken : List ℕ)
    (answer : Answer)
    → DocumentRead bounds files name before mid end → end ≡ Whole taken
    → Ran texts bounds files name names (next taken) mid now answer
    → RanTo texts bounds files last (name ∷ names) (Document name next) before now out out answer
ran_on_with texts bounds files last name names next before mid now out end taken answer read is rest =
    ran_quiet texts bounds files last (name ∷ names) (Document name next) before now out answer
    (refl, (Whole taken, (mid, subst (λ e. DocumentRead bounds files name before mid e) is read, rest)))

-- memory was wanting before a document was opened
pub ran_unopened_document : (texts : Texts) (bounds : Bounds) (files : Option Folder) (last name : List ℕ)
    (names : List (List ℕ)) (next : List ℕ → Plan) (now : Moment) (out : Option (List ℕ)) (answer : Answer)
    → answer ≡ memory_answer texts
    → RanTo texts bounds files last (name ∷ names) (Document name next) now now out out answer
ran_unopened_document texts bounds files last name names next now out answer is =
    ran_quiet texts bounds files last (name ∷ names) (Document name next) now now out answer (
      refl,
      (
        Unopened,
        (now, record { told = λ folder known. unopened_where bounds (file_of folder name); calls = refl }, (is, refl)),
      ),
    )
