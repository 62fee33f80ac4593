-- An answer of status 0 has no message.
use Rattle.std.proofs.Common.{◌≡◌, ℕ, List, [], Option, Some, None, refl, arith}
use Rattle.hp_outside.specs.Folder.{Folder, file_of}
use Rattle.hp_outside.specs.Lines.{lines_of}
use Rattle.command_frame.specs.declared.fault.FaultStatus.{FaultStatus}
use Rattle.command_frame.specs.declared.fault.FaultStatus.TheVariants.{Malformed, PastLimit}
use Rattle.command_frame.specs.Answer.{Answer, document_answer, lines_answer, named_answer, plan_answer, whole_answer}
use Rattle.command_frame.specs.FirstFault.{Bounds, Refusal, file_fault}
use Rattle.command_frame.specs.Plan.{Document, Ends, Lines, Pieces, Plan}
use Rattle.command_frame.specs.WholeFault.{whole_fault}
use Rattle.command_frame.specs.Report.{Refuses, Report, Writes}
use Rattle.command_frame.specs.Texts.{Texts}
use Rattle.command_frame.specs.Told.{Told, code_of}

abbrev pub IsQuiet : Answer → Type 0
IsQuiet answer = answer.status ≡ 0 → answer.message ≡ []

pub fault_isnt_zero : (status : FaultStatus) → code_of status ≡ 0 → ⊥
fault_isnt_zero Malformed is = omega (arith, is)
fault_isnt_zero PastLimit is = omega (arith, is)

lines_quiet : (texts : Texts) (name : List ℕ) (report : Report) (lines : List (List ℕ)) (found : Option Refusal)
    (rest : Answer)
    → IsQuiet rest → IsQuiet (lines_answer texts name report lines found rest)
lines_quiet texts name report lines (Some refusal) rest quiet =
    λ zero. absurd (fault_isnt_zero refusal.told.status zero)
lines_quiet texts name report lines None rest quiet = quiet

named_quiet : (texts : Texts) (bounds : Bounds) (name : List ℕ) (report : Report) (file : Option (List ℕ))
    (rest : List (List ℕ) → Answer)
    → ((lines : List (List ℕ)) → IsQuiet (rest lines))
    → IsQuiet (named_answer texts bounds name report file rest)
named_quiet texts bounds name report None rest quiet = λ zero. absurd (omega (arith, zero))
named_quiet texts bounds name report (Some bytes) rest quiet =
    lines_quiet texts name report (lines_of bytes) (file_fault bounds report bytes) (rest (lines_of bytes))
    (quiet (lines_of bytes))

whole_quiet : (texts : Texts) (name : List ℕ) (found : Option Told) (rest : Answer) → IsQuiet rest
    → IsQuiet (whole_answer texts name found rest)
whole_quiet texts name (Some told) rest quiet = λ zero. absurd (fault_isnt_zero told.status zero)
whole_quiet texts name None rest quiet = quiet

document_quiet : (texts : Texts) (bounds : Bounds) (name : List ℕ) (file : Option (List ℕ)) (rest : List ℕ → Answer)
    → ((bytes : List ℕ) → IsQuiet (rest bytes))
    → IsQuiet (document_answer texts bounds name file rest)
document_quiet texts bounds name None rest quiet = λ zero. absurd (omega (arith, zero))
document_quiet texts bounds name (Some bytes) rest quiet =
    whole_quiet texts name (whole_fault bounds bytes) (rest bytes) (quiet bytes)

pub plan_quiet : (texts : Texts) (bounds : Bounds) (folder : Folder) (last : List ℕ) (plan : Plan)
    → IsQuiet (plan_answer texts bounds folder last plan)
plan_quiet texts bounds folder last (Ends (Writes output)) = λ zero. refl
plan_quiet texts bounds folder last (Ends (Refuses told)) = λ zero. absurd (fault_isnt_zero told.status zero)
plan_quiet texts bounds folder last (Lines name report next) =
    named_quiet texts bounds name report (file_of folder name)
    (λ lines. plan_answer texts bounds folder name (next lines))
    (λ lines. plan_quiet texts bounds folder name (next lines))
plan_quiet texts bounds folder last (Pieces text) = λ zero. refl
plan_quiet texts bounds folder last (Document name next) =
    document_quiet texts bounds name (file_of folder name) (λ bytes. plan_answer texts bounds folder name (next bytes))
    (λ bytes. plan_quiet texts bounds folder name (next bytes))
