-- Of a DHAT profile, what a command makes of the profile that the document says is written, or it
-- is told why the document says none, or why nothing can be made of the profile.
use Rattle.std.specs.Prelude.{ℕ, List, Result, Ok, Err}
use Rattle.command_frame.specs.declared.taker.LineRefusal.{LineRefusal}
use Rattle.command_frame.specs.declared.taker.LineRefusal.TheVariants.{Fault, NoMemory}
use Rattle.command_frame.specs.Plan.{Plan, one_document}
use Rattle.command_frame.specs.Report.{Refuses, Verdict}
use Rattle.dhat_json.specs.declared.fault.DhatFault.{DhatFault}
use Rattle.dhat_json.specs.declared.fault.DhatFault.TheVariants as document
use Rattle.dhat_json.specs.declared.profile.Dhat.{Dhat}
use Rattle.dhat_json.specs.Document.{document_of}
use Rattle.profile_reports.specs.declared.document_fault.DocumentFault.{DocumentFault}
use Rattle.profile_reports.specs.declared.document_fault.DocumentFault.TheVariants.{Document}
use Rattle.profile_reports.specs.DocumentFault.{told}

-- what is made of the profile, where a document says one
abbrev pub profile_verdict : (Dhat → Verdict) → Result Dhat DhatFault → Verdict
profile_verdict verdict (Ok dhat) = verdict dhat
profile_verdict verdict (Err fault) = Refuses (told (Document fault))

unfoldable pub dhat_file_verdict : (Dhat → Verdict) → List ℕ → Verdict
dhat_file_verdict verdict bytes = profile_verdict verdict (document_of bytes)

-- the fault of a document as a refusal of it
abbrev pub document_refusal : DhatFault → LineRefusal DocumentFault
document_refusal document.NoMemory = NoMemory
document_refusal fault = Fault (Document fault)

-- one DHAT profile is read
abbrev pub dhat_file_plan : List ℕ → (Dhat → Verdict) → Plan
dhat_file_plan file verdict = one_document file (dhat_file_verdict verdict)
