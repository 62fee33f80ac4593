-- What the reading of a document that says no profile comes to.
use Rattle.std.proofs.Common.{◌≡◌, Result, Err, ap}
use Rattle.command_frame.specs.Report.{Verdict}
use Rattle.command_frame.specs.Taker.{Refuses}
use Rattle.dhat_json.specs.declared.fault.DhatFault.{DhatFault}
use Rattle.dhat_json.specs.declared.fault.DhatFault.TheVariants.{NotJson, WrongFileVersion, MissingKey, WrongKind}
use Rattle.dhat_json.specs.declared.fault.DhatFault.TheVariants.{FrameOutOfTable, TooMany, NoMemory}
use Rattle.dhat_json.specs.declared.profile.Dhat.{Dhat}
use Rattle.dhat_json.specs.Reads.{UnlessNoMemory}
use Rattle.profile_reports.specs.DhatFileReport.{document_refusal, profile_verdict}
use Rattle.profile_reports.specs.DocumentFault.{told}

-- the fault of a document is told, unless memory was wanting
pub document_refused : (verdict : Dhat → Verdict) (fault : DhatFault) (found : Result Dhat DhatFault)
    → UnlessNoMemory fault (found ≡ Err fault)
    → Refuses told (document_refusal fault) (profile_verdict verdict found)
document_refused verdict NotJson found is = ap (profile_verdict verdict) is
document_refused verdict WrongFileVersion found is = ap (profile_verdict verdict) is
document_refused verdict (MissingKey point name) found is = ap (profile_verdict verdict) is
document_refused verdict (WrongKind point name) found is = ap (profile_verdict verdict) is
document_refused verdict (FrameOutOfTable point frame) found is = ap (profile_verdict verdict) is
document_refused verdict TooMany found is = ap (profile_verdict verdict) is
document_refused verdict NoMemory found is = tt
