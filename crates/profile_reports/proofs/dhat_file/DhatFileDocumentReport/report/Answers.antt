use Rattle.std.proofs.Common.{◌≡◌, Result, Err, IfErr, IfOk, ap, sym, subst, ◌∙◌}
use Rattle.command_frame.specs.declared.taker.LineRefusal.{LineRefusal}
use Rattle.command_frame.specs.Report.{Writes}
use Rattle.command_frame.specs.Taker.{Refuses}
use Rattle.dhat_json.specs.declared.fault.DhatFault.{DhatFault}
use Rattle.dhat_json.specs.declared.profile.Dhat.{Dhat}
use Rattle.dhat_json.specs.Document.{document_of}
use Rattle.dhat_json.specs.Reads.{UnlessNoMemory}
use Rattle.profile_reports.specs.declared.document_fault.DocumentFault.{DocumentFault}
use Rattle.profile_reports.specs.DhatFileReport.{dhat_file_verdict, profile_verdict}
use Rattle.profile_reports.specs.DocumentFault.{told}
use Rattle.profile_reports.proofs.DocumentLemmas.{document_refused}
use Rattle.profile_reports.proofs.dhat_file.DhatFileDocumentReport.report.Goals as goal

pub returns-in-Ok-clause-output : goal.returns-in-Ok-clause-output
unfolding dhat_file_verdict
returns-in-Ok-clause-output g c =
    subst (λ (found : Result Dhat DhatFault). IfOk c.report.result
    (λ output. profile_verdict (g.R.DhatFileReport.verdict c.args.self.now.report) found ≡ Writes output.items))
    (sym c.in-Ok.ensures.exact ∙ ap document_of c.bytes.ensures) c.report.ensures.output

pub returns-in-Ok-clause-fault : goal.returns-in-Ok-clause-fault
unfolding dhat_file_verdict
returns-in-Ok-clause-fault g c =
    subst (λ (found : Result Dhat DhatFault). IfErr c.report.result
    (λ refusal. Refuses told refusal (profile_verdict (g.R.DhatFileReport.verdict c.args.self.now.report) found)))
    (sym c.in-Ok.ensures.exact ∙ ap document_of c.bytes.ensures) c.report.ensures.fault

pub returns-in-Err : goal.returns-in-Err
unfolding dhat_file_verdict
returns-in-Err g c =
    let found = document_of c.args.bytes in
    let verdict = g.R.DhatFileReport.verdict c.args.self.now.report in
    record {
      output = tt;
      fault =
          subst (λ (refusal : LineRefusal DocumentFault). Refuses told refusal (profile_verdict verdict found))
          (sym c.document_refusal.ensures)
          (document_refused verdict c.in-Err.fault found
          (subst (λ bytes. UnlessNoMemory c.in-Err.fault (document_of bytes ≡ Err c.in-Err.fault)) c.bytes.ensures
          c.in-Err.ensures.exact));
    }
