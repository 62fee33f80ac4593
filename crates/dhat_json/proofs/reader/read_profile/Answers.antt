use Rattle.std.proofs.Common.{subst, Result}
use Rattle.dhat_json.specs.declared.fault.DhatFault.{DhatFault}
use Rattle.dhat_json.specs.declared.profile.Dhat.{Dhat}
use Rattle.dhat_json.specs.Reads.{Answers}
use Rattle.dhat_json.proofs.Documents.{document_read, says_it, writable}
use Rattle.dhat_json.proofs.reader.read_profile.Goals as goal

pub returns-clause-read : goal.returns-clause-read
returns-clause-read c = says_it c.args.bytes.now c.read_document.result c.read_document.ensures.exact

pub returns-clause-only : goal.returns-clause-only
returns-clause-only c dhat h =
    subst (λ (defined : Result Dhat DhatFault). Answers c.read_document.result defined)
    (document_read c.args.bytes.now dhat h) c.read_document.ensures.exact

pub returns-clause-writable : goal.returns-clause-writable
returns-clause-writable c =
    writable c.args.bytes.now c.read_document.result c.read_document.ensures.exact c.read_document.ensures.texts
