use Rattle.dhat_json.proofs.Documents.{no_text, text_document}
use Rattle.dhat_json.proofs.reader.read_document.Goals as goal

pub returns-in-Ok-clause-exact : goal.returns-in-Ok-clause-exact
returns-in-Ok-clause-exact c =
    let text = c.in-Ok.ensures.cases in
    rw (text_document c.args.bytes.now text.1, ← text.0) c.read_text_whole.ensures.exact

pub returns-in-Err-clause-exact : goal.returns-in-Err-clause-exact
returns-in-Err-clause-exact c = no_text c.args.bytes.now (λ utf8. absurd (c.in-Err.ensures.cases.0 utf8))
