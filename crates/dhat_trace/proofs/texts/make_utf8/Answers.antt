use Rattle.std.proofs.Common.{◌∙◌}
use Rattle.dhat_trace.proofs.TextLemmas.{ascii_is, utf8_stays}
use Rattle.dhat_trace.proofs.texts.make_utf8.Goals as goal

pub returns-in-Ok : goal.returns-in-Ok
returns-in-Ok c = utf8_stays c.args.text.now c.in-Ok.ensures.cases.1

pub returns-in-Err : goal.returns-in-Err
returns-in-Err c = c.make_ascii.ensures ∙ ascii_is c.args.text.now c.in-Err.ensures.cases.0
